-- Reading parts one after the other, as a loop does.
use Rattle.std.proofs.Common.{◌≡◌, ℕ, suc, ◌-◌, ◌+◌, ◌*◌, ◌≤◌, ◌<◌, List, [], ◌∷◌, ◌++◌, length, take, drop, min, replicate, get_or, Result, Ok, Err, refl, sym, ap, ◌∙◌, add-one, append_assoc, arith, drop-cons}
use Rattle.std.proofs.lemmas.List.{append-nil, drop_all, take_all}
use Rattle.om_format.specs.declared.error.DecodeError.{DecodeError}
use Rattle.om_format.specs.declared.queue.QueueEntry.{QueueEntry}
use Rattle.om_format.specs.Formats.{four}
use Rattle.om_format.specs.Queues.{QueueRecord}
use Rattle.om_format.specs.Outcomes.{Fails}
use Rattle.om_format.specs.steps.Reading.{◌>>=◌}
use Rattle.om_pages.specs.declared.pages.TheConstants.{PAGE}
use Rattle.om_pages.specs.Pages.{Page, page_count}
use Rattle.om_format.specs.steps.CheckpointReading.{next_page_at, pages_at, entry_at, entries_at, queue_at, queues_at}

-- what was read before, and what is still read
abbrev pub with_front : {A : Type 0} → List A → Result (List A × ℕ × List ℕ) DecodeError → Result (List A × ℕ × List ℕ) DecodeError
with_front front reading = reading >>= λ x. Ok (front ++ x.0, x.1, x.2)

regroup : {A : Type 0} (front : List A) (e : A) (reading : Result (List A × ℕ × List ℕ) DecodeError) → with_front front (reading >>= λ x. Ok (e ∷ x.0, x.1, x.2)) ≡ with_front (front ++ e ∷ []) reading
regroup front e (Ok x) = ap (λ (es : List _). Ok (es, x.1, x.2)) (sym (append_assoc front (e ∷ []) x.0))
regroup front e (Err f) = refl

whole_front : {A : Type 0} (front : List A) (offset : ℕ) (bytes : List ℕ) → with_front front (Ok ([], offset, bytes)) ≡ Ok (front, offset, bytes)
whole_front front offset bytes = ap (λ (es : List _). Ok (es, offset, bytes)) (append-nil front)

module _ (newest count : ℕ) (total : Result (List QueueEntry × ℕ × List ℕ) DecodeError) where
  pub entries_go_on : (front : List QueueEntry) (i low offset : ℕ) (bytes : List ℕ) (e : QueueEntry) (after : ℕ) (rest : List ℕ) → i < count → entry_at newest low offset bytes ≡ Ok (e, after, rest)
      → with_front front (entries_at newest low (count - i) offset bytes) ≡ total → with_front (front ++ e ∷ []) (entries_at newest e.interval (count - (i + 1)) after rest) ≡ total
  unfolding entries_at
  entries_go_on front i low offset bytes e after rest lt h so_far =
      let left : count - i ≡ suc (count - (i + 1)) = omega arith in
      let one : with_front front (entries_at newest low (count - i) offset bytes) ≡ with_front (front ++ e ∷ []) (entries_at newest e.interval (count - (i + 1)) after rest) = rw (left, h) (regroup front e (entries_at newest e.interval (count - (i + 1)) after rest)) in
      sym one ∙ so_far

  pub entries_end : (error : DecodeError) (front : List QueueEntry) (i low offset : ℕ) (bytes : List ℕ) → i < count → Fails error (entry_at newest low offset bytes)
      → with_front front (entries_at newest low (count - i) offset bytes) ≡ total → Fails error total
  unfolding entries_at
  entries_end error front i low offset bytes lt h so_far = λ other.
      let left : count - i ≡ suc (count - (i + 1)) = omega arith in
      let here = h other in
      let one : with_front front (entries_at newest low (count - i) offset bytes) ≡ Err error = rw (left, here) refl in
      sym so_far ∙ one

  pub entries_done : (front : List QueueEntry) (i low offset : ℕ) (bytes : List ℕ) → count ≤ i → with_front front (entries_at newest low (count - i) offset bytes) ≡ total → total ≡ Ok (front, offset, bytes)
  unfolding entries_at
  entries_done front i low offset bytes le so_far =
      let left : count - i ≡ 0 = omega arith in
      let one : with_front front (entries_at newest low (count - i) offset bytes) ≡ Ok (front, offset, bytes) = rw left (whole_front front offset bytes) in
      sym so_far ∙ one

module _ (newest : ℕ) (stops : List ℕ) (total : Result (List QueueRecord × ℕ × List ℕ) DecodeError) where
  pub queues_go_on : (front : List QueueRecord) (i offset : ℕ) (bytes : List ℕ) (q : QueueRecord) (after : ℕ) (rest : List ℕ) → i < length stops → queue_at four newest (get_or stops i 0) offset bytes ≡ Ok (q, after, rest)
      → with_front front (queues_at newest (drop i stops) offset bytes) ≡ total → with_front (front ++ q ∷ []) (queues_at newest (drop (i + 1) stops) after rest) ≡ total
  unfolding queues_at
  queues_go_on front i offset bytes q after rest lt h so_far =
      let left : drop i stops ≡ get_or stops i 0 ∷ drop (i + 1) stops = rw (add-one, drop-cons stops i 0) refl in
      let one : with_front front (queues_at newest (drop i stops) offset bytes) ≡ with_front (front ++ q ∷ []) (queues_at newest (drop (i + 1) stops) after rest) = rw (left, h) (regroup front q (queues_at newest (drop (i + 1) stops) after rest)) in
      sym one ∙ so_far

  pub queues_end : (error : DecodeError) (front : List QueueRecord) (i offset : ℕ) (bytes : List ℕ) → i < length stops → Fails error (queue_at four newest (get_or stops i 0) offset bytes)
      → with_front front (queues_at newest (drop i stops) offset bytes) ≡ total → Fails error total
  unfolding queues_at
  queues_end error front i offset bytes lt h so_far = λ other.
      let left : drop i stops ≡ get_or stops i 0 ∷ drop (i + 1) stops = rw (add-one, drop-cons stops i 0) refl in
      let here = h other in
      let one : with_front front (queues_at newest (drop i stops) offset bytes) ≡ Err error = rw (left, here) refl in
      sym so_far ∙ one

  pub queues_done : (front : List QueueRecord) (i offset : ℕ) (bytes : List ℕ) → length stops ≤ i → with_front front (queues_at newest (drop i stops) offset bytes) ≡ total → total ≡ Ok (front, offset, bytes)
  unfolding queues_at
  queues_done front i offset bytes le so_far =
      let left : drop i stops ≡ [] = drop_all i stops le in
      let one : with_front front (queues_at newest (drop i stops) offset bytes) ≡ Ok (front, offset, bytes) = rw left (whole_front front offset bytes) in
      sym so_far ∙ one

regroup_page : (front zeros page : List ℕ) (reading : Result (List ℕ × ℕ × List ℕ) DecodeError) → with_front front (reading >>= λ x. Ok (zeros ++ (page ++ x.0), x.1, x.2)) ≡ with_front ((front ++ zeros) ++ page) reading
regroup_page front zeros page (Ok x) = ap (λ (bytes : List ℕ). Ok (bytes, x.1, x.2)) (sym (append_assoc front zeros (page ++ x.0)) ∙ sym (append_assoc (front ++ zeros) page x.0))
regroup_page front zeros page (Err f) = refl

-- zeros up to a page
pub next_front : (value : List ℕ) (size low index : ℕ) → length value ≡ min (low * PAGE) size → low ≤ index → index < page_count size
    → take (index * PAGE) value ++ replicate (index * PAGE - length value) 0 ≡ value ++ replicate ((index - low) * PAGE) 0
next_front value size low index len above below =
    let gap : index * PAGE - length value ≡ (index - low) * PAGE = omega arith in
    let whole : take (index * PAGE) value ≡ value = take_all (index * PAGE) value (omega arith) in
    rw (gap, whole) refl

-- zeros up to the end
pub last_front : (value : List ℕ) (size low : ℕ) → length value ≡ min (low * PAGE) size → take size value ++ replicate (size - length value) 0 ≡ value ++ replicate (size - low * PAGE) 0
last_front value size low len =
    let gap : size - length value ≡ size - low * PAGE = omega arith in
    let whole : take size value ≡ value = take_all size value (omega arith) in
    rw (gap, whole) refl

module _ (size count : ℕ) (total : Result (List ℕ × ℕ × List ℕ) DecodeError) where
  pub pages_go_on : (front : List ℕ) (i low offset : ℕ) (bytes : List ℕ) (page : Page) (rest : List ℕ) → i < count → next_page_at size low offset bytes ≡ Ok (page, rest)
      → with_front front (pages_at size low (count - i) offset bytes) ≡ total
      → with_front ((front ++ replicate ((page.index - low) * PAGE) 0) ++ page.bytes) (pages_at size (page.index + 1) (count - (i + 1)) (offset + (2 + length page.bytes)) rest) ≡ total
  unfolding pages_at
  pages_go_on front i low offset bytes page rest lt h so_far =
      let left : count - i ≡ suc (count - (i + 1)) = omega arith in
      let zeros = replicate ((page.index - low) * PAGE) 0 in
      let more = pages_at size (page.index + 1) (count - (i + 1)) (offset + (2 + length page.bytes)) rest in
      let one : with_front front (pages_at size low (count - i) offset bytes) ≡ with_front ((front ++ zeros) ++ page.bytes) more = rw (left, h) (regroup_page front zeros page.bytes more) in
      sym one ∙ so_far

  pub pages_end : (error : DecodeError) (front : List ℕ) (i low offset : ℕ) (bytes : List ℕ) → i < count → next_page_at size low offset bytes ≡ Err error
      → with_front front (pages_at size low (count - i) offset bytes) ≡ total → total ≡ Err error
  unfolding pages_at
  pages_end error front i low offset bytes lt h so_far =
      let left : count - i ≡ suc (count - (i + 1)) = omega arith in
      let one : with_front front (pages_at size low (count - i) offset bytes) ≡ Err error = rw (left, h) refl in
      sym so_far ∙ one

  pub pages_done : (front : List ℕ) (i low offset : ℕ) (bytes : List ℕ) → count ≤ i → with_front front (pages_at size low (count - i) offset bytes) ≡ total → total ≡ Ok (front ++ replicate (size - low * PAGE) 0, offset, bytes)
  unfolding pages_at
  pages_done front i low offset bytes le so_far =
      let left : count - i ≡ 0 = omega arith in
      let one : with_front front (pages_at size low (count - i) offset bytes) ≡ Ok (front ++ replicate (size - low * PAGE) 0, offset, bytes) = rw left refl in
      sym so_far ∙ one
