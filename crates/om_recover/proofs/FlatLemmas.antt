use Rattle.std.proofs.Common.{◌≡◌, ℕ, zero, suc, ◌+◌, ◌-◌, ◌*◌, ◌<◌, ◌≤◌, ◌⊎◌, inl, inr, refl, sym, ◌∙◌, ap, arith, Some, List, [], ◌∷◌, ◌++◌, length, take, drop, slice_get, length-append, length-drop}
use Rattle.std.proofs.lemmas.List.{drop-drop, take_at, drop_at, take_all, take-append-le, drop-append-le, take-take, drop-take, length-take-le, nil_from_length}
use lib.Seq.{paste}
use Rattle.std.proofs.lemmas.List.Edits.{take-paste}
use Rattle.std.proofs.lemmas.Nat.{mul-le}
use Rattle.std.proofs.lemmas.Option.{slice_get_within, same_Some}
use Rattle.om_interval.specs.declared.pid.TheConstants.{MAX_PROCESSES}
use Rattle.om_recover.specs.steps.Flat.{halves, log_in, vectors_in, AreFlat, AreAlike}
use Rattle.om_recover.specs.declared.rows.trees.Vectors.{Vectors}

-- ---- so many times a size
none_times : (size : ℕ) → zero ≡ zero * size
none_times size = omega arith

next_times : (k size : ℕ) → size + k * size ≡ suc k * size
next_times k size = omega arith

both_times : (k c size : ℕ) → (k + c) * size ≡ k * size + c * size
both_times k c size = omega arith

fewer_times : (k count size : ℕ) → k ≤ count → k * size ≤ count * size
fewer_times k count size below = mul-le k size count size below (omega arith)

-- the half of what stands in front is within the whole
half_within : (n k behind : ℕ) → k ≡ (n + n) + behind → n ≤ k
half_within n k behind is = omega (arith, is)

both_within : (n k behind : ℕ) → k ≡ (n + n) + behind → n + n ≤ k
both_within n k behind is = omega (arith, is)

-- ---- what lies in numbers
pub length-vectors : (n count : ℕ) (numbers : List ℕ) → length (vectors_in n count numbers) ≡ count
length-vectors n zero numbers = refl
length-vectors n (suc count) numbers = ap suc (length-vectors n count (drop (n + n) numbers))

-- a log lies behind the numbers of those before it
pub vectors_at : (n count place : ℕ) (numbers : List ℕ) → place < count → slice_get (vectors_in n count numbers) place ≡ Some (log_in n (drop (place * (n + n)) numbers))
vectors_at n zero place numbers within = absurd (omega (arith, within))
vectors_at n (suc count) zero numbers within = ap (λ k. Some (log_in n (drop k numbers))) (none_times (n + n))
vectors_at n (suc count) (suc place) numbers within =
    vectors_at n count place (drop (n + n) numbers) (omega (arith, within))
    ∙ ap (λ xs. Some (log_in n xs)) (drop-drop (place * (n + n)) (n + n) numbers)
    ∙ ap (λ k. Some (log_in n (drop k numbers))) (next_times place (n + n))

-- behind them lies one more
pub vectors_more : (n count : ℕ) (numbers : List ℕ) (vectors : Vectors) → length numbers ≡ count * (n + n) → length vectors.vec ≡ n → length vectors.got ≡ n
    → vectors_in n (suc count) (numbers ++ (vectors.vec ++ vectors.got)) ≡ vectors_in n count numbers ++ vectors ∷ []
vectors_more n zero numbers vectors whole vec_is got_is =
    let none : numbers ≡ [] = nil_from_length numbers (whole ∙ sym (none_times (n + n))) in
    let first : take n (vectors.vec ++ vectors.got) ≡ vectors.vec = take_at vectors.vec vectors.got n vec_is in
    let second : take n (drop n (vectors.vec ++ vectors.got)) ≡ vectors.got = ap (take n) (drop_at vectors.vec vectors.got n vec_is) ∙ take_all n vectors.got (omega (arith, got_is)) in
    let log : log_in n (vectors.vec ++ vectors.got) ≡ vectors = λ i. record { vec = first i; got = second i } in
    ap (λ (numbers : List ℕ). vectors_in n 1 (numbers ++ (vectors.vec ++ vectors.got))) none ∙ ap (λ (log : Vectors). log ∷ []) log
vectors_more n (suc count) numbers vectors whole vec_is got_is =
    let more = vectors.vec ++ vectors.got in
    let size : length numbers ≡ (n + n) + count * (n + n) = whole ∙ sym (next_times count (n + n)) in
    let first : take n (numbers ++ more) ≡ take n numbers = take-append-le n numbers more (half_within n _ (count * (n + n)) size) in
    let rest : drop n (numbers ++ more) ≡ drop n numbers ++ more = drop-append-le n numbers more (half_within n _ (count * (n + n)) size) in
    let whole_rest : n ≤ length (drop n numbers) = omega (arith, length-drop n numbers, both_within n _ (count * (n + n)) size) in
    let second : take n (drop n (numbers ++ more)) ≡ take n (drop n numbers) = ap (take n) rest ∙ take-append-le n (drop n numbers) more whole_rest in
    let behind : drop (n + n) (numbers ++ more) ≡ drop (n + n) numbers ++ more = drop-append-le (n + n) numbers more (both_within n _ (count * (n + n)) size) in
    let left : length (drop (n + n) numbers) ≡ count * (n + n) = omega (arith, length-drop (n + n) numbers, size) in
    let log : log_in n (numbers ++ more) ≡ log_in n numbers = λ i. record { vec = first i; got = second i } in
    ap (λ (log : Vectors). log ∷ vectors_in n (suc count) (drop (n + n) (numbers ++ more))) log
    ∙ ap (λ xs. log_in n numbers ∷ vectors_in n (suc count) xs) behind
    ∙ ap (λ logs. log_in n numbers ∷ logs) (vectors_more n count (drop (n + n) numbers) vectors left vec_is got_is)

-- without the numbers of the first logs
pub vectors_dropped : (n total k left : ℕ) (numbers : List ℕ) → total ≡ k + left → vectors_in n left (drop (k * (n + n)) numbers) ≡ drop k (vectors_in n total numbers)
vectors_dropped n total zero left numbers is =
    let same : left ≡ total = omega (arith, is) in
    ap (λ j. vectors_in n left (drop j numbers)) (sym (none_times (n + n))) ∙ ap (λ count. vectors_in n count numbers) same
vectors_dropped n zero (suc k) left numbers is = absurd (omega (arith, is))
vectors_dropped n (suc total) (suc k) left numbers is =
    ap (λ j. vectors_in n left (drop j numbers)) (sym (next_times k (n + n)))
    ∙ ap (vectors_in n left) (sym (drop-drop (k * (n + n)) (n + n) numbers))
    ∙ vectors_dropped n total k left (drop (n + n) numbers) (omega (arith, is))

-- and of the first alone
pub vectors_taken : (n total k : ℕ) (numbers : List ℕ) → k ≤ total → vectors_in n k (take (k * (n + n)) numbers) ≡ take k (vectors_in n total numbers)
vectors_taken n total zero numbers within = refl
vectors_taken n zero (suc k) numbers within = absurd (omega (arith, within))
vectors_taken n (suc total) (suc k) numbers within =
    let cut = take (suc k * (n + n)) numbers in
    let size : suc k * (n + n) ≡ (n + n) + k * (n + n) = sym (next_times k (n + n)) in
    let in_halves : suc k * (n + n) ≡ n + (n + k * (n + n)) = omega (arith, size) in
    let first : take n cut ≡ take n numbers = take-take n (suc k * (n + n)) numbers (half_within n _ (k * (n + n)) size) in
    let second : take n (drop n cut) ≡ take n (drop n numbers) =
    ap (λ j. take n (drop n (take j numbers))) in_halves ∙ ap (take n) (drop-take n (n + k * (n + n)) numbers) ∙ take-take n (n + k * (n + n)) (drop n numbers) (omega arith) in
    let behind : drop (n + n) cut ≡ take (k * (n + n)) (drop (n + n) numbers) = ap (λ j. drop (n + n) (take j numbers)) size ∙ drop-take (n + n) (k * (n + n)) numbers in
    let log : log_in n cut ≡ log_in n numbers = λ i. record { vec = first i; got = second i } in
    ap (λ (log : Vectors). log ∷ vectors_in n k (drop (n + n) cut)) log
    ∙ ap (λ xs. log_in n numbers ∷ vectors_in n k xs) behind
    ∙ ap (λ logs. log_in n numbers ∷ logs) (vectors_taken n total k (drop (n + n) numbers) (omega (arith, within)))

-- ---- what becomes of what is kept
-- the numbers of a log are there
pub fits : (n count gone place : ℕ) (numbers : List ℕ) → AreFlat n count gone numbers → place < count → gone + place * (n + n) + (n + n) ≤ length numbers
fits n count gone place numbers flat within = omega (arith, flat.whole, next_times place (n + n), fewer_times (suc place) count (n + n) (omega (arith, within)))

pub starts_within : (n count gone k : ℕ) (numbers : List ℕ) → AreFlat n count gone numbers → k ≤ count → gone + k * (n + n) ≤ length numbers
starts_within n count gone k numbers flat below = omega (arith, flat.whole, fewer_times k count (n + n) below)

-- there are no more logs than numbers: one more can be counted
pub count_within : (n count gone : ℕ) (numbers : List ℕ) → AreFlat n count gone numbers → count + count ≤ length numbers
count_within n count gone numbers flat = omega (arith, flat.whole, mul-le count 2 count (n + n) (omega arith) (omega (arith, flat.some)))

-- the part of the numbers at which a log is read
pub lies_at : (n count gone place : ℕ) (numbers part : List ℕ) → place < count → part ≡ take (n + n) (drop (gone + place * (n + n)) numbers)
    → slice_get (vectors_in n count (drop gone numbers)) place ≡ Some (halves n part)
lies_at n count gone place numbers part within part_is =
    let from = drop (gone + place * (n + n)) numbers in
    let first : take n from ≡ take n part = sym (ap (take n) part_is ∙ take-take n (n + n) from (omega arith)) in
    let second : take n (drop n from) ≡ drop n part = sym (ap (drop n) part_is ∙ drop-take n n from) in
    let log : log_in n from ≡ halves n part = λ i. record { vec = first i; got = second i } in
    vectors_at n count place (drop gone numbers) within ∙ ap (λ xs. Some (log_in n xs)) (drop-drop (place * (n + n)) gone numbers) ∙ ap Some log

pub part_long : (n count gone place : ℕ) (numbers part : List ℕ) → AreFlat n count gone numbers → place < count → part ≡ take (n + n) (drop (gone + place * (n + n)) numbers) → length part ≡ n + n
part_long n count gone place numbers part flat within part_is =
    let room = fits n count gone place numbers flat within in
    ap length part_is ∙ length-take-le (n + n) (drop (gone + place * (n + n)) numbers) (omega (arith, room, length-drop (gone + place * (n + n)) numbers))

-- no logs
pub no_logs : (numbers : List ℕ) → numbers ≡ [] → AreFlat 1 0 0 numbers
no_logs numbers none = record { some = omega arith; within = omega arith; whole = let empty : length numbers ≡ 0 = ap length none in omega (arith, empty) }

-- vectors that have as many places as those that lie there
pub alike_of : (n count gone : ℕ) (numbers : List ℕ) (vectors : Vectors) → AreFlat n count gone numbers → length vectors.got ≡ length vectors.vec → (count ≡ 0) ⊎ (n ≡ length vectors.vec)
    → AreAlike (vectors_in n count (drop gone numbers)) vectors
alike_of n count gone numbers vectors flat even either = record {
  even = even;
  others = λ place other there.
      let inside : place < count = omega (arith, slice_get_within (vectors_in n count (drop gone numbers)) place other there, length-vectors n count (drop gone numbers)) in
      let from = drop (place * (n + n)) (drop gone numbers) in
      let same : log_in n from ≡ other = same_Some _ _ (sym (vectors_at n count place (drop gone numbers) inside) ∙ there) in
      let room = fits n count gone place numbers flat inside in
      let long : length (take n from) ≡ n = length-take-le n from (omega (arith, room, length-drop (place * (n + n)) (drop gone numbers), length-drop gone numbers)) in
      elim either [
        | inl none ↦ absurd (omega (arith, inside, none))
        | inr alike ↦ ap (λ (log : Vectors). length log.vec) (sym same) ∙ long ∙ alike
      ];
}

-- where there is none, it is no matter how many places each has; else they have as many as what comes next
recounted : (n m count gone : ℕ) (numbers : List ℕ) (vectors : Vectors) → AreFlat n count gone numbers → AreAlike (vectors_in n count (drop gone numbers)) vectors → length vectors.vec ≡ m
    → (length numbers ≡ gone + count * (m + m)) × (vectors_in n count (drop gone numbers) ≡ vectors_in m count (drop gone numbers))
recounted n m zero gone numbers vectors flat alike is = (flat.whole ∙ ap (λ k. gone + k) (sym (none_times (n + n)) ∙ none_times (m + m)), refl)
recounted n m (suc count) gone numbers vectors flat alike is =
    let left : length (drop gone numbers) ≡ (n + n) + count * (n + n) = omega (arith, length-drop gone numbers, flat.whole, next_times count (n + n)) in
    let own : length (take n (drop gone numbers)) ≡ n = length-take-le n (drop gone numbers) (half_within n _ (count * (n + n)) left) in
    let same : n ≡ m = sym own ∙ alike.others zero (log_in n (drop gone numbers)) refl ∙ is in
    (flat.whole ∙ ap (λ n. gone + suc count * (n + n)) same, ap (λ n. vectors_in n (suc count) (drop gone numbers)) same)

-- one log more
pub pushed_flat : (n m count gone : ℕ) (numbers more : List ℕ) (vectors : Vectors) → AreFlat n count gone numbers → AreAlike (vectors_in n count (drop gone numbers)) vectors
    → length vectors.vec ≡ m → 1 ≤ m → m ≤ MAX_PROCESSES → more ≡ numbers ++ (vectors.vec ++ vectors.got)
    → AreFlat m (count + 1) gone more × (vectors_in m (count + 1) (drop gone more) ≡ vectors_in n count (drop gone numbers) ++ vectors ∷ [])
pushed_flat n m count gone numbers more vectors flat alike is some within more_is =
    let as_m = recounted n m count gone numbers vectors flat alike is in
    let got_is : length vectors.got ≡ m = alike.even ∙ is in
    let left : length (drop gone numbers) ≡ count * (m + m) = omega (arith, length-drop gone numbers, as_m.0) in
    let added : length more ≡ length numbers + (length vectors.vec + length vectors.got) =
    ap length more_is ∙ length-append numbers (vectors.vec ++ vectors.got) ∙ ap (λ k. length numbers + k) (length-append vectors.vec vectors.got) in
    let behind : drop gone more ≡ drop gone numbers ++ (vectors.vec ++ vectors.got) = ap (drop gone) more_is ∙ drop-append-le gone numbers (vectors.vec ++ vectors.got) (omega (arith, as_m.0)) in
    let one_more : count + 1 ≡ suc count = omega arith in (
      record {
        some = some;
        within = within;
        whole = let whole : length more ≡ gone + suc count * (m + m) = omega (arith, added, is, got_is, as_m.0, next_times count (m + m)) in whole ∙ ap (λ c. gone + c * (m + m)) (sym one_more);
      },
      ap (λ c. vectors_in m c (drop gone more)) one_more ∙ ap (vectors_in m (suc count)) behind ∙ vectors_more m count (drop gone numbers) vectors left is got_is ∙ ap (λ logs. logs ++ vectors ∷ []) (sym as_m.1),
    )

-- the first logs alone
pub truncated_flat : (n count gone kept : ℕ) (numbers left : List ℕ) → AreFlat n count gone numbers → kept ≤ count → left ≡ take (gone + kept * (n + n)) numbers
    → AreFlat n kept gone left × (vectors_in n kept (drop gone left) ≡ take kept (vectors_in n count (drop gone numbers)))
truncated_flat n count gone kept numbers left flat fewer left_is = (
  record {
    some = flat.some;
    within = flat.within;
    whole = ap length left_is ∙ length-take-le (gone + kept * (n + n)) numbers (starts_within n count gone kept numbers flat fewer);
  },
  ap (λ xs. vectors_in n kept (drop gone xs)) left_is ∙ ap (vectors_in n kept) (drop-take gone (kept * (n + n)) numbers) ∙ vectors_taken n count kept (drop gone numbers) fewer,
)

-- all but the first logs, wherever their numbers lie now
pub dropped_flat : (n count gone k left gone_now : ℕ) (numbers moved : List ℕ) → AreFlat n count gone numbers → count ≡ k + left → drop gone_now moved ≡ drop (gone + k * (n + n)) numbers → gone_now ≤ length moved
    → AreFlat n left gone_now moved × (vectors_in n left (drop gone_now moved) ≡ drop k (vectors_in n count (drop gone numbers)))
dropped_flat n count gone k left gone_now numbers moved flat is same within =
    let lengths : length (drop gone_now moved) ≡ length (drop (gone + k * (n + n)) numbers) = ap length same in
    let parts : count * (n + n) ≡ k * (n + n) + left * (n + n) = ap (λ c. c * (n + n)) is ∙ both_times k left (n + n) in (
      record {
        some = flat.some;
        within = flat.within;
        whole = omega (arith, lengths, length-drop gone_now moved, length-drop (gone + k * (n + n)) numbers, flat.whole, parts, within);
      },
      ap (vectors_in n left) (same ∙ sym (drop-drop (k * (n + n)) gone numbers)) ∙ vectors_dropped n count k left (drop gone numbers) is,
    )

-- what is left, once it was moved to the front
pub moved_front : (xs moved left : List ℕ) (gone count kept : ℕ) → gone ≤ count → count ≡ length xs → kept ≡ count - gone → moved ≡ paste xs 0 (drop gone xs) (count - gone) → left ≡ take kept moved → left ≡ drop gone xs
moved_front xs moved left gone count kept below count_is kept_is moved_is left_is =
    let all : length (drop gone xs) ≡ count - gone = omega (arith, length-drop gone xs, count_is) in
    let as_many : kept ≡ 0 + (count - gone) = omega (arith, kept_is) in
    left_is ∙ ap (take kept) moved_is ∙ ap (λ k. take k (paste xs 0 (drop gone xs) (count - gone))) as_many
    ∙ take-paste xs 0 (drop gone xs) (count - gone) (omega arith) (omega (arith, all)) ∙ take_all (count - gone) (drop gone xs) (omega (arith, all))
