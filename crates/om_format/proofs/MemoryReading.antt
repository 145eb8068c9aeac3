-- Reading a memory is reading the fields of its format.
use Rattle.std.proofs.Common.{◌≡◌, ℕ, zero, suc, ◌+◌, ◌-◌, ◌*◌, ◌≤◌, ◌<◌, true, List, [], ◌∷◌, ◌++◌, length, replicate, Result, Ok, Err, refl, sym, ap, ◌∙◌, arith}
use Rattle.std.specs.Prelude.{nat_le, nat_lt, ◌&&◌}
use Rattle.std.proofs.lemmas.Bool.{and_parts, leb-true, ltb-true}
use Rattle.std.proofs.lemmas.List.{length-append, length-replicate}
use Rattle.std.specs.List.{flat_map}
use Rattle.om_format.specs.declared.error.DecodeError.{DecodeError}
use Rattle.om_pages.specs.declared.pages.TheConstants.{PAGE}
use Rattle.om_format.specs.declared.version.Version.{Version}
use Rattle.om_format.specs.declared.version.Version.TheVariants.{V1, V2}
use Rattle.om_format.specs.Formats.{two, Format, bytes}
use Rattle.om_pages.specs.Pages.{Page, page_count, page_size, is_kept, kept_pages}
use Rattle.om_format.specs.Pages.{pages, counted_pages, page_values}
use Rattle.om_format.specs.Versions.{memory_in, memory_values}
use Rattle.om_format.specs.steps.Reading.{◌>>=◌, allow, number_at, bytes_at, fields_at}
use Rattle.om_format.specs.steps.CheckpointReading.{next_page_at, pages_at, memory_at}
use Rattle.om_format.proofs.Parts.{one_number, bytes_is, bind_assoc, bind_same}
use Rattle.om_format.proofs.Holding.{Holds, then_holds, any_holds, allow_holds, holding_same, allow_same, bytes_hold}
use Rattle.om_format.proofs.Queues.{bind_done, behind_of}
use Rattle.om_format.proofs.KeptPages.{kept_from, kept_pages_are, none_kept, kept_after}

-- the kept ones among the pages from this index on
abbrev pub kept_at : ℕ → ℕ → List ℕ → List Page
kept_at size low memory = kept_from low (page_count size - low) memory

-- a page that is allowed
pub record FitsPage (size low : ℕ) (page : Page) : Type 0 where
  pub above : low ≤ page.index
  pub below : page.index < page_count size
  pub whole : length page.bytes ≡ page_size size page.index
  pub kept : is_kept page.bytes ≡ true

pub page_hold : (size low offset : ℕ) (bytes : List ℕ) → Holds (λ x. FitsPage size low x.0) (next_page_at size low offset bytes)
unfolding next_page_at
page_hold size low offset bytes =
    let P : Page × List ℕ → Type 0 = λ x. FitsPage size low x.0 in
    any_holds P (number_at two bytes) _ (λ index. allow_holds P (nat_le low index.0 && nat_lt index.0 (page_count size)) _ _ (λ fine.
    then_holds P (λ x. length x.0 ≡ page_size size index.0) (bytes_at (page_size size index.0) index.1) _ (bytes_hold (page_size size index.0) index.1) (λ page whole. allow_holds P (is_kept page.0) _ _ (λ kept.
    (let p = and_parts _ _ fine in record { above = leb-true _ _ p.0; below = ltb-true _ _ p.1; whole = whole; kept = kept })))))

-- the memory from a page on: what it is, and how many of its pages are kept
pub record FitsPages (size low count : ℕ) (memory : List ℕ) : Type 0 where
  pub whole : length memory ≡ size - low * PAGE
  pub kept : length (kept_at size low memory) ≡ count

next_fits : (size low count : ℕ) (page : Page) (more : List ℕ) → FitsPage size low page → FitsPages size (page.index + 1) count more → FitsPages size low (suc count) (replicate ((page.index - low) * PAGE) 0 ++ (page.bytes ++ more))
next_fits size low count page more h m =
    let gap = (page.index - low) * PAGE in record {
      whole = (let above = h.above in let below = h.below in omega (arith, h.whole, m.whole, length-append (replicate gap 0) (page.bytes ++ more), length-append page.bytes more, length-replicate {A = ℕ} gap 0));
      kept = rw (kept_after size low page.index page.bytes more h.above h.below h.whole m.whole h.kept, m.kept) refl;
    }

pub pages_hold : (size low count offset : ℕ) (bytes : List ℕ) → Holds (λ x. FitsPages size low count x.0) (pages_at size low count offset bytes)
unfolding pages_at
pages_hold size low zero offset bytes = record {
  whole = length-replicate {A = ℕ} (size - low * PAGE) 0;
  kept = ap length (none_kept low (page_count size - low) (size - low * PAGE));
}
pages_hold size low (suc count) offset bytes =
    then_holds _ (λ x. FitsPage size low x.0) (next_page_at size low offset bytes) _ (page_hold size low offset bytes) (λ page h.
    then_holds _ (λ x. FitsPages size (page.0.index + 1) count x.0) (pages_at size (page.0.index + 1) count (offset + (2 + length page.0.bytes)) page.1) _ (pages_hold size (page.0.index + 1) count (offset + (2 + length page.0.bytes)) page.1) (λ more m.
    next_fits size low count page.0 more.0 h m))

-- a page, the pages behind it, and what comes behind these
behind_page : (size low count offset : ℕ) (behind : Format) (page : Page) (bytes : List ℕ) → FitsPage size low page
    → fields_at (pages size (page.index + 1) count behind) (offset + (2 + length page.bytes)) bytes ≡ (pages_at size (page.index + 1) count (offset + (2 + length page.bytes)) bytes >>= λ x. behind_of behind (flat_map page_values (kept_at size (page.index + 1) x.0)) x.1 x.2)
    → (fields_at (pages size (page.index + 1) count behind) (offset + 2 + page_size size page.index * 1) bytes >>= λ rest. Ok ((page.index ∷ []) ∷ page.bytes ∷ rest))
    ≡ (pages_at size (page.index + 1) count (offset + (2 + length page.bytes)) bytes >>= λ x. behind_of behind (flat_map page_values (kept_at size low (replicate ((page.index - low) * PAGE) 0 ++ (page.bytes ++ x.0)))) x.1 x.2)
behind_page size low count offset behind page bytes h more =
    let place : offset + 2 + page_size size page.index * 1 ≡ offset + (2 + length page.bytes) = (let whole = h.whole in omega arith) in
    rw (place, more) (
    bind_assoc (pages_at size (page.index + 1) count (offset + (2 + length page.bytes)) bytes) _ _
    ∙ holding_same (λ x. FitsPages size (page.index + 1) count x.0) (pages_at size (page.index + 1) count (offset + (2 + length page.bytes)) bytes) _ _ (pages_hold size (page.index + 1) count (offset + (2 + length page.bytes)) bytes) (λ x m.
    bind_assoc (fields_at behind x.1 x.2) _ _ ∙ rw (kept_after size low page.index page.bytes x.0 h.above h.below h.whole m.whole h.kept) refl))

pub pages_is : (size low count : ℕ) (behind : Format) (offset : ℕ) (bytes : List ℕ)
    → fields_at (pages size low count behind) offset bytes ≡ (pages_at size low count offset bytes >>= λ x. behind_of behind (flat_map page_values (kept_at size low x.0)) x.1 x.2)
unfolding pages pages_at next_page_at
pages_is size low zero behind offset bytes =
    rw (none_kept low (page_count size - low) (size - low * PAGE)) (bind_done (fields_at behind offset bytes))
pages_is size low (suc count) behind offset bytes =
    simp (one_number, bytes_is, bind_assoc) (bind_same (number_at two bytes) _ _ (λ index. allow_same (nat_le low index.0 && nat_lt index.0 (page_count size)) _ _ _ (λ fine.
    holding_same (λ x. length x.0 ≡ page_size size index.0) (bytes_at (page_size size index.0) index.1) _ _ (bytes_hold (page_size size index.0) index.1) (λ page whole. allow_same (is_kept page.0) _ _ _ (λ kept.
    (let p = and_parts _ _ fine in
    behind_page size low count offset behind (record { index = index.0; bytes = page.0 }) page.1 (record { above = leb-true _ _ p.0; below = ltb-true _ _ p.1; whole = whole; kept = kept }) (pages_is size (index.0 + 1) count behind (offset + (2 + length page.0)) page.1)))))))

pub memory_hold : (version : Version) (size offset : ℕ) (bytes : List ℕ) → Holds (λ x. length x.0 ≡ size) (memory_at version size offset bytes)
unfolding memory_at
memory_hold V1 size offset bytes = then_holds _ (λ x. length x.0 ≡ size) (bytes_at size bytes) _ (bytes_hold size bytes) (λ all whole. whole)
memory_hold V2 size offset bytes =
    any_holds _ (number_at two bytes) _ (λ count. allow_holds _ (nat_le count.0 (page_count size)) _ _ (λ fine.
    weaker count.0 (pages_at size 0 count.0 (offset + 2) count.1) (pages_hold size 0 count.0 (offset + 2) count.1)))
  where
    weaker : (count : ℕ) (r : Result (List ℕ × ℕ × List ℕ) DecodeError) → Holds (λ x. FitsPages size 0 count x.0) r → Holds (λ (x : List ℕ × ℕ × List ℕ). length x.0 ≡ size) r
    weaker count (Ok x) h = omega (arith, h.whole)
    weaker count (Err d) h = tt

-- the number of pages, and these
counted_is : (size count offset : ℕ) (behind : Format) (bytes : List ℕ)
    → (pages_at size 0 count offset bytes >>= λ x. behind_of behind (flat_map page_values (kept_at size 0 x.0)) x.1 x.2 >>= λ rest. Ok ((count ∷ []) ∷ rest))
    ≡ (pages_at size 0 count offset bytes >>= λ x. behind_of behind (memory_values V2 x.0) x.1 x.2)
counted_is size count offset behind bytes =
    holding_same (λ x. FitsPages size 0 count x.0) (pages_at size 0 count offset bytes) _ _ (pages_hold size 0 count offset bytes) (λ x m.
    (let whole : length x.0 ≡ size = (let len = m.whole in omega arith) in
    let all : page_count size - 0 ≡ page_count size = omega arith in
    let kept : kept_at size 0 x.0 ≡ kept_pages x.0 = ap (λ (n : ℕ). kept_from 0 n x.0) all ∙ sym (kept_pages_are x.0 size whole) in
    let number : count ≡ length (kept_pages x.0) = sym m.kept ∙ ap length kept in
    bind_assoc (fields_at behind x.1 x.2) _ _ ∙ rw (kept, number) refl))

pub memory_is : (version : Version) (size : ℕ) (behind : Format) (offset : ℕ) (bytes : List ℕ)
    → fields_at (memory_in version size behind) offset bytes ≡ (memory_at version size offset bytes >>= λ x. behind_of behind (memory_values version x.0) x.1 x.2)
unfolding memory_in memory_at counted_pages
memory_is V1 size behind offset bytes =
    simp (bytes_is, bind_assoc) (holding_same (λ x. length x.0 ≡ size) (bytes_at size bytes) _ _ (bytes_hold size bytes) (λ x whole.
    (let place : offset + size * 1 ≡ offset + length x.0 = omega (arith, whole) in rw place refl)))
memory_is V2 size behind offset bytes =
    simp (one_number, bind_assoc) (bind_same (number_at two bytes) _ _ (λ count. bind_same (allow _ _) _ _ (λ fine.
    ap (λ (r : Result (List (List ℕ)) DecodeError). r >>= λ rest. Ok ((count.0 ∷ []) ∷ rest)) (pages_is size 0 count.0 behind (offset + 2) count.1)
    ∙ bind_assoc (pages_at size 0 count.0 (offset + 2) count.1) _ _ ∙ counted_is size count.0 (offset + 2) behind count.1)))
