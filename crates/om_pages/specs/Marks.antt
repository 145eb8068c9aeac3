-- Marks of the pages of a memory.
use Rattle.std.specs.Prelude.{◌≡◌, ℕ, ◌/◌, ◌<◌, ◌≤◌, List, Bool, true, false, length, map, get_or}
use Rattle.std.specs.List.{range_with_len}
use Rattle.om_pages.specs.declared.pages.TheConstants.{PAGE}
use Rattle.om_pages.specs.Pages.{page_count, page_at, is_kept}

-- the bytes of pages that have no mark are zeros
abbrev pub AreZerosOutside : List Bool → List ℕ → Type 0
AreZerosOutside marks memory = (k : ℕ) → get_or marks (k / PAGE) false ≡ false → get_or memory k 0 ≡ 0

-- the marks of a memory's pages that are not all zero
abbrev pub kept_marks : List ℕ → List Bool
kept_marks memory = map (λ index. is_kept (page_at memory index).bytes) (range_with_len 0 (page_count (length memory)))

-- the pages from one to before another have a mark, and all others are as they were
pub record Marks (old new : List Bool) (first last : ℕ) : Type 0 where
  pub pages : length new ≡ length old
  pub below : (i : ℕ) → i < first → get_or new i false ≡ get_or old i false
  pub within : (i : ℕ) → first ≤ i → i < last → get_or new i false ≡ true
  pub behind : (i : ℕ) → last ≤ i → get_or new i false ≡ get_or old i false
