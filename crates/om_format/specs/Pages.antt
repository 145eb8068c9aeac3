-- The format of the pages of a memory that are kept.
use Rattle.std.specs.Prelude.{ℕ, zero, suc, ◌+◌, ◌&&◌, List, [], ◌∷◌, nat_lt, nat_le}
use Rattle.om_format.specs.declared.error.DecodeError.TheVariants.{Field}
use Rattle.om_pages.specs.Pages.{Page, page_count, page_size, is_kept}
use Rattle.om_format.specs.Formats.{one, two, Format, field, number}

-- so many pages of a memory of this size, from this index on: of each its index, above the one before and below the
-- number of pages, and its bytes, which are not all zero
unfoldable pub pages : ℕ → ℕ → ℕ → Format → Format
pages size low zero behind = behind
pages size low (suc count) behind =
    number two (λ index. nat_le low index && nat_lt index (page_count size)) λ index.
    field one (page_size size index) is_kept Field λ _.
    pages size (index + 1) count behind

-- the number of pages that are kept, and these pages
unfoldable pub counted_pages : ℕ → Format → Format
counted_pages size behind =
    number two (λ count. nat_le count (page_count size)) λ count.
    pages size 0 count behind

-- the values of a page's fields
abbrev pub page_values : Page → List (List ℕ)
page_values page = (page.index ∷ []) ∷ page.bytes ∷ []
