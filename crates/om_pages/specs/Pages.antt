-- The pages of a memory.
use Rattle.std.specs.Prelude.{ℕ, ◌+◌, ◌-◌, ◌*◌, ◌/◌, List, length, map, take, drop, min, Bool, nat_lt}
use Rattle.std.specs.List.{filter, list_any, range_with_len}
use Rattle.om_pages.specs.declared.pages.TheConstants.{PAGE}

-- a page: its index in the memory, and its bytes
pub record Page : Type 0 where
  pub index : ℕ
  pub bytes : List ℕ

-- how many pages a memory of this size has: the size by that of a page, rounded up
abbrev pub page_count : ℕ → ℕ
page_count size = (size + (PAGE - 1)) / PAGE

-- how many bytes the page of this index has: the last one has what is left
abbrev pub page_size : ℕ → ℕ → ℕ
page_size size index = min PAGE (size - index * PAGE)

-- the page of a memory at this index
abbrev pub page_at : List ℕ → ℕ → Page
page_at memory index = record { index = index; bytes = take PAGE (drop (index * PAGE) memory) }

-- not all bytes of a page are zero
abbrev pub is_kept : List ℕ → Bool
is_kept bytes = list_any (λ byte. nat_lt 0 byte) bytes

-- the pages of a memory that are not all zero, in their order
abbrev pub kept_pages : List ℕ → List Page
kept_pages memory = filter (λ page. is_kept page.bytes) (map (page_at memory) (range_with_len 0 (page_count (length memory))))
