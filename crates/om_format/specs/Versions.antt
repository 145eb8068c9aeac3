-- The versions of a checkpoint, and its kinds: where they differ.
use Rattle.std.specs.Prelude.{ℕ, ◌==◌, ◌&&◌, ◌||◌, List, [], ◌∷◌, length, Bool, nat_le, if◌then◌else◌}
use Rattle.std.specs.List.{flat_map}
use Rattle.om_isa.specs.declared.ext.Ext.{Ext}
use Rattle.om_isa.specs.declared.ext.Ext.TheVariants.{I, Im}
use Rattle.om_interval.specs.declared.pid.TheConstants.{MAX_PROCESSES}
use Rattle.om_format.specs.declared.limits.TheConstants.{CHECKPOINT_KIND, CHECKPOINT_KIND_M, CHECKPOINT_VERSION_1, CHECKPOINT_VERSION_2, MAX_PROCESSES_OF_VERSION_1}
use Rattle.om_format.specs.declared.version.Version.{Version}
use Rattle.om_format.specs.declared.version.Version.TheVariants.{V1, V2}
use Rattle.om_format.specs.Formats.{two, Format, end, number, bytes}
use Rattle.om_pages.specs.Pages.{page_count, kept_pages}
use Rattle.om_format.specs.Pages.{counted_pages, page_values}

-- the kind tells which instructions the program may use
abbrev pub kind_of : Ext → ℕ
kind_of I = CHECKPOINT_KIND
kind_of Im = CHECKPOINT_KIND_M

abbrev pub is_kind : ℕ → Bool
is_kind kind = kind == kind_of I || kind == kind_of Im

-- the number of a version
abbrev pub version_number : Version → ℕ
version_number V1 = CHECKPOINT_VERSION_1
version_number V2 = CHECKPOINT_VERSION_2

abbrev pub is_version : ℕ → Bool
is_version number = number == version_number V1 || number == version_number V2

abbrev pub version_of : ℕ → Version
version_of number = if number == version_number V1 then V1 else V2

-- the numbers of processes
abbrev pub is_cluster_size : Version → ℕ → Bool
is_cluster_size V1 n = nat_le 1 n && nat_le n MAX_PROCESSES_OF_VERSION_1
is_cluster_size V2 n = nat_le 1 n && nat_le n MAX_PROCESSES

-- the memory: all of its bytes, or the pages that are not all zero
unfoldable pub memory_in : Version → ℕ → Format → Format
memory_in V1 size behind = bytes size behind
memory_in V2 size behind = counted_pages size behind

-- what stands before the bytes of the memory: the number of pages, where these are counted
abbrev pub before_memory : Version → ℕ → Format
before_memory V1 size = end
before_memory V2 size = number two (λ count. nat_le count (page_count size)) λ count. end

-- the values of its fields
abbrev pub memory_values : Version → List ℕ → List (List ℕ)
memory_values V1 memory = memory ∷ []
memory_values V2 memory = (length (kept_pages memory) ∷ []) ∷ flat_map page_values (kept_pages memory)
