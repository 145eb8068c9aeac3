-- Text that needs no escape between tags or quotes.
use Rattle.std.specs.Prelude.{◌≡◌, ℕ, Bool, true, not, ◌||◌, ◌==◌, List}
use Rattle.std.specs.List.{list_all}
use Rattle.om_scripts.specs.Programs.{Cluster}

-- a byte is none of `"`, `&`, `<` and `>`
abbrev pub is_plain : ℕ → Bool
is_plain byte = not ((byte == 34) || ((byte == 38) || ((byte == 60) || (byte == 62))))

abbrev pub is_plain_text : List ℕ → Bool
is_plain_text text = list_all is_plain text

-- the names of processes and of programs
pub record HasPlainNames (cluster : Cluster) : Type 0 where
  pub processes : list_all (λ e. is_plain_text e.0) cluster.processes ≡ true
  pub programs : list_all (λ e. is_plain_text e.0) cluster.programs ≡ true
