-- How the starts of a process are kept.
use Rattle.std.specs.Prelude.{◌≡◌, ℕ, ◌+◌, ◌≤◌, ◌^◌, List, [], ◌∷◌, ◌++◌, Bool, cond, length, map, slice_index, Vec}
use Rattle.std.specs.List.{All, flat_map}
use Rattle.std.specs.Arc.{arc_value}
use Rattle.std.specs.declared.alloc.Global.{Global}
use Rattle.std.specs.declared.sync.Arc.{Arc}
use Rattle.om_interval.specs.Starts.{is_named, starts_of}
use Rattle.om_interval.specs.declared.shared_blocks.TheConstants.{BLOCK}

-- the starts in these blocks
abbrev pub blocks_in : List (Arc (Vec ℕ Global) Global) → List (List ℕ)
blocks_in blocks = map (λ block. (arc_value {X = Vec ℕ Global} block).items) blocks

-- the starts of the blocks, and then the others
abbrev pub joined : List (List ℕ) → List ℕ → List ℕ
joined blocks own = flat_map (λ block. block) blocks ++ own

-- all blocks are full, and incarnations are numbers of 32 bits
pub record IsLine (blocks : List (List ℕ)) (own : List ℕ) : Type 0 where
  pub full : All (λ block. length block ≡ BLOCK) blocks
  pub room : length own ≤ BLOCK
  pub numbered : length (joined blocks own) ≤ 2 ^ 32

-- the starts of a process, with one more, right above its place of the state, where it is named
abbrev pub next_starts : List Bool → List ℕ → List (List ℕ) → ℕ → List ℕ
next_starts who state starts p =
    cond (is_named who p) (starts_of starts p ++ (slice_index state p + 1) ∷ []) (starts_of starts p)
