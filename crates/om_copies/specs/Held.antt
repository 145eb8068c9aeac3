-- Which database the bytes of a file and of its log hold.
use Rattle.std.specs.Prelude.{◌≡◌, ℕ, List}
use Rattle.sqlite.specs.Effect.{Database, IsDatabase}
use Rattle.sqlite.specs.Files.{AreFoundIn, HoldsDatabase}
use Rattle.sqlite_trees.specs.Tree.{Trees}
use Rattle.sqlite_wal.specs.Recovery.{Image}

-- the file and the log, as SQLite's rules for them see both
abbrev pub image_of : List ℕ → List ℕ → Image
image_of file log = record { log = log; db = file }

-- the database is what the two recover to, or they are of none that was written to, and it is empty
pub record IsHeldIn (file log : List ℕ) (found : Database) : Type 0 where
  pub reads : AreFoundIn (image_of file log) found.trees
  -- where they hold one by the rules of the format, it is that one
  pub holds : (trees : Trees) → HoldsDatabase (image_of file log) trees → found.trees ≡ trees
  pub sound : IsDatabase found
