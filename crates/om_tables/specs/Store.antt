-- The content of a store of two tables.
use Rattle.std.specs.Prelude.{◌≡◌, ℕ, pos, Bool, ◌&&◌, List, [], ◌∷◌, map, codes, length, Any, Option}
use Rattle.std.specs.FinMap as finite
use Rattle.sqlite.specs.declared.types.Value.{Value}
use Rattle.sqlite.specs.declared.types.Value.TheVariants.{Int, Blob}
use Rattle.sqlite.specs.Order.{Row, column}
use Rattle.sqlite.specs.Effect.{Database}
use Rattle.sqlite.specs.Held.{Held}
use Rattle.sqlite.specs.Schema.{Schema}
use Rattle.sqlite.specs.State.{State}
use Rattle.sqlite.specs.Table.{Table}
use Rattle.om_stable.specs.Content.{Records, Content}
use Rattle.om_tables.specs.Tables.{store_schema, stored_row}
use Rattle.om_tables.specs.declared.refusal.Refusal.{Refusal}

abbrev pub number_in : Value → ℕ
number_in (Int (pos n)) = n
number_in _ = 0

abbrev pub bytes_in : Value → List ℕ
bytes_in (Blob b) = b
bytes_in _ = []

abbrev pub records_in : List Row → Records
records_in rows = finite.from_sorted (map (λ r. (number_in (column r 0), bytes_in (column r 2))) rows)

-- what the two tables hold
abbrev pub content_in : Database → Content
content_in db = record { receipts = records_in (db.trees 0); checkpoints = records_in (db.trees 1) }

abbrev pub rows_for : Records → List Row
rows_for m = map stored_row (finite.entries m)

-- the tables are those of `create`, with these records
pub record Holds (db : Database) (c : Content) : Type 0 where
  pub schema : db.schema ≡ store_schema
  pub receipts : db.trees 0 ≡ rows_for c.receipts
  pub checkpoints : db.trees 1 ≡ rows_for c.checkpoints

-- between calls: the content is what the tables show, and is committed
pub record IsFormed (s : State) : Type 0 where
  pub holds : Holds s.now (content_in s.now)
  pub settled : s.now ≡ s.committed

-- a store, as its clauses see it: its connection, how often it has failed, and what the last statement was refused for
pub record Tables (S : Type 0) : Type 0 where
  pub connection : Held S
  pub failures : ℕ
  pub last : Option Refusal

-- the connection is open, and its disk has returned what was written
abbrev pub is_sure : State → Bool
is_sure s = s.is_clean && s.is_open

-- the tables are two, by the names that `create` gives them, and there is nothing beside them
pub record HasBothTables (schema : Schema) : Type 0 where
  pub tables : map (λ (t : Table). t.name) schema.tables ≡ codes "receipts" ∷ codes "checkpoints" ∷ []
  pub indexes : schema.indexes ≡ []
  pub views : schema.views ≡ []

-- one of the tables has this name
abbrev pub HasTable : List Table → List ℕ → Type 0
HasTable tables name = Any (λ (t : Table). t.name ≡ name) tables

-- the tables are five, by these names in any order, and there is nothing beside them
pub record HasFiveTables (schema : Schema) : Type 0 where
  pub count : length schema.tables ≡ 5
  pub receipts : HasTable schema.tables (codes "receipts")
  pub checkpoints : HasTable schema.tables (codes "checkpoints")
  pub outputs : HasTable schema.tables (codes "outputs")
  pub senders : HasTable schema.tables (codes "senders")
  pub about : HasTable schema.tables (codes "about")
  pub indexes : schema.indexes ≡ []
  pub views : schema.views ≡ []

-- the database stands as it was last committed: nothing was changed, or all was undone
pub record LeavesCommitted (old new : State) : Type 0 where
  pub now : new.now ≡ old.committed
  pub committed : new.committed ≡ old.committed
