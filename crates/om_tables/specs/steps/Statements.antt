-- What the code's own steps do to the tables. No public clause cites this.
use Rattle.std.specs.Prelude.{◌≡◌, ◌⊎◌, ◌+◌, ◌≤◌, ℕ, IsTrue, List, [], ◌∷◌, Option, Some, None, IsSome, Result, OnOk, OnErr, false, length}
use Rattle.std.specs.FinMap as finite
use Rattle.om_tables.specs.declared.refusal.Refusal.{Refusal}
use Rattle.sqlite.specs.Effect.{Database}
use Rattle.sqlite.specs.Order.{Row, column}
use Rattle.sqlite.specs.State.{State, HasCleanDisk, KeepsCommit}
use Rattle.om_stable.specs.Count.{Rose}
use Rattle.om_stable.specs.declared.error.StoreError.{StoreError}
use Rattle.om_stable.specs.declared.error.StoreError.TheVariants.{Fault}
use Rattle.om_stable.specs.Content.{Records, Content, IsFree, IsEffective}
use Rattle.om_tables.specs.Tables.{no_schema, stored_row}
use Rattle.om_tables.specs.steps.Halfway.{half_schema, shown}
use Rattle.om_tables.specs.Store.{Holds, IsFormed, content_in, is_sure, number_in, bytes_in}
use Rattle.om_stable.specs.declared.batch.WriteBatch.{WriteBatch}
use Rattle.om_stable.specs.declared.stable.TheConstants.{INTERVALS}

-- the row as it is stored, by its two parts
abbrev pub stored : ℕ → List ℕ → Row
stored x body = stored_row (x, body)

-- the interval and the bytes that a row of a table stands for
abbrev pub entry_in : Row → ℕ × List ℕ
entry_in r = (number_in (column r 0), bytes_in (column r 2))

-- the interval and the bytes that a row of a SELECT of both columns shows
abbrev pub shown_entry : Row → ℕ × List ℕ
shown_entry r = (number_in (column r 0), bytes_in (column r 1))

-- within a transaction that has not committed yet
pub record GoesOn (old new : State) (c : Content) : Type 0 where
  pub holds : Holds new.now c
  pub begun : IsTrue new.in_transaction
  pub committed : new.committed ≡ old.committed

-- a statement inside a transaction, which makes this of the content
pub record Goes {A : Type 0} (f : Content → Content) (old new : State) (r : Result A Refusal) : Type 0 where
  pub put : (c : Content) → Holds old.now c → IsTrue old.in_transaction → OnOk r (GoesOn old new (f c))
  pub goes_on : IsTrue old.in_transaction → OnOk r (IsTrue new.in_transaction)
  pub kept : KeepsCommit old new

-- what is told of the content before, where the disk is clean as the step ends
abbrev pub Told : State → State → (Content → Type 0) → Type 0
Told old new Says = HasCleanDisk new → (c : Content) → Holds old.now c → Says c

-- the tables are made one after the other
abbrev pub HasNoTables : Database → Type 0
HasNoTables db = db.schema ≡ no_schema

pub record HasReceipts (db : Database) : Type 0 where
  pub schema : db.schema ≡ half_schema
  pub receipts : db.trees 0 ≡ []

abbrev pub HoldsNothing : Database → Type 0
HoldsNothing db = Holds db (record { receipts = finite.empty; checkpoints = finite.empty })

-- a statement inside a transaction that makes this of a database like that
pub record Makes {A : Type 0} (Before After : Database → Type 0) (old new : State) (r : Result A Refusal) : Type 0 where
  pub made : HasCleanDisk new → Before old.now → IsTrue old.in_transaction → OnOk r (After new.now)
  pub goes_on : HasCleanDisk new → IsTrue old.in_transaction → OnOk r (IsTrue new.in_transaction)
  pub kept : HasCleanDisk new → KeepsCommit old new

-- a disk that is clean was so before, and a connection that is open too
pub record Follows (old new : State) : Type 0 where
  pub clean : HasCleanDisk new → HasCleanDisk old
  pub was_open : HasCleanDisk new → IsTrue new.is_open → IsTrue old.is_open

-- a statement inside a transaction
pub record Performs {A : Type 0} (f : Content → Content) (old new : State) (r : Result A Refusal) : Type 0 where
  pub step : HasCleanDisk new → Goes f old new r
  pub clean : HasCleanDisk new → HasCleanDisk old

-- a transaction that makes this of the content, whole or not at all
pub record Transacts {A : Type 0} (f : Content → Content) (old new : State) (r : Result A Refusal) : Type 0 where
  pub put : Told old new (λ c. OnOk r (Holds new.now (f c)))
  pub settled : HasCleanDisk new → OnOk r (new.committed ≡ new.now)
  pub refused : HasCleanDisk new → IsTrue new.is_open
      → OnErr r ((new.now ≡ old.committed) × (new.committed ≡ old.committed))
  pub follows : Follows old new

-- a change of the content, which is made whole or not at all
pub record Changed {A : Type 0} (f : Content → Content) (old new : State) (r : Result A Refusal) : Type 0 where
  pub formed : IsFormed new
  pub ok : OnOk r (content_in new.now ≡ f (content_in old.now))
  pub err : OnErr r (content_in new.now ≡ content_in old.now)

-- a call that changes nothing
pub record Same (old new : State) : Type 0 where
  pub formed : IsFormed new
  pub content : content_in new.now ≡ content_in old.now

-- a query, which changes nothing
pub record Asks (old new : State) : Type 0 where
  pub same : HasCleanDisk new → IsTrue new.is_open → IsFormed old → Same old new
  pub follows : Follows old new

-- no row, where none of the intervals from first to last has a record
abbrev pub ShowsAny : Records → ℕ → ℕ → List Row → Type 0
ShowsAny held first last rows =
    ((rows ≡ []) × ((x : ℕ) → first ≤ x → x ≤ last → finite.get held x ≡ None))
    ⊎ ((r : Row) × (more : List Row) × (rows ≡ r ∷ more) × (x : ℕ) × (first ≤ x) × (x ≤ last) × IsSome (finite.get held x))

-- no row, where nothing stands at or below x, or that of the greatest record there
abbrev pub ShowsEffective : Records → ℕ → List Row → Type 0
ShowsEffective held x rows =
    ((rows ≡ []) × IsFree held 0 (x + 1))
    ⊎ ((e : ℕ × List ℕ) × (rows ≡ shown e ∷ []) × IsEffective held x e.0 × (finite.get held e.0 ≡ Some e.1))

-- a fault is counted
abbrev pub CountsFault : Option StoreError → ℕ → ℕ → Type 0
CountsFault error old new = error ≡ Some Fault → Rose old new

-- a connection that is sure was sure before
abbrev pub StaysSure : State → State → Type 0
StaysSure old new = IsTrue (is_sure new) → IsTrue (is_sure old)

-- no transaction is under way
abbrev pub IsIdle : State → Type 0
IsIdle s = s.in_transaction ≡ false

-- a reference is the one from before
abbrev pub IsSameReference : {Name : Type 0} → Name → Name → Type 0
IsSameReference before after = after ≡ before

-- the intervals of a batch are ones that there can be
abbrev pub IsWithinIntervals : WriteBatch → Type 0
IsWithinIntervals batch = batch.first + length batch.receipts.now ≤ INTERVALS
