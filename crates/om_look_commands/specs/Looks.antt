-- What is told of a store whose database the bytes of a file and of its log hold.
use Rattle.std.specs.Prelude.{◌≡◌, ◌⊎◌, ◌++◌, ℕ, IsTrue, List, Result, Err}
use Rattle.sqlite.specs.Effect.{Database}
use Rattle.sqlite.specs.State.{State}
use Rattle.om_stable.specs.Content.{Content}
use Rattle.om_copies.specs.Held.{IsHeldIn}
use Rattle.om_tables.specs.Store.{HasBothTables, Holds, IsFormed, content_in, is_sure}
use Rattle.om_body_text.specs.Bodies.{AreBodies}
use Rattle.om_look.specs.Show.{IsShown}
use Rattle.om_commands.specs.declared.bytes_text.BytesForm.{BytesForm}
use Rattle.om_commands.specs.Replay.{IsNoMatterOfContent}
use Rattle.om_commands.specs.declared.error.CommandError.{CommandError}
use Rattle.om_commands.specs.declared.error.CommandError.TheVariants.{StoreFault}

-- this is so of the content of the database that the bytes hold, where it is a store of two tables; of another one nothing is said
abbrev pub IsSoIn : List ℕ → List ℕ → (Content → Type 0) → Type 0
IsSoIn file log IsSo =
    (found : Database) × IsHeldIn file log found × (Holds found (content_in found) → IsSo (content_in found))

-- the error is one that the content of that store has, or none that a content tells
abbrev pub IsErrorIn : List ℕ → List ℕ → (Content → CommandError → Type 0) → CommandError → Type 0
IsErrorIn file log IsErrorOf error = IsNoMatterOfContent error ⊎ IsSoIn file log (λ held. IsErrorOf held error)

-- what the store holds, and behind it the bodies of messages
abbrev pub IsShownWithBodies : BytesForm → Content → List ℕ → Type 0
IsShownWithBodies form held text = (records : List ℕ) × (bodies : List ℕ) × IsShown held records × AreBodies form held bodies × (text ≡ records ++ bodies)

-- a database without the two tables is handed back as it was, with a fault of the store
abbrev pub RefusesWithoutTables : {C A : Type 0} → State → C → Result A CommandError × C → Type 0
RefusesWithoutTables before conn result = (HasBothTables before.now.schema → ⊥) → result ≡ (Err StoreFault, conn)

-- a look leaves what the two tables hold
abbrev pub LeavesTables : State → State → Type 0
LeavesTables before after = IsTrue (is_sure after) → IsFormed before → content_in after.now ≡ content_in before.now
