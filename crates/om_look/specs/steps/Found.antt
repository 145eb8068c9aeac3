-- The checkpoints of a store as they are found, from the last one down.
use Rattle.std.specs.Prelude.{◌≡◌, ◌⊎◌, ◌↔◌, ℕ, ◌+◌, ◌-◌, ◌<◌, ◌≤◌, List, [], ◌∷◌, ◌++◌, Option, Some, None, string_bytes, if◌then◌else◌, nat_eq}
use Rattle.std.specs.FinMap.{get}
use Rattle.std.specs.List.{flat_map}
use Rattle.om_stable.specs.Content.{Content, IsEffective, IsFree}
use Rattle.om_process.specs.Stored.{anyone, CanReplay}
use Rattle.om_process.specs.declared.limits.TheConstants.{LAST_INTERVAL}
use Rattle.om_look.specs.Lines.{AreLines, IsCheckpointLine, IsReceiptLine}
use Rattle.om_look.specs.steps.Ranges.{up_to}
use Rattle.om_look.specs.Spans.{AreApart, IsCovered, spans_text}
use Rattle.om_look.specs.steps.Stops.{StopsAt}
use Rattle.om_look.specs.declared.gathering.Found.{Found}
use Rattle.om_look.specs.declared.spans.Span.{Span}

-- the interval before this one, if there is one
abbrev pub before : ℕ → Option ℕ
before x = if nat_eq x 0 then None else Some (x - 1)

-- what is found is the line of a row, and how far a replay to an interval goes whose effective checkpoint it is
pub record IsFound (held : Content) (to : ℕ) (row : ℕ × List ℕ) (f : Found) : Type 0 where
  pub effective : IsEffective held.checkpoints to row.0
  pub stands : get held.checkpoints row.0 ≡ Some row.1
  pub interval : f.interval ≡ row.0
  pub line : IsCheckpointLine row (string_bytes f.line)
  pub stops : StopsAt held row.0 to f.stop

-- the effective checkpoint of an interval is found and it is gone on below, or there is none
abbrev pub Finds : Content → ℕ → List Found → Option ℕ → List Found → Type 0
Finds held to old next new =
    (IsFree held.checkpoints 0 (to + 1) × (next ≡ None) × (new ≡ old))
    ⊎ ((row : ℕ × List ℕ) × (f : Found) × IsFound held to row f × (next ≡ before row.0) × (new ≡ old ++ f ∷ []))

-- what is found is of these rows, one by one
abbrev pub AreOf : List (ℕ × List ℕ) → List Found → Type 0
AreOf [] [] = Unit {0}
AreOf (row ∷ rows) (f ∷ fs) = IsCheckpointLine row (string_bytes f.line) × AreOf rows fs
AreOf [] (f ∷ fs) = ⊥
AreOf (row ∷ rows) [] = ⊥

-- each stops at the next at most
abbrev pub AreOrdered : ℕ → List Found → Type 0
AreOrdered low [] = Unit {0}
AreOrdered low (f ∷ fs) = (low ≤ f.interval) × (f.interval ≤ f.stop) × AreOrdered f.stop fs

-- an interval lies before the stop of a checkpoint, and not below it
abbrev pub LiesBehind : ℕ → Found → Type 0
LiesBehind y f = (f.interval ≤ y) × (y < f.stop)

abbrev pub LiesBehindOne : List Found → ℕ → Type 0
LiesBehindOne [] y = ⊥
LiesBehindOne (f ∷ fs) y = LiesBehind y f ⊎ LiesBehindOne fs y

-- the rows of the checkpoints up to an interval, if there is one; and the interval behind it
abbrev pub left : Content → Option ℕ → List (ℕ × List ℕ)
left held None = []
left held (Some x) = up_to held.checkpoints x

abbrev pub behind : Option ℕ → ℕ
behind None = 0
behind (Some x) = x + 1

-- the checkpoints above what is left are found
pub record AreFound (held : Content) (next : Option ℕ) (fs : List Found) : Type 0 where
  pub rows : List (ℕ × List ℕ)
  pub are_of : AreOf rows fs
  pub all : up_to held.checkpoints LAST_INTERVAL ≡ left held next ++ rows
  pub ordered : AreOrdered (behind next) fs
  pub replayed : (y : ℕ) → LiesBehindOne fs y → CanReplay anyone held y
  pub covered : (y : ℕ) → behind next ≤ y → y ≤ LAST_INTERVAL → CanReplay anyone held y → LiesBehindOne fs y

-- their lines, one after another
abbrev pub lines_text : List Found → List ℕ
lines_text fs = flat_map (λ f. string_bytes f.line) fs

-- the text of what is found and of the receipts
pub record IsTextOf (fs : List Found) (rows : List (ℕ × List ℕ)) (text : List ℕ) : Type 0 where
  pub receipts : List ℕ
  pub lines : AreLines IsReceiptLine rows receipts
  pub spans : List Span
  pub apart : AreOrdered 0 fs → AreApart 0 spans
  pub covered : AreOrdered 0 fs → (y : ℕ) → IsCovered spans y ↔ LiesBehindOne fs y
  pub is_text : text ≡ lines_text fs ++ receipts ++ spans_text spans
