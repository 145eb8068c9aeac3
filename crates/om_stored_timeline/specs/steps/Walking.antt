-- A process on its way along rows of receipts.
use Rattle.std.specs.Prelude.{◌≡◌, ◌≢◌, ℕ, ◌+◌, ◌≤◌, ◌⊎◌, List, [], ◌∷◌, ◌++◌, length, drop, take, Vec}
use Rattle.std.specs.declared.alloc.Global.{Global}
use Rattle.om_format.specs.Receipts.{ReceiptRecord, SpellsReceipt}
use Rattle.om_machine.specs.State.{State}
use Rattle.om_process.specs.steps.Rows.{AreGapless, SpellRows}
use Rattle.om_stable.specs.Content.{rows_of}
use Rattle.om_timeline.specs.Alone.{HasTurns, received_alone, turns_alone}
use Rattle.om_stored_timeline.specs.declared.following.Follower.{Follower}
use Rattle.om_stored_timeline.specs.Following.{FitAlone, FitsAlone, behind_receipt, behind_receipts, deeds_of, events_of, turns_to}
use Rattle.om_timeline.specs.declared.deed.Deed.TheVariants.{Ran, Took}
use Rattle.om_world.specs.declared.event.Event.TheVariants as events

abbrev pub Row : Type 0
Row = ℕ × List ℕ

abbrev pub Found : Type 0
Found = List (ℕ × Vec ℕ Global)

-- bytes of interval y are no receipt that fits
abbrev pub IsUnfit : ℕ → ℕ → State → ℕ → List ℕ → Type 0
IsUnfit own n m y bytes =
    ((r : ReceiptRecord) → SpellsReceipt r bytes → r.interval ≡ y → ⊥)
    ⊎ ((r : ReceiptRecord) × SpellsReceipt r bytes × (r.interval ≡ y) × (FitsAlone own n m r → ⊥))

-- it stands right behind a receipt
pub record IsAtReceipt (f : Follower) : Type 0 where
  pub still : f.done ≡ 0

-- these bytes of interval y were taken in
pub record IsTakenIn (old : Follower) (y : ℕ) (bytes : List ℕ) (new : Follower) : Type 0 where
  pub receipt : ReceiptRecord
  pub spells : SpellsReceipt receipt bytes
  pub named : receipt.interval ≡ y
  pub fits : FitsAlone old.alone.own old.alone.n old.alone.machine receipt
  pub machine : new.alone.machine ≡ behind_receipt old.alone.own old.alone.n old.alone.machine receipt
  pub own : new.alone.own ≡ old.alone.own
  pub n : new.alone.n ≡ old.alone.n
  pub done : new.done ≡ 0
  pub interval : new.interval ≡ y
  pub events : new.events.items ≡ old.events.items ++ events.Run old.alone.own (turns_to old.alone.machine receipt) ∷ events.Give old.alone.own receipt.interval ∷ []
  pub deeds : new.deeds.items ≡ old.deeds.items ++ Ran (turns_to old.alone.machine receipt) ∷ Took receipt.from receipt.body ∷ []

-- the receipt was taken in right here, behind the turns that were taken
pub record IsReceived (old : Follower) (r : ReceiptRecord) (new : Follower) : Type 0 where
  pub machine : new.alone.machine ≡ received_alone old.alone.own old.alone.n r.from r.body old.alone.machine
  pub own : new.alone.own ≡ old.alone.own
  pub n : new.alone.n ≡ old.alone.n
  pub done : new.done ≡ 0
  pub interval : new.interval ≡ r.interval
  pub events : new.events.items ≡ old.events.items ++ events.Run old.alone.own old.done ∷ events.Give old.alone.own r.interval ∷ []
  pub deeds : new.deeds.items ≡ old.deeds.items ++ Ran old.done ∷ Took r.from r.body ∷ []

-- only some turns more were taken
pub record IsGoneOn (old new : Follower) : Type 0 where
  pub turns : HasTurns old.alone.own old.alone.n new.done old.alone.machine
  pub machine : new.alone.machine ≡ turns_alone old.alone.own old.alone.n new.done old.alone.machine
  pub own : new.alone.own ≡ old.alone.own
  pub n : new.alone.n ≡ old.alone.n
  pub interval : new.interval ≡ old.interval
  pub events : new.events.items ≡ old.events.items
  pub deeds : new.deeds.items ≡ old.deeds.items

-- from where it began it came along the first k of the rows that were found
pub record IsAlong (begun : Follower) (found : Found) (k : ℕ) (f : Follower) : Type 0 where
  pub gapless : AreGapless begun.interval (rows_of (take k found))
  pub receipts : List ReceiptRecord
  pub spelled : SpellRows (rows_of (take k found)) receipts
  pub fit : FitAlone begun.alone.own begun.alone.n begun.alone.machine receipts
  pub machine : f.alone.machine ≡ turns_alone begun.alone.own begun.alone.n f.done (behind_receipts begun.alone.own begun.alone.n begun.alone.machine receipts)
  pub turns : HasTurns begun.alone.own begun.alone.n f.done (behind_receipts begun.alone.own begun.alone.n begun.alone.machine receipts)
  pub own : f.alone.own ≡ begun.alone.own
  pub n : f.alone.n ≡ begun.alone.n
  pub interval : f.interval ≡ begun.interval + k
  pub events : f.events.items ≡ begun.events.items ++ events_of begun.alone.own begun.alone.n begun.alone.machine receipts
  pub deeds : f.deeds.items ≡ begun.deeds.items ++ deeds_of begun.alone.own begun.alone.n begun.alone.machine receipts

-- the rows from there on end it: there is none, or one of another interval than the next, or one that does not fit
abbrev pub EndsRows : ℕ → ℕ → State → ℕ → List Row → Type 0
EndsRows own n m after [] = Unit {0}
EndsRows own n m after (row ∷ rows) = (row.0 ≢ after + 1) ⊎ ((row.0 ≡ after + 1) × IsUnfit own n m row.0 row.1)

-- it came along these rows as far as they are without a gap and fit
pub record IsLed (begun : Follower) (found : Found) (f : Follower) : Type 0 where
  pub k : ℕ
  pub within : k ≤ length found
  pub along : IsAlong begun found k f
  pub ends : EndsRows begun.alone.own begun.alone.n (behind_receipts begun.alone.own begun.alone.n begun.alone.machine along.receipts) f.interval (rows_of (drop k found))
