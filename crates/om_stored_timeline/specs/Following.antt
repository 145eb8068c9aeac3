-- A process that is followed from a machine along stored receipts, and what these are as deeds of a timeline.
use Rattle.std.specs.Prelude.{◌≡◌, ℕ, ◌+◌, ◌-◌, ◌<◌, ◌≤◌, ◌⊎◌, List, [], ◌∷◌, ◌++◌, length, None}
use Rattle.om_format.specs.Receipts.{ReceiptRecord}
use Rattle.om_machine.specs.State.{State}
use Rattle.om_process.specs.Process.{Waits}
use Rattle.om_process.specs.Stored.{AreReceiptsAfter, IsReceiptAt}
use Rattle.om_process.specs.declared.limits.TheConstants.{LAST_INTERVAL}
use Rattle.om_stable.specs.Content.{Records}
use Rattle.om_timeline.specs.Alone.{HasTurns, move_alone, received_alone, turn_alone, turns_alone}
use Rattle.om_timeline.specs.Timeline.{TimelineState, told_timeline}
use Rattle.om_timeline.specs.declared.deed.Deed.{Deed}
use Rattle.om_timeline.specs.declared.deed.Deed.TheVariants.{Ran, Took}
use Rattle.om_world.specs.declared.event.Event.{Event}
use Rattle.om_world.specs.declared.event.Event.TheVariants as events
use Rattle.om_stored_timeline.specs.declared.following.TheConstants.{MOST_BEHIND}

-- how many turns the machine takes before the receipt
abbrev pub turns_to : State → ReceiptRecord → ℕ
turns_to m r = r.count - m.count

-- the receipt is one of process own of n, which comes with this machine to a wait at the receipt's count
pub record FitsAlone (own n : ℕ) (m : State) (r : ReceiptRecord) : Type 0 where
  pub to : r.to ≡ own
  pub from : r.from < n
  pub order : m.count ≤ r.count
  pub turns : HasTurns own n (turns_to m r) m
  pub waits : move_alone own n (turns_alone own n (turns_to m r) m) ≡ Waits

-- the machine right behind the receipt
abbrev pub behind_receipt : ℕ → ℕ → State → ReceiptRecord → State
behind_receipt own n m r = received_alone own n r.from r.body (turns_alone own n (turns_to m r) m)

-- a machine behind several receipts, one after another
abbrev pub behind_receipts : ℕ → ℕ → State → List ReceiptRecord → State
behind_receipts own n m [] = m
behind_receipts own n m (r ∷ rs) = behind_receipts own n (behind_receipt own n m r) rs

-- each fits behind those before it
abbrev pub FitAlone : ℕ → ℕ → State → List ReceiptRecord → Type 0
FitAlone own n m [] = Unit {0}
FitAlone own n m (r ∷ rs) = FitsAlone own n m r × FitAlone own n (behind_receipt own n m r) rs

-- behind interval y there is no interval, or no receipt is stored for the next one, or one that does not fit
abbrev pub IsEnd : Records → ℕ → ℕ → State → ℕ → Type 0
IsEnd held own n m y =
    (LAST_INTERVAL ≤ y) ⊎ (((r : ReceiptRecord) → IsReceiptAt held (y + 1) r → ⊥)
    ⊎ ((r : ReceiptRecord) × IsReceiptAt held (y + 1) r × (FitsAlone own n m r → ⊥)))

-- from this machine in interval begin on these receipts are all that are stored without a gap and fit
pub record IsFollowed (held : Records) (own n begin : ℕ) (m : State) (receipts : List ReceiptRecord) : Type 0 where
  pub stored : AreReceiptsAfter held begin receipts
  pub fit : FitAlone own n m receipts
  pub all : IsEnd held own n (behind_receipts own n m receipts) (begin + length receipts)

-- each receipt is two deeds: the turns before it, and what it brought
abbrev pub deeds_of : ℕ → ℕ → State → List ReceiptRecord → List Deed
deeds_of own n m [] = []
deeds_of own n m (r ∷ rs) = Ran (turns_to m r) ∷ Took r.from r.body ∷ deeds_of own n (behind_receipt own n m r) rs

-- each receipt is two events: a run of so many instructions, and a message that begins an interval
abbrev pub events_of : ℕ → ℕ → State → List ReceiptRecord → List Event
events_of own n m [] = []
events_of own n m (r ∷ rs) = events.Run own (turns_to m r) ∷ events.Give own r.interval ∷ events_of own n (behind_receipt own n m r) rs

-- so many turns are behind the last receipt: until there is none, or not below a number of them
pub record IsRest (own n : ℕ) (m : State) (rest : ℕ) : Type 0 where
  pub turns : HasTurns own n rest m
  pub no_more : rest < MOST_BEHIND → turn_alone own n (turns_alone own n rest m) ≡ None

-- the timeline tells them, and the turns behind the last one
pub record IsToldFrom (held : Records) (own n begin : ℕ) (first : State) (t : TimelineState) : Type 0 where
  pub receipts : List ReceiptRecord
  pub followed : IsFollowed held own n begin first receipts
  pub rest : ℕ
  pub is_rest : IsRest own n (behind_receipts own n first receipts) rest
  pub is : t ≡ told_timeline own n first (events_of own n first receipts ++ events.Run own rest ∷ []) (deeds_of own n first receipts ++ Ran rest ∷ [])
