-- What is left of the runs that there can be, where some are gone through.
use Rattle.std.specs.Prelude.{◌≡◌, ◌≢◌, ◌⊎◌, ℕ, ◌<◌, List, [], ◌∷◌, ◌++◌, map, length, slice_get, IsTrue, Some, true, false, if◌then◌else◌}
use Rattle.std.specs.List.{IsAmong}
use Rattle.om_process.specs.Core.{CoreState, cluster_size, move_of, status_of}
use Rattle.om_process.specs.declared.status.Status.TheVariants.{Waiting}
use Rattle.om_process.specs.Process.{Program, Received}
use Rattle.om_world.specs.Live.{Legal, MayFollow, received}
use Rattle.om_world.specs.World.{WorldState}
use Rattle.om_world.specs.declared.entry.Entry.{Entry}
use Rattle.om_check.specs.declared.exploring.Delivery.{Delivery}
use Rattle.om_check.specs.declared.walk.Choice.{Choice}
use Rattle.om_check.specs.FailureFree.{IsAtRest}
use Rattle.om_check.specs.Whole.{IsUnderWay, KeepsReceived}
use Rattle.om_check.specs.Orders.{IsOver, IsSameRun}
use Rattle.om_check.specs.steps.Playing.{IsGoingOn}

-- who received from whom, in order
abbrev pub deliveries_of : List Entry → List Delivery
deliveries_of live = map (λ e. record { from = e.from; to = e.to }) live

-- ---- a walk: at each step a delivery that was possible was taken, or declined for now
-- the deliveries that were taken, in order
abbrev pub taken_of : List Choice → List Delivery
taken_of [] = []
taken_of (c ∷ cs) = if c.taken then c.delivery ∷ taken_of cs else taken_of cs

abbrev pub taking : Delivery → Choice
taking d = record { delivery = d; taken = true }

abbrev pub declining : Delivery → Choice
declining d = record { delivery = d; taken = false }

-- the choice is not one by which this process received something
abbrev pub IsElsewhere : ℕ → Choice → Type 0
IsElsewhere to c = IsTrue c.taken → c.delivery.to ≢ to

abbrev pub AreElsewhere : ℕ → List Choice → Type 0
AreElsewhere to [] = Unit {0}
AreElsewhere to (c ∷ cs) = IsElsewhere to c × AreElsewhere to cs

-- the delivery was declined, and its receiver has received nothing since
abbrev pub IsExcluded : List Choice → Delivery → Type 0
IsExcluded walk d = (before after : List Choice) × (walk ≡ before ++ declining d ∷ after) × AreElsewhere d.to after

-- behind these receipts the next is from another process
abbrev pub IsNextFromAnother : List Received → List Received → ℕ → Type 0
IsNextFromAnother whole first q = (r : Received) × (rest : List Received) × (whole ≡ first ++ r ∷ rest) × (r.from ≢ q)

-- the run begins, up to the order of receipts of different processes, with what a walk takes, and with none that it has declined
pub record IsOpen (programs : List Program) (run : List Entry) (walk : List Choice) : Type 0 where
  pub live : List Entry
  pub legal : Legal programs live
  pub taken : deliveries_of live ≡ taken_of walk
  pub begins : (p : ℕ) → (rest : List Received) × (received p run ≡ received p live ++ rest)
  pub declined : (d : Delivery) → IsExcluded walk d → IsNextFromAnother (received d.to run) (received d.to live) d.from

-- the run is on the other side of a delivery that the walk took
abbrev pub IsLeft : List Program → List Entry → List Choice → Type 0
IsLeft programs run walk = (before after : List Choice) × (d : Delivery) × (walk ≡ before ++ taking d ∷ after)
    × IsOpen programs run (before ++ declining d ∷ [])

-- the run is on the way of the walk, or on the other side of something that it took
abbrev pub IsAhead : List Program → List Entry → List Choice → Type 0
IsAhead programs run walk = IsLeft programs run walk ⊎ IsOpen programs run walk

-- whatever was ahead of the one walk is ahead of the other
abbrev pub StaysAhead : List Program → List Choice → List Choice → Type 0
StaysAhead programs old new = (run : List Entry) → IsOver programs run → IsAhead programs run old → IsAhead programs run new

-- what was taken was received in the world
abbrev pub HasTaken : WorldState → List Choice → Type 0
HasTaken w walk = deliveries_of w.live ≡ taken_of walk

-- in the world nothing can be received but what is excluded
abbrev pub IsAtEnd : WorldState → List Choice → Type 0
IsAtEnd w walk = (e : Entry) → MayFollow w.programs w.live e → IsExcluded walk (record { from = e.from; to = e.to })

-- where the run is left, it is ahead of the next walk; and with no next walk none is left
abbrev pub TurnsTo : List Program → List Choice → List Choice → Type 0
TurnsTo programs old new = (run : List Entry) → IsLeft programs run old → IsAhead programs run new

abbrev pub LeavesNone : List Program → List Choice → Type 0
LeavesNone programs walk = (run : List Entry) → IsLeft programs run walk → ⊥

-- of the first n processes each keeps nothing for this one that was not received, or a delivery from it is excluded
abbrev pub IsPassedFrom : WorldState → List Choice → CoreState → ℕ → Type 0
IsPassedFrom w walk c n = (q : ℕ) → q < n → (d : CoreState) × (slice_get w.cores q ≡ Some (Some d)) × (d.own ≡ q)
    × (KeepsReceived d c ⊎ IsExcluded walk (record { from = q; to = c.own }))

-- the process is at rest, and where it waits, it can receive nothing but what is excluded
abbrev pub IsPassed : WorldState → List Choice → ℕ → ℕ → Type 0
IsPassed w walk n p = (c : CoreState) × (slice_get w.cores p ≡ Some (Some c)) × (c.own ≡ p) × (cluster_size c.now ≡ length w.programs)
    × IsAtRest (status_of (move_of c)) × (status_of (move_of c) ≡ Waiting → IsPassedFrom w walk c n)

-- a run in which the same was received was shown, or the run is ahead
abbrev pub IsSeenOrAhead : (List Entry → Type 0) → List Program → List Entry → List Choice → Type 0
IsSeenOrAhead HasSeen programs run walk = ((live : List Entry) × HasSeen live × IsSameRun run live) ⊎ IsAhead programs run walk

-- these runs were shown, and of every run that is over one that is the same is among them, or the run is ahead
abbrev pub AreSeenOrAhead : (List (List Entry) → Type 0) → List Program → List Choice → Type 0
AreSeenOrAhead HasSeen programs walk = (runs : List (List Entry)) × HasSeen runs
    × ((run : List Entry) → IsOver programs run → IsSeenOrAhead (IsAmong runs) programs run walk)

-- behind these runs that of the world was shown, or none, since one of its first n processes can still receive something
abbrev pub HasShown : (List (List Entry) → Type 0) → List (List Entry) → WorldState → ℕ → Type 0
HasShown HasSeen runs w n = HasSeen (runs ++ w.live ∷ []) ⊎ (HasSeen runs × IsGoingOn w n)

-- along these choices the world has come to an end
pub record IsWalked (programs : List Program) (old new : List Choice) (w : WorldState) : Type 0 where
  pub way : IsUnderWay programs w
  pub taken : HasTaken w new
  pub ended : IsAtEnd w new
  pub ahead : StaysAhead programs old new

-- the delivery is kept behind the others, where it is to another process
abbrev pub KeepsOther : List Delivery → Delivery → ℕ → List Delivery → Type 0
KeepsOther old d to new = (new ≡ old) ⊎ ((new ≡ old ++ d ∷ []) × (d.to ≢ to))
