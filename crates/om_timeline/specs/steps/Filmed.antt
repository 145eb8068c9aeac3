-- A tape as it is taken, event by event.
use Rattle.std.specs.Prelude.{◌≡◌, ℕ, ◌<◌, ◌≤◌, List, [], ◌∷◌, length, slice_get, take, IfSome, Option, None, Some}
use Rattle.om_format.specs.declared.message.Message.{Message}
use Rattle.om_machine.specs.State.{State}
use Rattle.om_process.specs.Core.{CoreState, cluster_size}
use Rattle.om_process.specs.declared.limits.TheConstants.{LAST_NUMBER}
use Rattle.om_world.specs.declared.event.Answer.{Answer}
use Rattle.om_world.specs.declared.event.Event.{Event}
use Rattle.om_world.specs.Holds.{Holds}
use Rattle.om_world.specs.Played.{Step}
use Rattle.om_world.specs.World.{IsKnown, WorldState}
use Rattle.om_timeline.specs.declared.deed.Deed.{Deed}
use Rattle.om_timeline.specs.declared.deed.Deed.TheVariants.{Nothing, Ran, Took, Fell, Back}
use Rattle.om_timeline.specs.declared.kind.Kind.{Kind}
use Rattle.om_timeline.specs.declared.kind.Kind.TheVariants as kinds
use Rattle.om_timeline.specs.declared.fault.PlayFault.{PlayFault}
use Rattle.om_timeline.specs.Alone.{turns_alone}
use Rattle.om_timeline.specs.Deeds.{after_deed, after_deeds, turns_in}
use Rattle.om_timeline.specs.Shown.{InRun, machine_of}
use Rattle.om_timeline.specs.steps.Kinds.{IsKind}
use Rattle.om_timeline.specs.steps.Parts.{PlayerState}

-- the frame of this number is from this process, with these bytes
pub record IsFrom (w : WorldState) (frame from : ℕ) (body : List ℕ) : Type 0 where
  pub message : Message
  pub there : slice_get w.frames frame ≡ Some message
  pub is_from : from ≡ message.from
  pub is_body : body ≡ message.body

-- there is no core of the process
abbrev pub IsNowhere : ℕ → WorldState → Type 0
IsNowhere p w = (c : CoreState) → slice_get w.cores p ≡ Some (Some c) → ⊥

-- the machine of the process
abbrev pub IsMachineAt : ℕ → WorldState → State → Type 0
IsMachineAt p w m = (c : CoreState) × (slice_get w.cores p ≡ Some (Some c)) × (m ≡ c.now.machine)

-- what is read of the world behind an event of a kind
abbrev pub IsDeed : Deed → ℕ → WorldState → Kind → Type 0
IsDeed Nothing p w kind = kind ≡ kinds.Nothing
IsDeed (Ran turns) p w kind = kind ≡ kinds.Ran turns
IsDeed (Took from body) p w kind = (frame : ℕ) × (kind ≡ kinds.Took frame) × IsFrom w frame from body
IsDeed Fell p w kind = IsNowhere p w
IsDeed (Back machine) p w kind = IsMachineAt p w machine

-- the process of a core is process p of n, and has taken no more turns than its messages have numbers
pub record IsSeat (p n : ℕ) (c : CoreState) : Type 0 where
  pub own : c.own ≡ p
  pub size : cluster_size c.now ≡ n
  pub few : c.now.machine.count ≤ LAST_NUMBER

-- so is each core that is there
abbrev pub HasSeat : ℕ → ℕ → WorldState → Type 0
HasSeat p n w = (c : CoreState) → slice_get w.cores p ≡ Some (Some c) → IsSeat p n c

-- the machine of the process, where it has a core, is this
abbrev pub HasMachine : ℕ → WorldState → State → Type 0
HasMachine p w m = (c : CoreState) → slice_get w.cores p ≡ Some (Some c) → c.now.machine ≡ m

-- a deed is what the event did, and each turn of it is one of the process
pub record IsTaken (p n : ℕ) (m : State) (old : WorldState) (e : Event) (deed : Deed) (new : WorldState) : Type 0 where
  pub shown : machine_of p m new ≡ after_deed p n m deed
  pub turns : (k : ℕ) → 0 < k → k ≤ turns_in deed → InRun p old (Some e) k m (turns_alone p n k m)

-- the deeds are those of the events, each with its answer
abbrev pub Filmed : ℕ → ℕ → State → WorldState → List Event → List Answer → List Deed → WorldState → Type 0
Filmed p n m old [] [] [] new = new ≡ old
Filmed p n m old (e ∷ events) (a ∷ answers) (deed ∷ deeds) new =
    (mid : WorldState) × Step old e a mid × IsTaken p n m old e deed mid × Filmed p n (after_deed p n m deed) mid events answers deeds new
Filmed p n m old events answers deeds new = ⊥

-- what is kept of a record: whose machine, what it was at first, the world at its start, the events, and what the first of them did
pub record TapeState : Type 0 where
  pub own : ℕ
  pub n : ℕ
  pub first : State
  pub begun : WorldState
  pub events : List Event
  pub deeds : List Deed

-- the deeds are those of the events up to this world
pub record IsFilmed (t : TapeState) (last : WorldState) : Type 0 where
  pub answers : List Answer
  pub filmed : Filmed t.own t.n t.first t.begun (take (length t.deeds) t.events) answers t.deeds last

-- the tape is filmed up to this world, which can be played on
pub record GoesOn (t : TapeState) (w : WorldState) : Type 0 where
  pub filmed : IsFilmed t w
  pub known : IsKnown w
  pub holds : Holds w
  pub seat : HasSeat t.own t.n w
  pub machine : HasMachine t.own w (after_deeds t.own t.n t.first t.deeds)

-- it is lost once a fault was met; a run that has begun is the next event
pub record IsTape (t : TapeState) (fault : Option PlayFault) (s : PlayerState) : Type 0 where
  pub within : length t.deeds ≤ length t.events
  pub last : WorldState
  pub filmed : IsFilmed t last
  pub goes_on : fault ≡ None → GoesOn t s.before
  pub begun : fault ≡ None → IfSome s.begun (λ event. slice_get t.events (length t.deeds) ≡ Some event)

-- an event was played, and this is what it did to the process
pub record IsNextDeed (p n : ℕ) (old : WorldState) (e : Event) (deed : Deed) (new : WorldState) : Type 0 where
  pub answer : Answer
  pub kind : Kind
  pub step : Step old e answer new
  pub known : IsKnown new
  pub seat : HasSeat p n new
  pub is_kind : IsKind p answer e kind
  pub is_deed : IsDeed deed p new kind

-- so it is read of the world behind the event
pub record IsRead (p n : ℕ) (e : Event) (answer : Answer) (deed : Deed) (w : WorldState) : Type 0 where
  pub kind : Kind
  pub seat : HasSeat p n w
  pub is_kind : IsKind p answer e kind
  pub is_deed : IsDeed deed p w kind

-- the deed of an event that was played, and behind which no run has begun
pub record IsPlayedDeed (p n : ℕ) (old : WorldState) (e : Event) (deed : Deed) (new : PlayerState) : Type 0 where
  pub over : new.begun ≡ None
  pub next : IsNextDeed p n old e deed new.before
