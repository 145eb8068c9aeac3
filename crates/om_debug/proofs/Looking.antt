-- How far back is looked for a stop.
use Rattle.std.proofs.Common.{◌≡◌, ℕ, ◌<◌, ◌≤◌, ◌⊎◌, inl, inr, List, [], ◌∷◌, length, Bool, true, false, refl, sym, ap, subst, ◌∙◌, arith}
use Rattle.std.specs.Prelude.{◌||◌, nat_lt}
use Rattle.std.proofs.lemmas.Bool.Decides.{nat_tests}
use Rattle.om_requests.specs.declared.request.Watch.{Watch}
use Rattle.om_timeline.specs.Timeline.{TimelineState}
use Rattle.om_debug.specs.Stops.{DebugState, IsBefore, IsFrom, IsLast, IsQuiet, has_stops, standing}
use Rattle.om_debug.proofs.Backwards.{free_quiet, still_stop}
use Rattle.om_debug.proofs.Quiet.{quiet_join, split}

-- ---- where nothing is set
none_set : (m n : ℕ) → (nat_lt 0 m || nat_lt 0 n) ≡ false → (m ≡ 0) × (n ≡ 0)
none_set m n none = grind (arith, nat_tests)

pub none_quiet : (d : DebugState) → has_stops d ≡ false → IsQuiet d.breaks d.watches d.timeline 0 0 d.timeline.event d.timeline.turns
none_quiet d none =
    let both = none_set (length d.breaks) (length d.watches) none in
    free_quiet d d.timeline.event d.timeline.turns both.0 both.1

-- ---- from an event on
from_first : (event e k : ℕ) → IsFrom event 0 e k → IsFrom 0 0 e k
from_first event e k from = elim (split 0 e) [ inl h ↦ inl h | inr h ↦ inr (omega (arith, h), omega arith) ]

pub quiet_from : (breaks : List ℕ) (watches : List Watch) (t : TimelineState) (event end done : ℕ) → IsQuiet breaks watches t 0 0 end done → IsQuiet breaks watches t event 0 end done
quiet_from breaks watches t event end done quiet = λ e k from before few. quiet e k (from_first event e k from) before few

behind_event : (last turns event e k : ℕ) → last < event → IsFrom event 0 e k → IsBefore last turns e k
behind_event last turns event e k earlier (inl less) = inl (omega (arith, earlier, less))
behind_event last turns event e k earlier (inr same) = let is = same.0 in inl (omega (arith, earlier, is))

-- what came last came before the event
pub last_quiet : (breaks : List ℕ) (watches : List Watch) (t : TimelineState) (last turns event end done : ℕ) → IsLast t.deeds last turns end done → last < event → IsQuiet breaks watches t event 0 end done
last_quiet breaks watches t last turns event end done is earlier = λ e k from before few.
    still_stop breaks watches t e k (is.still e k (behind_event last turns event e k earlier from) before few)

pub event_from : (event to done : ℕ) → event ≤ to → IsFrom event 0 to done
event_from event to done least = elim (split event to) [ inl h ↦ inl h | inr h ↦ inr (omega (arith, h, least), omega arith) ]

-- nothing stops from the event on up to where one came, and nothing from there on
pub looked_none : (old mid : DebugState) (event : ℕ) → mid ≡ standing old mid.timeline.event mid.timeline.turns
    → IsQuiet mid.breaks mid.watches mid.timeline mid.timeline.event mid.timeline.turns old.timeline.event old.timeline.turns
    → IsQuiet mid.breaks mid.watches mid.timeline event 0 mid.timeline.event mid.timeline.turns
    → IsQuiet old.breaks old.watches old.timeline event 0 old.timeline.event old.timeline.turns
looked_none old mid event stands far near =
    subst (λ (d : DebugState). IsQuiet d.breaks d.watches d.timeline event 0 old.timeline.event old.timeline.turns) stands
    (quiet_join mid.breaks mid.watches mid.timeline event 0 mid.timeline.event mid.timeline.turns old.timeline.event old.timeline.turns near far)
