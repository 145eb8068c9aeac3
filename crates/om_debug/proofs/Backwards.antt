-- Stops on the way back.
use Rattle.std.proofs.Common.{◌≡◌, ℕ, ◌+◌, ◌<◌, ◌≤◌, ◌⊎◌, inl, inr, List, [], ◌∷◌, length, Bool, true, false, Option, Some, None, refl, sym, ap, subst, ◌∙◌, arith}
use Rattle.std.specs.Prelude.{◌&&◌, ◌==◌, MatchOption, if◌then◌else◌, slice_get}
use Rattle.std.specs.List.{list_any}
use Rattle.om_machine.specs.State.{State}
use Rattle.om_requests.specs.declared.request.Watch.{Watch}
use Rattle.om_timeline.specs.declared.deed.Deed.{Deed}
use Rattle.om_timeline.specs.declared.deed.Deed.TheVariants.{Nothing, Ran, Took, Fell, Back}
use Rattle.om_timeline.specs.declared.timeline.Position.{Position}
use Rattle.om_timeline.specs.Deeds.{turns_at}
use Rattle.om_timeline.specs.Timeline.{TimelineState, at}
use Rattle.om_debug.specs.declared.moment.Next.{Next}
use Rattle.om_debug.specs.declared.moment.Next.TheVariants.{Still}
use Rattle.om_debug.specs.declared.moving.Part.{Part}
use Rattle.om_debug.specs.declared.moving.Part.TheVariants as parts
use Rattle.om_debug.specs.declared.stop.Stop.{Stop}
use Rattle.om_debug.specs.declared.stop.Stop.TheVariants as stops
use Rattle.om_debug.specs.Moments.{is_at_instruction, is_down, next_at, next_of_deed}
use Rattle.om_debug.specs.Stops.{DebugState, IsBefore, IsBehind, IsFrom, IsMoved, IsPartBack, IsQuiet, IsQuietBehind, IsRunBack, IsStillBefore, breaks_here, machine_at, standing, stop_at, stop_here, watch_at, watch_here, watch_stop, with_timeline}
use Rattle.om_debug.specs.Watching.{watch_met}
use Rattle.om_debug.specs.steps.Scanning.{IsLastBreak, IsLastWatch, IsOver, IsPart}
use Rattle.om_debug.proofs.Moved.{moved_at}
use Rattle.om_debug.proofs.Quiet.{end_quiet, inside_of, least_of, never, one_turn, only_event, order, quiet_join, rest_empty, split}

-- ---- positions
from_before : (e k x j : ℕ) → IsBefore e k x j → IsFrom e k x j
from_before e k x j (inl less) = inl less
from_before e k x j (inr same) = let less = same.1 in inr (same.0, omega (arith, less))

not_same : (e k x j : ℕ) → IsBefore e k x j → x ≡ e → j ≡ k → ⊥
not_same e k x j (inl less) event turns = omega (arith, less, event)
not_same e k x j (inr same) event turns = let less = same.1 in omega (arith, less, turns)

before_less : (x y g i f j : ℕ) → IsBefore x y g i → IsFrom g i f j → IsBefore x y f j
before_less x y g i f j (inl a) (inl b) = inl (omega (arith, a, b))
before_less x y g i f j (inl a) (inr b) = let same = b.0 in inl (omega (arith, a, same))
before_less x y g i f j (inr a) (inl b) = let same = a.0 in inl (omega (arith, b, same))
before_less x y g i f j (inr a) (inr b) = let u = a.1 in let v = b.1 in inr (a.0 ∙ b.0, omega (arith, u, v))

pub from_then : (x y g i f j : ℕ) → IsFrom x y g i → IsFrom g i f j → IsFrom x y f j
from_then x y g i f j (inl a) (inl b) = inl (omega (arith, a, b))
from_then x y g i f j (inl a) (inr b) = let same = b.0 in inl (omega (arith, a, same))
from_then x y g i f j (inr a) (inl b) = let same = a.0 in inl (omega (arith, b, same))
from_then x y g i f j (inr a) (inr b) = let u = a.1 in let v = b.1 in inr (a.0 ∙ b.0, omega (arith, u, v))

from_here : (x y : ℕ) → IsFrom x y x y
from_here x y = inr (refl, omega arith)

one_of : (all e k x j : ℕ) → (x ≡ e) → k ≤ j → j ≤ all → all ≤ k + 1 → ((x ≡ e) × (j ≡ k)) ⊎ ((x ≡ e) × (all ≡ j) × (0 < j))
one_of all e k x j same least few last =
    elim (split k j) [ inl less ↦ inr (same, omega (arith, less, few, last), omega (arith, less)) | inr most ↦ inl (same, omega (arith, least, most)) ]

-- what stands between a position and the one behind what comes next there: nothing but the end of the event
between : (ds : List Deed) (e k e2 k2 x j : ℕ) → IsBehind ds e k e2 k2 → IsFrom e k x j → IsBefore x j e2 k2 → j ≤ turns_at ds x
    → ((x ≡ e) × (j ≡ k)) ⊎ ((x ≡ e) × (turns_at ds e ≡ j) × (0 < j))
between ds e k e2 k2 x j (inl on) from before few =
    inl (one_turn e k x j from (subst (λ n. IsBefore x j e n) on.1 (subst (λ n. IsBefore x j n k2) on.0 before)))
between ds e k e2 k2 x j (inr over) from before few =
    let end : IsBefore x j (e + 1) 0 = subst (λ n. IsBefore x j (e + 1) n) over.1 (subst (λ n. IsBefore x j n k2) over.0 before) in
    let same : x ≡ e = only_event e k x j from end in
    one_of (turns_at ds e) e k x j same (least_of e k x j same from) (subst (λ y. j ≤ turns_at ds y) same few) over.2

-- ---- ways
quiet_next : (b : List ℕ) (w : List Watch) (t : TimelineState) (e k e2 k2 : ℕ) → stop_at b w t e k ≡ None → IsBehind t.deeds e k e2 k2 → IsQuiet b w t e k e2 k2
quiet_next b w t e k e2 k2 none behind = λ x j from before few.
    elim (between t.deeds e k e2 k2 x j behind from before few) [
      | inl h ↦ ap (λ y. stop_at b w t y j) h.0 ∙ ap (λ y. stop_at b w t e y) h.1 ∙ none
      | inr h ↦ ap (λ y. stop_at b w t y j) h.0 ∙ end_quiet b w t e j h.1 h.2
    ]

quiet_after : (b : List ℕ) (w : List Watch) (t : TimelineState) (e k e2 k2 : ℕ) → IsBehind t.deeds e k e2 k2 → IsQuietBehind b w t e k e2 k2
quiet_after b w t e k e2 k2 behind = λ x j after before few.
    elim (between t.deeds e k e2 k2 x j behind (from_before e k x j after) before few) [
      | inl h ↦ absurd (not_same e k x j after h.0 h.1)
      | inr h ↦ ap (λ y. stop_at b w t y j) h.0 ∙ end_quiet b w t e j h.1 h.2
    ]

behind_join : (b : List ℕ) (w : List Watch) (t : TimelineState) (e k f j g i : ℕ) → IsQuietBehind b w t e k f j → IsQuiet b w t f j g i → IsQuietBehind b w t e k g i
behind_join b w t e k f j g i first second = λ x y after before few.
    elim (order x y f j) [ inl h ↦ first x y after h few | inr h ↦ second x y h before few ]

shorter : (b : List ℕ) (w : List Watch) (t : TimelineState) (e k f j g i : ℕ) → IsFrom g i f j → IsQuiet b w t e k f j → IsQuiet b w t e k g i
shorter b w t e k f j g i less quiet = λ x y from before few. quiet x y from (before_less x y g i f j before less) few

shorter_behind : (b : List ℕ) (w : List Watch) (t : TimelineState) (e k f j g i : ℕ) → IsFrom g i f j → IsQuietBehind b w t e k f j → IsQuietBehind b w t e k g i
shorter_behind b w t e k f j g i less quiet = λ x y after before few. quiet x y after (before_less x y g i f j before less) few

-- ---- where nothing comes, nothing stops
stop_by : List ℕ → List Watch → State → Option Deed → Next → Option Stop
stop_by breaks watches m deed next =
    if is_at_instruction next && list_any (λ address. address == m.pc) breaks then Some stops.Break else watch_stop (watch_met watches m deed next)

still_of : (breaks : List ℕ) (watches : List Watch) (m : State) (down : Bool) (deed : Option Deed) (k : ℕ) → next_of_deed down deed k ≡ Still → stop_by breaks watches m deed (next_of_deed down deed k) ≡ None
unfolding stop_by
still_of breaks watches m down None k still = refl
still_of breaks watches m down (Some Nothing) k still = refl
still_of breaks watches m down (Some (Ran all)) k still = ap (stop_by breaks watches m (Some (Ran all))) still
still_of breaks watches m down (Some (Took from body)) k still = cc
still_of breaks watches m true (Some Fell) k still = refl
still_of breaks watches m false (Some Fell) k still = cc
still_of breaks watches m down (Some (Back machine)) k still = cc

pub still_stop : (b : List ℕ) (w : List Watch) (t : TimelineState) (e k : ℕ) → next_at t.deeds e k ≡ Still → stop_at b w t e k ≡ None
unfolding stop_by
still_stop b w t e k still = still_of b w (machine_at t e k) (is_down t.deeds e) (slice_get t.deeds e) k still

pub still_quiet : (b : List ℕ) (w : List Watch) (t : TimelineState) (end done : ℕ) → IsStillBefore t.deeds end done → IsQuiet b w t 0 0 end done
still_quiet b w t end done still = λ x y from before few. still_stop b w t x y (still x y before few)

pub free_quiet : (d : DebugState) (end done : ℕ) → length d.breaks ≡ 0 → length d.watches ≡ 0 → IsQuiet d.breaks d.watches d.timeline 0 0 end done
free_quiet d end done breaks watches = λ x y from before few. (rest_empty (standing d x 0) breaks watches).quiet y (omega arith) few

-- ---- over a part
pub part_start : (d : DebugState) (end done : ℕ) → IsPart d end done d.timeline.event d.timeline.turns parts.Quiet
part_start d end done = λ x y from before few. absurd (never x y d.timeline.event d.timeline.turns from before)

pub part_on : (d : DebugState) (end done e k e2 k2 : ℕ) (part : Part) → IsPart d end done e k part → stop_at d.breaks d.watches d.timeline e k ≡ None → IsBehind d.timeline.deeds e k e2 k2
    → IsPart d end done e2 k2 part
part_on d end done e k e2 k2 parts.Quiet known none behind =
    quiet_join d.breaks d.watches d.timeline d.timeline.event d.timeline.turns e k e2 k2 known (quiet_next d.breaks d.watches d.timeline e k e2 k2 none behind)
part_on d end done e k e2 k2 (parts.Breaks place) known none behind = record {
  before = known.before;
  within = known.within;
  few = known.few;
  stops = known.stops;
  unwatched = known.unwatched;
  quiet = behind_join d.breaks d.watches d.timeline place.event place.turns e k e2 k2 known.quiet (quiet_next d.breaks d.watches d.timeline e k e2 k2 none behind);
}
part_on d end done e k e2 k2 (parts.Meets place watch) known none behind = record {
  from = known.from;
  made = known.made;
  before = known.before;
  behind = known.behind;
  within = known.within;
  few = known.few;
  met = known.met;
  quiet = quiet_join d.breaks d.watches d.timeline place.event place.turns e k e2 k2 known.quiet (quiet_next d.breaks d.watches d.timeline e k e2 k2 none behind);
}
part_on d end done e k e2 k2 parts.Paused known none behind = tt

pub part_breaks : (d : DebugState) (end done e k e2 k2 : ℕ) (place : Position) → place.event ≡ e → place.turns ≡ k → IsBefore e k end done → e ≤ length d.timeline.deeds → k ≤ turns_at d.timeline.deeds e
    → stop_at d.breaks d.watches d.timeline e k ≡ Some stops.Break → watch_at d.watches d.timeline e k ≡ None → IsBehind d.timeline.deeds e k e2 k2
    → IsPart d end done e2 k2 (parts.Breaks place)
part_breaks d end done e k e2 k2 place event turns before within few stops unwatched behind =
    subst (λ x. IsLastBreak d end done x place.turns e2 k2) (sym event) (subst (λ x. IsLastBreak d end done e x e2 k2) (sym turns)
    (record { before = before; within = within; few = few; stops = stops; unwatched = unwatched; quiet = quiet_after d.breaks d.watches d.timeline e k e2 k2 behind }))

pub part_meets : (d : DebugState) (end done e k e2 k2 : ℕ) (place : Position) (watch : Watch) → place.event ≡ e2 → place.turns ≡ k2 → IsBefore e k end done → e2 ≤ length d.timeline.deeds → k2 ≤ turns_at d.timeline.deeds e2
    → watch_at d.watches d.timeline e k ≡ Some watch → IsBehind d.timeline.deeds e k e2 k2
    → IsPart d end done e2 k2 (parts.Meets place watch)
part_meets d end done e k e2 k2 place watch event turns before within few met behind =
    subst (λ x. IsLastWatch d end done x place.turns e2 k2 watch) (sym event) (subst (λ x. IsLastWatch d end done e2 x e2 k2 watch) (sym turns)
    (record {
      from = e;
      made = k;
      before = before;
      behind = behind;
      within = within;
      few = few;
      met = met;
      quiet = λ x y from less most. absurd (never x y e2 k2 from less);
    }))

pub part_end : (d : DebugState) (end done e k : ℕ) (part : Part) → IsFrom end done e k → IsPart d end done e k part → IsPart d end done end done part
part_end d end done e k parts.Quiet past known = shorter d.breaks d.watches d.timeline d.timeline.event d.timeline.turns e k end done past known
part_end d end done e k (parts.Breaks place) past known = record {
  before = known.before;
  within = known.within;
  few = known.few;
  stops = known.stops;
  unwatched = known.unwatched;
  quiet = shorter_behind d.breaks d.watches d.timeline place.event place.turns e k end done past known.quiet;
}
part_end d end done e k (parts.Meets place watch) past known = record {
  from = known.from;
  made = known.made;
  before = known.before;
  behind = known.behind;
  within = known.within;
  few = known.few;
  met = known.met;
  quiet = shorter d.breaks d.watches d.timeline place.event place.turns e k end done past known.quiet;
}
part_end d end done e k parts.Paused past known = tt

-- ---- at other positions of one tape
pub stands_not : (d : DebugState) → d ≡ standing d d.timeline.event d.timeline.turns
stands_not d = refl

pub stands_then : (a b c : DebugState) → b ≡ standing a b.timeline.event b.timeline.turns → c ≡ standing b c.timeline.event c.timeline.turns → c ≡ standing a c.timeline.event c.timeline.turns
stands_then a b c first second = second ∙ ap (λ (d : DebugState). standing d c.timeline.event c.timeline.turns) first

pub stands_moved : (a b : DebugState) → b ≡ standing a b.timeline.event b.timeline.turns → IsMoved a.timeline b.timeline
stands_moved a b stands = moved_at a.timeline b.timeline b.timeline.event b.timeline.turns (ap (λ (d : DebugState). d.timeline) stands)

pub stands_same : (a b : DebugState) → b ≡ standing a b.timeline.event b.timeline.turns → b ≡ with_timeline a b.timeline
stands_same a b stands = stands ∙ ap (λ t. with_timeline a t) (sym (ap (λ (d : DebugState). d.timeline) stands))

-- ---- over all
pub run_start : (d : DebugState) → IsQuiet d.breaks d.watches d.timeline d.timeline.event d.timeline.turns d.timeline.event d.timeline.turns
run_start d = λ x y from before few. absurd (never x y d.timeline.event d.timeline.turns from before)

-- the same of a tape of which another position is taken
quiet_at : (a b : DebugState) (e k f j : ℕ) → b ≡ standing a b.timeline.event b.timeline.turns → IsQuiet a.breaks a.watches a.timeline e k f j → IsQuiet b.breaks b.watches b.timeline e k f j
quiet_at a b e k f j stands quiet = subst (λ (d : DebugState). IsQuiet d.breaks d.watches d.timeline e k f j) (sym stands) quiet

pub run_more : (a b c : DebugState) → b ≡ standing a b.timeline.event b.timeline.turns → c ≡ standing b c.timeline.event c.timeline.turns
    → IsQuiet b.breaks b.watches b.timeline b.timeline.event b.timeline.turns a.timeline.event a.timeline.turns
    → IsQuiet c.breaks c.watches c.timeline c.timeline.event c.timeline.turns b.timeline.event b.timeline.turns
    → IsQuiet c.breaks c.watches c.timeline c.timeline.event c.timeline.turns a.timeline.event a.timeline.turns
run_more a b c first second far near =
    quiet_join c.breaks c.watches c.timeline c.timeline.event c.timeline.turns b.timeline.event b.timeline.turns a.timeline.event a.timeline.turns near
    (quiet_at b c b.timeline.event b.timeline.turns a.timeline.event a.timeline.turns second far)

-- a stop on the way back to b is one on the way back from a, if nothing stops between b and a
pub run_stop : (a b c : DebugState) (stop : Stop) → c ≡ standing b c.timeline.event c.timeline.turns → IsFrom b.timeline.event b.timeline.turns a.timeline.event a.timeline.turns
    → IsQuiet b.breaks b.watches b.timeline b.timeline.event b.timeline.turns a.timeline.event a.timeline.turns → IsRunBack b c stop → IsRunBack a c stop
run_stop a b c stops.Break stands order quiet back = (
  before_less c.timeline.event c.timeline.turns b.timeline.event b.timeline.turns a.timeline.event a.timeline.turns back.0 order,
  back.1,
  back.2,
  behind_join c.breaks c.watches c.timeline c.timeline.event c.timeline.turns b.timeline.event b.timeline.turns a.timeline.event a.timeline.turns back.3
      (quiet_at b c b.timeline.event b.timeline.turns a.timeline.event a.timeline.turns stands quiet),
)
run_stop a b c (stops.Watched watch) stands order quiet back = (
  (
    back.0.0,
    back.0.1,
    before_less back.0.0 back.0.1 b.timeline.event b.timeline.turns a.timeline.event a.timeline.turns back.0.2 order,
    back.0.3,
    back.0.4,
  ),
  quiet_join c.breaks c.watches c.timeline c.timeline.event c.timeline.turns b.timeline.event b.timeline.turns a.timeline.event a.timeline.turns back.1
      (quiet_at b c b.timeline.event b.timeline.turns a.timeline.event a.timeline.turns stands quiet),
)
run_stop a b c stops.Begin stands order quiet back = (
  back.0,
  back.1,
  quiet_join c.breaks c.watches c.timeline 0 0 b.timeline.event b.timeline.turns a.timeline.event a.timeline.turns back.2
      (quiet_at b c b.timeline.event b.timeline.turns a.timeline.event a.timeline.turns stands quiet),
)
run_stop a b c stops.Paused stands order quiet back = (
  from_then c.timeline.event c.timeline.turns b.timeline.event b.timeline.turns a.timeline.event a.timeline.turns back.0 order,
  quiet_join c.breaks c.watches c.timeline c.timeline.event c.timeline.turns b.timeline.event b.timeline.turns a.timeline.event a.timeline.turns back.1
      (quiet_at b c b.timeline.event b.timeline.turns a.timeline.event a.timeline.turns stands quiet),
)
run_stop a b c stops.Here stands order quiet back = absurd back
run_stop a b c stops.Stepped stands order quiet back = absurd back
run_stop a b c stops.Failed stands order quiet back = absurd back
run_stop a b c (stops.Trapped cause) stands order quiet back = absurd back
run_stop a b c stops.End stands order quiet back = absurd back

-- a position before one that was played has an event
pub inside_standing : (a b : DebugState) (end done : ℕ) → b ≡ standing a b.timeline.event b.timeline.turns → IsBefore b.timeline.event b.timeline.turns end done → end ≤ length a.timeline.deeds
    → done ≤ turns_at a.timeline.deeds end → b.timeline.event < length b.timeline.deeds
inside_standing a b end done stands before within few =
    subst (λ (d : DebugState). b.timeline.event < length d.timeline.deeds) (sym stands)
    (inside_of (at a.timeline end done) b.timeline.event b.timeline.turns before (record { played = within; few = few }))

-- ---- what comes next is made
on_tape : (d old : DebugState) (e k e2 k2 : ℕ) → old ≡ standing d e k → IsBehind old.timeline.deeds e k e2 k2 → IsBehind d.timeline.deeds e k e2 k2
on_tape d old e k e2 k2 same behind = subst (λ (x : DebugState). IsBehind x.timeline.deeds e k e2 k2) same behind

pub over_on : (old new : DebugState) (last : Part) → stop_here old ≡ None → IsBehind old.timeline.deeds old.timeline.event old.timeline.turns new.timeline.event new.timeline.turns → IsOver old new last last
over_on old new last none behind = λ d end done same before known.
    part_on d end done old.timeline.event old.timeline.turns new.timeline.event new.timeline.turns last known
    (ap stop_here (sym same) ∙ none)
    (on_tape d old old.timeline.event old.timeline.turns new.timeline.event new.timeline.turns same behind)

pub over_breaks : (old new : DebugState) (last : Part) (place : Position) → place.event ≡ old.timeline.event → place.turns ≡ old.timeline.turns → old.timeline.event ≤ length old.timeline.deeds → old.timeline.turns ≤ turns_at old.timeline.deeds old.timeline.event
    → stop_here old ≡ Some stops.Break → watch_here old ≡ None → IsBehind old.timeline.deeds old.timeline.event old.timeline.turns new.timeline.event new.timeline.turns
    → IsOver old new last (parts.Breaks place)
over_breaks old new last place event turns within few stops unwatched behind = λ d end done same before known.
    let e : ℕ = old.timeline.event in
    let k : ℕ = old.timeline.turns in
    let deeds : old.timeline.deeds ≡ d.timeline.deeds = ap (λ (x : DebugState). x.timeline.deeds) same in
    part_breaks d end done e k new.timeline.event new.timeline.turns place event turns before
    (subst (λ ds. e ≤ length ds) deeds within) (subst (λ ds. k ≤ turns_at ds e) deeds few)
    (ap stop_here (sym same) ∙ stops) (ap watch_here (sym same) ∙ unwatched)
    (on_tape d old e k new.timeline.event new.timeline.turns same behind)

pub over_meets : (old new : DebugState) (last : Part) (place : Position) (watch : Watch) → place.event ≡ new.timeline.event → place.turns ≡ new.timeline.turns → new.timeline.event ≤ length new.timeline.deeds → new.timeline.turns ≤ turns_at new.timeline.deeds new.timeline.event
    → new ≡ standing old new.timeline.event new.timeline.turns → watch_here old ≡ Some watch → IsBehind old.timeline.deeds old.timeline.event old.timeline.turns new.timeline.event new.timeline.turns
    → IsOver old new last (parts.Meets place watch)
over_meets old new last place watch event turns within few stands met behind = λ d end done same before known.
    let e : ℕ = old.timeline.event in
    let k : ℕ = old.timeline.turns in
    let e2 : ℕ = new.timeline.event in
    let k2 : ℕ = new.timeline.turns in
    let deeds : new.timeline.deeds ≡ d.timeline.deeds = ap (λ (x : DebugState). x.timeline.deeds) stands ∙ ap (λ (x : DebugState). x.timeline.deeds) same in
    part_meets d end done e k e2 k2 place watch event turns before
    (subst (λ ds. e2 ≤ length ds) deeds within) (subst (λ ds. k2 ≤ turns_at ds e2) deeds few)
    (ap watch_here (sym same) ∙ met)
    (on_tape d old e k e2 k2 same behind)

-- by what was read before
pub breaks_stop : (d : DebugState) → breaks_here d ≡ true → stop_here d ≡ Some stops.Break
breaks_stop d is = ap (λ b. if b then Some stops.Break else watch_stop (watch_here d)) is

pub none_stop : (d : DebugState) → breaks_here d ≡ false → watch_here d ≡ None → stop_here d ≡ None
none_stop d breaks watch = ap (λ b. if b then Some stops.Break else watch_stop (watch_here d)) breaks ∙ ap watch_stop watch

-- ---- from the end of a part
pub back_begin : (old new : DebugState) → new ≡ standing old 0 0 → IsQuiet old.breaks old.watches old.timeline 0 0 old.timeline.event old.timeline.turns → IsRunBack old new stops.Begin
back_begin old new is quiet = subst (λ d. IsRunBack old d stops.Begin) (sym is) (refl, refl, quiet)

pub back_paused : (old new : DebugState) (end : Position) → end.event ≡ old.timeline.event → end.turns ≡ old.timeline.turns → new ≡ standing old end.event end.turns → IsRunBack old new stops.Paused
back_paused old new end event turns is =
    let there : new ≡ old = is ∙ ap (λ e. standing old e end.turns) event ∙ ap (λ k. standing old old.timeline.event k) turns in
    subst (λ d. IsRunBack old d stops.Paused) (sym there) (from_here old.timeline.event old.timeline.turns, run_start old)

pub back_quiet : (old begun new : DebugState) (begin end : Position) → begin.event ≡ begun.timeline.event → begin.turns ≡ begun.timeline.turns → end.event ≡ old.timeline.event → end.turns ≡ old.timeline.turns
    → IsFrom begun.timeline.event begun.timeline.turns old.timeline.event old.timeline.turns → new ≡ standing begun begin.event begin.turns → IsPart begun end.event end.turns end.event end.turns parts.Quiet → IsPartBack old new None
back_quiet old begun new begin end event turns to done order is quiet =
    let there : new ≡ begun = is ∙ ap (λ e. standing begun e begin.turns) event ∙ ap (λ k. standing begun begun.timeline.event k) turns in
    subst (λ d. IsPartBack old d None) (sym there) (
      order,
      subst (λ k. IsQuiet begun.breaks begun.watches begun.timeline begun.timeline.event begun.timeline.turns old.timeline.event k) done
          (subst (λ e. IsQuiet begun.breaks begun.watches begun.timeline begun.timeline.event begun.timeline.turns e end.turns) to quiet),
    )

back_break_at : (old begun new : DebugState) (place : Position) → new ≡ standing begun place.event place.turns → IsLastBreak begun old.timeline.event old.timeline.turns place.event place.turns old.timeline.event old.timeline.turns → IsRunBack old new stops.Break
back_break_at old begun new place is last = subst (λ d. IsRunBack old d stops.Break) (sym is) (last.before, last.stops, last.unwatched, last.quiet)

pub back_breaks : (old begun new : DebugState) (end place : Position) → end.event ≡ old.timeline.event → end.turns ≡ old.timeline.turns → new ≡ standing begun place.event place.turns
    → IsPart begun end.event end.turns end.event end.turns (parts.Breaks place) → IsRunBack old new stops.Break
back_breaks old begun new end place to done is last =
    back_break_at old begun new place is
    (subst (λ k. IsLastBreak begun old.timeline.event k place.event place.turns old.timeline.event k) done
    (subst (λ e. IsLastBreak begun e end.turns place.event place.turns e end.turns) to last))

back_meet_at : (old begun new : DebugState) (place : Position) (watch : Watch) → new ≡ standing begun place.event place.turns → IsLastWatch begun old.timeline.event old.timeline.turns place.event place.turns old.timeline.event old.timeline.turns watch
    → IsRunBack old new (stops.Watched watch)
back_meet_at old begun new place watch is last =
    subst (λ d. IsRunBack old d (stops.Watched watch)) (sym is) ((last.from, last.made, last.before, last.behind, last.met), last.quiet)

pub back_meets : (old begun new : DebugState) (end place : Position) (watch : Watch) → end.event ≡ old.timeline.event → end.turns ≡ old.timeline.turns → new ≡ standing begun place.event place.turns
    → IsPart begun end.event end.turns end.event end.turns (parts.Meets place watch) → IsRunBack old new (stops.Watched watch)
back_meets old begun new end place watch to done is last =
    back_meet_at old begun new place watch is
    (subst (λ k. IsLastWatch begun old.timeline.event k place.event place.turns old.timeline.event k watch) done
    (subst (λ e. IsLastWatch begun e end.turns place.event place.turns e end.turns watch) to last))

-- a position of a tape, wherever else the process stands on it
pub again_at : (a b c : DebugState) (e k : ℕ) → b ≡ standing a b.timeline.event b.timeline.turns → c ≡ standing b e k → c ≡ standing a e k
again_at a b c e k first second = second ∙ ap (λ (d : DebugState). standing d e k) first
