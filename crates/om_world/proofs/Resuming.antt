-- What a resume does, by its calls.
use Rattle.std.proofs.Common.{◌≡◌, ◌⊎◌, inl, inr, ℕ, ◌<◌, length, List, [], Some, None, Bool, true, false, Ok, refl, sym, ap, ◌∙◌, subst, arith, set}
use Rattle.std.specs.Prelude.{All, slice_get, slice_index}
use Rattle.om_interval.specs.Starts.{is_named, newest_of}
use Rattle.om_stable.specs.Content.{kept_by_cut}
use Rattle.om_process.specs.declared.replay.ReplayFault.{ReplayFault}
use Rattle.om_process.specs.declared.replay.ReplayFault.TheVariants.{NoCheckpoint, Damaged, MissingReceipt, Mismatch, Fault, Memory}
use Rattle.om_process.specs.Core.{CoreState}
use Rattle.om_process.specs.Stored.{IsReplay}
use Rattle.om_manager.specs.Sound.{KeepsReleased}
use Rattle.om_manager.specs.State.{ManagerState, process_count}
use Rattle.om_world.specs.declared.event.Answer.TheVariants as answers
use Rattle.om_world.specs.declared.event.Event.{Event}
use Rattle.om_world.specs.declared.process_state.ProcessState.{ProcessState}
use Rattle.om_world.specs.Changes.{HasFailed, IsSame, IsUp, NoneFell, RoseAt}
use Rattle.om_world.specs.Failures.{BackHappened, BackStopped, HasNews, IsToComeBack, down, put_up, rolled_back, taken_down}
use Rattle.om_world.specs.Happened.{Happened}
use Rattle.om_world.specs.Played.{IsCounted}
use Rattle.om_world.specs.World.{WorldState, IsEmpty, IsKnown, all_clean, recovered}
use Rattle.om_world.specs.steps.Moves.{Keeps, refusal_of_replay}
use Rattle.om_world.specs.steps.Returning.{HasLeft, IsBeyond, IsDue, Returns, StaysDown}
use Rattle.om_world.specs.steps.Sound.{IsWorld}
use Rattle.om_world.proofs.FailureCounts.{damaged_apart, memory_apart}
use Rattle.om_world.proofs.Keeping.{keeps_same}
use Rattle.om_world.proofs.Recording.{set_twice}
use Rattle.om_world.proofs.Returning.{is_beyond}

-- ---- the world from which it comes back: as it was, or with the process taken down
abbrev IsFrom : WorldState → ℕ → WorldState → Type 0
IsFrom w p mid = (mid ≡ w) ⊎ (mid ≡ taken_down w p false)

down_or_in : (declared : Bool) → Some (ProcessState.Down declared) ≡ Some ProcessState.In → ⊥
down_or_in declared e = cc

from_left : (w mid : WorldState) (p : ℕ) → IsToComeBack w p → HasLeft w p mid → IsFrom w p mid
from_left w mid p (down declared place news) left = inl (left.1 (λ joined. down_or_in declared (sym place ∙ joined)))
from_left w mid p (rolled_back joined news back) left = inr (left.0 joined)

record Alike (w mid : WorldState) : Type 0 where
  programs : mid.programs ≡ w.programs
  rounds : mid.rounds ≡ w.rounds
  manager : mid.manager ≡ w.manager
  contents : mid.contents ≡ w.contents
  health : mid.health ≡ w.health
  origins : mid.origins ≡ w.origins

alike : (w mid : WorldState) (p : ℕ) → IsFrom w p mid → Alike w mid
alike w mid p from = elim from [ inl same ↦ subst (Alike w) (sym same) (record { programs = refl; rounds = refl; manager = refl; contents = refl; health = refl; origins = refl }) | inr same ↦ subst (Alike w) (sym same) (record { programs = refl; rounds = refl; manager = refl; contents = refl; health = refl; origins = refl }) ]

-- the process comes up the same from both
same_up : (w mid : WorldState) (p : ℕ) (core : CoreState) → IsFrom w p mid → put_up mid p core ≡ put_up w p core
same_up w mid p core from = elim from [
  | inl same ↦ ap (λ x. put_up x p core) same
  | inr same ↦ ap (λ x. put_up x p core) same
      ∙ ap (λ l. record (put_up w p core) { cores = l; places = set (set w.places p (ProcessState.Down false)) p ProcessState.Up }) (set_twice w.cores p None (Some core))
      ∙ ap (λ l. record (put_up w p core) { places = l }) (set_twice w.places p (ProcessState.Down false) ProcessState.Up)
]

known_then : (w mid v : WorldState) (p : ℕ) → IsFrom w p mid → v.origins ≡ mid.origins → (all_clean v.health ≡ true → all_clean mid.health ≡ true) → IsKnown v → IsKnown w
known_then w mid v p from origins clean known =
    let a = alike w mid p from in (subst (All IsEmpty) (origins ∙ a.origins) known.0, subst (λ l. all_clean l ≡ true) a.health (clean known.1))

-- ---- it came back
all_back : (p inc : ℕ) (m : ManagerState) (c : CoreState) → c.own ≡ p → c.log ≡ [] → c.pending ≡ [] → c.inc ≡ inc → c.round ≡ m.round → c.starts ≡ m.starts
    → c ≡ record { own = p; now = c.now; log = []; pending = []; inc = inc; round = m.round; starts = m.starts }
all_back p inc m c own log pending is_inc round starts =
    ap (λ a. record c { own = a }) own
    ∙ ap (λ a. record c { own = p; log = a }) log
    ∙ ap (λ a. record c { own = p; log = []; pending = a }) pending
    ∙ ap (λ a. record c { own = p; log = []; pending = []; inc = a }) is_inc
    ∙ ap (λ a. record c { own = p; log = []; pending = []; inc = inc; round = a }) round
    ∙ ap (λ a. record c { own = p; log = []; pending = []; inc = inc; round = m.round; starts = a }) starts

pub back_happened : (w mid v : WorldState) (p interval inc : ℕ) → IsToComeBack w p → (IsKnown w → IsBeyond w p) → HasLeft w p mid → Returns mid p (Ok (interval, inc)) v → IsKnown v → BackHappened w p interval inc v
back_happened w mid v p interval inc due beyond left r known =
    let from = from_left w mid p due left in
    let a = alike w mid p from in
    let core = r.0 in let h = r.1 in
    let was = known_then w mid v p from (ap (λ (x : WorldState). x.origins) h.others) h.was_clean known in
    let d = h.did known in
    let at : interval ≡ slice_index mid.manager.last p = r.2 ∙ d.3 in
    record {
      due = due;
      beyond = λ c joined is. was_beyond w p c due (beyond was) joined is;
      place = at ∙ ap (λ (m : ManagerState). slice_index m.last p) a.manager;
      newest = r.3 ∙ h.back.inc ∙ ap (λ (m : ManagerState). newest_of m.starts p) a.manager;
      core = core;
      at = sym r.2;
      rest = all_back p inc w.manager core h.back.own h.back.log h.back.pending (sym r.3)
          (h.back.round ∙ ap (λ (m : ManagerState). m.round) a.manager) (h.back.starts ∙ ap (λ (m : ManagerState). m.starts) a.manager);
      before = d.0;
      is_before = ap (λ l. slice_get l p) (sym a.contents) ∙ d.1;
      replay = subst (λ x. IsReplay d.0 x core) (sym at) d.2;
      contents = d.4 ∙ ap (λ l. set l p (kept_by_cut d.0 (slice_index mid.manager.last p))) a.contents ∙ ap (λ x. set w.contents p (kept_by_cut d.0 x)) (sym at);
      others = h.others ∙ ap (λ (x : WorldState). record x { contents = v.contents; health = v.health }) (same_up w mid p core from);
    }
  where
    was_beyond : (w : WorldState) (p : ℕ) (c : CoreState) → IsToComeBack w p → IsBeyond w p → slice_get w.places p ≡ Some ProcessState.In → slice_get w.cores p ≡ Some (Some c) → recovered w.manager p < c.now.interval
    was_beyond w p c (down declared place news) beyond joined is = absurd (down_or_in declared (sym place ∙ joined))
    was_beyond w p c (rolled_back joined news back) beyond in_too is = beyond c joined is news back

-- ---- it did not
stopped : (w mid v : WorldState) (p : ℕ) → IsToComeBack w p → HasLeft w p mid → IsSame mid v → BackStopped w p v
stopped w mid v p (down declared place news) left same = (down declared place news, inl (declared, place, subst (λ (x : WorldState). IsSame x v) (left.1 (λ joined. down_or_in declared (sym place ∙ joined))) same))
stopped w mid v p (rolled_back joined news back) left same = (rolled_back joined news back, inr (joined, subst (λ (x : WorldState). IsSame x v) (left.0 joined) same))

failed_from : (w mid v : WorldState) (p : ℕ) → IsToComeBack w p → HasLeft w p mid → StaysDown mid p Fault v → HasFailed w p v
failed_from w mid v p due left d = subst (λ l. RoseAt l p v.health) (alike w mid p (from_left w mid p due left)).health (d.counted refl)

pub back_stopped : (w mid v : WorldState) (p : ℕ) (fault : ReplayFault) → IsToComeBack w p → HasLeft w p mid → StaysDown mid p fault v → IsKnown v → Happened w (Event.Resume p) (answers.Refused (refusal_of_replay fault)) v
back_stopped w mid v p why due left d known =
    let s = stopped w mid v p due left (d.others ∙ ap (λ l. record mid { contents = l; health = v.health }) (d.same known)) in
    elim (d.why known) [
      | inl is ↦ subst (λ f. Happened w (Event.Resume p) (answers.Refused (refusal_of_replay f)) v) (sym is)
          (failed_from w mid v p due left (subst (λ f. StaysDown mid p f v) is d), s)
      | inr is ↦ subst (λ f. Happened w (Event.Resume p) (answers.Refused (refusal_of_replay f)) v) (sym is) (inl s)
    ]

pub back_counted : (w mid v : WorldState) (p : ℕ) (fault : ReplayFault) → IsToComeBack w p → HasLeft w p mid → StaysDown mid p fault v → IsCounted w v (answers.Refused (refusal_of_replay fault))
back_counted w mid v p Fault due left d = λ is. (p, failed_from w mid v p due left d)
back_counted w mid v p NoCheckpoint due left d = λ is. absurd (damaged_apart is)
back_counted w mid v p (Damaged y) due left d = λ is. absurd (damaged_apart is)
back_counted w mid v p (MissingReceipt y) due left d = λ is. absurd (damaged_apart is)
back_counted w mid v p (Mismatch y) due left d = λ is. absurd (damaged_apart is)
back_counted w mid v p Memory due left d = λ is. absurd (memory_apart is)

-- ---- what it leaves
left_keeps : (w mid v : WorldState) (p : ℕ) → IsToComeBack w p → HasLeft w p mid → v.manager ≡ mid.manager → v.origins ≡ mid.origins → (all_clean v.health ≡ true → all_clean mid.health ≡ true) → NoneFell mid.health v.health → Keeps w v
left_keeps w mid v p due left manager origins clean counts =
    let a = alike w mid p (from_left w mid p due left) in
    record {
      size = ap process_count (manager ∙ a.manager);
      released = subst (λ m. KeepsReleased w.manager m) (sym (manager ∙ a.manager)) (keeps_same w.manager);
      clean = λ all. subst (λ l. all_clean l ≡ true) a.health (clean all);
      counts = subst (λ l. NoneFell l v.health) a.health counts;
      origins = origins ∙ a.origins;
    }

pub back_keeps : (w mid v : WorldState) (p interval inc : ℕ) → IsToComeBack w p → HasLeft w p mid → Returns mid p (Ok (interval, inc)) v → Keeps w v
back_keeps w mid v p interval inc due left r = let h = r.1 in
    left_keeps w mid v p due left (ap (λ (x : WorldState). x.manager) h.others) (ap (λ (x : WorldState). x.origins) h.others) h.was_clean h.counts

pub stays_keeps : (w mid v : WorldState) (p : ℕ) (fault : ReplayFault) → IsToComeBack w p → HasLeft w p mid → StaysDown mid p fault v → Keeps w v
stays_keeps w mid v p why due left d =
    left_keeps w mid v p due left (ap (λ (x : WorldState). x.manager) d.others) (ap (λ (x : WorldState). x.origins) d.others) d.was_clean d.counts

-- ---- who is to come up again
pub no_news : {S : Type 0} (IsSound : S → Type 0) (xs : List S) (w : WorldState) (p : ℕ) → IsWorld IsSound xs w → IsUp w p → HasNews w p → IsKnown w → ⊥
no_news IsSound xs w p i up news known = let same = (i.clean known).1.current p up in omega arith

pub due_in : (w : WorldState) (p : ℕ) (back : Bool) → slice_get w.places p ≡ Some ProcessState.In → HasNews w p → back ≡ is_named w.manager.backs p → IsDue w p back
due_in w p true joined news is = rolled_back joined news (sym is)
due_in w p false joined news is = record { joined = joined; news = news; kept = sym is }

pub world_beyond : {S : Type 0} (IsSound : S → Type 0) (xs : List S) (w : WorldState) (p : ℕ) → IsWorld IsSound xs w → p < length w.programs → IsKnown w → IsBeyond w p
world_beyond IsSound xs w p i lt known = is_beyond w p i.shape (i.clean known).1 lt
