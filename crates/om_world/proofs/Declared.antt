-- What a failure that is declared comes to.
use Rattle.std.proofs.Common.{◌≡◌, ◌≢◌, ℕ, ◌<◌, List, Option, Some, true, false, Result, Ok, Err, sym, ap, ◌∙◌, subst, arith}
use Rattle.std.specs.Prelude.{All, slice_get, slice_index}
use Rattle.std.proofs.lemmas.List.{set-set}
use Rattle.om_manager.specs.Rounds.{Gathers}
use Rattle.om_manager.specs.steps.Presences.{with_failed}
use Rattle.om_manager.specs.Sound.{KeepsReleased}
use Rattle.om_manager.specs.State.{ManagerState, process_count}
use Rattle.om_manager.specs.declared.answers.FailError.{FailError}
use Rattle.om_manager.specs.declared.answers.FailError.TheVariants as failing
use Rattle.om_manager.specs.declared.answers.Gathered.{Gathered}
use Rattle.om_world.specs.declared.event.Answer.{Answer}
use Rattle.om_world.specs.declared.event.Answer.TheVariants as answers
use Rattle.om_world.specs.declared.event.Event.{Event}
use Rattle.om_world.specs.declared.event.Refusal.{Refusal}
use Rattle.om_world.specs.declared.process_state.ProcessState.{ProcessState}
use Rattle.om_world.specs.Failures.{HasNews, IsToDeclare, gathered, taken_down}
use Rattle.om_world.specs.Happened.{Happened}
use Rattle.om_world.specs.World.{IsEmpty, IsKnown, WorldState, all_clean}
use Rattle.om_world.specs.steps.Gathering.{HasDeclaredAt, IsWhyNot, declared}
use Rattle.om_world.specs.steps.Moves.{Keeps, answered, refusal_of_failure}
use Rattle.om_world.specs.steps.Sound.{IsWorld}
use Rattle.om_world.proofs.FailureCounts.{counts_by}
use Rattle.om_world.proofs.Declaring.{here}
use Rattle.om_world.proofs.Keeping.{keeps_by}
use Rattle.om_world.proofs.Lists.{inside, once}

-- what the stores hold is as well known as before
pub known_by : (a b : WorldState) → b.origins ≡ a.origins → b.health ≡ a.health → IsKnown b → IsKnown a
known_by a b origins health known = (subst (All IsEmpty) origins known.0, ap all_clean (sym health) ∙ known.1)

known_down : (w v : WorldState) (p : ℕ) → v ≡ taken_down w p false → IsKnown v → IsKnown w
known_down w v p e = known_by w v (ap (λ (x : WorldState). x.origins) e) (ap (λ (x : WorldState). x.health) e)

known_declared : (v z : WorldState) (p : ℕ) (told : Gathered) → HasDeclaredAt v p (Ok told) z → IsKnown z → IsKnown v
known_declared v z p told h = known_by v z (ap (λ (x : WorldState). x.origins) h.others) (ap (λ (x : WorldState). x.health) h.others)

pub fail_happened : (w v z : WorldState) (p : ℕ) (told : Gathered) → IsToDeclare w p → v ≡ taken_down w p false → HasDeclaredAt v p (Ok told) z → IsKnown z → Happened w (Event.Fail p) (answers.Gathered told) z
fail_happened w v z p told due e h known = (
  due,
  subst (λ (m : ManagerState). Gathers (with_failed m p) m told z.manager) (ap (λ (x : WorldState). x.manager) e) (h.manager (known_declared v z p told h known)),
  h.others ∙ ap (λ (x : WorldState). gathered (declared x p) told z.manager) e
      ∙ ap (λ l. gathered (record (taken_down w p true) { places = l }) told z.manager) (set-set w.places p (ProcessState.Down false) (ProcessState.Down true)),
)

pub fail_keeps : (w v z : WorldState) (p : ℕ) (told : Gathered) → v ≡ taken_down w p false → HasDeclaredAt v p (Ok told) z → Keeps w z
fail_keeps w v z p told e h = record {
  size = h.size ∙ ap (λ (x : WorldState). process_count x.manager) e;
  released = subst (λ (m : ManagerState). KeepsReleased m z.manager) (ap (λ (x : WorldState). x.manager) e) h.released;
  clean = λ all. ap all_clean (sym (ap (λ (x : WorldState). x.health) h.others ∙ ap (λ (x : WorldState). x.health) e)) ∙ all;
  counts = counts_by w.health z.health (ap (λ (x : WorldState). x.health) h.others ∙ ap (λ (x : WorldState). x.health) e);
  origins = ap (λ (x : WorldState). x.origins) h.others ∙ ap (λ (x : WorldState). x.origins) e;
}

-- a failure that is to be declared is of a process that knows the last round
no_news : {S : Type 0} (IsSound : S → Type 0) (xs : List S) (w : WorldState) (p : ℕ) → IsWorld IsSound xs w → IsKnown w → IsToDeclare w p → HasNews w p → ⊥
no_news IsSound xs w p i known (IsToDeclare.up up) news = let same = (i.clean known).1.current p up in omega arith
no_news IsSound xs w p i known (IsToDeclare.joined at never) news = never news
no_news IsSound xs w p i known (IsToDeclare.refused at never) news = never news

refused_by : (w z : WorldState) (p : ℕ) (fault : FailError) → IsToDeclare w p → z ≡ taken_down w p false → IsWhyNot fault w.manager p → Happened w (Event.Fail p) (answers.Refused (refusal_of_failure fault)) z
refused_by w z p failing.Spent due e why = (due, why, e)
refused_by w z p failing.Memory due e why = (due, why, e)
refused_by w z p failing.Stranger due e why = why
refused_by w z p (failing.Stale told) due e why = why

pub fail_refused : {S : Type 0} (IsSound : S → Type 0) (xs : List S) (w v z : WorldState) (p : ℕ) (fault : FailError) (told : Result Answer Refusal) → IsWorld IsSound xs w → IsToDeclare w p → v ≡ taken_down w p false → HasDeclaredAt v p (Err fault) z → told ≡ Err (refusal_of_failure fault) → IsKnown z
    → Happened w (Event.Fail p) (answered told) z
fail_refused IsSound xs w v z p fault told i due e h is known =
    let known_v = subst IsKnown h.refused known in
    let old = no_news IsSound xs w p i (known_down w v p e known_v) due in
    let manager = ap (λ (x : WorldState). x.manager) e in
    let why = h.why known_v (λ news. old (subst (λ (m : ManagerState). slice_index w.rounds p < m.round) manager (subst (λ l. slice_index l p < v.manager.round) (ap (λ (x : WorldState). x.rounds) e) news))) in
    subst (λ r. Happened w (Event.Fail p) (answered r) z) (sym is) (refused_by w z p fault due (h.refused ∙ e) (subst (λ (m : ManagerState). IsWhyNot fault m p) manager why))

-- ---- taking it down
pub down_keeps : (w v : WorldState) (p : ℕ) → v ≡ taken_down w p false → Keeps w v
down_keeps w v p e = keeps_by w v (ap (λ (x : WorldState). x.manager) e) (ap (λ (x : WorldState). x.health) e) (ap (λ (x : WorldState). x.origins) e)

pub refused_keeps : (w v z : WorldState) (p : ℕ) (fault : FailError) → v ≡ taken_down w p false → HasDeclaredAt v p (Err fault) z → Keeps w z
refused_keeps w v z p fault e d = down_keeps w z p (d.refused ∙ e)

pub in_undeclared : (o : Option ProcessState) → o ≡ Some ProcessState.In → o ≢ Some (ProcessState.Down true)
in_undeclared o e f = cc

-- whose failure is to be declared has a place, and it is not declared
due_place : (w : WorldState) (p : ℕ) → IsToDeclare w p → (place : ProcessState) × (slice_get w.places p ≡ Some place) × (place ≢ ProcessState.Down true)
due_place w p (IsToDeclare.up at) = (ProcessState.Up, at, λ f. cc)
due_place w p (IsToDeclare.joined at news) = (ProcessState.In, at, λ f. cc)
due_place w p (IsToDeclare.refused at news) = (ProcessState.Down false, at, λ f. cc)

pub due_undeclared : (w : WorldState) (p : ℕ) → IsToDeclare w p → slice_get w.places p ≢ Some (ProcessState.Down true)
due_undeclared w p due e = let d = due_place w p due in d.2 (once d.0 (ProcessState.Down true) (sym d.1 ∙ e))

pub due_down : (w v : WorldState) (p : ℕ) → IsToDeclare w p → v ≡ taken_down w p false → slice_get v.places p ≡ Some (ProcessState.Down false)
due_down w v p due e =
    let d = due_place w p due in
    subst (λ (x : WorldState). slice_get x.places p ≡ Some (ProcessState.Down false)) (sym e) (here w.places p (ProcessState.Down false) (inside w.places p d.0 d.1))
