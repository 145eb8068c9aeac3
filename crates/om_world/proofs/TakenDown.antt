-- A process that is taken down: everything then asks less of it.
use Rattle.std.proofs.Common.{◌≡◌, ◌≢◌, inl, inr, ℕ, List, length, set, Option, Some, None, Bool, true, false, refl, sym, ap, ◌∙◌, subst, arith, length-set}
use Rattle.std.specs.Prelude.{slice_get}
use Rattle.om_process.specs.Core.{CoreState}
use Rattle.om_process.specs.Process.{Process}
use Rattle.om_process.proofs.Making.{interval_along}
use Rattle.om_stable.specs.Content.{Content}
use Rattle.om_world.specs.declared.process_state.ProcessState.{ProcessState}
use Rattle.om_world.specs.Failures.{HasNews, taken_down}
use Rattle.om_world.specs.Live.{program_at}
use Rattle.om_world.specs.World.{WorldState}
use Rattle.om_world.specs.steps.Past.{Past, history, past_of}
use Rattle.om_world.specs.steps.Sound.{EndsAt, HasShape, IsRunning, IsWorld, Runs, Sound}
use Rattle.om_world.proofs.Lists.{at_change, either, inside, none_some, set_apart, there}

up_or_down : (declared : Bool) → ProcessState.Up ≡ ProcessState.Down declared → ⊥
up_or_down declared e = cc

in_or_down : (declared : Bool) → ProcessState.In ≡ ProcessState.Down declared → ⊥
in_or_down declared e = cc

-- who is up or in is another, and was before
still_up : (places : List ProcessState) (p q : ℕ) (declared : Bool) → slice_get (set places p (ProcessState.Down declared)) q ≡ Some ProcessState.Up → (q ≢ p) × (slice_get places q ≡ Some ProcessState.Up)
still_up places p q declared at = elim (at_change places p q ProcessState.Up (ProcessState.Down declared) at) [ inl is ↦ absurd (up_or_down declared is.1) | inr other ↦ other ]

still_in : (places : List ProcessState) (p q : ℕ) (declared : Bool) → slice_get (set places p (ProcessState.Down declared)) q ≡ Some ProcessState.In → (q ≢ p) × (slice_get places q ≡ Some ProcessState.In)
still_in places p q declared at = elim (at_change places p q ProcessState.In (ProcessState.Down declared) at) [ inl is ↦ absurd (in_or_down declared is.1) | inr other ↦ other ]

still_core : (cores : List (Option CoreState)) (p q : ℕ) (c : CoreState) → slice_get (set cores p None) q ≡ Some (Some c) → slice_get cores q ≡ Some (Some c)
still_core cores p q c at = elim (at_change cores p q (Some c) None at) [ inl is ↦ absurd (none_some (Some c) c is.1 refl) | inr other ↦ other.1 ]

still_runs : (w : WorldState) (p q : ℕ) (declared : Bool) → Runs (taken_down w p declared) q → Runs w q
still_runs w p q declared runs = elim runs [
  | inl up ↦ inl (still_up w.places p q declared up).1
  | inr joined ↦ inr ((still_in w.places p q declared joined.0).1, joined.1)
]

shape_down : (w : WorldState) (p : ℕ) (declared : Bool) → HasShape w → HasShape (taken_down w p declared)
shape_down w p declared h = record {
  few = h.few;
  stores = h.stores;
  cores = length-set w.cores p None ∙ h.cores;
  places = length-set w.places p (ProcessState.Down declared) ∙ h.places;
  own = λ q c at. h.own q c (still_core w.cores p q c at);
  rounds = h.rounds;
  there = λ q up. let was = still_up w.places p q declared up in let core = h.there q was.1 in (core.0, set_apart w.cores p q None was.0 ∙ core.1);
  inside = λ q joined. let was = still_in w.places p q declared joined in let core = h.inside q was.1 in (core.0, set_apart w.cores p q None was.0 ∙ core.1);
  manager = h.manager;
  size = h.size;
}

-- what a process ran to, its store has no record beyond
running_ends : (v : Past) (p : ℕ) (held : Content) (c : CoreState) → IsRunning v p held c → EndsAt held (length (history v p))
running_ends v p held c r =
    let part : c.now.interval ≡ r.state.0.interval = ap (λ (q : Process). q.interval) r.state.2.same in
    let long : r.state.0.interval ≡ length (history v p) = interval_along (program_at v.programs p) p (length v.programs) r.state.1.0 (history v p) r.state.0 r.state.1.1 in
    record { receipts = λ y lt. r.above.receipts y (omega arith); checkpoints = λ y lt. r.above.checkpoints y lt }

-- wherever it stands, where it knows the last round
pub ended : (w : WorldState) (p : ℕ) (held : Content) → HasShape w → Sound w → (HasNews w p → ⊥) → slice_get w.contents p ≡ Some held → EndsAt held (length (history (past_of w) p))
ended w p held h s old holds =
    let stores = h.stores in let long = h.places in let lt = inside w.contents p held holds in
    let place = there w.places p (omega arith) in
    by place.0 place.1
  where
    by : (place : ProcessState) → slice_get w.places p ≡ Some place → EndsAt held (length (history (past_of w) p))
    by ProcessState.Up at = let c = h.there p at in running_ends (past_of w) p held c.0 (s.running p c.0 held c.1 holds (inl at))
    by ProcessState.In at = let c = h.inside p at in running_ends (past_of w) p held c.0 (s.running p c.0 held c.1 holds (inr (at, λ news. absurd (old news))))
    by (ProcessState.Down declared) at = s.ends p declared held at old holds

sound_down : (w : WorldState) (p : ℕ) → HasShape w → Sound w → slice_get w.places p ≢ Some (ProcessState.Down true) → Sound (taken_down w p false)
sound_down w p h s undeclared = record {
  legal = s.legal;
  frames = s.frames;
  outputs = s.outputs;
  rows = s.rows;
  stored = s.stored;
  backed = s.backed;
  running = λ q c held at holds runs. s.running q c held (still_core w.cores p q c at) holds (still_runs w p q false runs);
  up = λ q c at up. s.up q c (still_core w.cores p q c at) (still_up w.places p q false up).1;
  joined = s.joined;
  failed = λ q at. elim (either q p) [
    | inl same ↦ absurd (undeclared (subst (λ o. slice_get w.places o ≡ Some (ProcessState.Down true)) same (s.failed q at)))
    | inr other ↦ set_apart w.places p q (ProcessState.Down false) other ∙ s.failed q at
  ];
  gathered = s.gathered;
  current = λ q up. s.current q (still_up w.places p q false up).1;
  known = s.known;
  ends = λ q declared held place old holds. elim (at_change w.places p q (ProcessState.Down declared) (ProcessState.Down false) place) [
    | inl same ↦ subst (λ o. EndsAt held (length (history (past_of w) o))) (sym same.0)
        (ended w p held h s (λ news. old (subst (HasNews w) (sym same.0) news)) (subst (λ o. slice_get w.contents o ≡ Some held) same.0 holds))
    | inr other ↦ s.ends q declared held other.1 old holds
  ];
  behind = s.behind;
  inside = λ q c at joined runs. s.inside q c (still_core w.cores p q c at) (still_in w.places p q false joined).1 (still_runs w p q false runs);
  beyond = λ q c at joined news back. s.beyond q c (still_core w.cores p q c at) (still_in w.places p q false joined).1 news back;
}

pub after_down : {S : Type 0} (IsSound : S → Type 0) (xs : List S) (w : WorldState) (p : ℕ) → IsWorld IsSound xs w → slice_get w.places p ≢ Some (ProcessState.Down true) → IsWorld IsSound xs (taken_down w p false)
after_down IsSound xs w p i undeclared = record {
  shape = shape_down w p false i.shape;
  clean = λ known. let s = i.clean known in (s.0, sound_down w p i.shape s.1 undeclared);
  between = i.between;
}
