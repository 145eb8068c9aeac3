-- What a world that a restart begins with has on its disks.
use Rattle.std.proofs.Common.{◌≡◌, ℕ, zero, suc, ◌<◌, ◌≤◌, List, [], ◌∷◌, ◌++◌, length, take, drop, Some, refl, sym, ap, ◌∙◌, subst, arith}
use Rattle.std.specs.Prelude.{slice_get}
use Rattle.om_process.specs.Claims.{AtInterval, Makes}
use Rattle.om_process.specs.Dependencies.{greatest_from}
use Rattle.om_process.specs.Process.{Received}
use Rattle.om_process.specs.declared.limits.TheConstants.{LAST_INTERVAL}
use Rattle.om_manager.specs.Outputs.{HeldOutput}
use Rattle.om_manager.specs.State.{held_by, released_by}
use Rattle.om_world.specs.declared.entry.Entry.{Entry}
use Rattle.om_world.specs.Failures.{HasNews}
use Rattle.om_world.specs.Live.{program_at, received}
use Rattle.om_world.specs.Stopped.{IsLeft, along}
use Rattle.om_world.specs.World.{IsKnown, WorldState, output_entry, recovered}
use Rattle.om_world.specs.steps.Restarting.{CanRestart}
use Rattle.om_world.specs.steps.Sound.{HasShape, IsBetween, IsWorld, Sound, before_of}
use Rattle.om_world.proofs.Between.{between_now}
use Rattle.om_world.proofs.Disk.{recovery_served}
use Rattle.om_world.proofs.Gathering.{front_at, state_closed, within_at}
use Rattle.om_world.proofs.Legal.{at_cut, at_more}
use Rattle.om_world.proofs.Raising.{recovery_row}

-- ---- what a restart needs
-- a claim on an interval within the first receipts, of another list that begins with the same
at_same : (g h : List Received) (r x : ℕ) (P : List Received → Type 0) → take r g ≡ take r h → x ≤ r → AtInterval h x P → AtInterval g x P
at_same g h r x P same le a = subst (λ l. AtInterval l x P) (split r g) (at_more (take r g) (drop r g) x P (subst (λ l. AtInterval l x P) (sym same) (at_cut h x r P le a)))
  where
    split : (r : ℕ) (g : List Received) → take r g ++ drop r g ≡ g
    split zero g = refl
    split (suc r) [] = refl
    split (suc r) (x ∷ g) = ap (λ l. x ∷ l) (split r g)

-- each released output was made within what is recovered
pub released_made : (w : WorldState) (p i : ℕ) (o : HeldOutput) → HasShape w → Sound w → p < length w.programs → slice_get (released_by w.manager p) i ≡ Some o
    → (o.interval ≤ recovered w.manager p) × AtInterval (received p w.live) o.interval (Makes (program_at w.programs p) p (length w.programs) (length w.programs) i (output_entry o))
released_made w p i o h s lt at =
    let size = h.size in
    let front = h.manager.released p (omega arith) in
    let was : slice_get (held_by w.manager p) i ≡ Some o = ap (λ l. slice_get l i) (sym front.1) ∙ front_at (released_by w.manager p) front.0 i o at in
    (within_at (held_by w.manager p) (recovered w.manager p) i o at, s.outputs p i o was)

-- no receipt that a process could be replayed to is beyond the last
last_recovered : (w : WorldState) (p : ℕ) → HasShape w → p < length w.programs → recovered w.manager p ≤ LAST_INTERVAL
last_recovered w p h lt = let row = recovery_row w p h lt in let few = h.manager.lawful.numbered row.0 row.1 in let at = row.3 in omega arith

pub can_now : (w : WorldState) → HasShape w → Sound w → ((p : ℕ) → p < length w.programs → HasNews w p → ⊥) → CanRestart w
can_now w h s none =
    let b = between_now w h s none in
    record {
      legal = s.legal;
      stored = s.stored;
      ends = b.ends;
      places = h.size;
      last = λ p lt. last_recovered w p h lt;
      served = λ p lt. recovery_served w p h s lt;
      within = λ p q other. state_closed w p q h s other;
      released = λ p i o lt at. released_made w p i o h s lt at;
    }

pub can_before : (w : WorldState) → HasShape w → Sound w → IsBetween (before_of w) w.live w.contents → CanRestart (along w w.since.before)
can_before w h s b = record {
  legal = b.legal;
  stored = b.stored;
  ends = b.ends;
  places = h.size;
  last = λ p lt. last_recovered w p h lt;
  served = λ p lt. recovery_served w p h s lt;
  within = λ p q other. subst (λ l. greatest_from q l ≤ recovered w.manager q) (sym (b.same p)) (state_closed w p q h s other);
  released = λ p i o lt at.
      let made = released_made w p i o h s lt at in (
        made.0,
        at_same (received p w.since.before) (received p w.live) (recovered w.manager p) o.interval (Makes (program_at w.programs p) p (length w.programs) (length w.programs) i (output_entry o)) (b.same p) made.0 made.1,
      );
}

-- along the run that is on the disks
pub shape_along : (w : WorldState) (run : List Entry) → HasShape w → HasShape (along w run)
shape_along w run h = record { few = h.few; stores = h.stores; cores = h.cores; places = h.places; own = h.own; rounds = h.rounds; there = h.there; inside = h.inside; manager = h.manager; size = h.size }

pub can_restart : {S : Type 0} (IsSound : S → Type 0) (xs : List S) (w : WorldState) (run : List Entry) → IsWorld IsSound xs w → IsKnown w → IsLeft w run → CanRestart (along w run)
can_restart IsSound xs w run i known (IsLeft.current none is) = subst (λ l. CanRestart (along w l)) (sym is) (can_now w i.shape (i.clean known).1 none)
can_restart IsSound xs w run i known (IsLeft.between p lt news free is) = subst (λ l. CanRestart (along w l)) (sym is) (can_before w i.shape (i.clean known).1 (i.between known free))
