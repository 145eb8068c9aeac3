-- What a process need not keep.
use Rattle.std.proofs.Common.{◌≡◌, ◌⊎◌, inl, inr, ℕ, zero, suc, ◌+◌, ◌-◌, ◌≤◌, ◌<◌, List, [], ◌∷◌, ◌++◌, length, take, set, Option, Some, refl, sym, ap, ◌∙◌, subst, arith}
use Rattle.std.specs.Prelude.{min, slice_get, slice_index}
use Rattle.om_format.specs.Queues.{QueueRecord}
use Rattle.om_process.specs.Core.{CoreState}
use Rattle.om_process.specs.Dependencies.{count_from}
use Rattle.om_process.specs.Trims.{trimmed_queue, trimmed_queues}
use Rattle.om_process.proofs.Replays.{keeps_trim}
use Rattle.om_process.proofs.Vectors.{places_at}
use Rattle.om_manager.specs.Bounds.{AreGotFrom}
use Rattle.om_manager.specs.State.{released_by}
use Rattle.om_world.specs.World.{WorldState, recovered}
use Rattle.om_world.specs.steps.Past.{past_of, history}
use Rattle.om_world.specs.steps.Moves.{trimmed_core}
use Rattle.om_world.specs.steps.Sound.{HasShape, IsWorld, KeptWithin, Sound}
use Rattle.om_world.proofs.Kept.{remade, shape_core, sound_core}
use Rattle.om_world.proofs.Lists.{none_in, once}

-- a trimmed queue begins no later than where it did, or at its bound
low_queue : (b x : ℕ) (a : QueueRecord) → a.first ≤ x → b ≤ x → (trimmed_queue b a).first ≤ x
low_queue b x a le ge = small (min (b - a.first) (length a.entries)) (least (b - a.first) (length a.entries))
  where
    least : (i j : ℕ) → min i j ≤ i
    least i j = omega arith

    small : (k : ℕ) → k ≤ b - a.first → a.first + k ≤ x
    small k le2 = omega arith

low_queues : (bounds : List ℕ) (qs : List QueueRecord) (q x : ℕ) (queue : QueueRecord) → slice_get (trimmed_queues bounds qs) q ≡ Some queue → ((a : QueueRecord) → slice_get qs q ≡ Some a → a.first ≤ x) → ((b : ℕ) → slice_get bounds q ≡ Some b → b ≤ x) → queue.first ≤ x
low_queues [] qs q x queue at low bound = low queue at
low_queues (b ∷ bounds) [] q x queue at low bound = absurd (none_in q queue at)
low_queues (b ∷ bounds) (a ∷ qs) zero x queue at low bound = subst (λ (c : QueueRecord). c.first ≤ x) (once (trimmed_queue b a) queue at) (low_queue b x a (low a refl) (bound b refl))
low_queues (b ∷ bounds) (a ∷ qs) (suc q) x queue at low bound = low_queues bounds qs q x queue at low bound

at_seam : (got : List ℕ) (released q b : ℕ) → slice_get (got ++ released ∷ []) q ≡ Some b → ((q < length got) × (b ≡ slice_index got q)) ⊎ ((q ≡ length got) × (b ≡ released))
at_seam [] released zero b at = inr (refl, sym (once released b at))
at_seam [] released (suc q) b at = absurd (none_in q b at)
at_seam (g ∷ got) released zero b at = inl (omega arith, sym (once g b at))
at_seam (g ∷ got) released (suc q) b at = elim (at_seam got released q b at) [ inl i ↦ let lt = i.0 in inl (omega arith, i.1) | inr i ↦ let e = i.0 in inr (omega arith, i.1) ]

-- what each process got of p within the recovery state
got_bound : (w : WorldState) (p q : ℕ) (got : List ℕ) → HasShape w → Sound w → p < length w.programs → q < length w.programs → AreGotFrom w.manager.rows w.manager.recovery p got → slice_index got q ≡ count_from p (take (recovered w.manager q) (history (past_of w) q))
got_bound w p q got h s lt small g =
    let n = length w.programs in
    let size = h.size in
    let f = g.each q (omega arith) in
    let t = f.1 in
    let claim = s.rows t.row t.there in
    let counts : t.row.got ≡ _ = claim.1.1 in
    f.2 ∙ ap (λ l. slice_index l p) (sym t.got_is ∙ counts) ∙ places_at n p (λ j. count_from j (take t.row.interval (history (past_of w) t.row.pid))) lt
    ∙ ap (λ x. count_from p (take x (history (past_of w) t.row.pid))) t.interval_is ∙ ap (λ o. count_from p (take (recovered w.manager q) (history (past_of w) o))) t.pid_is

kept_trimmed : (w : WorldState) (p : ℕ) (got : List ℕ) (qs : List QueueRecord) → HasShape w → Sound w → p < length w.programs → length got ≡ length w.programs → AreGotFrom w.manager.rows w.manager.recovery p got → KeptWithin (past_of w) p qs
    → KeptWithin (past_of w) p (trimmed_queues (got ++ length (released_by w.manager p) ∷ []) qs)
kept_trimmed w p got qs h s lt long g k q queue at = (
  λ small. low_queues (got ++ length (released_by w.manager p) ∷ []) qs q (count_from p (take (recovered w.manager q) (history (past_of w) q))) queue at (λ a f. (k q a f).0 small)
      (λ b f. elim (at_seam got (length (released_by w.manager p)) q b f) [
        | inl i ↦ same_le b (slice_index got q) (count_from p (take (recovered w.manager q) (history (past_of w) q))) i.1 (got_bound w p q got h s lt small g)
        | inr i ↦ let e = i.0 in absurd (omega arith)
      ]),
  λ is. low_queues (got ++ length (released_by w.manager p) ∷ []) qs q (length (released_by w.manager p)) queue at (λ a f. (k q a f).1 is)
      (λ b f. elim (at_seam got (length (released_by w.manager p)) q b f) [
        | inl i ↦ let l = i.0 in absurd (omega arith)
        | inr i ↦ same_le b (length (released_by w.manager p)) (length (released_by w.manager p)) i.1 refl
      ]),
)
  where
    same_le : (a b c : ℕ) → a ≡ b → b ≡ c → a ≤ c
    same_le a b c e f = omega arith

-- a core that is trimmed
abbrev pub IsTrimmedIn : WorldState → ℕ → List ℕ → ℕ → List (Option CoreState) → Type 0
IsTrimmedIn w p got released cs = (c : CoreState) × (slice_get w.cores p ≡ Some (Some c)) × (cs ≡ set w.cores p (Some (trimmed_core c got released)))

pub after_trim : {S : Type 0} (IsSound : S → Type 0) (xs : List S) (w : WorldState) (p : ℕ) (got : List ℕ) (released : ℕ) (cs : List (Option CoreState)) → IsWorld IsSound xs w → p < length w.programs
    → AreGotFrom w.manager.rows w.manager.recovery p got → released ≡ length (released_by w.manager p) → IsTrimmedIn w p got released cs → IsWorld IsSound xs (remade w w.live w.frames cs w.manager w.contents w.health)
after_trim IsSound xs w p got released cs i lt g is t =
    let c = t.0 in let at = t.1 in
    let d = trimmed_core c got released in
    let size = i.shape.size in let places = g.places in
    subst (λ l. IsWorld IsSound xs (remade w w.live w.frames l w.manager w.contents w.health)) (sym t.2) (record {
      shape = shape_core w p c d w.live w.frames w.manager w.contents w.health i.shape at refl refl refl i.shape.manager refl;
      clean = λ all.
          let s = i.clean all in (
            s.0,
            sound_core w p c d s.1 at
                (λ held r. record {
                  state = (r.state.0, r.state.1, keeps_trim (got ++ released ∷ []) r.state.0 c.now r.state.2);
                  kept = subst (λ k. KeptWithin (past_of w) p (trimmed_queues (got ++ k ∷ []) c.now.queues)) (sym is) (kept_trimmed w p got c.now.queues i.shape s.1 lt (omega arith) g r.kept);
                  log = r.log;
                  pending = r.pending;
                  above = record { receipts = r.above.receipts; checkpoints = r.above.checkpoints };
                })
                (λ u. record { round = u.round; starts = u.starts; inc = u.inc; away = u.away }) refl refl,
          );
      between = i.between;
    })
