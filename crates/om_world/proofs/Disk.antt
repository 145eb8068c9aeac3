-- The stores of a world are true of the run that a restart needs, and can serve what was recovered.
use Rattle.std.proofs.Common.{◌≡◌, ◌⊎◌, inl, inr, ℕ, zero, suc, ◌<◌, ◌≤◌, List, [], ◌∷◌, length, Some, None, Option, sym, ap, ◌∙◌, subst, arith}
use Rattle.std.specs.Prelude.{slice_get, slice_index_or}
use Rattle.std.specs.FinMap.{get}
use Rattle.om_format.specs.Checkpoints.{CheckpointRecord}
use Rattle.om_format.specs.Receipts.{ReceiptRecord}
use Rattle.om_format.proofs.Checkpoints.{one_checkpoint}
use Rattle.om_format.proofs.Receipts.{one_receipt}
use Rattle.om_process.specs.Claims.{AtInterval, CheckpointOf, RecordOf}
use Rattle.om_process.specs.Replays.{process_of_checkpoint}
use Rattle.om_process.specs.Stored.{IsCheckpointAt, IsReceiptAt}
use Rattle.om_recover.specs.Recoverable.{IsStable}
use Rattle.om_stable.specs.Content.{Content, nothing}
use Rattle.om_world.specs.Disk.{AreTrue, CanServe, IsOnDisk, held_in}
use Rattle.om_world.specs.Live.{program_at, received}
use Rattle.om_world.specs.World.{WorldState, recovered}
use Rattle.om_world.specs.steps.Sound.{EndsAt, HasShape, Sound}
use Rattle.om_world.proofs.Lists.{there}
use Rattle.om_world.proofs.Returning.{serves}
use Rattle.om_world.specs.steps.Restarting.{CanRestart}

pub index_at : (xs : List Content) (p : ℕ) (held : Content) → slice_get xs p ≡ Some held → slice_index_or xs p nothing ≡ held
index_at [] p held at = cc
index_at (x ∷ xs) zero held at = cc
index_at (x ∷ xs) (suc p) held at = index_at xs p held at

-- what stands in the contents of a world
pub content_at : (w : WorldState) (p : ℕ) → HasShape w → p < length w.programs → slice_get w.contents p ≡ Some (held_in w p)
content_at w p h lt =
    let size = h.stores in
    let t = there w.contents p (omega arith) in
    t.1 ∙ ap (λ (c : Content). Some c) (sym (index_at w.contents p t.0 t.1))

none_held : (o : Option (List ℕ)) (bytes : List ℕ) → o ≡ None → o ≡ Some bytes → ⊥
none_held o bytes none some = cc

-- ---- the records of its stores
pub store_ends : (w : WorldState) (p : ℕ) → HasShape w → CanRestart w → p < length w.programs → EndsAt (held_in w p) (length (received p w.live))
store_ends w p h s lt = s.ends p (held_in w p) (content_at w p h lt)

pub world_true : (w : WorldState) → HasShape w → CanRestart w → AreTrue w.programs w.live (held_in w)
world_true w h s = record { checkpoints = checkpoints; receipts = receipts }
  where
    n : ℕ
    n = length w.programs

    below : (x k : ℕ) → (x ≤ k) ⊎ (k < x)
    below x k = grind arith

    checkpoints : (p x : ℕ) (c : CheckpointRecord) → p < n → IsCheckpointAt (held_in w p).checkpoints x c → AtInterval (received p w.live) x (CheckpointOf (program_at w.programs p) p n (process_of_checkpoint c))
    checkpoints p x c lt at =
        let ends = store_ends w p h s lt in
        let le : x ≤ length (received p w.live) = elim (below x (length (received p w.live))) [
          | inl le ↦ le
          | inr above ↦ absurd (none_held (get (held_in w p).checkpoints x) at.0 (ends.checkpoints x above) at.1)
        ] in
        let known = (s.stored p (held_in w p) (content_at w p h lt)).checkpoints x at.0 le at.1 in
        let same : known.0 ≡ c = (one_checkpoint at.0 known.1.0 at.2.0 known.0 c known.1.1 at.2.1).1 in
        subst (λ (r : CheckpointRecord). AtInterval (received p w.live) x (CheckpointOf (program_at w.programs p) p n (process_of_checkpoint r))) same known.4

    receipts : (p x : ℕ) (r : ReceiptRecord) → p < n → 1 ≤ x → IsReceiptAt (held_in w p).receipts x r → AtInterval (received p w.live) x (RecordOf (program_at w.programs p) p n r)
    receipts p x r lt begun at =
        let ends = store_ends w p h s lt in
        let le : x ≤ length (received p w.live) = elim (below x (length (received p w.live))) [
          | inl le ↦ le
          | inr above ↦ absurd (none_held (get (held_in w p).receipts x) at.0 (ends.receipts x above) at.1)
        ] in
        let known = (s.stored p (held_in w p) (content_at w p h lt)).receipts x at.0 begun le at.1 in
        let same : known.0 ≡ r = one_receipt at.0 known.0 r known.1 at.2 in
        subst (λ (e : ReceiptRecord). AtInterval (received p w.live) x (RecordOf (program_at w.programs p) p n e)) same known.2

-- ---- what was recovered can be served
pub recovery_served : (w : WorldState) (p : ℕ) → HasShape w → Sound w → p < length w.programs → CanServe (held_in w p) (recovered w.manager p)
recovery_served w p h s lt =
    let size = h.size in
    let stable : IsStable w.manager.rows p (recovered w.manager p) = h.manager.exact.greatest.recoverable.stable p (omega arith) in
    let store = serves w p (held_in w p) (recovered w.manager p) stable.from s (content_at w p h lt) (omega arith) stable.below stable.checkpoint stable.logged in
    record { from = store.0; below = store.1.within; checkpoint = store.1.checkpoint; receipts = store.1.receipts }

-- ---- what a world leaves
pub on_disk : (w : WorldState) → HasShape w → CanRestart w → IsOnDisk w
on_disk w h s = record {
  legal = s.legal;
  held = world_true w h s;
  places = s.places;
  last = s.last;
  served = s.served;
  within = s.within;
  released = s.released;
}
