-- What each event leaves.
use Rattle.std.proofs.Common.{◌≡◌, ℕ, List, [], ◌∷◌, Result, sym, ap, ◌∙◌, subst, arith}
use Rattle.om_stable.specs.declared.error.StoreError.{StoreError}
use Rattle.om_process.specs.declared.row.PendingRow.{PendingRow}
use Rattle.om_member.specs.declared.batch.Batch.{Batch}
use Rattle.om_manager.specs.Sound.{KeepsReleased}
use Rattle.om_manager.specs.State.{ManagerState, process_count, released_by}
use Rattle.om_manager.specs.declared.answers.RecordError.{RecordError}
pub use Rattle.om_member.proofs.KeepLemmas.{prefix_then}
use Rattle.om_member.proofs.KeepLemmas.{prefix_same}
use Rattle.om_world.specs.Changes.{NoneFell}
use Rattle.om_world.specs.World.{WorldState, all_clean}
use Rattle.om_world.specs.steps.Moves.{AreTold, HasCalled, HasTold, Keeps}
use Rattle.om_world.proofs.FailureCounts.{counts_by}

pub keeps_same : (m : ManagerState) → KeepsReleased m m
keeps_same m p lt = prefix_same (released_by m p)

told_keeps : (old new : ManagerState) (round p : ℕ) (rows : List PendingRow) → AreTold old round p rows new → KeepsReleased old new
told_keeps old new round p [] same = subst (λ m. KeepsReleased old m) (sym same) (keeps_same old)
told_keeps old new round p (row ∷ rows) told = λ q lt.
    let places = told.2.keeps.below.same_places in
    prefix_then (released_by old q) (released_by told.0 q) (released_by new q) (told.2.keeps.released q lt) (told_keeps told.0 new round p rows told.3 q (omega arith))

told_size : (old new : ManagerState) (round p : ℕ) (rows : List PendingRow) → AreTold old round p rows new → process_count new ≡ process_count old
told_size old new round p [] same = ap process_count same
told_size old new round p (row ∷ rows) told = let places = told.2.keeps.below.same_places in let rest = told_size told.0 new round p rows told.3 in omega arith

-- an event that leaves the manager and the stores
pub keeps_by : (old new : WorldState) → new.manager ≡ old.manager → new.health ≡ old.health → new.origins ≡ old.origins → Keeps old new
keeps_by old new manager health origins = record {
  size = ap process_count manager;
  released = subst (λ m. KeepsReleased old.manager m) (sym manager) (keeps_same old.manager);
  clean = λ all. ap all_clean (sym health) ∙ all;
  counts = counts_by old.health new.health health;
  origins = origins;
}

pub keeps_called : (kind : Batch) (w v : WorldState) (p : ℕ) (a : Result (Unit {0}) StoreError) → HasCalled kind w p a v → Keeps w v
keeps_called kind w v p a h = record {
  size = ap (λ (x : WorldState). process_count x.manager) h.others;
  released = subst (λ m. KeepsReleased w.manager m) (sym (ap (λ (x : WorldState). x.manager) h.others)) (keeps_same w.manager);
  clean = h.was_clean;
  counts = h.counts;
  origins = ap (λ (x : WorldState). x.origins) h.others;
}

-- a process stored, and its rows were told
pub keeps_recorded : (kind : Batch) (w mid v : WorldState) (p count : ℕ) (a : Result (Unit {0}) StoreError) (end : Result (Unit {0}) RecordError) → HasCalled kind w p a mid → HasTold mid p count end v → Keeps w v
keeps_recorded kind w mid v p count a end h t = record {
  size = told_size mid.manager v.manager t.core.round p _ t.told.done ∙ ap (λ (x : WorldState). process_count x.manager) h.others;
  released = subst (λ m. KeepsReleased m v.manager) (ap (λ (x : WorldState). x.manager) h.others) (told_keeps mid.manager v.manager t.core.round p _ t.told.done);
  clean = λ all. h.was_clean (ap all_clean (sym (ap (λ (x : WorldState). x.health) t.others)) ∙ all);
  counts = subst (λ l. NoneFell w.health l) (sym (ap (λ (x : WorldState). x.health) t.others)) h.counts;
  origins = ap (λ (x : WorldState). x.origins) t.others ∙ ap (λ (x : WorldState). x.origins) h.others;
}

-- where the new one stands as its parts do
pub keeps_seen : (w v new : WorldState) → w ≡ v → new.manager ≡ w.manager → new.health ≡ w.health → new.origins ≡ w.origins → Keeps v new
keeps_seen w v new e manager health origins = subst (λ (x : WorldState). Keeps x new) e (keeps_by w new manager health origins)
