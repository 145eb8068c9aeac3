-- A checkpoint that was put and has gone again.
use Rattle.std.proofs.Common.{◌≡◌, ℕ, List, refl, sym, ap, ◌∙◌, subst, length, Vec, inl}
use Rattle.std.specs.declared.alloc.Global.{Global}
use Rattle.std.specs.Prelude.{Option, None, Some, IfSome}
use Rattle.std.specs.FinMap.{get, insert, remove}
use Rattle.std.proofs.lemmas.Bool.{cases_eq}
use Rattle.std.proofs.Math.Logic.{⊎_elim}
use Rattle.om_stable.specs.Content.{Records, Content, IsFree, IsTaken, bytes_of, with_receipts}
use Rattle.om_stable.specs.Ledger.{LedgerContent}
use Rattle.om_stable.specs.Batches.{with_new, written, pruned_to, HasRoom, Collides}
use Rattle.om_stable.specs.declared.batch.WriteBatch.{WriteBatch}
use Rattle.om_stable.specs.steps.TakenBack.{without_new}
use Rattle.om_stable.specs.declared.batch.NewCheckpoint.{NewCheckpoint}
use Rattle.om_stable.proofs.RecordLemmas.{same_records, get-insert_apart, get-remove_here, get-remove_apart}

insert_and_remove : (m : Records) (x : ℕ) (bytes : List ℕ) → get m x ≡ None → remove (insert m x bytes) x ≡ m
insert_and_remove m x bytes free = same_records _ _ (λ q. ⊎_elim
    (λ same. ap (get (remove (insert m x bytes) x)) same ∙ get-remove_here (insert m x bytes) x ∙ sym (ap (get m) same ∙ free))
    (λ apart. get-remove_apart (insert m x bytes) x q apart ∙ get-insert_apart m x bytes q apart)
    (cases_eq q x))

same_content : (m n : Content) → m.receipts ≡ n.receipts → m.checkpoints ≡ n.checkpoints → m ≡ n
same_content m n receipts checkpoints =
    ap (λ (r : Records). of_parts m.checkpoints r) receipts ∙ ap (λ (c : Records). of_parts c n.receipts) checkpoints
  where
    of_parts : Records → Records → Content
    of_parts c r = record { receipts = r; checkpoints = c }

pub checkpoint_gone : (held now new : Content) (o : Option NewCheckpoint) → now ≡ with_new held o → IfSome o (λ c. get held.checkpoints c.x ≡ None)
    → new.receipts ≡ now.receipts → new.checkpoints ≡ without_new now.checkpoints o → new ≡ held
checkpoint_gone held now new None put free receipts checkpoints =
    same_content new held (receipts ∙ ap (λ (s : Content). s.receipts) put) (checkpoints ∙ ap (λ (s : Content). s.checkpoints) put)
checkpoint_gone held now new (Some c) put free receipts checkpoints =
    same_content new held (receipts ∙ ap (λ (s : Content). s.receipts) put)
    (checkpoints ∙ ap (λ (s : Content). remove s.checkpoints c.x) put ∙ insert_and_remove held.checkpoints c.x c.bytes.now free)

-- ---- a checkpoint first, and then receipts
receipts_with_new : (held : Content) (o : Option NewCheckpoint) → (with_new held o).receipts ≡ held.receipts
receipts_with_new held None = refl
receipts_with_new held (Some c) = refl

in_either_order : (held : Content) (o : Option NewCheckpoint) (first : ℕ) (rs : List (List ℕ)) → with_receipts (with_new held o) first rs ≡ with_new (with_receipts held first rs) o
in_either_order held None first rs = refl
in_either_order held (Some c) first rs = refl

-- `now` is `held` with the batch's checkpoint
module _ (b : WriteBatch) (held now : Content) (put : now ≡ with_new held b.checkpoint) where
  same_receipts : now.receipts ≡ held.receipts
  same_receipts = ap (λ (s : Content). s.receipts) put ∙ receipts_with_new held b.checkpoint

  pub written_at_last : (later new : Content) → later ≡ with_receipts now b.first (bytes_of b.receipts.now) → new ≡ pruned_to later b.prune_to → new ≡ written b held
  written_at_last later new receipts pruned =
      pruned ∙ ap (λ s. pruned_to s b.prune_to)
      (receipts ∙ ap (λ s. with_receipts s b.first (bytes_of b.receipts.now)) put ∙ in_either_order held b.checkpoint b.first (bytes_of b.receipts.now))

  pub room_for_both : IsFree now.receipts b.first (length b.receipts.now) → IfSome b.checkpoint (λ c. get held.checkpoints c.x ≡ None) → HasRoom b held
  room_for_both free apart = record { receipts = subst (λ m. IsFree m b.first (length b.receipts.now)) same_receipts free; checkpoint = apart }

  pub collides_by_receipts : (tables : LedgerContent) → IsTaken now.receipts b.first (length b.receipts.now) → Collides b held tables
  collides_by_receipts tables taken = inl (subst (λ m. IsTaken m b.first (length b.receipts.now)) same_receipts taken)
