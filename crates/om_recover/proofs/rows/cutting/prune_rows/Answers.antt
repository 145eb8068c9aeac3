use Rattle.std.proofs.Common.{◌≡◌, ◌≤◌, ℕ, sym, subst, ap, is_some, refl, slice_index, nat_le}
use Rattle.std.proofs.lemmas.Bool.{leb-true}
use Rattle.om_recover.specs.Rows.{Rows}
use Rattle.om_recover.specs.steps.Held.{held, Reaches, AreTrees}
use Rattle.om_recover.specs.Cutting.{pruned_to}
use Rattle.om_recover.specs.declared.rows.trees.Base.{Base}
use Rattle.om_recover.specs.declared.rows.trees.Trees.{Trees}
use Rattle.om_recover.proofs.HeldLemmas.{has_base}
use Rattle.om_recover.proofs.PartLemmas.{held_part, base_was_kept, reaches_after_prune}
use Rattle.om_recover.proofs.rows.cutting.prune_rows.Goals as goal

pub returns : goal.returns
returns c =
    let checkpoints = c.args.checkpoints.now in
    let test = λ (place : ℕ × ℕ). nat_le (slice_index checkpoints place.0) place.1 in
    let before = c.args.trees.now in
    let after : Trees = record { logs = c.prune_logs.new.logs; bases = c.prune_bases.new.bases } in
    let sorted : AreTrees after = record { logs = c.prune_logs.ensures.sorted; bases = c.prune_bases.ensures.sorted } in
    let are : held after ≡ pruned_to (held before) checkpoints = held_part before after test (λ _ base. base) (λ place base. refl) c.requires.sorted sorted c.prune_logs.ensures c.prune_bases.ensures in
    record {
      indexed = record {
        sorted = sorted;
        reaches = λ p x base there.
            let was = base_was_kept test (λ _ base. base) before.bases after.bases p x base c.prune_bases.ensures there in
            let far : slice_index checkpoints p ≤ x = leb-true _ _ was.1 in
            subst (λ (rows : Rows). Reaches rows p x base.last) (sym are)
            (subst (λ (b : Base). Reaches (pruned_to (held before) checkpoints) p x b.last) was.3
            (reaches_after_prune (held before) checkpoints p x was.0.last far (has_base before p x (ap is_some was.2)) (c.requires.reaches p x was.0 was.2)));
      };
      are = are;
    }
