use Rattle.std.proofs.Common.{◌≡◌, ℕ, sym, subst, refl, slice_index, nat_le, min}
use Rattle.om_recover.specs.Rows.{Rows}
use Rattle.om_recover.specs.steps.Held.{held, Reaches, AreTrees}
use Rattle.om_recover.specs.Cutting.{cut_to}
use Rattle.om_recover.specs.declared.rows.trees.Base.{Base}
use Rattle.om_recover.specs.declared.rows.trees.Trees.{Trees}
use Rattle.om_recover.proofs.PartLemmas.{held_part, base_was_kept, reaches_after_cut}
use Rattle.om_recover.proofs.rows.cutting.cut_rows.Goals as goal

pub returns : goal.returns
returns c =
    let state = c.args.state.now in
    let test = λ (place : ℕ × ℕ). nat_le place.1 (slice_index state place.0) in
    let bound = λ (place : ℕ × ℕ) (base : Base). record base { last = min base.last (slice_index state place.0) } in
    let before = c.args.trees.now in
    let after : Trees = record { logs = c.cut_logs.new.logs; bases = c.cut_bases.new.bases } in
    let sorted : AreTrees after = record { logs = c.cut_logs.ensures.sorted; bases = c.cut_bases.ensures.sorted } in
    let are : held after ≡ cut_to (held before) state = held_part before after test bound (λ place base. refl) c.requires.sorted sorted c.cut_logs.ensures c.cut_bases.ensures in
    record {
      indexed = record {
        sorted = sorted;
        reaches = λ p x base there.
            let was = base_was_kept test bound before.bases after.bases p x base c.cut_bases.ensures there in
            subst (λ (rows : Rows). Reaches rows p x base.last) (sym are)
            (subst (λ (b : Base). Reaches (cut_to (held before) state) p x b.last) was.3 (reaches_after_cut (held before) state p x was.0.last (c.requires.reaches p x was.0 was.2)));
      };
      are = are;
    }
