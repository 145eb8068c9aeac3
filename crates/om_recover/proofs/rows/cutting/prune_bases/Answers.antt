use Rattle.std.proofs.Common.{◌∙◌, ℕ, Option, None, ap, cond, sym, slice_index, nat_le}
use Rattle.om_recover.specs.declared.rows.trees.Base.{Base}
use Rattle.om_recover.specs.declared.rows.trees.Bases.{Bases}
use Rattle.om_recover.specs.steps.Nearest.{at}
use Rattle.om_recover.proofs.RunPartLemmas.{same_value}
use Rattle.om_recover.proofs.BaseStepLemmas.{bases_part}
use Rattle.om_recover.proofs.rows.cutting.prune_bases.Goals as goal

pub returns : goal.returns
returns c =
    let test = λ (place : ℕ × ℕ). nat_le (slice_index c.args.checkpoints.now place.0) place.1 in
    let before = c.args.bases.now in
    let after : Bases = record { newest = c.prune_newest.new.newest; others = c.prune_entries.new.entries } in
    bases_part test (λ _ base. base) before after c.requires c.prune_entries.ensures.sorted
    (λ p x. c.prune_entries.ensures.part p x ∙ ap (λ (o : Option Base). cond (test (p, x)) o None) (sym (same_value (at before.others.entries p x)))) c.prune_newest.ensures
