use Rattle.std.proofs.Common.{sym, subst, refl}
use Rattle.om_recover.specs.Rows.{HasRow}
use Rattle.om_recover.specs.steps.Held.{held}
use Rattle.om_recover.proofs.HeldLemmas.{one_of_a_kind}
use Rattle.om_recover.proofs.rows.answer.has_row.Goals as goal

pub returns-in-Some : goal.returns-in-Some
returns-in-Some c = (
  λ yes. subst (HasRow (held c.args.trees.now)) (c.has_vectors.ensures.0 yes) c.in-Some.ensures,
  λ there. c.has_vectors.ensures.1 (sym (one_of_a_kind c.args.trees.now _ c.args.row.now c.requires c.in-Some.ensures there refl refl refl)),
)
