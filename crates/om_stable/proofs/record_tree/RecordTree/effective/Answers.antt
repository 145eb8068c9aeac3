use Rattle.std.proofs.Common.{ap, ◌∙◌, sym}
use Rattle.std.specs.Prelude.{Some}
use Rattle.om_stable.proofs.TreeLemmas.{none_up_to, effective_last, held_last}
use Rattle.om_stable.proofs.record_tree.RecordTree.effective.Goals as goal

pub returns-in_default-clause-none : goal.returns-in_default-clause-none
returns-in_default-clause-none c =
    none_up_to c.self.inside.tree c.args.self.now c.self.view_is c.args.x c.range.result (c.range.ensures.in_range tt) c.in_default.ensures.steps.0

pub returns-clause-effective : goal.returns-clause-effective
returns-clause-effective c =
    effective_last c.self.inside.tree c.args.self.now c.self.view_is c.args.x c.range.result c.next_back.new.self c.in-Some.c.now c.in-Some.bytes.now (c.range.ensures.in_range tt) c.in-Some.ensures.steps

pub returns-clause-bytes : goal.returns-clause-bytes
returns-clause-bytes c =
    held_last c.self.inside.tree c.args.self.now c.self.view_is c.args.x c.range.result c.next_back.new.self c.in-Some.c.now c.in-Some.bytes.now (c.range.ensures.in_range tt) c.in-Some.ensures.steps
    ∙ ap Some (sym (c.in_ok-from_slice.ensures.items ∙ c.deref.ensures.value))
