use Rattle.std.proofs.Common.{rules, ◌≡◌, ◌-◌, length, drop, refl, ap, ◌∙◌, arith}
use Rattle.std.specs.Prelude.{min}
use Rattle.om_process.specs.Kept.{made_as}
use Rattle.om_process.specs.steps.Numbers.{made_entry}
use Rattle.om_process.specs.Trims.{trimmed_queue}
use Rattle.om_process.specs.declared.limits.TheConstants.{LAST_OUTPUT}
use Rattle.om_process.proofs.Numbering.{are_numbered-drop, is_trimmed}
use Rattle.om_process.proofs.queues.Outputs.trim.Goals as goal

pub invariant_of-self : goal.invariant_of-self
invariant_of-self c =
    let gone : c.min-gone.result ≡ min (c.args.bound - c.self.inside.first) (length c.self.inside.kept) = search rules in
    let left : c.drop_front.new.self ≡ drop c.min-gone.result c.self.inside.kept = c.drop_front.ensures in
    are_numbered-drop made_as made_entry LAST_OUTPUT c.self.inside.first _ c.min-gone.result c.self.inside.kept _ (omega arith) refl left c.self.invariant

pub returns : goal.returns
returns c =
    let gone : c.min-gone.result ≡ min (c.args.bound - c.self.inside.first) (length c.self.inside.kept) = search rules in
    let left : c.drop_front.new.self ≡ drop c.min-gone.result c.self.inside.kept = c.drop_front.ensures in
    is_trimmed made_entry c.args.bound c.self.inside.first _ c.min-gone.result c.self.inside.kept _ gone refl left ∙ ap (trimmed_queue c.args.bound) c.self.view_is
