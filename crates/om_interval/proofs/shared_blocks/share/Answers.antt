use Rattle.std.proofs.Common.{◌∙◌, ap}
use Rattle.om_interval.proofs.LineLemmas.{shared_more}
use Rattle.om_interval.proofs.shared_blocks.share.Goals as goal

pub returns-clause-shared : goal.returns-clause-shared
returns-clause-shared c =
    shared_more c.args.shared.now.items c.push.new.self.items c.in_ok-block.block c.args.own.now.items c.in_ok-push.ensures.items
    (ap (λ v. v.items) c.in_ok-block.ensures.ok ∙ c.in_ok-from_slice.ensures.items ∙ c.deref.ensures.value)
