use Rattle.std.proofs.Common.{◌∙◌}
use Rattle.om_stable.proofs.TreeLemmas.{is_some-held}
use Rattle.om_stable.proofs.record_tree.RecordTree.has.Goals as goal

pub returns : goal.returns
returns c = c.contains_key.ensures ∙ is_some-held c.self.inside.tree c.args.self.now c.self.view_is c.args.x
