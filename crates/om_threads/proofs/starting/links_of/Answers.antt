use Rattle.std.proofs.Common.{◌∙◌, sym, subst, ◌<◌, ◌≤◌, rules}
use Rattle.om_interval.specs.declared.pid.TheConstants.{MAX_PROCESSES}
use Rattle.om_links.specs.Network.{ArePuts, AreTakes, IsNetwork}
use Rattle.om_threads.proofs.starting.links_of.Goals as goal

pub new-requires-clause-own : goal.new-requires-clause-own
new-requires-clause-own g c = subst (λ k. c.at.result < k) (sym c.requires.network.senders) (subst (λ k. k < g.K.Naming.cell.n) (sym c.at.ensures) c.requires.own)

pub new-requires-clause-few : goal.new-requires-clause-few
new-requires-clause-few g c = subst (λ k. k ≤ MAX_PROCESSES) (sym c.requires.network.senders) c.requires.few

pub new-requires-clause-network : goal.new-requires-clause-network
new-requires-clause-network g c = subst (λ k. IsNetwork k c.args.cluster.now.inboxes.now) (sym c.requires.network.senders) c.requires.network

pub new-requires-clause-puts : goal.new-requires-clause-puts
new-requires-clause-puts g c = c.requires.ends.put ∙ sym c.requires.network.senders

pub new-requires-clause-takes : goal.new-requires-clause-takes
new-requires-clause-takes g c = c.requires.ends.take ∙ sym c.requires.network.senders

pub new-requires-clause-putting : goal.new-requires-clause-putting
new-requires-clause-putting g c = subst (λ k. ArePuts c.args.cluster.now.inboxes.now k c.args.ends.puts.items) (sym c.at.ensures) c.requires.ends.putting

pub new-requires-clause-taking : goal.new-requires-clause-taking
new-requires-clause-taking g c = subst (λ k. AreTakes c.args.cluster.now.inboxes.now k c.args.ends.takes.items) (sym c.at.ensures) c.requires.ends.taking
