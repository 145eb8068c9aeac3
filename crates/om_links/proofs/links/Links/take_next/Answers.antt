use Rattle.std.proofs.Common.{rules, ◌<◌}
use Rattle.om_links.specs.Links.{EndsState}
use Rattle.om_links.proofs.LinkLemmas.{take_line, take_links}
use Rattle.om_links.proofs.links.Links.take_next.Goals as goal

pub invariant_of-self : goal.invariant_of-self
invariant_of-self g c =
    let l : EndsState = record { own = c.self.inside.own; n = c.self.inside.n; lines = c.self.inside.inboxes.now } in
    let from : c.first_from-from.result < c.self.inside.n = search rules in
    let next : c.if-from-self-2.self < c.self.inside.n = search rules in
    take_links l _ _ _ c.first_from-from.result c.if-from-self-2.self c.index_mut.result.now c.taken_from-taken.new.pass c.self.invariant from c.index_mut.ensures.value (take_line c.taken_from-taken.result _ _ c.taken_from-taken.ensures) next

pub invariant_of-self-else-is_some : goal.invariant_of-self-else-is_some
invariant_of-self-else-is_some g c =
    let l : EndsState = record { own = c.self.inside.own; n = c.self.inside.n; lines = c.self.inside.inboxes.now } in
    let from : c.first_from-from.result < c.self.inside.n = search rules in
    let next : c.if-from-self-2.self < c.self.inside.n = search rules in
    take_links l _ _ _ c.first_from-from.result c.if-from-self-2.self c.index_mut.result.now c.taken_from-taken.new.pass c.self.invariant from c.index_mut.ensures.value (take_line c.taken_from-taken.result _ _ c.taken_from-taken.ensures) next
