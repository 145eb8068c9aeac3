use Rattle.std.proofs.Common.{◌≡◌, inl, length, ap, sym, ◌∙◌, refl}
use Rattle.om_inferiors.proofs.Each.{length_on}
use Rattle.om_inferiors.proofs.Sets.{group_on, put_back}
use Rattle.om_inferiors.proofs.inferiors.Inferiors.resume.Goals as goal

pub returns-clause-answered : goal.returns-clause-answered
returns-clause-answered g c =
    let news = c.forward.new.all in
    let items = c.args.self.now.members.items in
    let same : length news ≡ length items = length_on c.deref_mut.result.now news c.in_ok-stopped.ensures.on ∙ ap length c.deref_mut.ensures.value in
    let long : c.args.self.now.members.len ≡ length items = sym c.deref_mut.ensures.len ∙ ap length c.deref_mut.ensures.value in
    inl (group_on c.args.self.now _ c.stopped.new.self c.in_ok-stopped-2.field-0 c.in_ok-stopped.stopped.place c.in_ok-stopped.stopped.stop c.deref_mut.result.now news
    c.deref_mut.ensures.value (c.stopped.ensures.members ∙ put_back c.args.self.now.members.len news items same long) refl c.in_ok-stopped-2.ensures.told c.in_ok-stopped.ensures.on c.in_ok-stopped.ensures.stands)
