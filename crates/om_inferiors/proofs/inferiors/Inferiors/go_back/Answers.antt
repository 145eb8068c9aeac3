use Rattle.std.proofs.Common.{◌≡◌, ◌<◌, inl, length, ap, sym, subst, ◌∙◌, refl}
use Rattle.om_inferiors.proofs.Each.{length_back}
use Rattle.om_inferiors.proofs.Sets.{group_back, put_back}
use Rattle.om_inferiors.proofs.inferiors.Inferiors.go_back.Goals as goal

pub stopped-requires : goal.stopped-requires
stopped-requires g c =
    let news = c.backward.new.all in
    let items = c.args.self.now.members.items in
    let same : length news ≡ length items = length_back c.deref_mut.result.now news c.backward.ensures.back ∙ ap length c.deref_mut.ensures.value in
    let long : c.args.self.now.members.len ≡ length items = sym c.deref_mut.ensures.len ∙ ap length c.deref_mut.ensures.value in
    subst (λ xs. c.in_ok-stopped.stopped.place < length xs) (sym (put_back c.args.self.now.members.len news items same long)) c.in_ok-stopped.ensures.within

pub returns-clause-answered : goal.returns-clause-answered
returns-clause-answered g c =
    let news = c.backward.new.all in
    let items = c.args.self.now.members.items in
    let same : length news ≡ length items = length_back c.deref_mut.result.now news c.backward.ensures.back ∙ ap length c.deref_mut.ensures.value in
    let long : c.args.self.now.members.len ≡ length items = sym c.deref_mut.ensures.len ∙ ap length c.deref_mut.ensures.value in
    inl (group_back c.args.self.now _ c.stopped.new.self c.in_ok-stopped-2.field-0 c.in_ok-stopped.stopped.place c.in_ok-stopped.stopped.stop c.deref_mut.result.now news
    c.deref_mut.ensures.value (c.stopped.ensures.members ∙ put_back c.args.self.now.members.len news items same long) refl c.in_ok-stopped-2.ensures.told c.backward.ensures.back c.in_ok-stopped.ensures.last)
