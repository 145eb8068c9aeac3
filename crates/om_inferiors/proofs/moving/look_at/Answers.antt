use Rattle.om_inferiors.proofs.Each.{ok_end, ok_on_at}
use Rattle.om_inferiors.proofs.moving.look_at.Goals as goal

pub returns-clause-on : goal.returns-clause-on
returns-clause-on c =
    let e = c.look.ensures in
    ok_on_at c.args.all.now c.args.place c.index-all-place.result c.look.new.self c.look.result e.same e.before e.moved e.passed

pub returns-clause-end : goal.returns-clause-end
returns-clause-end c = ok_end c.args.all.now c.args.place _ c.look.result c.requires c.look.ensures.end
