use Rattle.om_inferiors.proofs.Each.{get_other, ok_on_at, ok_stands}
use Rattle.om_inferiors.proofs.moving.go_on_at.Goals as goal

pub returns-clause-on : goal.returns-clause-on
returns-clause-on c =
    let e = c.go_on.ensures in
    ok_on_at c.args.all.now c.args.place c.index-all-place.result c.go_on.new.self c.go_on.result e.same e.within e.moved e.passed

pub returns-clause-stands : goal.returns-clause-stands
returns-clause-stands c = ok_stands c.args.all.now c.args.place _ c.go_on.result c.requires c.go_on.ensures.stands

pub returns-clause-others : goal.returns-clause-others
returns-clause-others c = λ k apart. get_other c.args.all.now c.args.place k _ apart
