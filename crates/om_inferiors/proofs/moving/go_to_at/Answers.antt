use Rattle.om_inferiors.proofs.Each.{are_back_at, get_other}
use Rattle.om_inferiors.proofs.moving.go_to_at.Goals as goal

pub returns-clause-back : goal.returns-clause-back
returns-clause-back c = are_back_at c.args.all.now c.args.place c.index-all-place.result c.go_to.new.self c.go_to.ensures.stands

pub returns-clause-others : goal.returns-clause-others
returns-clause-others c = λ k apart. get_other c.args.all.now c.args.place k _ apart
