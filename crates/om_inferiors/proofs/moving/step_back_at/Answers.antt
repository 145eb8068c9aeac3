use Rattle.om_inferiors.proofs.Each.{are_back_at, get_other, ok_step_back}
use Rattle.om_inferiors.proofs.moving.step_back_at.Goals as goal

pub returns-clause-back : goal.returns-clause-back
returns-clause-back c = are_back_at c.args.all.now c.args.place c.index-all-place.result c.step_back.new.self c.step_back.ensures.stands

pub returns-clause-told : goal.returns-clause-told
returns-clause-told c = ok_step_back c.args.all.now c.args.place c.index-all-place.result c.step_back.new.self c.step_back.result c.requires c.step_back.ensures.back

pub returns-clause-others : goal.returns-clause-others
returns-clause-others c = λ k apart. get_other c.args.all.now c.args.place k _ apart
