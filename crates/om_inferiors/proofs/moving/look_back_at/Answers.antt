use Rattle.om_inferiors.proofs.Each.{are_back_at, get_other, ok_look_back}
use Rattle.om_inferiors.proofs.moving.look_back_at.Goals as goal

pub returns-clause-back : goal.returns-clause-back
returns-clause-back g c = are_back_at c.args.all.now c.args.place c.index-all-place.result c.look_back.new.self c.look_back.ensures.stands

pub returns-clause-told : goal.returns-clause-told
returns-clause-told g c = ok_look_back c.args.all.now c.args.place c.args.event c.index-all-place.result c.look_back.new.self c.look_back.result c.requires c.look_back.ensures.back

pub returns-clause-others : goal.returns-clause-others
returns-clause-others g c = λ k apart. get_other c.args.all.now c.args.place k _ apart
