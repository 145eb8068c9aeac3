use Rattle.std.proofs.Common.{refl, rules}
use Rattle.om_inferiors.proofs.Sets.{get_there}
use Rattle.om_inferiors.proofs.inferiors.Inferiors.stopped.Goals as goal

pub returns-clause-told : goal.returns-clause-told
returns-clause-told c = record {
  member = c.index.result.now;
  is_there = get_there c.args.self.now.members.items c.args.stopped.place c.index.result.now c.requires c.index.ensures;
  text = search rules;
  goes_on = refl;
  selected = refl;
  focus = refl;
  going = refl;
}
