use Rattle.std.proofs.Common.{refl}
use Rattle.om_explore_command.proofs.TallyLemmas.{new_of, on_again, on_new, within}
use Rattle.om_explore_command.proofs.tally.Tally.add.Goals as goal

pub count-requires : goal.count-requires
count-requires c =
    within c.args.self.now.found.items c.in-Some.place c.args.self.now.texts c.as_str.result.now c.args.self.now.indexed c.in-Some.ensures.some

pub push-requires : goal.push-requires
push-requires c =
    new_of c.args.self.now.found.items c.args.outcome c.args.self.now.texts c.as_str.result.now c.args.self.now.indexed c.as_str.ensures.value
    (c.in-None.ensures.none refl)

pub returns-in-Some : goal.returns-in-Some
returns-in-Some c =
    on_again c.args.self.now.found.items c.count.new.self.found.items c.in-Some.place c.args.outcome c.args.self.now.texts c.as_str.result.now c.count.result
    c.args.self.now.indexed c.as_str.ensures.value c.in-Some.ensures.some c.count.ensures

pub returns-in-None : goal.returns-in-None
returns-in-None c =
    on_new c.args.self.now.found.items c.push.new.self.found.items c.args.outcome c.push.result
    (new_of c.args.self.now.found.items c.args.outcome c.args.self.now.texts c.as_str.result.now c.args.self.now.indexed c.as_str.ensures.value
    (c.in-None.ensures.none refl)) c.push.ensures
