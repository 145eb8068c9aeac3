use Rattle.std.proofs.Common.{◌++◌, length, refl, sym, ap, ◌∙◌}
use Rattle.om_check.proofs.Stuck.{goes_far}
use Rattle.om_check.proofs.Walking.{walked_so}
use Rattle.om_check.proofs.all.walk_on.Goals as goal

pub go_on-requires-clause-all : goal.go_on-requires-clause-all
go_on-requires-clause-all c =
    let first = (c.in_ok-repeat.ensures.run c.args.trail.now.stage.world.programs c.requires.way).0 in
    c.requires.all ∙ sym (ap length first.these)

pub returns-clause-run : goal.returns-clause-run
returns-clause-run c = goes_far _ _ _ _ _ _ (goes_far _ _ _ _ _ _ c.in_ok-repeat.ensures.run c.in_ok-go_on.ensures.run) c.in_ok-release_all.ensures.run

pub returns-clause-walked : goal.returns-clause-walked
returns-clause-walked c =
    let programs = c.args.trail.now.stage.world.programs in
    let first = (c.in_ok-repeat.ensures.run programs c.requires.way).0 in
    let second = (c.in_ok-go_on.ensures.run programs first).0 in
    let third = (c.in_ok-release_all.ensures.run programs second).0 in
    walked_so programs _ _ _ _ _ _ c.args.choices.now first second third (c.in_ok-release_all.ensures.live programs second)
    c.in_ok-go_on.ensures.taken c.in_ok-go_on.ensures.ended c.in_ok-go_on.ensures.ahead
    (c.in_ok-repeat.ensures.walk ∙ ap (λ cs. cs ++ c.args.choices.now) c.requires.none) refl
