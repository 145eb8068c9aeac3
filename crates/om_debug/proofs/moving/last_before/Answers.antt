use Rattle.std.proofs.Common.{◌≡◌, arith, sym, subst, ◌∙◌}
use Rattle.om_debug.proofs.Stepping.{StillFrom, last_back, still_all}
use Rattle.om_debug.proofs.moving.last_before.Goals as goal

pub returns-in-Some : goal.returns-in-Some
returns-in-Some c =
    last_back c.args.deeds.now c.events.event c.in-Some.turns c.args.at.event c.args.at.turns c.events.invariant.none c.events-test.true c.events.invariant.within
    (sym c.before_last.ensures ∙ c.in-Some.is) c.events.invariant.still

pub returns : goal.returns
returns c =
    let first : c.events.event ≡ 0 = omega arith in
    still_all c.args.deeds.now c.args.at.event c.args.at.turns c.events.invariant.none
    (subst (λ event. StillFrom c.args.deeds.now event c.args.at.event) first c.events.invariant.still)
