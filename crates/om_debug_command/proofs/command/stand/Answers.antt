use Rattle.std.proofs.Common.{ℕ, Option, subst}
use Rattle.std.specs.Prelude.{IfSome, MatchOption}
use Rattle.om_world.specs.World.{WorldState}
use Rattle.om_timeline.specs.Timeline.{CanBegin, IsBegin, TimelineState}
use Rattle.om_debug_command.proofs.Opening.{begun_can, placed_at}
use Rattle.om_debug_command.proofs.command.stand.Goals as goal

pub returns : goal.returns
returns c =
    let begins : IsBegin c.in-Some.timeline c.at.result c.in_ok-world.world c.in_ok-events.events.items =
    subst (λ (made : Option TimelineState). IfSome made (λ t. IsBegin t c.at.result c.in_ok-world.world c.in_ok-events.events.items))
    c.in-Some.is c.in_ok-timeline.ensures.begun in
    placed_at c.args.script.now c.programs-programs.result.now c.args.place c.at.result c.in_ok-world.world c.in_ok-events.events.items c.events.result.now c.in-Some.timeline
    c.in_ok-new-in-Some.field-0 c.programs-programs.ensures c.in_ok-world.ensures.begun c.in_ok-events.ensures.items c.events.ensures c.at.ensures begins c.in_ok-new-in-Some.ensures.timeline

pub unreachable-requires : goal.unreachable-requires
unreachable-requires c =
    let w : WorldState = c.in_ok-world.world in
    let p : ℕ = c.at.result in
    let none : CanBegin w p → ⊥ =
    subst (λ (made : Option TimelineState). MatchOption made (CanBegin w p → ⊥) (λ t. CanBegin w p)) c.in-None.is c.in_ok-timeline.ensures.can in
    none (begun_can c.args.script.now c.programs-programs.result.now c.args.place p w c.programs-programs.ensures c.requires c.in_ok-world.ensures.begun c.at.ensures)
