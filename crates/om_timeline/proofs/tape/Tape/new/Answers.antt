use Rattle.std.proofs.Common.{rules, ◌≡◌, [], None, Some}
use Rattle.std.specs.Prelude.{slice_get}
use Rattle.om_process.specs.Core.{CoreState}
use Rattle.om_world.specs.World.{WorldState}
use Rattle.om_timeline.specs.steps.Filmed.{HasSeat}
use Rattle.om_timeline.proofs.Taping.{tape_begun}
use Rattle.om_timeline.proofs.tape.Tape.new.Goals as goal

pub invariant_of-result : goal.invariant_of-result
invariant_of-result c =
    let w : WorldState = c.args.world in
    let core : CoreState = c.in-Some.core.now in
    let seat : HasSeat c.args.process c.n-n.result w = search rules in
    let at : slice_get w.cores c.args.process ≡ Some (Some core) = search rules in
    let is : c.in_ok-first.first ≡ core.now.machine = search rules in
    let begun : c.of.result.value ≡ w = search rules in
    let none : c.new.result.items ≡ [] = search rules in
    let before : c.new-2.result.before ≡ w = search rules in
    let over : c.new-2.result.begun ≡ None = search rules in
    tape_begun c.args.process c.n-n.result c.in_ok-first.first c.args.events.items w c.of.result.value c.new-2.result c.new.result.items core c.requires.known c.requires.holds seat at is begun before over none
