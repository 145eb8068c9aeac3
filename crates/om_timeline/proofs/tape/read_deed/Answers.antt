use Rattle.std.proofs.Common.{rules, ◌≡◌, true}
use Rattle.om_world.specs.World.{WorldState}
use Rattle.om_timeline.specs.steps.Filmed.{HasSeat, IsDeed}
use Rattle.om_timeline.specs.steps.Kinds.{IsKind}
use Rattle.om_timeline.proofs.Reading.{is_read}
use Rattle.om_timeline.proofs.tape.read_deed.Goals as goal

pub returns : goal.returns
returns c =
    let w : WorldState = c.args.world.now in
    let yes : c.is_seated.result ≡ true = search rules in
    let seat : HasSeat c.args.process c.args.n w = c.is_seated.ensures.seated yes in
    let same : c.index.result ≡ c.args.process = search rules in
    let kind : IsKind c.index.result c.args.answer c.args.event c.kind_of-kind.result = search rules in
    let deed : IsDeed c.in_ok-deed_of.field-0 c.args.process w c.kind_of-kind.result = search rules in
    is_read c.args.process c.args.n c.index.result w c.args.event c.args.answer c.kind_of-kind.result c.in_ok-deed_of.field-0 seat same kind deed
