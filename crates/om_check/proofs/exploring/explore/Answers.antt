use Rattle.std.proofs.Common.{◌≡◌, length, map, sym, ap, ◌∙◌, arith}
use Rattle.std.proofs.lemmas.List.{length-map}
use Rattle.om_process.specs.Images.{program_of}
use Rattle.om_manager.specs.State.{process_count}
use Rattle.om_check.proofs.Shown.{explored_all}
use Rattle.om_check.proofs.exploring.explore.Goals as goal

pub ended-requires-clause-all : goal.ended-requires-clause-all
ended-requires-clause-all g c =
    let way = (c.in-Ok-true.ensures (map program_of c.args.images.now) c.in_ok-trail.ensures.way).0 in
    sym (ap length way.these ∙ length-map c.args.images.now program_of)

pub ended-requires-clause-managed : goal.ended-requires-clause-managed
ended-requires-clause-managed g c =
    let way = (c.in-Ok-true.ensures (map program_of c.args.images.now) c.in_ok-trail.ensures.way).0 in
    let e : process_count c.deliver_to_end.new.trail.stage.world.manager ≡ length (map program_of c.args.images.now) = way.managed in
    let l = length-map c.args.images.now program_of in
    omega (arith, e, l)

pub returns-in-Ok-true : goal.returns-in-Ok-true
returns-in-Ok-true g c =
    let way = c.in-Ok-true.ensures (map program_of c.args.images.now) c.in_ok-trail.ensures.way in
    explored_all (map program_of c.args.images.now) _ _ _ c.ended.result way.0 (way.1 c.in_ok-trail.ensures.led)
    (sym (ap length way.0.these ∙ length-map c.args.images.now program_of)) c.ended.ensures.world c.ended.ensures.events c.ended.ensures.stands
