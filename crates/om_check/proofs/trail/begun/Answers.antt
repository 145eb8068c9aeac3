use Rattle.std.proofs.Common.{map, ◌∙◌}
use Rattle.om_process.specs.Images.{program_of}
use Rattle.om_check.proofs.trail.begun.Goals as goal

pub returns-in-Ok-clause-way : goal.returns-in-Ok-clause-way
returns-in-Ok-clause-way c = (c.in-Ok.ensures.run (map program_of c.args.images.now) c.in_ok-trail.ensures.way).0

pub returns-in-Ok-clause-led : goal.returns-in-Ok-clause-led
returns-in-Ok-clause-led c = (c.in-Ok.ensures.run (map program_of c.args.images.now) c.in_ok-trail.ensures.way).1 c.in_ok-trail.ensures.led

pub returns-in-Ok-clause-live : goal.returns-in-Ok-clause-live
returns-in-Ok-clause-live c = c.in-Ok.ensures.live (map program_of c.args.images.now) c.in_ok-trail.ensures.way ∙ c.in_ok-trail.ensures.live
