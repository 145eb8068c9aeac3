use Rattle.std.proofs.Common.{◌∙◌, ap, Err}
use Rattle.om_world.specs.World.{WorldState}
use Rattle.om_world.proofs.Reading.{left_back, whole_after}
use Rattle.om_world.proofs.Restarted.{keeps_anew, restart_happened, restart_refused}
use Rattle.om_world.proofs.world.World.take_up.Goals as goal

pub into_world-world-requires-clause-anew : goal.into_world-world-requires-clause-anew
into_world-world-requires-clause-anew g c = c.in-Ok.ensures.made

pub into_world-world-requires-clause-whole : goal.into_world-world-requires-clause-whole
into_world-world-requires-clause-whole g c = whole_after c.args.left c.manager_anew.new.self c.manager_anew.ensures.read c.requires

pub returns-in-Ok-clause-restarted : goal.returns-in-Ok-clause-restarted
returns-in-Ok-clause-restarted g c = λ known.
    let w = c.into_world-world.ensures in
    restart_happened c.args.left c.manager_anew.new.self c.into_world-world.result w.0 c.in-Ok.manager (left_back c.args.left c.manager_anew.new.self w.0 c.manager_anew.ensures.read w.1) c.manager_anew.ensures.read c.in-Ok.ensures.made w.2 known

pub returns-in-Ok-clause-released : goal.returns-in-Ok-clause-released
returns-in-Ok-clause-released g c = (keeps_anew c.args.left c.manager_anew.new.self c.into_world-world.result c.into_world-world.ensures.0 c.in-Ok.manager c.manager_anew.ensures.read c.in-Ok.ensures.made c.into_world-world.ensures.2).released

pub returns-in-Ok-clause-size : goal.returns-in-Ok-clause-size
returns-in-Ok-clause-size g c = (keeps_anew c.args.left c.manager_anew.new.self c.into_world-world.result c.into_world-world.ensures.0 c.in-Ok.manager c.manager_anew.ensures.read c.in-Ok.ensures.made c.into_world-world.ensures.2).size

pub returns-in-Ok-clause-programs : goal.returns-in-Ok-clause-programs
returns-in-Ok-clause-programs g c = ap (λ (w : WorldState). w.programs) c.into_world-world.ensures.2 ∙ ap (λ (w : WorldState). w.programs) c.manager_anew.ensures.read.others

pub returns-in-Ok-clause-origins : goal.returns-in-Ok-clause-origins
returns-in-Ok-clause-origins g c = (keeps_anew c.args.left c.manager_anew.new.self c.into_world-world.result c.into_world-world.ensures.0 c.in-Ok.manager c.manager_anew.ensures.read c.in-Ok.ensures.made c.into_world-world.ensures.2).origins

pub returns-in-Ok-clause-clean : goal.returns-in-Ok-clause-clean
returns-in-Ok-clause-clean g c = (keeps_anew c.args.left c.manager_anew.new.self c.into_world-world.result c.into_world-world.ensures.0 c.in-Ok.manager c.manager_anew.ensures.read c.in-Ok.ensures.made c.into_world-world.ensures.2).clean

pub returns-in-Ok-clause-counts : goal.returns-in-Ok-clause-counts
returns-in-Ok-clause-counts g c = (keeps_anew c.args.left c.manager_anew.new.self c.into_world-world.result c.into_world-world.ensures.0 c.in-Ok.manager c.manager_anew.ensures.read c.in-Ok.ensures.made c.into_world-world.ensures.2).counts

pub returns-in-Err-clause-refused : goal.returns-in-Err-clause-refused
returns-in-Err-clause-refused g c = λ known.
    restart_refused c.args.left c.manager_anew.new.self c.in-Err.why c.in-Err.ensures.refused c.manager_anew.ensures.read
    (λ is. c.manager_anew.ensures.counted (c.in-Err.is ∙ ap (λ e. Err e) is))
    (λ is. c.manager_anew.ensures.whole known c.requires (c.in-Err.is ∙ ap (λ e. Err e) is)) known

pub returns-in-Err-clause-faultless : goal.returns-in-Err-clause-faultless
returns-in-Err-clause-faultless g c = λ never is. c.manager_anew.ensures.faultless never (c.in-Err.is ∙ ap (λ e. Err e) is)
