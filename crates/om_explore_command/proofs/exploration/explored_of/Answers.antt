use Rattle.std.proofs.Common.{map, subst, sym, ap, ◌∙◌}
use Rattle.om_process.specs.Images.{program_of}
use Rattle.om_scripts.specs.Programs.{programs_of}
use Rattle.om_explore_command.proofs.ExplorationLemmas.{exploration_of, no_tally}
use Rattle.om_explore_command.proofs.exploration.explored_of.Goals as goal

pub play_runs-played-requires-clause-new : goal.play_runs-played-requires-clause-new
play_runs-played-requires-clause-new g c = no_tally g.J.Subject.cluster c.new.result.found.items c.new.ensures

pub returns-in-Ok-clause-found : goal.returns-in-Ok-clause-found
returns-in-Ok-clause-found g c =
    exploration_of g.J.Subject.cluster (map program_of c.deref.result.now) c.play_runs-played.new.gathering.tally.found c.play_runs-played.new.gathering.tally.runs
    c.in-Ok.is_all c.in-Ok.ensures
    (ap programs_of (sym c.requires.named) ∙ sym c.in_ok-images.ensures.programs ∙ ap (map program_of) (sym c.deref.ensures.value))
    c.play_runs-played.new.gathering.tally.summed
