use Rattle.std.specs.Prelude.{length}
use Rattle.om_process.specs.Claims.{Makes}
use Rattle.om_world.specs.Live.{program_at}
use Rattle.om_restart_laws.proofs.Closing.{cut_legal}
use Rattle.om_restart_laws.proofs.Cutting.{cut_fact, cut_true}
use Rattle.om_restart_laws.proofs.Replaying.{replay_along}
use Rattle.om_restart_laws.proofs.laws.taken_up.Goals as goal

pub returns-clause-legal : goal.returns-clause-legal
returns-clause-legal c = cut_legal

pub returns-clause-kept : goal.returns-clause-kept
returns-clause-kept c = λ programs live held state. cut_true programs live held state

pub returns-clause-stands : goal.returns-clause-stands
returns-clause-stands c = λ programs live held state. replay_along programs live held state

pub returns-clause-said : goal.returns-clause-said
returns-clause-said c = λ programs live state p number output made le.
    cut_fact state live p output.interval (Makes (program_at programs p) p (length programs) (length programs) number output) le made
