use Rattle.std.proofs.Common.{◌∙◌}
use Rattle.om_process.proofs.Parts.{keeps_delivered, keeps_turns, keeps_waits, same_move}
use Rattle.om_process.proofs.Replays.{keeps_trim, part_turns}
use Rattle.om_process.proofs.laws.parts_go_on.Goals as goal

pub returns-clause-of_the_part : goal.returns-clause-of_the_part
returns-clause-of_the_part c = keeps_turns

pub returns-clause-of_the_whole : goal.returns-clause-of_the_whole
returns-clause-of_the_whole c = part_turns

pub returns-clause-waits : goal.returns-clause-waits
returns-clause-waits c = λ own n whole part keeps.
    (keeps_waits own n whole part keeps, λ waits. same_move own n whole part keeps ∙ waits)

pub returns-clause-delivery : goal.returns-clause-delivery
returns-clause-delivery c = keeps_delivered

pub returns-clause-trimming : goal.returns-clause-trimming
returns-clause-trimming c = keeps_trim
