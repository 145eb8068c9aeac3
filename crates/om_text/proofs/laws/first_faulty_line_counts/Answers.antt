use Rattle.om_text.proofs.FirstFaulty.{IsFirstFaulty-from_script, script-from_IsFirstFaulty}
use Rattle.om_text.proofs.laws.first_faulty_line_counts.Goals as goal

pub returns : goal.returns
returns g c = λ meaning state lines error.
    (IsFirstFaulty-from_script meaning lines state error, script-from_IsFirstFaulty meaning lines state error)
