use Rattle.om_copies.proofs.CleanLemmas.{memory_is_clean, on_ok}
use Rattle.om_copies.proofs.bytes.still_answers.Goals as goal
use Rattle.om_copies.proofs.bytes.still_answers.Goals.{in-Ok, in-Err}

pub returns : goal.returns
returns c = elim c.match-prepare.branch [
  | in-Ok w ↦ on_ok c.match-prepare.result (w.in-Ok.ensures.ok (memory_is_clean c.prepare.new.self)).1.0.was_open
  | in-Err w ↦ rw w.result-is tt
]
