use Rattle.std.proofs.Common.{◌≤◌, List, length, subst}
use Rattle.om_process.specs.declared.row.PendingRow.{PendingRow}
use Rattle.om_member.proofs.RowLemmas.{told_within}
use Rattle.om_member.proofs.telling.note_at_once.Goals as goal

pub noted-requires : goal.noted-requires
noted-requires g c = subst (λ (rows : List PendingRow). c.note_rows-count.result.0 ≤ length rows) c.pending-rows.ensures (told_within _ _ _ _ _ _ _ c.note_rows-count.ensures.answer)

pub returns-clause-keeps : goal.returns-clause-keeps
returns-clause-keeps g c = record {
  sound = c.note_rows-count.ensures.sound;
  below = c.note_rows-count.ensures.not_lowered;
  released = c.note_rows-count.ensures.released;
}
