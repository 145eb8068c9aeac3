use Rattle.om_member.proofs.KeepLemmas.{told_keeps}
use Rattle.om_member.proofs.telling.note.Goals as goal

pub returns-clause-keeps : goal.returns-clause-keeps
returns-clause-keeps g c = told_keeps _ _ _ _ _ c.manager.ensures.sound c.tell_all-count.ensures.done
