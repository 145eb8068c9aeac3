use Rattle.om_manager.specs.Notes.{NotesOutput}
use Rattle.om_member.proofs.OutputLemmas.{as_made, by_parts}
use Rattle.om_member.proofs.handing.hand_one.Goals as goal

pub note_output-requires : goal.note_output-requires
note_output-requires g c =
    record {
      taken = by_parts (g.O.ManagerAccess.Takes c.args.pid) c.number-number.result c.interval-interval.result c.bytes.result.now (g.M.HandedOutput.made c.args.output.now) c.number-number.ensures c.interval-interval.ensures c.bytes.ensures c.requires;
    }

pub returns : goal.returns
returns g c = record {
  answers = as_made (λ seq output. NotesOutput (g.O.ManagerAccess.state c.args.access.now) c.args.pid c.args.round seq output c.note_output.result (g.O.ManagerAccess.state c.note_output.new.self))
      c.number-number.result c.interval-interval.result c.bytes.result.now (g.M.HandedOutput.made c.args.output.now) c.number-number.ensures c.interval-interval.ensures c.bytes.ensures c.note_output.ensures.answer;
  keeps = record { sound = c.note_output.ensures.sound; below = c.note_output.ensures.not_lowered; released = c.note_output.ensures.released };
}
