use Rattle.std.proofs.Common.{◌<◌, arith, subst, length, slice_index, slice_set}
use Rattle.om_manager.specs.Outputs.{HeldOutput}
use Rattle.om_manager.specs.State.{ManagerState}
use Rattle.om_manager.specs.Sound.{IsManager, KeepsReleased}
use Rattle.om_manager.specs.Notes.{NotesOutput, IsCurrent}
use Rattle.om_manager.specs.steps.Offers.{Offer}
use Rattle.om_manager.proofs.ManagerLemmas.{log_after, has_log, whole, parts_pushed, pushed_keeps, made_of, output_answered}
use Rattle.om_manager.proofs.manager.Manager.note_output.Goals as goal

pub returns-then-index-n-clause-sound : goal.returns-then-index-n-clause-sound
returns-then-index-n-clause-sound c = subst IsManager c.self.view_is (whole _ _ _ _ _ _ _ _ c.self.invariant)

pub returns-then-round-self-clause-sound : goal.returns-then-round-self-clause-sound
returns-then-round-self-clause-sound c = subst IsManager c.self.view_is (whole _ _ _ _ _ _ _ _ c.self.invariant)

pub invariant_of-self : goal.invariant_of-self
invariant_of-self c =
    let output : HeldOutput = record { interval = c.args.x; bytes = c.args.bytes.now } in
    let inside : c.index-2.result < length c.self.inside.logs.items = has_log _ _ _ _ _ _ _ _ _ c.self.invariant (omega arith) in
    parts_pushed _ _ _ _ _ _ _ _ _ _ _ output c.self.invariant inside c.index_mut-log.ensures.value (log_after _ _ _ _ _ c.note.ensures)

pub returns-clause-answer : goal.returns-clause-answer
returns-clause-answer c =
    let i = c.self.inside in
    let offer : Offer = record { pid = c.args.pid; round = c.args.round; seq = c.args.seq; output = record { interval = c.args.x; bytes = c.args.bytes.now } } in
    let new : ManagerState = made_of i.records (slice_set i.logs.items c.index-2.result c.note.new.self) i.starts i.round i.gathering i.last i.backs i.version in
    let current : IsCurrent (made_of i.records i.logs.items i.starts i.round i.gathering i.last i.backs i.version) c.args.pid c.args.round = record { known = omega arith; in_round = omega arith } in
    subst (λ m. NotesOutput m offer.pid offer.round offer.seq offer.output c.note.result new) c.self.view_is
    (output_answered _ _ _ _ _ _ _ _ _ _ _ offer _ c.self.invariant current c.index-2.ensures.place c.index_mut-log.ensures.value c.note.ensures)

pub returns-clause-sound : goal.returns-clause-sound
returns-clause-sound c = whole _ _ _ _ _ _ _ _ (invariant_of-self c)

pub returns-clause-released : goal.returns-clause-released
returns-clause-released c =
    let i = c.self.inside in
    let inside : c.index-2.result < length i.logs.items = has_log _ _ _ _ _ _ _ _ _ c.self.invariant (omega arith) in
    let new : ManagerState = made_of i.records (slice_set i.logs.items c.index-2.result c.note.new.self) i.starts i.round i.gathering i.last i.backs i.version in
    subst (λ (m : ManagerState). KeepsReleased m new) c.self.view_is
    (λ q here. pushed_keeps i.logs.items c.index-2.result q (slice_index i.records.state q) _ _ _ inside c.index_mut-log.ensures.value (log_after _ _ _ _ _ c.note.ensures))
