use Rattle.std.proofs.Common.{◌≡◌, ◌≢◌, ◌<◌, ◌+◌, subst, sym, refl, ◌∙◌, arith, rules, Ok, Err, true}
use Rattle.om_interval.specs.Vectors.{IsBelow}
use Rattle.om_recover.specs.Offered.{TellsChange}
use Rattle.om_recover.specs.declared.note.Note.TheVariants.{Noted}
use Rattle.om_manager.proofs.ManagerLemmas.{room_for_version, parts_level, parts_raised, raised_keeps, whole, made_of, note_refused, note_level, note_raised, level_state}
use Rattle.om_manager.specs.Notes.{Notes}
use Rattle.om_manager.specs.declared.answers.RecordError.TheVariants.{Refused}
use Rattle.om_manager.specs.Sound.{IsManager, GoesOn, Changes, KeepsReleased}
use Rattle.om_manager.specs.State.{ManagerState, process_count}
use Rattle.om_manager.proofs.manager.Manager.note.Goals as goal

pub overflow_add-self : goal.overflow_add-self
overflow_add-self c = let room : c.self.inside.version + 1 < 18446744073709551616 = room_for_version _ _ _ _ c.self.invariant.records c.self.invariant.few c.self.invariant.rounds in omega arith

pub returns-then-is_stale-clause-sound : goal.returns-then-is_stale-clause-sound
returns-then-is_stale-clause-sound c = subst IsManager c.self.view_is (whole _ _ _ _ _ _ _ _ c.self.invariant)

pub returns-in-Err-clause-answer : goal.returns-in-Err-clause-answer
returns-in-Err-clause-answer c =
    let i = c.self.inside in
    let new = made_of c.note.new.self i.logs.items i.starts i.round i.gathering i.last i.backs i.version in
    let current = subst (λ (m : ManagerState). c.args.row.pid < process_count m → c.args.round ≡ m.round) (sym c.self.view_is) (c.is_stale.ensures.current c.if-is_stale.false) in
    subst (λ (m : ManagerState). Notes m c.args.round c.args.row (Err (Refused c.in-Err.fault)) new) c.self.view_is (note_refused _ _ _ _ _ _ _ _ _ _ _ _ current c.in-Err.ensures.answer c.in-Err.ensures.raised)

pub invariant_of-self : goal.invariant_of-self
invariant_of-self c = parts_level _ _ _ _ _ _ _ _ _ c.self.invariant c.note.ensures.sound c.in-Err.ensures.raised

pub returns-in-Err-clause-sound : goal.returns-in-Err-clause-sound
returns-in-Err-clause-sound c = whole _ _ _ _ _ _ _ _ (invariant_of-self c)

pub returns-in-Err-clause-front : goal.returns-in-Err-clause-front
returns-in-Err-clause-front c =
    let i = c.self.inside in
    let new = made_of c.note.new.self i.logs.items i.starts i.round i.gathering i.last i.backs i.version in
    subst (λ (m : ManagerState). GoesOn m new) c.self.view_is (GoesOn.stays refl refl (sym c.in-Err.ensures.raised) (λ closed. closed))

pub returns-in-Err-clause-not_lowered : goal.returns-in-Err-clause-not_lowered
returns-in-Err-clause-not_lowered c =
    subst (λ (m : ManagerState). IsBelow m.recovery c.note.new.self.state) c.self.view_is c.note.ensures.not_lowered

pub returns-in-Err-clause-released : goal.returns-in-Err-clause-released
returns-in-Err-clause-released c =
    let i = c.self.inside in
    let new = made_of c.note.new.self i.logs.items i.starts i.round i.gathering i.last i.backs i.version in
    subst (λ (m : ManagerState). KeepsReleased m new) c.self.view_is (raised_keeps _ new (whole _ _ _ _ _ _ _ _ c.self.invariant) refl c.note.ensures.not_lowered)

pub returns-else-eq-clause-answer : goal.returns-else-eq-clause-answer
returns-else-eq-clause-answer c =
    let i = c.self.inside in
    let new = made_of c.note.new.self i.logs.items i.starts i.round i.gathering i.last i.backs i.version in
    let current = subst (λ (m : ManagerState). c.args.row.pid < process_count m → c.args.round ≡ m.round) (sym c.self.view_is) (c.is_stale.ensures.current c.if-is_stale.false) in
    let level : c.in-Ok.note ≢ Noted true = search rules in
    subst (λ (m : ManagerState). Notes m c.args.round c.args.row (Ok c.in-Ok.note) new) c.self.view_is (note_level _ _ _ _ _ _ _ _ _ _ _ _ current c.in-Ok.ensures.answer c.in-Ok.ensures.raised level)

pub invariant_of-self-else-eq : goal.invariant_of-self-else-eq
invariant_of-self-else-eq c =
    let level : c.in-Ok.note ≢ Noted true = search rules in
    parts_level _ _ _ _ _ _ _ _ _ c.self.invariant c.note.ensures.sound (level_state _ _ _ c.in-Ok.ensures.raised level)

pub returns-else-eq-clause-sound : goal.returns-else-eq-clause-sound
returns-else-eq-clause-sound c = whole _ _ _ _ _ _ _ _ (invariant_of-self-else-eq c)

pub returns-else-eq-clause-front : goal.returns-else-eq-clause-front
returns-else-eq-clause-front c =
    let i = c.self.inside in
    let new = made_of c.note.new.self i.logs.items i.starts i.round i.gathering i.last i.backs i.version in
    let level : c.in-Ok.note ≢ Noted true = search rules in
    subst (λ (m : ManagerState). GoesOn m new) c.self.view_is (GoesOn.stays refl refl (sym (level_state _ _ _ c.in-Ok.ensures.raised level)) (λ closed. closed))

pub returns-else-eq-clause-not_lowered : goal.returns-else-eq-clause-not_lowered
returns-else-eq-clause-not_lowered c =
    subst (λ (m : ManagerState). IsBelow m.recovery c.note.new.self.state) c.self.view_is c.note.ensures.not_lowered

pub returns-else-eq-clause-released : goal.returns-else-eq-clause-released
returns-else-eq-clause-released c =
    let i = c.self.inside in
    let new = made_of c.note.new.self i.logs.items i.starts i.round i.gathering i.last i.backs i.version in
    subst (λ (m : ManagerState). KeepsReleased m new) c.self.view_is (raised_keeps _ new (whole _ _ _ _ _ _ _ _ c.self.invariant) refl c.note.ensures.not_lowered)

pub invariant_of-self-then-eq : goal.invariant_of-self-then-eq
invariant_of-self-then-eq c =
    let is : c.in-Ok.note ≡ Noted true = search rules in
    let raised = subst (λ note. TellsChange (Ok note) c.self.inside.records.state c.note.new.self.state) is c.in-Ok.ensures.raised in
    parts_raised _ _ _ _ _ _ _ _ _ _ c.self.invariant c.note.ensures.sound c.note.ensures.not_lowered raised c.raise_all.ensures.held (c.raise_all.ensures.limits ∙ c.recovery.ensures.state)

pub returns-then-eq-clause-answer : goal.returns-then-eq-clause-answer
returns-then-eq-clause-answer c =
    let i = c.self.inside in
    let new = made_of c.note.new.self c.raise_all.new.logs.items i.starts i.round i.gathering i.last i.backs (i.version + 1) in
    let current = subst (λ (m : ManagerState). c.args.row.pid < process_count m → c.args.round ≡ m.round) (sym c.self.view_is) (c.is_stale.ensures.current c.if-is_stale.false) in
    let is : c.in-Ok.note ≡ Noted true = search rules in
    subst (λ (m : ManagerState). Notes m c.args.round c.args.row (Ok c.in-Ok.note) new) c.self.view_is (note_raised _ _ _ _ _ _ _ _ _ _ _ _ _ current c.in-Ok.ensures.answer c.in-Ok.ensures.raised is c.raise_all.ensures.held)

pub returns-then-eq-clause-sound : goal.returns-then-eq-clause-sound
returns-then-eq-clause-sound c =
    whole _ _ _ _ _ _ _ _ (invariant_of-self-then-eq c)

pub returns-then-eq-clause-front : goal.returns-then-eq-clause-front
returns-then-eq-clause-front c =
    let i = c.self.inside in
    let new = made_of c.note.new.self c.raise_all.new.logs.items i.starts i.round i.gathering i.last i.backs (i.version + 1) in
    let is : c.in-Ok.note ≡ Noted true = search rules in
    let raised = subst (λ note. TellsChange (Ok note) c.self.inside.records.state c.note.new.self.state) is c.in-Ok.ensures.raised in
    subst (λ (m : ManagerState). GoesOn m new) c.self.view_is (GoesOn.rises (Changes.raises raised) refl (omega arith) c.note.ensures.not_lowered)

pub returns-then-eq-clause-not_lowered : goal.returns-then-eq-clause-not_lowered
returns-then-eq-clause-not_lowered c =
    subst (λ (m : ManagerState). IsBelow m.recovery c.note.new.self.state) c.self.view_is c.note.ensures.not_lowered

pub returns-then-eq-clause-released : goal.returns-then-eq-clause-released
returns-then-eq-clause-released c =
    let i = c.self.inside in
    let new = made_of c.note.new.self c.raise_all.new.logs.items i.starts i.round i.gathering i.last i.backs (i.version + 1) in
    subst (λ (m : ManagerState). KeepsReleased m new) c.self.view_is (raised_keeps _ new (whole _ _ _ _ _ _ _ _ c.self.invariant) c.raise_all.ensures.held c.note.ensures.not_lowered)
