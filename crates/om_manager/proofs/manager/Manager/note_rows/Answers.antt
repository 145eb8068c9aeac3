use Rattle.std.proofs.Common.{◌≡◌, ◌<◌, ◌+◌, subst, sym, refl, ◌∙◌, arith}
use Rattle.om_interval.specs.Vectors.{IsBelow}
use Rattle.om_manager.proofs.ManagerLemmas.{room_for_version, parts_level, parts_raised, raised_keeps, whole, made_of, rows_level, rows_raised, rows_stale, same_unless}
use Rattle.om_manager.specs.Notes.{NotesUpTo}
use Rattle.om_manager.specs.Sound.{IsManager, GoesOn, Changes, KeepsReleased}
use Rattle.om_manager.specs.State.{ManagerState, process_count}
use Rattle.om_manager.proofs.manager.Manager.note_rows.Goals as goal

pub overflow_add-self : goal.overflow_add-self
overflow_add-self g c = let room : c.self.inside.version + 1 < 18446744073709551616 = room_for_version _ _ _ _ c.self.invariant.records c.self.invariant.few c.self.invariant.rounds in omega arith

pub returns-then-is_stale-clause-sound : goal.returns-then-is_stale-clause-sound
returns-then-is_stale-clause-sound g c = subst IsManager c.self.view_is (whole _ _ _ _ _ _ _ _ c.self.invariant)

pub returns-then-is_stale-clause-answer : goal.returns-then-is_stale-clause-answer
returns-then-is_stale-clause-answer g c =
    let stale = c.is_stale.ensures.stale c.if-is_stale.true in
    rows_stale _ _ _ _ c.stale_unless_empty.result stale.0 stale.1 c.requires.of_one c.stale_unless_empty.ensures.none c.stale_unless_empty.ensures.stale c.stale_unless_empty.ensures.some

pub returns-else-noted-clause-answer : goal.returns-else-noted-clause-answer
returns-else-noted-clause-answer g c =
    let i = c.self.inside in
    let old = made_of i.records i.logs.items i.starts i.round i.gathering i.last i.backs i.version in
    let new = made_of c.note_rows-noted.new.self i.logs.items i.starts i.round i.gathering i.last i.backs i.version in
    let current = subst (λ (m : ManagerState). c.args.pid < process_count m → c.args.round ≡ m.round) (sym c.self.view_is) (c.is_stale.ensures.current c.if-is_stale.false) in
    let level = same_unless _ _ _ c.note_rows-noted.ensures.raised c.if-noted.false in
    subst (λ (m : ManagerState). NotesUpTo m c.args.round (g.L.RowList.rows c.args.rows.now) c.note_rows-noted.result.count c.as_refused-end.result new) c.self.view_is
    (subst (λ e. NotesUpTo old c.args.round (g.L.RowList.rows c.args.rows.now) c.note_rows-noted.result.count e new) (sym c.as_refused-end.ensures)
    (rows_level _ _ _ _ _ _ _ _ _ _ _ _ _ _ current c.requires.of_one c.note_rows-noted.ensures.answer level))

pub invariant_of-self-else-noted : goal.invariant_of-self-else-noted
invariant_of-self-else-noted g c = parts_level _ _ _ _ _ _ _ _ _ c.self.invariant c.note_rows-noted.ensures.sound (same_unless _ _ _ c.note_rows-noted.ensures.raised c.if-noted.false)

pub returns-else-noted-clause-sound : goal.returns-else-noted-clause-sound
returns-else-noted-clause-sound g c = whole _ _ _ _ _ _ _ _ (invariant_of-self-else-noted g c)

pub returns-else-noted-clause-front : goal.returns-else-noted-clause-front
returns-else-noted-clause-front g c =
    let i = c.self.inside in
    let new = made_of c.note_rows-noted.new.self i.logs.items i.starts i.round i.gathering i.last i.backs i.version in
    subst (λ (m : ManagerState). GoesOn m new) c.self.view_is (GoesOn.stays refl refl (sym (same_unless _ _ _ c.note_rows-noted.ensures.raised c.if-noted.false)) (λ closed. closed))

pub returns-else-noted-clause-not_lowered : goal.returns-else-noted-clause-not_lowered
returns-else-noted-clause-not_lowered g c =
    subst (λ (m : ManagerState). IsBelow m.recovery c.note_rows-noted.new.self.state) c.self.view_is c.note_rows-noted.ensures.not_lowered

pub returns-else-noted-clause-released : goal.returns-else-noted-clause-released
returns-else-noted-clause-released g c =
    let i = c.self.inside in
    let new = made_of c.note_rows-noted.new.self i.logs.items i.starts i.round i.gathering i.last i.backs i.version in
    subst (λ (m : ManagerState). KeepsReleased m new) c.self.view_is (raised_keeps _ new (whole _ _ _ _ _ _ _ _ c.self.invariant) refl c.note_rows-noted.ensures.not_lowered)

pub invariant_of-self : goal.invariant_of-self
invariant_of-self g c =
    let raised = c.note_rows-noted.ensures.raised.0 c.if-noted.true in
    parts_raised _ _ _ _ _ _ _ _ _ _ c.self.invariant c.note_rows-noted.ensures.sound c.note_rows-noted.ensures.not_lowered raised c.raise_all.ensures.held (c.raise_all.ensures.limits ∙ c.recovery.ensures.state)

pub returns-then-noted-clause-answer : goal.returns-then-noted-clause-answer
returns-then-noted-clause-answer g c =
    let i = c.self.inside in
    let old = made_of i.records i.logs.items i.starts i.round i.gathering i.last i.backs i.version in
    let new = made_of c.note_rows-noted.new.self c.raise_all.new.logs.items i.starts i.round i.gathering i.last i.backs (i.version + 1) in
    let current = subst (λ (m : ManagerState). c.args.pid < process_count m → c.args.round ≡ m.round) (sym c.self.view_is) (c.is_stale.ensures.current c.if-is_stale.false) in
    let raised = c.note_rows-noted.ensures.raised.0 c.if-noted.true in
    subst (λ (m : ManagerState). NotesUpTo m c.args.round (g.L.RowList.rows c.args.rows.now) c.note_rows-noted.result.count c.as_refused-end.result new) c.self.view_is
    (subst (λ e. NotesUpTo old c.args.round (g.L.RowList.rows c.args.rows.now) c.note_rows-noted.result.count e new) (sym c.as_refused-end.ensures)
    (rows_raised _ _ _ _ _ _ _ _ _ _ _ _ _ _ _ current c.requires.of_one c.note_rows-noted.ensures.answer raised c.note_rows-noted.ensures.not_lowered.same_places c.raise_all.ensures.held))

pub returns-then-noted-clause-sound : goal.returns-then-noted-clause-sound
returns-then-noted-clause-sound g c = whole _ _ _ _ _ _ _ _ (invariant_of-self g c)

pub returns-then-noted-clause-front : goal.returns-then-noted-clause-front
returns-then-noted-clause-front g c =
    let i = c.self.inside in
    let new = made_of c.note_rows-noted.new.self c.raise_all.new.logs.items i.starts i.round i.gathering i.last i.backs (i.version + 1) in
    let raised = c.note_rows-noted.ensures.raised.0 c.if-noted.true in
    subst (λ (m : ManagerState). GoesOn m new) c.self.view_is (GoesOn.rises (Changes.raises raised) refl (omega arith) c.note_rows-noted.ensures.not_lowered)

pub returns-then-noted-clause-not_lowered : goal.returns-then-noted-clause-not_lowered
returns-then-noted-clause-not_lowered g c =
    subst (λ (m : ManagerState). IsBelow m.recovery c.note_rows-noted.new.self.state) c.self.view_is c.note_rows-noted.ensures.not_lowered

pub returns-then-noted-clause-released : goal.returns-then-noted-clause-released
returns-then-noted-clause-released g c =
    let i = c.self.inside in
    let new = made_of c.note_rows-noted.new.self c.raise_all.new.logs.items i.starts i.round i.gathering i.last i.backs (i.version + 1) in
    subst (λ (m : ManagerState). KeepsReleased m new) c.self.view_is (raised_keeps _ new (whole _ _ _ _ _ _ _ _ c.self.invariant) c.raise_all.ensures.held c.note_rows-noted.ensures.not_lowered)
