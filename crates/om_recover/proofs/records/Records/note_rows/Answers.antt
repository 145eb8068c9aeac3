use Rattle.std.proofs.Common.{◌≢◌, ◌↔◌, IsTrue, subst, length}
use Rattle.om_interval.specs.Vectors.{IsBelow}
use Rattle.om_recover.specs.Counted.{IsCountedAtOnce}
use Rattle.om_recover.specs.Offered.{AreOfferedUpTo}
use Rattle.om_recover.specs.Records.{Kept}
use Rattle.om_recover.specs.steps.AsKept.{AreKept}
use Rattle.om_recover.proofs.NoteLemmas.{kept_after}
use Rattle.om_recover.proofs.records.Records.note_rows.Goals as goal

pub add_rows-added-requires-clause-lawful : goal.add_rows-added-requires-clause-lawful
add_rows-added-requires-clause-lawful g c = c.self.invariant.lawful

pub add_rows-added-requires-clause-state : goal.add_rows-added-requires-clause-state
add_rows-added-requires-clause-state g c = c.self.invariant.greatest.recoverable

pub raised_by_rows-state-requires : goal.raised_by_rows-state-requires
raised_by_rows-state-requires g c =
    (c.self.inside.index, record { greatest = c.self.invariant.greatest; added = c.add_rows-added.ensures.added; remembered = c.self.invariant.remembered })

pub invariant_of-self : goal.invariant_of-self
invariant_of-self g c = kept_after _ _ _ _ c.add_rows-added.ensures.added.lawful c.raised_by_rows-state.ensures.greatest c.raised_by_rows-state.ensures.remembered

pub returns-clause-sound : goal.returns-clause-sound
returns-clause-sound g c =
    let kept : AreKept c.add_rows-added.new.index c.raised_by_rows-state.result c.raised_by_rows-state.new.memories.places =
    kept_after _ _ _ _ c.add_rows-added.ensures.added.lawful c.raised_by_rows-state.ensures.greatest c.raised_by_rows-state.ensures.remembered in
    record { lawful = kept.lawful; greatest = kept.greatest }

pub returns-clause-answer : goal.returns-clause-answer
returns-clause-answer g c =
    subst (λ (kept : Kept). AreOfferedUpTo (length kept.state) kept.rows (g.L.RowList.rows c.args.rows.now) c.add_rows-added.result.count c.add_rows-added.result.end c.add_rows-added.new.index)
    c.self.view_is c.add_rows-added.ensures.answer

pub returns-clause-raised : goal.returns-clause-raised
returns-clause-raised g c =
    subst (λ (kept : Kept). IsTrue c.is_other-raised.result ↔ (kept.state ≢ c.raised_by_rows-state.result)) c.self.view_is c.is_other-raised.ensures

pub returns-clause-not_lowered : goal.returns-clause-not_lowered
returns-clause-not_lowered g c =
    subst (λ (kept : Kept). IsBelow kept.state c.raised_by_rows-state.result) c.self.view_is (c.raised_by_rows-state.ensures.greatest.above_all c.self.inside.state c.add_rows-added.ensures.added.still)

pub returns-clause-counted : goal.returns-clause-counted
returns-clause-counted g c =
    subst (λ (kept : Kept). IsCountedAtOnce (length kept.state) kept.rows c.add_rows-added.new.index c.args.pid kept.state c.raised_by_rows-state.result c.args.work.now.attempts c.raised_by_rows-state.new.work.attempts)
    c.self.view_is (c.raised_by_rows-state.ensures.counted c.self.inside.index c.add_rows-added.ensures.added.fresh)
