use Rattle.std.proofs.Common.{rules, refl}
use Rattle.sqlite.specs.Held.{state}
use Rattle.om_stable.specs.Content.{kept_by_cut}
use Rattle.om_tables.proofs.SureLemmas.{was_sure, changed, then_changed}
use Rattle.om_tables.proofs.sql_stable.SqlStableStable.cut.Goals as goal

pub returns-clause-cut : goal.returns-clause-cut
returns-clause-cut g c = rw (← c.self.view_is) (λ h.
    let old = state g.S.Store c.self.inside.conn in
    let new = state g.S.Store c.cut-done.new.conn in
    let change = changed _ old new c.cut-done.result c.cut-done.ensures.transacts h.0 h.1 in
    (then_changed (λ k. kept_by_cut k c.args.r) old old new c.told.result c.cut-done.result (record { formed = h.1; content = refl }) change c.told.ensures.ok c.told.ensures.err).0)

pub returns-clause-refused : goal.returns-clause-refused
returns-clause-refused g c = rw (← c.self.view_is) (λ h.
    let old = state g.S.Store c.self.inside.conn in
    let new = state g.S.Store c.cut-done.new.conn in
    let change = changed _ old new c.cut-done.result c.cut-done.ensures.transacts h.0 h.1 in
    (then_changed (λ k. kept_by_cut k c.args.r) old old new c.told.result c.cut-done.result (record { formed = h.1; content = refl }) change c.told.ensures.ok c.told.ensures.err).1)

pub returns-clause-call : goal.returns-clause-call
returns-clause-call g c = rw (← c.self.view_is) (
    let old = state g.S.Store c.self.inside.conn in
    let new = state g.S.Store c.cut-done.new.conn in
    let transacts = c.cut-done.ensures.transacts in
    record {
      fault = search rules;
      count = search rules;
      gives = (search rules, search rules);
      clean = was_sure old new transacts.follows;
      sound = λ h formed. (changed _ old new c.cut-done.result transacts h formed).formed;
    })
