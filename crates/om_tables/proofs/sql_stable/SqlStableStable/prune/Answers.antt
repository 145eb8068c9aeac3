use Rattle.std.proofs.Common.{rules, refl}
use Rattle.sqlite.specs.Held.{state}
use Rattle.om_stable.specs.Content.{kept_by_prune}
use Rattle.om_tables.proofs.SureLemmas.{was_sure, changed, then_changed}
use Rattle.om_tables.proofs.sql_stable.SqlStableStable.prune.Goals as goal

pub returns-clause-pruned : goal.returns-clause-pruned
returns-clause-pruned g c = rw (← c.self.view_is) (λ h.
    let old = state g.S.Store c.self.inside.conn in
    let new = state g.S.Store c.prune-done.new.conn in
    let change = changed _ old new c.prune-done.result c.prune-done.ensures.transacts h.0 h.1 in
    (then_changed (λ k. kept_by_prune k c.args.c) old old new c.told.result c.prune-done.result (record { formed = h.1; content = refl }) change c.told.ensures.ok c.told.ensures.err).0)

pub returns-clause-refused : goal.returns-clause-refused
returns-clause-refused g c = rw (← c.self.view_is) (λ h.
    let old = state g.S.Store c.self.inside.conn in
    let new = state g.S.Store c.prune-done.new.conn in
    let change = changed _ old new c.prune-done.result c.prune-done.ensures.transacts h.0 h.1 in
    (then_changed (λ k. kept_by_prune k c.args.c) old old new c.told.result c.prune-done.result (record { formed = h.1; content = refl }) change c.told.ensures.ok c.told.ensures.err).1)

pub returns-clause-call : goal.returns-clause-call
returns-clause-call g c = rw (← c.self.view_is) (
    let old = state g.S.Store c.self.inside.conn in
    let new = state g.S.Store c.prune-done.new.conn in
    let transacts = c.prune-done.ensures.transacts in
    record {
      fault = search rules;
      count = search rules;
      gives = (search rules, search rules);
      clean = was_sure old new transacts.follows;
      sound = λ h formed. (changed _ old new c.prune-done.result transacts h formed).formed;
    })
