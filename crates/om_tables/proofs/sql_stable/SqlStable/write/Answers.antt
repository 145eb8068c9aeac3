use Rattle.std.proofs.Common.{refl}
use Rattle.sqlite.specs.Held.{state}
use Rattle.om_stable.specs.Batches.{written}
use Rattle.om_tables.proofs.SureLemmas.{was_sure, changed, then_changed}
use Rattle.om_tables.proofs.sql_stable.SqlStable.write.Goals as goal

pub returns-clause-put : goal.returns-clause-put
returns-clause-put g c = rw (← c.self.view_is) (λ h formed.
    let old = state g.S.Store c.self.inside.conn in
    let new = state g.S.Store c.write-done.new.conn in
    let change = changed _ old new c.write-done.result c.write-done.ensures.transacts h formed in
    (then_changed (written c.args.batch.now) old old new c.told.result c.write-done.result (record { formed = formed; content = refl }) change c.told.ensures.ok c.told.ensures.err).0)

pub returns-clause-refused : goal.returns-clause-refused
returns-clause-refused g c = rw (← c.self.view_is) (λ h formed.
    let old = state g.S.Store c.self.inside.conn in
    let new = state g.S.Store c.write-done.new.conn in
    let change = changed _ old new c.write-done.result c.write-done.ensures.transacts h formed in
    (then_changed (written c.args.batch.now) old old new c.told.result c.write-done.result (record { formed = formed; content = refl }) change c.told.ensures.ok c.told.ensures.err).1)

pub returns-clause-formed : goal.returns-clause-formed
returns-clause-formed g c = rw (← c.self.view_is) (λ h formed.
    (changed _ (state g.S.Store c.self.inside.conn) (state g.S.Store c.write-done.new.conn) c.write-done.result c.write-done.ensures.transacts h formed).formed)

pub returns-clause-clean : goal.returns-clause-clean
returns-clause-clean g c = rw (← c.self.view_is) (
    was_sure (state g.S.Store c.self.inside.conn) (state g.S.Store c.write-done.new.conn) c.write-done.ensures.transacts.follows)
