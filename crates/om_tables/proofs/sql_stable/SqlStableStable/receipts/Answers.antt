use Rattle.std.proofs.Common.{rules}
use Rattle.sqlite.specs.Held.{state}
use Rattle.om_tables.proofs.SureLemmas.{clean_of, was_sure, still, through}
use Rattle.om_tables.proofs.sql_stable.SqlStableStable.receipts.Goals as goal

pub returns-clause-found : goal.returns-clause-found
returns-clause-found g c = rw (← c.self.view_is) (λ h.
    through _ c.told.result c.receipts-found.result c.told.ensures.ok
    (c.receipts-found.ensures.found (clean_of (state g.S.Store c.receipts-found.new.conn) h.0) _ h.1.holds))

pub returns-clause-same : goal.returns-clause-same
returns-clause-same g c = rw (← c.self.view_is) (λ h.
    (still (state g.S.Store c.self.inside.conn) (state g.S.Store c.receipts-found.new.conn) c.receipts-found.ensures.asks h.0 h.1).content)

pub returns-clause-call : goal.returns-clause-call
returns-clause-call g c = rw (← c.self.view_is) (
    let old = state g.S.Store c.self.inside.conn in
    let new = state g.S.Store c.receipts-found.new.conn in
    record {
      fault = search rules;
      count = search rules;
      gives = (search rules, search rules);
      clean = was_sure old new c.receipts-found.ensures.asks.follows;
      sound = λ h formed. (still old new c.receipts-found.ensures.asks h formed).formed;
    })
