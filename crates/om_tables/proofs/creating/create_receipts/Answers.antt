use Rattle.std.proofs.Common.{ap}
use Rattle.sqlite.specs.Held.{state}
use Rattle.om_tables.proofs.CreateLemmas.{receipts_made, receipts_text}
use Rattle.om_tables.proofs.InsertLemmas.{makes}
use Rattle.om_tables.proofs.creating.create_receipts.Goals as goal

pub returns-clause-makes : goal.returns-clause-makes
returns-clause-makes g c =
    let old = state g.S.Store c.args.tx.now.conn.now in
    let new = state g.S.Store c.execute.new.tx.conn.now in
    makes old new receipts_text c.execute.result c.execute.ensures.runs (λ none. ap (state g.S.Store) (c.execute.ensures.ended none))
    (λ count had h. let m = receipts_made old new count had h.0 in record { schema = m.0; receipts = m.1 })
