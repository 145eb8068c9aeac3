use Rattle.std.proofs.Common.{rules, [], ◌∷◌, pos}
use Rattle.sqlite.specs.Held.{state}
use Rattle.sqlite.specs.State.{HasCleanDisk}
use Rattle.sqlite.specs.declared.types.Value.TheVariants.{Int}
use Rattle.om_tables.specs.steps.Statements.{ShowsAny}
use Rattle.om_tables.proofs.QueryLemmas.{any_receipt, any_receipt_text, any_receipt_plain}
use Rattle.om_tables.proofs.ReadLemmas.{asks, found_by}
use Rattle.om_tables.proofs.reading.any_receipt_rows.Goals as goal

pub returns-clause-found : goal.returns-clause-found
returns-clause-found g c clean had holds =
    let old = state g.S.Store c.args.conn.now in
    let new = state g.S.Store c.query_all.new.conn in
    found_by any_receipt_text (Int (pos c.args.first) ∷ Int (pos c.args.last) ∷ []) old new {Q = ShowsAny had.receipts c.args.first c.args.last} c.query_all.result (rw (c.params-to_sql.ensures, c.params-to_sql-2.ensures) at (c.query_all.ensures.ok clean)) (λ rows h. any_receipt old new had c.args.first c.args.last rows holds h)

pub returns-clause-asks : goal.returns-clause-asks
returns-clause-asks g c =
    let old = state g.S.Store c.args.conn.now in
    let new = state g.S.Store c.query_all.new.conn in
    let clean : HasCleanDisk new → HasCleanDisk old = search rules in
    asks any_receipt_text (Int (pos c.args.first) ∷ Int (pos c.args.last) ∷ []) old new any_receipt_plain c.query_all.result clean
    (λ h. rw (c.params-to_sql.ensures, c.params-to_sql-2.ensures) at (c.query_all.ensures.ok h)) (λ h. rw (c.params-to_sql.ensures, c.params-to_sql-2.ensures) at (c.query_all.ensures.err h))
