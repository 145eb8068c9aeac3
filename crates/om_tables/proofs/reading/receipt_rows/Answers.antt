use Rattle.std.proofs.Common.{rules, [], ◌∷◌, pos, ◌≡◌, map}
use Rattle.sqlite.specs.Held.{state}
use Rattle.sqlite.specs.State.{HasCleanDisk}
use Rattle.sqlite.specs.declared.types.Value.TheVariants.{Int}
use Rattle.om_stable.specs.Content.{between}
use Rattle.om_tables.specs.steps.Halfway.{shown}
use Rattle.om_tables.proofs.QueryLemmas.{ranges, range_text, range_plain}
use Rattle.om_tables.proofs.ReadLemmas.{asks, found_by}
use Rattle.om_tables.proofs.reading.receipt_rows.Goals as goal

pub returns-clause-found : goal.returns-clause-found
returns-clause-found g c clean had holds =
    let old = state g.S.Store c.args.conn.now in
    let new = state g.S.Store c.query_all.new.conn in
    found_by range_text (Int (pos c.args.after) ∷ Int (pos c.args.to) ∷ []) old new {Q = λ rows. rows ≡ map shown (between had.receipts c.args.after c.args.to)} c.query_all.result (rw (c.params-to_sql.ensures, c.params-to_sql-2.ensures) at (c.query_all.ensures.ok clean)) (λ rows h. ranges old new had c.args.after c.args.to rows holds h)

pub returns-clause-asks : goal.returns-clause-asks
returns-clause-asks g c =
    let old = state g.S.Store c.args.conn.now in
    let new = state g.S.Store c.query_all.new.conn in
    let clean : HasCleanDisk new → HasCleanDisk old = search rules in
    asks range_text (Int (pos c.args.after) ∷ Int (pos c.args.to) ∷ []) old new range_plain c.query_all.result clean
    (λ h. rw (c.params-to_sql.ensures, c.params-to_sql-2.ensures) at (c.query_all.ensures.ok h)) (λ h. rw (c.params-to_sql.ensures, c.params-to_sql-2.ensures) at (c.query_all.ensures.err h))
