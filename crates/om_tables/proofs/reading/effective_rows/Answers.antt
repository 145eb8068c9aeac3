use Rattle.std.proofs.Common.{rules, [], ◌∷◌, pos}
use Rattle.sqlite.specs.Held.{state}
use Rattle.sqlite.specs.State.{HasCleanDisk}
use Rattle.sqlite.specs.declared.types.Value.TheVariants.{Int}
use Rattle.om_tables.specs.steps.Statements.{ShowsEffective}
use Rattle.om_tables.proofs.EffectiveLemmas.{effective, effective_text, effective_plain}
use Rattle.om_tables.proofs.ReadLemmas.{asks, found_by}
use Rattle.om_tables.proofs.reading.effective_rows.Goals as goal

pub returns-clause-found : goal.returns-clause-found
returns-clause-found g c clean had holds =
    let old = state g.S.Store c.args.conn.now in
    let new = state g.S.Store c.query_all.new.conn in
    found_by effective_text (Int (pos c.args.x) ∷ []) old new {Q = ShowsEffective had.checkpoints c.args.x} c.query_all.result (rw c.params-to_sql.ensures at (c.query_all.ensures.ok clean)) (λ rows h. effective old new had c.args.x rows holds h)

pub returns-clause-asks : goal.returns-clause-asks
returns-clause-asks g c =
    let old = state g.S.Store c.args.conn.now in
    let new = state g.S.Store c.query_all.new.conn in
    let clean : HasCleanDisk new → HasCleanDisk old = search rules in
    asks effective_text (Int (pos c.args.x) ∷ []) old new effective_plain c.query_all.result clean
    (λ h. rw c.params-to_sql.ensures at (c.query_all.ensures.ok h)) (λ h. rw c.params-to_sql.ensures at (c.query_all.ensures.err h))
