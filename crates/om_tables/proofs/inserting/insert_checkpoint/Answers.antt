use Rattle.std.proofs.Common.{rules, [], ◌∷◌, pos, ap}
use Rattle.sqlite.specs.Held.{state}
use Rattle.sqlite.specs.State.{HasCleanDisk}
use Rattle.sqlite.specs.declared.types.Value.TheVariants.{Int, Blob}
use Rattle.om_tables.proofs.InsertLemmas.{performs}
use Rattle.om_tables.proofs.CheckpointLemmas.{puts, insert_text}
use Rattle.om_tables.proofs.inserting.insert_checkpoint.Goals as goal

pub returns-clause-performs : goal.returns-clause-performs
returns-clause-performs g a =
    let old = state g.S.Store a.args.tx.now.conn.now in
    let new = state g.S.Store a.execute.new.tx.conn.now in
    let clean : HasCleanDisk new → HasCleanDisk old = search rules in
    performs old new insert_text (Int (pos a.args.x) ∷ Blob a.args.body.now ∷ []) a.execute.result clean
    (λ clean begun. rw (a.params-to_sql.ensures, a.params-to_sql-2.ensures) at (a.execute.ensures.runs clean begun))
    (λ none. ap (state g.S.Store) (a.execute.ensures.ended none))
    (λ c count had h. puts old new a.args.x a.args.body.now count c had h)
