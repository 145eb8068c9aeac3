use Rattle.std.proofs.Common.{rules, [], ◌∷◌, pos, ap}
use Rattle.sqlite.specs.Held.{state}
use Rattle.sqlite.specs.State.{HasCleanDisk}
use Rattle.sqlite.specs.declared.types.Value.TheVariants.{Int}
use Rattle.om_tables.proofs.InsertLemmas.{performs}
use Rattle.om_tables.proofs.DeleteLemmas.{prune_checkpoints, prune_checkpoints_text}
use Rattle.om_tables.proofs.deleting.prune_checkpoints.Goals as goal

pub returns-clause-performs : goal.returns-clause-performs
returns-clause-performs g a =
    let old = state g.S.Store a.args.tx.now.conn.now in
    let new = state g.S.Store a.execute.new.tx.conn.now in
    let clean : HasCleanDisk new → HasCleanDisk old = search rules in
    performs old new prune_checkpoints_text (Int (pos a.args.c) ∷ []) a.execute.result clean
    (λ clean begun. rw a.params-to_sql.ensures at (a.execute.ensures.runs clean begun))
    (λ none. ap (state g.S.Store) (a.execute.ensures.ended none))
    (λ c count had h. prune_checkpoints old new a.args.c c count had h)
