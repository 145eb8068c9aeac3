use Rattle.std.proofs.Common.{rules, ap}
use Rattle.sqlite.specs.Held.{state}
use Rattle.sqlite.specs.State.{HasCleanDisk}
use Rattle.om_tables.proofs.InsertLemmas.{puts_four, performs, insert_four_text, four_params}
use Rattle.om_tables.proofs.inserting.insert_four.Goals as goal

pub returns-clause-performs : goal.returns-clause-performs
returns-clause-performs g a =
    let old = state g.S.Store a.args.tx.now.conn.now in
    let new = state g.S.Store a.execute.new.tx.conn.now in
    let clean : HasCleanDisk new → HasCleanDisk old = search rules in
    performs old new insert_four_text (four_params a.args.first a.args.a.now a.args.b.now a.args.c.now a.args.d.now) a.execute.result clean
    (λ clean begun. rw (a.params-to_sql.ensures, a.params-to_sql-2.ensures, a.params-to_sql-3.ensures, a.params-to_sql-4.ensures, a.params-to_sql-5.ensures, a.params-to_sql-6.ensures, a.params-to_sql-7.ensures, a.params-to_sql-8.ensures) at (a.execute.ensures.runs clean begun))
    (λ none. ap (state g.S.Store) (a.execute.ensures.ended none))
    (λ k count had h. puts_four old new a.args.first a.args.a.now a.args.b.now a.args.c.now a.args.d.now count k had h)
