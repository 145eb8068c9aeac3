use Rattle.std.proofs.Common.{sym, subst}
use Rattle.om_recover.specs.steps.Logs.{IsNextIn}
use Rattle.om_recover.specs.declared.rows.trees.Run.{Run}
use Rattle.om_recover.proofs.RunLemmas.{own_run, pushed, not_pushed, after_error}
use Rattle.om_recover.proofs.rows.laying.push.Goals as goal

pub returns-in_err-push_to-clause-err : goal.returns-in_err-push_to-clause-err
returns-in_err-push_to-clause-err c =
    after_error c.from_residual.result _
    (not_pushed c.args.runs.now.items _ _ c.requires.run c.index_mut.result.now _ c.index.ensures.place c.requires.own c.index_mut.ensures.value c.in_err-push_to.ensures.err)

pub returns-clause-ok : goal.returns-clause-ok
returns-clause-ok c = pushed c.args.runs.now.items _ _ _ c.requires.run c.index_mut.result.now _ _ c.index.ensures.place c.requires.own c.index_mut.ensures.value c.in_ok-push_to.ensures.ok

pub push_to-requires : goal.push_to-requires
push_to-requires c =
    subst (λ (run : Run). IsNextIn run c.args.x c.args.vectors.now) (sym (own_run c.args.runs.now.items _ _ c.requires.run c.index_mut.result.now c.index.ensures.place c.requires.own c.index_mut.ensures.value))
    c.requires.next
