use Rattle.std.proofs.Common.{ap, ◌∙◌, arith}
use Rattle.std.specs.FinMap as map
use Rattle.om_stable.proofs.RecordLemmas.{with_all-next, put_and_gone, length-bytes_of_taken}
use Rattle.om_stable.proofs.row_tree.RowTree.insert_all.Goals as goal

pub returns-in-Err-clause-err : goal.returns-in-Err-clause-err
returns-in-Err-clause-err c =
    let recs = c.args.recs.now in
    let put = c.in-Err.ensures.err ∙ c.loop-k.invariant in
    put_and_gone c.args.self.now c.remove_run.new.self c.args.first _ c.loop-k.k _ (length-bytes_of_taken recs c.loop-k.k (omega arith)) (omega arith) c.requires.free record {
      gone = c.remove_run.ensures.gone;
      below = λ q h. c.remove_run.ensures.below q h ∙ ap (λ m. map.get m q) put;
      above = λ q h. c.remove_run.ensures.above q h ∙ ap (λ m. map.get m q) put;
    }

pub loop-k-preserved : goal.loop-k-preserved
loop-k-preserved c =
    with_all-next c.args.self.now c.loop-k.self c.insert.new.self c.args.first c.loop-k.k _ c.args.recs.now c.index-recs-k.result c.deref.result.now
    (omega arith) c.index-recs-k.is c.loop-k.invariant (omega arith) c.deref.ensures.value c.in_default.ensures.ok
