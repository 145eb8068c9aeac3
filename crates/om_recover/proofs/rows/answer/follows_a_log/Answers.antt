use Rattle.std.proofs.Common.{refl, arith}
use Rattle.om_recover.specs.steps.Held.{held, row_of}
use Rattle.om_recover.specs.declared.row.RowKind.TheVariants.{Log}
use Rattle.om_recover.proofs.HeldLemmas.{held_log}
use Rattle.om_recover.proofs.AnswerLemmas.{below_by_log}
use Rattle.om_recover.proofs.rows.answer.follows_a_log.Goals as goal

pub returns-in-Some-log_at : goal.returns-in-Some-log_at
returns-in-Some-log_at c = λ yes.
    let row = c.args.row.now in
    let before = c.in-Some.before in
    let vectors = c.in-Some-log_at.vectors in
    let low = row_of Log row.pid before vectors in
    record {
      low = low;
      nearest = below_by_log (held c.args.trees.now) row low before (omega (arith, c.in-Some.ensures))
          (record { there = held_log c.args.trees.now row.pid before vectors c.in-Some-log_at.ensures; pid_is = refl; within = omega arith; nearest = λ x has below. below }) (λ x has below. below);
      at_most = record { vec = c.are_at_most.ensures.vec yes; got = c.are_at_most.ensures.got yes };
    }
