use Rattle.std.proofs.Common.{refl}
use Rattle.om_recover.proofs.RunLemmas.{read_at}
use Rattle.om_recover.proofs.rows.laying.may_follow.Goals as goal

pub returns-then-is_behind : goal.returns-then-is_behind
returns-then-is_behind c = λ yes.
    let read = c.in-Some.ensures.lookup in
    record {
      run = c.in-Some.run'.now;
      own = read_at c.args.runs.now _ c.index.result c.in-Some.run'.now c.index.ensures.place read.0 read.1;
      next = record { behind = c.if-is_behind.ensures refl; alike = c.takes.ensures yes };
    }
