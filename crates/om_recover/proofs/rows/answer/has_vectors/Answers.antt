use Rattle.std.proofs.Common.{ap}
use Rattle.om_recover.specs.declared.row.Row.{Row}
use Rattle.om_recover.proofs.rows.answer.has_vectors.Goals as goal

pub returns : goal.returns
returns c =
    let row = c.args.row.now in (
      λ yes i. record { kind = row.kind; pid = row.pid; interval = row.interval; vec = c.are.ensures.vec yes i; got = c.are.ensures.got yes i },
      λ same. c.are.ensures.both (ap (λ (r : Row). r.vec) same) (ap (λ (r : Row). r.got) same),
    )
