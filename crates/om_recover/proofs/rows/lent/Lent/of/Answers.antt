use Rattle.std.proofs.Common.{ap, arith, length}
use Rattle.om_recover.proofs.rows.lent.Lent.of.Goals as goal

pub invariant_of-result : goal.invariant_of-result
invariant_of-result c = record {
  some = omega (arith, c.as_slice.ensures.some, ap length c.as_slice.ensures.numbers);
  within = omega (arith, c.as_slice.ensures.within, ap length c.as_slice.ensures.numbers);
  some_too = omega (arith, c.as_slice-2.ensures.some, ap length c.as_slice-2.ensures.numbers);
  within_too = omega (arith, c.as_slice-2.ensures.within, ap length c.as_slice-2.ensures.numbers);
}

pub returns : goal.returns
returns c = λ i. record { vec = c.as_slice.ensures.numbers i; got = c.as_slice-2.ensures.numbers i }
