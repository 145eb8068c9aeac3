use Rattle.std.proofs.Common.{arith}
use Rattle.om_recover.proofs.rows.lent.Lent.of_halves.Goals as goal

pub invariant_of-result : goal.invariant_of-result
invariant_of-result c = record {
  some = omega (arith, c.split_at.ensures.front_len, c.requires.some);
  within = omega (arith, c.split_at.ensures.front_len, c.requires.within);
  some_too = omega (arith, c.split_at.ensures.back_len, c.requires.whole, c.requires.some);
  within_too = omega (arith, c.split_at.ensures.back_len, c.requires.whole, c.requires.within);
}

pub returns : goal.returns
returns c = λ i. record { vec = c.split_at.ensures.front i; got = c.split_at.ensures.back i }
