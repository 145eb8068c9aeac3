use Rattle.std.proofs.Common.{ap, arith, length}
use Rattle.om_recover.specs.declared.rows.trees.Vectors.{Vectors}
use Rattle.om_recover.proofs.rows.lent.Lent.vec_numbers.Goals as goal

pub returns-clause-some : goal.returns-clause-some
returns-clause-some c = omega (arith, c.self.invariant.some, ap (λ (vectors : Vectors). length vectors.vec) c.self.view_is)

pub returns-clause-within : goal.returns-clause-within
returns-clause-within c = omega (arith, c.self.invariant.within, ap (λ (vectors : Vectors). length vectors.vec) c.self.view_is)
