use Rattle.om_interval.proofs.VectorLemmas.{sum_falls}
use Rattle.om_interval.proofs.laws.lower_vector_has_smaller_sum.Goals as goal

pub returns : goal.returns
returns c = sum_falls
