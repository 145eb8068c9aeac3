use Rattle.std.proofs.Common.{subst}
use Rattle.om_bytes.specs.steps.Kept.{AreKept}
use Rattle.om_bytes.proofs.bytes.Bytes.as_slice.Goals as goal

pub shared_ref_as_front-result : goal.shared_ref_as_front-result
shared_ref_as_front-result c = subst AreKept c.in-Short.is c.self.invariant
