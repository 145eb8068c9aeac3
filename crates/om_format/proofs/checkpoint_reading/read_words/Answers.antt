use Rattle.std.proofs.Common.{length, arith}
use Rattle.om_format.proofs.Numbers.{more_words}
use Rattle.om_format.proofs.checkpoint_reading.read_words.Goals as goal

pub loop-i-preserved : goal.loop-i-preserved
loop-i-preserved c = more_words c.loop-i.places (length c.args.places.now) c.loop-i.i c.loop-i.rest.now c.split_at.result.0.now c.split_at.result.1.now c.from_le_bytes.result _ (omega arith) (omega arith) c.loop-i.invariant.0 c.split_at.ensures.front c.split_at.ensures.back c.from_le_bytes.ensures c.loop-i.invariant.1
