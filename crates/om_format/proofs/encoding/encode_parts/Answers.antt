use Rattle.om_format.proofs.CheckpointSpelling.{checkpoint_is_spelled}
use Rattle.om_format.proofs.encoding.encode_parts.Goals as goal

pub returns : goal.returns
returns c = checkpoint_is_spelled _ c.checkpoint_bytes.result c.checkpoint_bytes.ensures.fits c.checkpoint_bytes.ensures.bytes c.requires.lawful c.checkpoint_bytes.ensures.within
