use Rattle.std.proofs.Common.{append_assoc}
use Rattle.om_format.proofs.checkpoint_writing.put_head.Goals as goal

pub returns-clause-bytes : goal.returns-clause-bytes
returns-clause-bytes c =
    rw (c.in_ok-extend_from_slice-5.ensures.items, c.to_le_bytes-3.ensures, c.in_ok-extend_from_slice-4.ensures.items, c.to_le_bytes-2.ensures, c.in_ok-extend_from_slice-3.ensures.items, c.to_le_bytes.ensures, c.in_ok-extend_from_slice-2.ensures.items, c.n.ensures.places, c.index.ensures.place, c.in_ok-extend_from_slice.ensures.items, c.kind_of.ensures) (simp append_assoc)
