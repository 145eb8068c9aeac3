use Rattle.om_recover.proofs.StableLemmas.{record_of_stable}
use Rattle.om_recover.proofs.rows.lookup.got_at.Goals as goal

pub vectors_at-vectors-requires-clause-there : goal.vectors_at-vectors-requires-clause-there
vectors_at-vectors-requires-clause-there c = record_of_stable _ _ _ c.requires.stable
