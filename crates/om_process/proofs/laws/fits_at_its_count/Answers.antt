use Rattle.om_process.proofs.Replays.{fits_at_wait}
use Rattle.om_process.proofs.laws.fits_at_its_count.Goals as goal

pub returns : goal.returns
returns c = fits_at_wait
