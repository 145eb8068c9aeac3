use Rattle.om_recover.proofs.StableLemmas.{record_of_stable}
use Rattle.om_recover.proofs.laws.recoverable_has_rows.Goals as goal

pub returns : goal.returns
returns c = λ n rows state p recoverable in_cluster.
    let has = (record_of_stable rows p _ (recoverable.stable p in_cluster)).1 in
    (has.row, has.there, has.pid_is, has.interval_is)
