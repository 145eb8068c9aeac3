use Rattle.om_recover.specs.declared.rows.trees.Bases.{Bases}
use Rattle.om_recover.proofs.BaseStepLemmas.{no_bases}
use Rattle.om_recover.proofs.rows.first.no_bases.Goals as goal

pub returns : goal.returns
returns c =
    let bases : Bases = record { newest = c.in_ok-newest.newest; others = c.new.result } in
    no_bases bases c.in_ok-newest.ensures c.new.ensures.ordered c.new.ensures.empty
