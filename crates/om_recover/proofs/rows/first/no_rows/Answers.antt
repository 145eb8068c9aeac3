use Rattle.om_recover.specs.declared.rows.trees.Trees.{Trees}
use Rattle.om_recover.proofs.AddingLemmas.{hold_nothing}
use Rattle.om_recover.proofs.rows.first.no_rows.Goals as goal

pub returns : goal.returns
returns c =
    let trees : Trees = record { logs = c.in_ok-logs.logs; bases = c.in_ok-bases.bases } in
    hold_nothing trees (record { logs = c.in_ok-logs.ensures.sorted; bases = c.in_ok-bases.ensures.sorted }) c.in_ok-logs.ensures.none c.in_ok-bases.ensures.none
