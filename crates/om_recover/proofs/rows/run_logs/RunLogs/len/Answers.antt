use Rattle.std.proofs.Common.{◌∙◌, ap, sym, drop, length}
use Rattle.om_recover.proofs.FlatLemmas.{length-vectors}
use Rattle.om_recover.proofs.rows.run_logs.RunLogs.len.Goals as goal

pub returns : goal.returns
returns c =
    let inside = c.self.inside in
    sym (length-vectors inside.n inside.count (drop inside.gone inside.numbers.items)) ∙ ap length c.self.view_is
