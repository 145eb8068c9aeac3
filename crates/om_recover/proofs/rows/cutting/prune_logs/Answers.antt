use Rattle.std.proofs.Common.{ℕ, slice_index, nat_le}
use Rattle.om_recover.specs.declared.rows.trees.Logs.{Logs}
use Rattle.om_recover.proofs.RunPartLemmas.{part_of}
use Rattle.om_recover.proofs.rows.cutting.prune_logs.Goals as goal

pub returns : goal.returns
returns c =
    let test = λ (place : ℕ × ℕ). nat_le (slice_index c.args.checkpoints.now place.0) place.1 in
    let after : Logs = record { runs = c.prune_runs.new.runs; others = c.prune_entries.new.entries } in
    part_of test c.args.logs.now after c.requires c.prune_entries.ensures.sorted c.prune_entries.ensures.part c.prune_runs.ensures
