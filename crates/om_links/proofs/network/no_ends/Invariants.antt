use Rattle.std.proofs.Common.{◌≡◌, [], replicate}
use Rattle.om_links.specs.steps.Rows.{all_taken}
use Rattle.om_links.proofs.network.no_ends.Given as goal

abbrev pub invariant-loop : goal.invariant-loop
invariant-loop l = all_taken l.ends.items ≡ replicate l.counter []
