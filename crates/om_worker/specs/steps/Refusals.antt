-- How a run's caller is told why a store is not taken up.
use Rattle.std.specs.Prelude.{ℕ}
use Rattle.om_restart.specs.declared.finding.FindFault.{FindFault}
use Rattle.om_restart.specs.declared.finding.FindFault.TheVariants as finding
use Rattle.om_report.specs.declared.fault.RunFault.{RunFault}
use Rattle.om_report.specs.declared.fault.RunFault.TheVariants as running

-- what was found in the store of a process is not taken up
abbrev pub refusal_of_found : FindFault → ℕ → RunFault
refusal_of_found finding.Another pid = running.AnotherCluster pid
refusal_of_found (finding.Damaged x) pid = running.Fault pid
refusal_of_found (finding.Mismatch x) pid = running.Fault pid
refusal_of_found (finding.Output seq) pid = running.Fault pid
refusal_of_found (finding.Senders first) pid = running.Fault pid
refusal_of_found finding.Fault pid = running.Fault pid
refusal_of_found finding.Memory pid = running.Memory
