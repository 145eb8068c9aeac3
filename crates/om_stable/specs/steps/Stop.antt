-- A fuse: how many calls it passes before the one that it stops.
use Rattle.std.specs.Prelude.{ℕ, suc, zero, ◌+◌, min, Bool, true, false}
use Rattle.om_stable.specs.declared.fuse_stable.Stop.{Stop}
use Rattle.om_stable.specs.declared.fuse_stable.Stop.TheVariants.{After, Past}
use Rattle.om_stable.specs.declared.stable.TheConstants.{LAST_COUNT}

-- whether the next call is the one to be stopped
abbrev pub stops_next : Stop → Bool
stops_next (After zero) = true
stops_next (After (suc k)) = false
stops_next Past = false

-- the fuse after one more call
abbrev pub after_call : Stop → Stop
after_call (After zero) = Past
after_call (After (suc k)) = After k
after_call Past = Past

-- how often a store behind a fuse has failed, where the store itself has failed n times: once more after the stop
abbrev pub failed_behind : Stop → ℕ → ℕ
failed_behind (After k) n = min n LAST_COUNT
failed_behind Past n = min (n + 1) LAST_COUNT
