use Rattle.std.proofs.Common.{◌≡◌, ◌+◌, ◌-◌, subst, arith, inl}
use Rattle.om_process.specs.Core.{cluster_size}
use Rattle.om_process.specs.Stored.{anyone, CanReplay, Refuses}
use Rattle.om_look.specs.steps.Stops.{StopsAt}
use Rattle.om_look.proofs.Stopping.{stops_behind, told_stops}
use Rattle.om_look.proofs.stops.stop_below.Goals as goal

pub returns-in_default-clause-stops : goal.returns-in_default-clause-stops
returns-in_default-clause-stops g c known k above e all =
    let held = g.S.Stable.content c.args.store.now in
    let core = c.in_default.field-0 in
    let to : c.saturating_sub.result ≡ c.args.y - 1 = omega arith in
    let stop : c.args.y - 1 + 1 ≡ c.from.result = omega arith in
    let replay = c.in_default.ensures.replayed known in
    let can : CanReplay anyone held (c.args.y - 1) = subst (CanReplay anyone held) to (core.own, cluster_size core.now, core.now, replay) in
    subst (StopsAt held k (c.args.y - 1)) stop (stops_behind held (c.args.y - 1) k e can)

pub returns-clause-stops : goal.returns-clause-stops
returns-clause-stops g c known k above e all =
    let held = g.S.Stable.content c.args.store.now in
    let to : c.saturating_sub.result ≡ c.args.y - 1 = omega arith in
    let why : Refuses anyone held (c.args.y - 1) c.in-Err.fault = subst (λ x. Refuses anyone held x c.in-Err.fault) to (c.in-Err.ensures.refused known) in
    told_stops held (c.args.y - 1) k c.in-Err.fault c.stop_at.result e (inl all) why c.stop_at.ensures
