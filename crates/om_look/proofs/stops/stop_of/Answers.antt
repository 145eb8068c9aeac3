use Rattle.std.proofs.Common.{◌≡◌, ◌+◌, ◌-◌, subst, arith, rules, inr, sym}
use Rattle.std.proofs.lemmas.Result.{IfOk-weaker}
use Rattle.om_process.specs.Core.{cluster_size}
use Rattle.om_process.specs.Stored.{anyone, CanReplay, Refuses}
use Rattle.om_process.specs.declared.replay.ReplayFault.TheVariants.{MissingReceipt}
use Rattle.om_stable.specs.Calls.{IsCleanCall}
use Rattle.om_stable.specs.Content.{Content, IsEffective}
use Rattle.om_look.specs.steps.Stops.{StopsAt}
use Rattle.om_look.specs.steps.Told.{NoneMissing}
use Rattle.om_look.proofs.Stopping.{stops_behind, told_stops, stops_missing, missing_above, missing_effective, none_missing}
use Rattle.om_look.proofs.stops.stop_of.Goals as goal

pub returns-in_default-clause-stops : goal.returns-in_default-clause-stops
returns-in_default-clause-stops g c known k e =
    let held = g.S.Stable.content c.args.store.now in
    let core = c.in_default.field-0 in
    let stop : c.args.x + 1 ≡ c.from.result + 1 = omega arith in
    let can : CanReplay anyone held c.args.x = (core.own, cluster_size core.now, core.now, c.in_default.ensures.replayed known) in
    subst (StopsAt held k c.args.x) stop (stops_behind held c.args.x k e can)

pub returns-in-MissingReceipt-clause-stops : goal.returns-in-MissingReceipt-clause-stops
returns-in-MissingReceipt-clause-stops g c known k e =
    let held = g.S.Stable.content c.args.store.now in
    let y = c.in-MissingReceipt.y in
    let first : IsCleanCall g.S.Stable.is_clean g.S.Stable.IsSound c.args.store.now c.replay.new.store = (c.stop_below.ensures.reads.clean known.0, known.1) in
    let second : IsCleanCall g.S.Stable.is_clean g.S.Stable.IsSound c.replay.new.store c.stop_below.new.store = (known.0, c.in-Err.ensures.used.sound first.0 known.1) in
    let same : g.S.Stable.content c.replay.new.store ≡ held = c.in-Err.ensures.same first in
    let why : Refuses anyone held c.args.x (MissingReceipt y) = subst (Refuses anyone held c.args.x) c.in-MissingReceipt.is (c.in-Err.ensures.refused first) in
    let effective = subst (λ (h : Content). IsEffective h.checkpoints (y - 1) k) (sym same) (missing_effective held c.args.x k y e why) in
    let none = subst (λ (h : Content). NoneMissing h k (y - 1)) (sym same) (none_missing held c.args.x k y e why) in
    let told = c.stop_below.ensures.stops second k (missing_above held c.args.x k y e why) effective none in
    IfOk-weaker c.stop_below.result _ _
    (λ stop at. stops_missing held c.args.x k y stop e why (subst (λ h. StopsAt h k (y - 1) stop) same at)) told

pub returns-in_default-fault : goal.returns-in_default-fault
returns-in_default-fault g c = record {
  stops = λ known k e. told_stops (g.S.Stable.content c.args.store.now) c.args.x k c.in-Err.fault c.stop_at.result e
      (inr (λ y is. c.in_default-fault.not-MissingReceipt y is)) (c.in-Err.ensures.refused known) c.stop_at.ensures;
  reads = search rules;
}
