use Rattle.std.proofs.Common.{◌≡◌, ◌≤◌, subst, length, All, arith, ◌+◌, ◌-◌, true, rules, nat_le}
use Rattle.om_manager.specs.Outputs.{HeldOutput}
use Rattle.om_manager.specs.steps.OutputLog.{LogState}
use Rattle.om_manager.proofs.LogLemmas.{up_to_is}
use Rattle.om_manager.proofs.output_log.OutputLog.is_up_to.Goals as goal

pub returns-else-next-eq0 : goal.returns-else-next-eq0
returns-else-next-eq0 c =
    let many : c.len-next.result ≡ length c.self.inside.items.items = search rules in
    let last : length c.self.inside.items.items ≡ (c.len-next.result - 1) + 1 = omega arith in
    subst (λ (log : LogState). (nat_le c.index.result.now.interval c.args.interval ≡ true → All (λ (held : HeldOutput). held.interval ≤ c.args.interval) log.held) × (All (λ (held : HeldOutput). held.interval ≤ c.args.interval) log.held → nat_le c.index.result.now.interval c.args.interval ≡ true))
    c.self.view_is (up_to_is _ _ _ _ c.self.invariant.rising last c.index.ensures)
