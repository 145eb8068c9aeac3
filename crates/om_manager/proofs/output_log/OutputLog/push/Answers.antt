use Rattle.std.proofs.Common.{◌≡◌, ◌+◌, subst, sym, ap, ◌∙◌, length, All, ◌≤◌, rules}
use Rattle.std.proofs.lemmas.List.{length_push}
use Rattle.om_manager.specs.Outputs.{HeldOutput}
use Rattle.om_manager.specs.steps.OutputLog.{LogState, IsLog}
use Rattle.om_manager.proofs.LogLemmas.{log_pushed_out, log_pushed_held}
use Rattle.om_manager.proofs.output_log.OutputLog.push.Goals as goal

pub invariant_of-self-then-interval-self : goal.invariant_of-self-then-interval-self
invariant_of-self-then-interval-self c =
    let all = subst (λ (log : LogState). All (λ (held : HeldOutput). held.interval ≤ c.args.interval) log.held) (sym c.self.view_is) c.requires in
    let seq : c.len-seq.result ≡ length c.self.inside.items.items = search rules in
    let more : length c.push.new.self.items ≡ length c.self.inside.items.items + 1 = ap length c.in_ok-push.ensures.items ∙ length_push c.self.inside.items.items _ in
    let count : c.len-self-inside.result ≡ length c.push.new.self.items = search rules in
    subst (λ n. IsLog c.push.new.self.items n c.self.inside.limit) (sym (count ∙ more))
    (subst (λ items. IsLog items (length c.self.inside.items.items + 1) c.self.inside.limit) (sym c.in_ok-push.ensures.items) (log_pushed_out _ _ _ _ c.self.invariant seq all c.if-interval-self.true))

pub invariant_of-self-else-interval-self : goal.invariant_of-self-else-interval-self
invariant_of-self-else-interval-self c =
    let all = subst (λ (log : LogState). All (λ (held : HeldOutput). held.interval ≤ c.args.interval) log.held) (sym c.self.view_is) c.requires in
    let seq : c.len-seq.result ≡ length c.self.inside.items.items = search rules in
    subst (λ items. IsLog items c.self.inside.released c.self.inside.limit) (sym c.in_ok-push.ensures.items) (log_pushed_held _ _ _ _ c.self.invariant seq all c.if-interval-self.false)
