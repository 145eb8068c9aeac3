use Rattle.std.proofs.Common.{subst, sym, ap, set, map, ◌≡◌, ◌∙◌, ◌+◌, ◌<◌, [], length, refl}
use Rattle.om_process.specs.Core.{AreLast, CoreState, cluster_size}
use Rattle.om_process.specs.Turns.{IsWaiting}
use Rattle.om_process.specs.steps.Views.{logged_record}
use Rattle.om_process.proofs.CoreLemmas.{takes_body, core_delivered, last_of_none}
use Rattle.om_process.proofs.proc_core.ProcCore.deliver.Goals as goal

pub finish_receive-requires : goal.finish_receive-requires
finish_receive-requires c = takes_body _ _ c.self.inside.machine _ (subst (λ (s : CoreState). IsWaiting s.own (cluster_size s.now) s.now) (sym c.self.view_is) c.requires.waits)

pub invariant_of-self : goal.invariant_of-self
invariant_of-self c =
    let from : c.args.from < length c.self.inside.vec = subst (λ (s : CoreState). c.args.from < cluster_size s.now) (sym c.self.view_is) c.requires.from in
    let log = map logged_record c.self.inside.log.items in
    let empty : log ≡ [] = ap (λ s. s.log) c.self.view_is ∙ c.requires.unlogged in
    let last : AreLast (c.self.inside.interval + 1) log = subst (AreLast (c.self.inside.interval + 1)) (sym empty) (last_of_none (c.self.inside.interval + 1)) in
    core_delivered _ c.finish_receive.new.self.count (c.self.inside.interval + 1) c.args.from c.args.sender_interval log c.set.new.self c.set-2.new.self c.finish_receive.ensures.counted refl from last
    (c.set.ensures ∙ ap (λ v. set v c.self.inside.pid (c.self.inside.interval + 1)) c.join_tag.ensures)
    (c.set-2.ensures ∙ ap (λ g. set c.self.inside.got c.args.from (g + 1)) c.get.ensures)
    c.self.invariant
