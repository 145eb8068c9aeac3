use Rattle.std.proofs.Common.{◌<◌, ◌+◌, ◌^◌, arith, subst, sym, ap, ◌∙◌, not, Some}
use Rattle.om_manager.specs.State.{ManagerState}
use Rattle.om_manager.specs.steps.Parts.{AreParts}
use Rattle.om_manager.proofs.ManagerLemmas.{room_for_version, one_open, none_open, parts_gathering, whole, finishes_keeps}
use Rattle.om_manager.proofs.manager.Manager.gather.Goals.{then-is_none, else-is_none}
use Rattle.om_manager.proofs.manager.Manager.gather.Goals as goal

pub overflow_add-self : goal.overflow_add-self
overflow_add-self c = let room : c.self.inside.version + 1 < 18446744073709551616 = room_for_version _ _ _ _ c.self.invariant.records c.self.invariant.few c.self.invariant.rounds in omega arith

pub returns-then-are_all_in-clause-released : goal.returns-then-are_all_in-clause-released
returns-then-are_all_in-clause-released c = finishes_keeps _ _ _ c.in_ok-finish.ensures.finished

pub invariant_of-self : goal.invariant_of-self
invariant_of-self c =
    let room : c.self.inside.round + 1 < 2 ^ 32 = subst (λ (m : ManagerState). m.round + 1 < 2 ^ 32) (sym c.self.view_is) c.requires in
    let most = one_open c.self.inside.gathering in
    elim c.if-is_none.branch [
      | then-is_none w ↦
          let closed = none_open c.self.inside.gathering (c.is_none.ensures ∙ ap not w.if-is_none.true) in
          subst (λ i. AreParts i.records i.logs.items i.starts i.round (Some c.args.presences.now) i.last i.backs i.version) (sym w.self-inside-is)
          (parts_gathering _ _ _ _ _ _ _ _ _ _ c.self.invariant room (omega arith))
      | else-is_none w ↦
          subst (λ i. AreParts i.records i.logs.items i.starts i.round (Some c.args.presences.now) i.last i.backs i.version) (sym w.self-inside-is)
          (parts_gathering _ _ _ _ _ _ _ _ _ _ c.self.invariant room (omega arith))
    ]

pub returns-clause-sound : goal.returns-clause-sound
returns-clause-sound c = whole _ _ _ _ _ _ _ _ (invariant_of-self c)
