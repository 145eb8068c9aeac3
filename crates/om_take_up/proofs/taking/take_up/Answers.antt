use Rattle.std.proofs.Common.{◌≡◌, map, rules, subst, sym, Err}
use Rattle.om_member.specs.Handed.{AreHandedUpTo}
use Rattle.om_member.specs.Told.{IsToldUpTo}
use Rattle.om_take_up.specs.TakenUp.{IsTakenUp}
use Rattle.om_take_up.specs.declared.taking.TakeUpFault.TheVariants.{Output, Row}
use Rattle.om_take_up.proofs.HandingLemmas.{all_taken, all_told}
use Rattle.om_take_up.proofs.taking.take_up.Goals as goal

pub returns : goal.returns
returns g c = all_taken _ _ _ _ _ _ _ _ _ c.in_ok-end.was c.tell_all-end.ensures c.in_ok-hand_all.ensures

pub returns-in_err-end : goal.returns-in_err-end
returns-in_err-end g c =
    let state = g.O.ManagerAccess.state in let fault = c.in_err-end.field-0.0 in
    let from : c.from_residual.result ≡ Err (Row fault) = search rules in
    subst (λ r. IsTakenUp (state c.args.access.now) c.args.round c.args.pid c.args.rows.now (map g.M.HandedOutput.made c.args.outputs.now) r (state c.tell_all-end.new.access)) (sym from)
    (c.tell_all-end.result.0, subst (λ e. IsToldUpTo (state c.args.access.now) c.args.round c.args.pid c.args.rows.now c.tell_all-end.result.0 e (state c.tell_all-end.new.access)) c.in_err-end.was c.tell_all-end.ensures)

pub returns-in_err-hand_all : goal.returns-in_err-hand_all
returns-in_err-hand_all g c =
    let state = g.O.ManagerAccess.state in let made = map g.M.HandedOutput.made c.args.outputs.now in let fault = c.in_err-hand_all.field-0.0 in
    let mid = state c.tell_all-end.new.access in let new = state c.hand_all.new.access in
    let from : c.from_residual-in_err-hand_all.result ≡ Err (Output fault) = search rules in
    subst (λ r. IsTakenUp (state c.args.access.now) c.args.round c.args.pid c.args.rows.now made r new) (sym from) (
      mid,
      all_told (state c.args.access.now) mid c.args.round c.args.pid c.tell_all-end.result.0 c.args.rows.now c.tell_all-end.result.1 c.in_ok-end.was c.tell_all-end.ensures,
      subst (λ e. AreHandedUpTo mid c.args.round c.args.pid made e new) c.in_err-hand_all.was c.hand_all.ensures,
    )
