use Rattle.std.proofs.Common.{◌∙◌, ap, subst, sym}
use Rattle.om_world.specs.Restarted.{anew}
use Rattle.om_world.specs.Stopped.{IsLeft, along}
use Rattle.om_world.specs.steps.Restarting.{left_run}
use Rattle.om_world.proofs.Reading.{left_after}
use Rattle.om_world.proofs.Restarted.{keeps_anew, restart_happened, same_run}
use Rattle.om_world.proofs.world.World.restart.Goals as goal

pub begin_anew-requires-clause-left : goal.begin_anew-requires-clause-left
begin_anew-requires-clause-left g c =
    let old = c.args.self.now in let mid = c.manager_anew.new.self in let current = c.in_ok-current.current in
    subst (IsLeft mid) (sym (same_run current old mid c.in_ok-manager.ensures.read)) (left_after old mid (left_run current old) c.in_ok-manager.ensures.read c.in_ok-current.ensures.left)

pub returns-clause-happened : goal.returns-clause-happened
returns-clause-happened g c = λ known.
    let old = c.args.self.now in let mid = c.manager_anew.new.self in let current = c.in_ok-current.current in let m = c.in_ok-manager.manager in
    restart_happened old mid c.begin_anew.new.self (left_run current old) m c.in_ok-current.ensures.left c.in_ok-manager.ensures.read c.in_ok-manager.ensures.made
    (c.begin_anew.ensures ∙ ap (λ run. anew (along mid run) m) (same_run current old mid c.in_ok-manager.ensures.read)) known

pub returns-clause-keeps : goal.returns-clause-keeps
returns-clause-keeps g c =
    let mid = c.manager_anew.new.self in
    keeps_anew c.args.self.now mid c.begin_anew.new.self (left_run c.in_ok-current.current mid) c.in_ok-manager.manager c.in_ok-manager.ensures.read c.in_ok-manager.ensures.made c.begin_anew.ensures
