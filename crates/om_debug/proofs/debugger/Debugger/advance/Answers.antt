use Rattle.om_debug.proofs.Quiet.{passed_then}
use Rattle.om_debug.proofs.debugger.Debugger.advance.Goals as goal

pub returns-in_ok-stop-in-Next-clause-passed : goal.returns-in_ok-stop-in-Next-clause-passed
returns-in_ok-stop-in-Next-clause-passed c =
    passed_then c.args.self.now c.look.new.self c.go_on.new.self c.go_on.ensures.same c.in_ok-look.ensures.within c.go_on.ensures.moved c.in_ok-look.ensures.passed c.in_ok-stop-in-Next.ensures.passed
