use Rattle.std.proofs.Common.{take}
use Rattle.om_debug_command.specs.Symbols.{AreRun}
use Rattle.om_debug_command.proofs.symbols.check_known.Given as goal

abbrev pub invariant-loop-one : goal.invariant-loop-one
invariant-loop-one l = AreRun l.programs (take l.one-index l.symbols)
