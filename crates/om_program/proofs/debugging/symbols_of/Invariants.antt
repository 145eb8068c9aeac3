use Rattle.std.proofs.Common.{◌≡◌, take}
use Rattle.om_program.specs.Refusals.{names_given, names_of}
use Rattle.om_program.proofs.debugging.symbols_of.Given as goal

abbrev pub invariant-loop-one : goal.invariant-loop-one
invariant-loop-one l = names_of l.symbols.items ≡ names_given (take l.one-index l.given)
