use Rattle.std.proofs.Common.{◌≡◌, drop}
use Rattle.om_debug_command.specs.Symbols.{file_of}
use Rattle.om_debug_command.proofs.symbols.file_of.Given as goal

-- the file of the rest is that of all
abbrev pub invariant-loop-one : goal.invariant-loop-one
invariant-loop-one l = file_of l.program (drop l.one-index l.symbols) ≡ file_of l.program l.symbols
