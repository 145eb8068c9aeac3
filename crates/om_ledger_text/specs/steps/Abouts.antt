-- The parts of what a store is of.
use Rattle.std.specs.Prelude.{ℕ, List}
use Rattle.om_isa.specs.declared.ext.Ext.{Ext}
use Rattle.om_process.specs.Process.{Program}

-- a program of these parts
abbrev pub program_in : Ext → ℕ → List ℕ → Program
program_in ext size image = record { image = image; size = size; ext = ext }
