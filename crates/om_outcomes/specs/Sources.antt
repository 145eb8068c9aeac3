-- What is left to be read.
use Rattle.std.specs.Prelude.{ℕ, List, Option}
use Rattle.om_outcomes.specs.declared.source.Origin.{Origin}
use Rattle.om_outcomes.specs.declared.source.Origin.TheVariants.{Named, Standard}

-- the bytes that an input has left, where they are known
abbrev pub left_in : {S F : Type 0} → (S → Option (List ℕ)) → (F → Option (List ℕ)) → Origin S F → Option (List ℕ)
left_in standard named (Standard reader) = standard reader
left_in standard named (Named file) = named file
