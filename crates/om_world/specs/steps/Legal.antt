-- Legal lists, from the left.
use Rattle.std.specs.Prelude.{List, [], ◌∷◌, ◌++◌}
use Rattle.om_process.specs.Process.{Program}
use Rattle.om_world.specs.declared.entry.Entry.{Entry}
use Rattle.om_world.specs.Live.{MayFollow}

-- each of the entries may come after those and the ones before it
abbrev pub LegalAfter : List Program → List Entry → List Entry → Type 0
LegalAfter programs before [] = Unit {0}
LegalAfter programs before (e ∷ es) = MayFollow programs before e × LegalAfter programs (before ++ e ∷ []) es
