-- What a store says that it is of.
use Rattle.std.specs.Prelude.{ℕ, List, ◌∷◌, ◌++◌}
use Rattle.std.specs.Int.{to_le_bytes, w32}
use Rattle.om_machine.specs.State.{number_of_ext}
use Rattle.om_process.specs.Process.{Program}
use Rattle.om_look.specs.declared.about.TheConstants.{ABOUT_KIND, ABOUT_VERSION}

-- process own of n, of this program
abbrev pub about : ℕ → ℕ → Program → List ℕ
about own n program = ABOUT_KIND ∷ ABOUT_VERSION ∷ own ∷ n ∷ number_of_ext program.ext ∷ (to_le_bytes w32 program.size ++ program.image)
