-- What a store says of what it is.
use Rattle.std.specs.Prelude.{◌≡◌, ℕ, List, [], ◌∷◌, Bool, true, false}
use Rattle.om_look.specs.About.{about}
use Rattle.om_process.specs.Process.{Program}

-- the rows say that it is of process own of n, of this program; or they say nothing
abbrev pub IsAboutOf : ℕ → ℕ → Program → List (ℕ × List ℕ) → Bool → Type 0
IsAboutOf own n program rows true = rows ≡ (0, about own n program) ∷ []
IsAboutOf own n program rows false = rows ≡ []
