-- Readings that end in a value or in an error.
use Rattle.std.specs.Prelude.{◌≡◌, ℕ, List, Bool, Option, is_some, filter_map, Result, Ok, Err, if◌then◌else◌}
use Rattle.std.specs.List.{list_all}
use Rattle.om_text.specs.declared.error.BuildError.{BuildError}
use Rattle.om_text.specs.declared.error.BuildError.TheVariants as errors

-- a reading, and then the next one of what it gave; the first error ends both
infixl 10 ◌>>=◌
abbrev pub ◌>>=◌ : {A B F : Type 0} → Result A F → (A → Result B F) → Result B F
(Ok x) >>= next = next x
(Err error) >>= next = Err error

-- the error, where this holds; else the reading goes on
abbrev pub refused : {F : Type 0} → Bool → F → Result (Unit {0}) F
refused holds error = if holds then Err error else Ok tt

-- the reading of each word, in order; where one has none, the error
abbrev pub all_read : {A F : Type 0} → (List ℕ → Option A) → F → List (List ℕ) → Result (List A) F
all_read read error words = if list_all (λ word. is_some (read word)) words then Ok (filter_map read words) else Err error

-- what a function returned, seen by view, is what the reading gives, unless memory ran out
abbrev pub Gives : {X Y F : Type 0} → (X → Y) → Result X (BuildError F) → Result Y F → Type 0
Gives view (Ok x) reading = reading ≡ Ok (view x)
Gives view (Err (errors.Invalid error)) reading = reading ≡ Err error
Gives view (Err errors.Memory) reading = Unit {0}
