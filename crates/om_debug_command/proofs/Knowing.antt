-- Programs that processes run, and files that are given for them.
use Rattle.std.proofs.Common.{◌≡◌, ℕ, zero, suc, ◌+◌, ◌<◌, ◌≤◌, List, [], ◌∷◌, length, take, get_or, Option, None, Some, refl, sym, ap, subst, arith}
use Rattle.std.specs.Prelude.{option_map, slice_get, string_bytes}
use Rattle.std.proofs.lemmas.List.{take_all}
use Rattle.std.proofs.lemmas.List.Elements.{All-more}
use Rattle.om_scripts.specs.Programs.{Cluster, program_name}
use Rattle.om_debug_command.specs.Symbols.{AreRun, IsRun, IsUnknown, program_at_place}
use Rattle.om_debug_command.specs.declared.symbols.Symbols.{Symbols}

none_some : {A : Type 0} (y : A) (o : Option A) → o ≡ None → o ≡ Some y → ⊥
none_some y o is some = cc

some_within : {A : Type 0} {B : Type 0} (f : A → B) (xs : List A) (i : ℕ) (y : B) → option_map f (slice_get xs i) ≡ Some y → i < length xs
some_within f [] i y is = absurd (none_some y None refl is)
some_within f (x ∷ xs) zero y is = omega arith
some_within f (x ∷ xs) (suc i) y is = let less = some_within f xs i y is in omega (arith, less)

-- none of all processes runs it
pub not_run : (cluster : Cluster) (program : List ℕ) (n : ℕ) → n ≡ length cluster.processes → ((place : ℕ) → place < n → program_at_place cluster place ≡ Some program → ⊥) → IsRun cluster program → ⊥
not_run cluster program n count none run =
    none run.0 (subst (λ k. run.0 < k) (sym count) (some_within (λ e. program_name cluster e.1) cluster.processes run.0 program run.1)) run.1

get_there : {A : Type 0} (xs : List A) (i : ℕ) (x : A) → i < length xs → x ≡ get_or xs i x → slice_get xs i ≡ Some x
get_there [] i x less is = absurd (omega (arith, less))
get_there (y ∷ xs) zero x less is = ap Some (sym is)
get_there (y ∷ xs) (suc i) x less is = get_there xs i x (omega (arith, less)) is

-- one file more is of a program that is run
pub known_more : (cluster : Cluster) (symbols : List Symbols) (i : ℕ) (x : Symbols) → AreRun cluster (take i symbols) → i < length symbols → x ≡ get_or symbols i x → IsRun cluster (string_bytes x.program)
    → AreRun cluster (take (i + 1) symbols)
known_more cluster symbols i x before less is run =
    let P : Symbols → Type 0 = λ s. IsRun cluster (string_bytes s.program) in
    All-more P symbols i x less before (subst P is run)

pub known_all : (cluster : Cluster) (symbols : List Symbols) (i : ℕ) → length symbols ≤ i → AreRun cluster (take i symbols) → AreRun cluster symbols
known_all cluster symbols i is known = subst (λ xs. AreRun cluster xs) (take_all i symbols is) known

-- one is not
pub unknown_at : (cluster : Cluster) (symbols : List Symbols) (i : ℕ) (x : Symbols) → i < length symbols → x ≡ get_or symbols i x → (IsRun cluster (string_bytes x.program) → ⊥) → IsUnknown cluster symbols
unknown_at cluster symbols i x less is none = (i, x, get_there symbols i x less is, none)
