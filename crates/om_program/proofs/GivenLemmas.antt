-- Files that are given for programs.
use Rattle.std.proofs.Common.{◌≡◌, ◌∙◌, ℕ, ◌+◌, ◌<◌, ◌≤◌, List, [], ◌∷◌, ◌++◌, length, take, get_or, ap, sym}
use Rattle.std.specs.Prelude.{string_bytes}
use Rattle.std.proofs.lemmas.List.{map-append, take_all, take_more}
use Rattle.om_arguments.specs.declared.debug_request.SymbolFile.{SymbolFile}
use Rattle.om_debug_command.specs.declared.symbols.Symbols.{Symbols}
use Rattle.om_program.specs.Refusals.{names_given, names_of}

-- one more
pub given_more : (symbols pushed : List Symbols) (given : List SymbolFile) (i : ℕ) (d : SymbolFile) (s : Symbols) → names_of symbols ≡ names_given (take i given) → i < length given
    → pushed ≡ symbols ++ s ∷ [] → string_bytes s.program ≡ (get_or given i d).program.now → string_bytes s.file ≡ (get_or given i d).file.now → names_of pushed ≡ names_given (take (i + 1) given)
given_more symbols pushed given i d s before less is program file =
    let x : SymbolFile = get_or given i d in
    let one : names_of (s ∷ []) ≡ names_given (x ∷ []) = cc in
    let all : names_of pushed ≡ names_of symbols ++ names_of (s ∷ []) = ap names_of is ∙ map-append (λ (one : Symbols). (string_bytes one.program, string_bytes one.file)) symbols (s ∷ []) in
    let more : names_given (take (i + 1) given) ≡ names_given (take i given) ++ names_given (x ∷ []) =
    ap names_given (take_more given i d less) ∙ map-append (λ (one : SymbolFile). (one.program.now, one.file.now)) (take i given) (x ∷ []) in
    all ∙ ap (λ (l : List (List ℕ × List ℕ)). l ++ names_of (s ∷ [])) before ∙ ap (λ (l : List (List ℕ × List ℕ)). names_given (take i given) ++ l) one ∙ sym more

pub given_all : (symbols : List Symbols) (given : List SymbolFile) (i : ℕ) → length given ≤ i → names_of symbols ≡ names_given (take i given) → names_of symbols ≡ names_given given
given_all symbols given i is so = so ∙ ap names_given (take_all i given is)
