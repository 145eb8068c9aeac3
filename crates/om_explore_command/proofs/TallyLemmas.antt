-- What one more run comes to, taken in.
use Rattle.std.proofs.Common.{◌≡◌, ◌≢◌, ℕ, ◌+◌, ◌<◌, Some, Result, Ok, Err, List, [], ◌∷◌, ◌++◌, length, map, get_or, string_bytes, refl, sym, ap, subst, ◌∙◌, arith}
use Rattle.std.specs.Prelude.{All, AllPairs, OnOk, slice_get, sum_by}
use Rattle.std.specs.List.{AllZip}
use Rattle.std.specs.Option.{option_map}
use Rattle.std.proofs.Math.ListN.{set}
use Rattle.std.proofs.lemmas.List.{length-append, length-map}
use Rattle.std.proofs.lemmas.List.Elements.{All-push, All-set, All-weaker}
use Rattle.std.proofs.lemmas.List.Sums.{sum_by_push, sum_by-set}
use Rattle.std.proofs.lemmas.Option.{get_or_from_slice_get, slice_get-map, slice_get_within}
use Rattle.om_scripts.specs.Programs.{Cluster}
use Rattle.om_world.specs.declared.entry.Entry.{Entry}
use Rattle.om_run_commands.specs.Run.{outputs_of}
use Rattle.om_explore_command.specs.Outcomes.{IsOutcome, IsTextOf}
use Rattle.om_explore_command.specs.Tallies.{IsOutcomeOfOne, IsTally, Tells, text_of}
use Rattle.om_explore_command.specs.declared.outcome.Outcome.{Outcome}
use Rattle.om_explore_command.specs.declared.tally.Found.{Found}
use Rattle.om_explore_command.specs.steps.{IsCountedAgain, TakesIn}
use Rattle.om_explore_command.proofs.TallyLists.{among_last, among_push, counted_again, counted_new, names_again, once_new, told_again, told_new}

-- the text of an outcome is that of its run
pub text_of_outcome : (cluster : Cluster) (live : List Entry) (outcome : Outcome) → IsOutcome cluster live outcome
    → IsTextOf cluster live (string_bytes outcome.text)
text_of_outcome cluster live outcome is = record {
  outputs = outputs_of outcome.report;
  statuses = outcome.report.statuses.items;
  run = is.run;
  written = is.written;
}

zip_push : {A B : Type 0} (R : A → B → Type 0) (xs : List A) (ys : List B) (x : A) (y : B) → AllZip R xs ys → R x y
    → AllZip R (xs ++ x ∷ []) (ys ++ y ∷ [])
zip_push R [] [] x y all this = (this, tt)
zip_push R [] (b ∷ ys) x y all this = absurd all
zip_push R (a ∷ xs) [] x y all this = absurd all
zip_push R (a ∷ xs) (b ∷ ys) x y all this = (all.0, zip_push R xs ys x y all.1 this)

some_same : {X : Type 0} (x y : X) → Some x ≡ Some y → x ≡ y
some_same x y is = cc

one_more : (cluster : Cluster) (runs : List (List Entry)) (live : List Entry) (f : Found) → IsOutcomeOfOne cluster runs f
    → IsOutcomeOfOne cluster (runs ++ live ∷ []) f
one_more cluster runs live f of = (of.0, among_push runs of.0 live of.1, of.2)

all_more : (cluster : Cluster) (runs : List (List Entry)) (live : List Entry) (found : List Found) → All (IsOutcomeOfOne cluster runs) found
    → All (IsOutcomeOfOne cluster (runs ++ live ∷ [])) found
all_more cluster runs live found all = All-weaker (IsOutcomeOfOne cluster runs) (IsOutcomeOfOne cluster (runs ++ live ∷ [])) (one_more cluster runs live) found all

abbrev runs_of : Found → ℕ
runs_of f = f.runs

-- a text that is new
pub takes_new : (old new : List Found) (outcome : Outcome) → All (λ other. other ≢ string_bytes outcome.text) (map text_of old)
    → new ≡ old ++ (record { outcome = outcome; runs = 1 }) ∷ [] → TakesIn old outcome new
takes_new old new outcome absent is cluster runs live of tally =
    let f : Found = record { outcome = outcome; runs = 1 } in
    let t = string_bytes outcome.text in
    let longer : length (runs ++ live ∷ []) ≡ length runs + 1 = length-append runs (live ∷ []) in
    let sum : sum_by runs_of (old ++ f ∷ []) ≡ sum_by runs_of old + 1 = sum_by_push runs_of old f in
    subst (λ found. IsTally cluster found (runs ++ live ∷ [])) (sym is)
    (record {
      texts = tally.texts ++ t ∷ [];
      each = zip_push (IsTextOf cluster) runs tally.texts live t tally.each (text_of_outcome cluster live outcome of);
      tells = record {
        once = once_new text_of runs_of old f absent tally.tells.once;
        counted = counted_new text_of runs_of old tally.texts f refl absent tally.tells.told tally.tells.counted;
        told = told_new text_of runs_of old tally.texts f tally.tells.told;
      };
      outcomes = All-push (IsOutcomeOfOne cluster (runs ++ live ∷ [])) old f (all_more cluster runs live old tally.outcomes)
          (live, among_last runs live, of);
      total = sum ∙ ap (λ n. n + 1) tally.total ∙ sym longer;
    })

-- a text that came before
pub takes_again : (old new : List Found) (place : ℕ) (outcome : Outcome) → slice_get (map text_of old) place ≡ Some (string_bytes outcome.text)
    → IsCountedAgain old place new → TakesIn old outcome new
takes_again old new place outcome named again cluster runs live of tally =
    let f = again.0 in
    let at : slice_get old place ≡ Some f = again.1 in
    let g : Found = record f { runs = f.runs + 1 } in
    let t = string_bytes outcome.text in
    let low : place < length old = slice_get_within old place f at in
    let here : get_or old place f ≡ f = get_or_from_slice_get old place f f at in
    let same : text_of f ≡ t = some_same (text_of f) t (sym (ap (option_map text_of) at) ∙ sym (slice_get-map text_of old place) ∙ named) in
    let kept : text_of g ≡ text_of (get_or old place f) = ap text_of (sym here) in
    let more : runs_of g ≡ runs_of (get_or old place f) + 1 = ap (λ x. runs_of x + 1) (sym here) in
    let longer : length (runs ++ live ∷ []) ≡ length runs + 1 = length-append runs (live ∷ []) in
    let sum : sum_by runs_of (set old place g) + runs_of (get_or old place f) ≡ sum_by runs_of old + runs_of g = sum_by-set runs_of old place g f low in
    let total : sum_by runs_of old ≡ length runs = tally.total in
    let first : Found = get_or old place f in
    let outcome_there : IsOutcomeOfOne cluster runs first = tally.outcomes place f low in
    subst (λ found. IsTally cluster found (runs ++ live ∷ [])) (sym again.2)
    (record {
      texts = tally.texts ++ t ∷ [];
      each = zip_push (IsTextOf cluster) runs tally.texts live t tally.each (text_of_outcome cluster live outcome of);
      tells = subst (λ text. Tells (set old place g) (tally.texts ++ text ∷ [])) same
          (record {
            once = subst (AllPairs (λ one other. one ≢ other)) (sym (names_again text_of runs_of old place g f kept)) tally.tells.once;
            counted = counted_again text_of runs_of old tally.texts place g f low kept more tally.tells.once tally.tells.counted;
            told = told_again text_of runs_of old tally.texts place g f low kept tally.tells.told;
          });
      outcomes = All-set (IsOutcomeOfOne cluster (runs ++ live ∷ [])) old place g
          (subst (λ x. IsOutcomeOfOne cluster (runs ++ live ∷ []) (record x { runs = f.runs + 1 })) here
          (one_more cluster runs live (record first { runs = f.runs + 1 }) outcome_there))
          (all_more cluster runs live old tally.outcomes);
      total = omega (arith, sum, more, total, longer);
    })

-- ---- as they are read of a tally
pub on_again : {A E : Type 0} (old new : List Found) (place : ℕ) (outcome : Outcome) (texts : List (List ℕ)) (text : List ℕ) (r : Result A E)
    → texts ≡ map text_of old → text ≡ string_bytes outcome.text → slice_get texts place ≡ Some text
    → OnOk r (IsCountedAgain old place new) → OnOk r (TakesIn old outcome new)
on_again old new place outcome texts text (Ok a) indexed same at again =
    takes_again old new place outcome (sym (ap (λ ts. slice_get ts place) indexed) ∙ at ∙ ap Some same) again
on_again old new place outcome texts text (Err e) indexed same at again = tt

pub new_of : (old : List Found) (outcome : Outcome) (texts : List (List ℕ)) (text : List ℕ) → texts ≡ map text_of old → text ≡ string_bytes outcome.text
    → All (λ other. other ≢ text) texts → All (λ other. other ≢ string_bytes outcome.text) (map text_of old)
new_of old outcome texts text indexed same absent =
    subst (λ t. All (λ other. other ≢ t) (map text_of old)) same (subst (All (λ other. other ≢ text)) indexed absent)

pub on_new : {A E : Type 0} (old new : List Found) (outcome : Outcome) (r : Result A E)
    → All (λ other. other ≢ string_bytes outcome.text) (map text_of old)
    → OnOk r (new ≡ old ++ (record { outcome = outcome; runs = 1 }) ∷ []) → OnOk r (TakesIn old outcome new)
on_new old new outcome (Ok a) absent is = takes_new old new outcome absent is
on_new old new outcome (Err e) absent is = tt

pub within : (old : List Found) (place : ℕ) (texts : List (List ℕ)) (text : List ℕ) → texts ≡ map text_of old → slice_get texts place ≡ Some text
    → place < length old
within old place texts text indexed at =
    subst (λ n. place < n) (ap length indexed ∙ length-map old text_of) (slice_get_within texts place text at)
