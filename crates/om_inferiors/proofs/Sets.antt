-- Processes by their numbers, and what is set of one.
use Rattle.std.proofs.Common.{◌≡◌, ◌⊎◌, ℕ, zero, suc, ◌<◌, ◌+◌, List, [], ◌∷◌, ◌++◌, length, get_or, set, take, drop, Option, Some, refl, sym, ap, subst, ◌∙◌, arith, append_assoc, append-nil}
use Rattle.std.specs.Prelude.{slice_get}
use Rattle.std.proofs.lemmas.List.{take_more}
use Rattle.om_debug.specs.Stops.{DebugState}
use Rattle.om_inferiors.specs.declared.inferior.Inferior.{Inferior}
use Rattle.om_debug.specs.declared.debugger.Reply.{Reply}
use Rattle.om_debug.specs.declared.stop.Stop.{Stop}
use Rattle.om_inferiors.specs.declared.inferiors.Inferiors.{Inferiors}
use Rattle.om_inferiors.specs.Moving.{AreBack, AreOn, IsLastOf, IsNoStepBack, StandsAt, with_debugger}
use Rattle.om_inferiors.specs.Told.{IsGroupBack, IsGroupOn, IsTold, at_place, set_members, set_place, thread_text, threads_of}

drop_all : {A : Type 0} (xs : List A) → drop (length xs) xs ≡ []
drop_all [] = refl
drop_all (x ∷ xs) = drop_all xs

take_all : {A : Type 0} (xs : List A) → take (length xs) xs ≡ xs
take_all [] = refl
take_all (x ∷ xs) = ap (λ ys. x ∷ ys) (take_all xs)

pub get_there : {A : Type 0} (xs : List A) (i : ℕ) (x : A) → i < length xs → x ≡ get_or xs i x → slice_get xs i ≡ Some x
get_there [] i x less is = absurd (omega (arith, less))
get_there (y ∷ xs) zero x less is = ap Some (sym is)
get_there (y ∷ xs) (suc i) x less is = get_there xs i x (omega (arith, less)) is

pub at_there : (members : List Inferior) (o : Option ℕ) (place : ℕ) (x : Inferior) → o ≡ Some place → place < length members → x ≡ get_or members place x → at_place members o ≡ Some x
at_there members o place x is less there = ap (at_place members) is ∙ get_there members place x less there

pub set_there : (members : List Inferior) (o : Option ℕ) (place : ℕ) (x : Inferior) (d : DebugState) (change : DebugState → DebugState) → o ≡ Some place → place < length members
    → x ≡ get_or members place x → d ≡ change x.debugger → set members place (with_debugger x d) ≡ set_members members o change
set_there members o place x d change is less there same =
    sym (ap (λ o. set_members members o change) is ∙ ap (set_place members place change) (get_there members place x less there) ∙ ap (λ d. set members place (with_debugger x d)) (sym same))

threads_append : (xs ys : List Inferior) → threads_of (xs ++ ys) ≡ threads_of xs ++ threads_of ys
threads_append [] ys = refl
threads_append (x ∷ xs) ys = ap (λ t. thread_text x ++ t) (threads_append xs ys) ∙ sym (append_assoc (thread_text x) (threads_of xs) (threads_of ys))

-- one more
pub threads_more : (xs : List Inferior) (i : ℕ) (x : Inferior) → i < length xs → x ≡ get_or xs i x → threads_of (take (i + 1) xs) ≡ threads_of (take i xs) ++ thread_text x
threads_more xs i x less is =
    ap threads_of (take_more xs i x less) ∙ threads_append (take i xs) (get_or xs i x ∷ []) ∙ ap (λ t. threads_of (take i xs) ++ t) (append-nil (thread_text (get_or xs i x)) ∙ ap thread_text (sym is))

-- ---- a part that is written back
pub put_back : {A : Type 0} (len : ℕ) (news items : List A) → length news ≡ length items → len ≡ length items → take len (news ++ drop (length news) items) ≡ news
put_back len news items same long =
    ap (λ n. take len (news ++ drop n items)) same ∙ ap (λ rest. take len (news ++ rest)) (drop_all items) ∙ ap (take len) (append-nil news) ∙ ap (λ n. take n news) (long ∙ sym same) ∙ take_all news

-- ---- what is told
pub told_of : (old mid new : Inferiors) (place : ℕ) (stop : Stop) (told : Reply) → mid.going ≡ old.going → IsTold mid place stop told new → IsTold old place stop told new
told_of old mid new place stop told same t = record {
  member = t.member;
  is_there = t.is_there;
  text = t.text;
  goes_on = t.goes_on;
  selected = t.selected;
  focus = t.focus;
  going = t.going ∙ same;
}

pub group_on : (old mid new : Inferiors) (told : Reply) (place : ℕ) (stop : Stop) (were news : List Inferior) → were ≡ old.members.items → new.members.items ≡ news → mid.going ≡ old.going
    → IsTold mid place stop told new → AreOn were news → StandsAt news place stop → IsGroupOn old told new
group_on old mid new told place stop were news begun same going t on stands = record {
  place = place;
  stop = stop;
  is_told = told_of old mid new place stop told going t;
  on = subst (λ xs. AreOn old.members.items xs) (sym same) (subst (λ xs. AreOn xs news) begun on);
  stands = subst (λ xs. StandsAt xs place stop) (sym same) stands;
}

pub group_back : (old mid new : Inferiors) (told : Reply) (place : ℕ) (stop : Stop) (were news : List Inferior) → were ≡ old.members.items → new.members.items ≡ news → mid.going ≡ old.going
    → IsTold mid place stop told new → AreBack were news → IsLastOf were news place stop ⊎ IsNoStepBack were news place stop → IsGroupBack old told new
group_back old mid new told place stop were news begun same going t back last = record {
  place = place;
  stop = stop;
  is_told = told_of old mid new place stop told going t;
  back = subst (λ xs. AreBack old.members.items xs) (sym same) (subst (λ xs. AreBack xs news) begun back);
  last = subst (λ xs. IsLastOf old.members.items xs place stop ⊎ IsNoStepBack old.members.items xs place stop) (sym same)
      (subst (λ xs. IsLastOf xs news place stop ⊎ IsNoStepBack xs news place stop) begun last);
}
