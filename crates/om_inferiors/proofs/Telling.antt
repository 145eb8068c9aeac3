-- Processes that are sent to before an event, one after another.
use Rattle.std.proofs.Common.{◌≡◌, ℕ, zero, suc, ◌+◌, ◌<◌, ◌≤◌, List, [], ◌∷◌, ◌++◌, length, get_or, set, Option, None, Some, Result, Ok, Err, refl, sym, ap, subst, ◌∙◌, add-one, append_assoc, arith}
use Rattle.std.specs.Prelude.{OnOk, slice_get, slice_set}
use Rattle.std.specs.List.{AllZip}
use Rattle.om_debug.specs.Monitor.{IsAtEvent}
use Rattle.om_debug.specs.Stops.{DebugState, IsMoved, with_timeline}
use Rattle.om_timeline.specs.declared.fault.PlayFault.{PlayFault}
use Rattle.om_inferiors.specs.declared.inferior.Inferior.{Inferior}
use Rattle.om_inferiors.specs.Monitor.{AreSentTo, IsSentTo}
use Rattle.om_inferiors.specs.Moving.{with_debugger}
use Rattle.om_inferiors.specs.steps.Sending.{AreFirstSent, IsSentAt}
use Rattle.om_inferiors.proofs.Each.{get_there}
use Rattle.om_world.proofs.Lists.{none_in}

-- one of them was
pub sent_at : (number : ℕ) (xs : List Inferior) (i : ℕ) (x : Inferior) (d : DebugState) (r : Result (Unit {0}) PlayFault) → i < length xs
    → d ≡ with_timeline (get_or xs i x).debugger d.timeline → IsMoved (get_or xs i x).debugger.timeline d.timeline → OnOk r (IsAtEvent number d.timeline)
    → OnOk r (IsSentAt number i xs (set xs i (with_debugger (get_or xs i x) d)))
sent_at number xs i x d (Ok done) less same moved there =
    let y : Inferior = get_or xs i x in
    record {
      old = y;
      new = with_debugger y d;
      was = get_there xs i x less;
      sent = record { moved = record { same = ap (with_debugger y) same; moved = moved }; there = there };
      is = refl;
    }
sent_at number xs i x d (Err fault) less same moved there = tt

-- nobody was
pub none_sent : (number : ℕ) (xs : List Inferior) → AreFirstSent number 0 xs xs
none_sent number xs = refl

same_some : {A : Type 0} (x y : A) → Some x ≡ Some y → x ≡ y
same_some x y is = cc

first_set : (number k : ℕ) (olds mids : List Inferior) (x y : Inferior) → AreFirstSent number k olds mids → slice_get mids k ≡ Some x → IsSentTo number x y
    → AreFirstSent number (suc k) olds (slice_set mids k y)
first_set number zero olds [] x y up was sent = absurd (none_in 0 x was)
first_set number zero olds (m ∷ mids) x y up was sent =
    subst (λ os. AreFirstSent number 1 os (y ∷ mids)) up (subst (λ o. IsSentTo number o y) (sym (same_some m x was)) sent, refl)
first_set number (suc k) [] [] x y up was sent = absurd (none_in (suc k) x was)
first_set number (suc k) [] (m ∷ mids) x y up was sent = absurd up
first_set number (suc k) (o ∷ olds) [] x y up was sent = absurd up
first_set number (suc k) (o ∷ olds) (m ∷ mids) x y up was sent = (up.0, first_set number k olds mids x y up.1 was sent)

-- one more was
pub first_more : (number k : ℕ) (olds mids news : List Inferior) → AreFirstSent number k olds mids → IsSentAt number k mids news → AreFirstSent number (k + 1) olds news
first_more number k olds mids news up at =
    subst (λ n. AreFirstSent number n olds news) (sym (add-one k))
    (subst (AreFirstSent number (suc k) olds) (sym at.is) (first_set number k olds mids at.old at.new up at.was at.sent))

more_none : {A : Type 0} (x : A) (xs : List A) → x ∷ xs ≡ [] → ⊥
more_none x xs is = cc

-- all were
pub all_sent : (number k : ℕ) (olds news : List Inferior) → AreFirstSent number k olds news → length olds ≤ k → AreSentTo number olds news
all_sent number zero [] [] up behind = tt
all_sent number zero [] (n ∷ news) up behind = absurd (more_none n news up)
all_sent number zero (o ∷ olds) news up behind = absurd (omega (arith, behind))
all_sent number (suc k) [] [] up behind = tt
all_sent number (suc k) [] (n ∷ news) up behind = absurd up
all_sent number (suc k) (o ∷ olds) [] up behind = absurd up
all_sent number (suc k) (o ∷ olds) (n ∷ news) up behind = (up.0, all_sent number k olds news up.1 (omega (arith, behind)))

pub length_first : (number k : ℕ) (olds news : List Inferior) → AreFirstSent number k olds news → length news ≡ length olds
length_first number zero olds news up = ap length up
length_first number (suc k) [] [] up = refl
length_first number (suc k) [] (n ∷ news) up = absurd up
length_first number (suc k) (o ∷ olds) [] up = absurd up
length_first number (suc k) (o ∷ olds) (n ∷ news) up = ap suc (length_first number k olds news up.1)

-- a text, and two more
pub joined : {A : Type 0} {E : Type 0} (r : Result A E) (old a new first more : List ℕ) → a ≡ old ++ first → OnOk r (new ≡ a ++ more) → OnOk r (new ≡ old ++ (first ++ more))
joined (Ok done) old a new first more one two = two ∙ ap (λ t. t ++ more) one ∙ append_assoc old first more
joined (Err fault) old a new first more one two = two
