-- What holds of each of two lists, pair by pair.
use Rattle.std.proofs.Common.{◌≡◌, ◌≢◌, ℕ, zero, suc, ◌<◌, inl, inr, List, [], ◌∷◌, ◌≤◌, length, get_or, set, Option, None, Some, Result, Ok, Err, refl, sym, ap, subst, ◌∙◌, arith}
use Rattle.std.specs.Prelude.{IfOk, IfSome, OnOk, slice_get}
use Rattle.std.specs.List.{AllZip}
use Rattle.om_debug.specs.Stops.{DebugState, IsLookedBack, IsMoved, IsPassed, IsRunBack, IsStepBack, IsWithin, StandsFor, standing, with_timeline}
use Rattle.om_debug.specs.declared.stop.Stop.{Stop}
use Rattle.om_debug.specs.declared.stop.Stop.TheVariants as stops
use Rattle.om_timeline.specs.declared.fault.PlayFault.{PlayFault}
use Rattle.om_timeline.specs.declared.tape.Peek.{Peek}
use Rattle.om_debug.proofs.Moved.{moved_then}
use Rattle.om_debug.proofs.Quiet.{passed_then}
use Rattle.om_inferiors.specs.declared.inferior.Inferior.{Inferior}
use Rattle.om_inferiors.specs.steps.Lasting.{IsLookedBackAt}
use Rattle.om_inferiors.specs.Moving.{AreBack, AreOn, IsBack, IsGoneOn, IsOn, IsRunBackAt, IsStepBackAt, StandsAt, with_debugger}

zip_same : {A : Type 0} (R : A → A → Type 0) → ((x : A) → R x x) → (xs : List A) → AllZip R xs xs
zip_same R same [] = tt
zip_same R same (x ∷ xs) = (same x, zip_same R same xs)

zip_then : {A : Type 0} (R : A → A → Type 0) → ((x y z : A) → R x y → R y z → R x z) → (xs ys zs : List A) → AllZip R xs ys → AllZip R ys zs → AllZip R xs zs
zip_then R join [] [] [] first second = tt
zip_then R join [] [] (z ∷ zs) first second = absurd second
zip_then R join [] (y ∷ ys) zs first second = absurd first
zip_then R join (x ∷ xs) [] zs first second = absurd first
zip_then R join (x ∷ xs) (y ∷ ys) [] first second = absurd second
zip_then R join (x ∷ xs) (y ∷ ys) (z ∷ zs) first second = (join x y z first.0 second.0, zip_then R join xs ys zs first.1 second.1)

zip_set_or : {A : Type 0} (R : A → A → Type 0) → ((x : A) → R x x) → (xs : List A) (i : ℕ) (x y : A) → R (get_or xs i x) y → AllZip R xs (set xs i y)
zip_set_or R same [] i x y related = tt
zip_set_or R same (z ∷ zs) zero x y related = (related, zip_same R same zs)
zip_set_or R same (z ∷ zs) (suc i) x y related = (same z, zip_set_or R same zs i x y related)

pub get_set : {A : Type 0} (xs : List A) (i : ℕ) (y : A) → i < length xs → slice_get (set xs i y) i ≡ Some y
get_set [] i y less = absurd (omega (arith, less))
get_set (x ∷ xs) zero y less = refl
get_set (x ∷ xs) (suc i) y less = get_set xs i y (omega (arith, less))

-- ---- forward
on_same : (i : Inferior) → IsOn i i
on_same i = inl refl

gone_then : (a b c : Inferior) → IsGoneOn a b → IsGoneOn b c → IsGoneOn a c
gone_then a b c first second = record {
  same = second.same ∙ ap (λ (i : Inferior). with_debugger i (with_timeline i.debugger c.debugger.timeline)) first.same;
  within = first.within;
  moved = moved_then a.debugger.timeline b.debugger.timeline c.debugger.timeline first.moved second.moved;
  passed = passed_then a.debugger b.debugger c.debugger (ap (λ (i : Inferior). i.debugger) second.same) second.within second.moved first.passed second.passed;
}

on_then : (a b c : Inferior) → IsOn a b → IsOn b c → IsOn a c
on_then a b c (inl same) (inl again) = inl (again ∙ same)
on_then a b c (inl same) (inr gone) = inr (subst (λ (i : Inferior). IsGoneOn i c) same gone)
on_then a b c (inr gone) (inl same) = inr (subst (IsGoneOn a) (sym same) gone)
on_then a b c (inr first) (inr second) = inr (gone_then a b c first second)

pub are_on_same : (xs : List Inferior) → AreOn xs xs
are_on_same xs = zip_same IsOn on_same xs

pub are_on_then : (xs ys zs : List Inferior) → AreOn xs ys → AreOn ys zs → AreOn xs zs
are_on_then xs ys zs first second = zip_then IsOn on_then xs ys zs first second

-- one of them has gone on
pub are_on_at : (xs : List Inferior) (i : ℕ) (x : Inferior) (d : DebugState) → d ≡ with_timeline (get_or xs i x).debugger d.timeline → IsWithin (get_or xs i x).debugger.timeline
    → IsMoved (get_or xs i x).debugger.timeline d.timeline → IsPassed (get_or xs i x).debugger d → AreOn xs (set xs i (with_debugger (get_or xs i x) d))
are_on_at xs i x d same within moved passed =
    let y : Inferior = get_or xs i x in
    zip_set_or IsOn on_same xs i x (with_debugger y d) (inr (record { same = ap (with_debugger y) same; within = within; moved = moved; passed = passed }))

pub ok_on_at : {V : Type 0} (xs : List Inferior) (i : ℕ) (x : Inferior) (d : DebugState) (r : Result V PlayFault) → d ≡ with_timeline (get_or xs i x).debugger d.timeline → IsWithin (get_or xs i x).debugger.timeline
    → IsMoved (get_or xs i x).debugger.timeline d.timeline → OnOk r (IsPassed (get_or xs i x).debugger d) → OnOk r (AreOn xs (set xs i (with_debugger (get_or xs i x) d)))
ok_on_at xs i x d (Ok v) same within moved passed = are_on_at xs i x d same within moved passed
ok_on_at xs i x d (Err fault) same within moved passed = tt

pub get_other : {A : Type 0} (xs : List A) (i k : ℕ) (y : A) → k ≢ i → slice_get (set xs i y) k ≡ slice_get xs k
get_other [] i k y apart = refl
get_other (x ∷ xs) zero zero y apart = absurd (apart refl)
get_other (x ∷ xs) zero (suc k) y apart = refl
get_other (x ∷ xs) (suc i) zero y apart = refl
get_other (x ∷ xs) (suc i) (suc k) y apart = get_other xs i k y (λ same. apart (ap suc same))

pub stands_at : (xs : List Inferior) (i : ℕ) (y : Inferior) (stop : Stop) → i < length xs → StandsFor y.debugger stop → StandsAt (set xs i y) i stop
stands_at xs i y stop less stands = record { inferior = y; is_there = get_set xs i y less; stands = stands }

if_stands : (xs : List Inferior) (i : ℕ) (y : Inferior) (stop : Option Stop) → i < length xs → IfSome stop (λ s. StandsFor y.debugger s) → IfSome stop (λ s. StandsAt (set xs i y) i s)
if_stands xs i y None less stands = tt
if_stands xs i y (Some stop) less stands = stands_at xs i y stop less stands

pub ok_stands : (xs : List Inferior) (i : ℕ) (y : Inferior) (r : Result (Option Stop) PlayFault) → i < length xs → IfOk r (λ stop. IfSome stop (λ s. StandsFor y.debugger s))
    → IfOk r (λ stop. IfSome stop (λ s. StandsAt (set xs i y) i s))
ok_stands xs i y (Ok stop) less stands = if_stands xs i y stop less stands
ok_stands xs i y (Err fault) less stands = tt

end_stands : (xs : List Inferior) (i : ℕ) (y : Inferior) (look : Peek) → i < length xs → (look ≡ Peek.End → length y.debugger.timeline.events ≤ y.debugger.timeline.event)
    → look ≡ Peek.End → StandsAt (set xs i y) i stops.End
end_stands xs i y look less end = λ is. stands_at xs i y stops.End less (end is)

pub ok_end : (xs : List Inferior) (i : ℕ) (y : Inferior) (r : Result Peek PlayFault) → i < length xs → IfOk r (λ look. look ≡ Peek.End → length y.debugger.timeline.events ≤ y.debugger.timeline.event)
    → IfOk r (λ look. look ≡ Peek.End → StandsAt (set xs i y) i stops.End)
ok_end xs i y (Ok look) less end = end_stands xs i y look less end
ok_end xs i y (Err fault) less end = tt

-- ---- back
back_same : (i : Inferior) → IsBack i i
back_same i = refl

back_then : (a b c : Inferior) → IsBack a b → IsBack b c → IsBack a c
back_then a b c first second = second ∙ ap (λ (i : Inferior). with_debugger i (standing i.debugger c.debugger.timeline.event c.debugger.timeline.turns)) first

pub are_back_same : (xs : List Inferior) → AreBack xs xs
are_back_same xs = zip_same IsBack back_same xs

pub are_back_then : (xs ys zs : List Inferior) → AreBack xs ys → AreBack ys zs → AreBack xs zs
are_back_then xs ys zs first second = zip_then IsBack back_then xs ys zs first second

pub are_back_at : (xs : List Inferior) (i : ℕ) (x : Inferior) (d : DebugState) → d ≡ standing (get_or xs i x).debugger d.timeline.event d.timeline.turns
    → AreBack xs (set xs i (with_debugger (get_or xs i x) d))
are_back_at xs i x d same = zip_set_or IsBack back_same xs i x (with_debugger (get_or xs i x) d) (ap (with_debugger (get_or xs i x)) same)

pub get_there : {A : Type 0} (xs : List A) (i : ℕ) (x : A) → i < length xs → slice_get xs i ≡ Some (get_or xs i x)
get_there [] i x less = absurd (omega (arith, less))
get_there (y ∷ xs) zero x less = refl
get_there (y ∷ xs) (suc i) x less = get_there xs i x (omega (arith, less))

pub ok_run_back : (xs : List Inferior) (i : ℕ) (x : Inferior) (d : DebugState) (r : Result Stop PlayFault) → i < length xs → IfOk r (λ stop. IsRunBack (get_or xs i x).debugger d stop)
    → IfOk r (λ stop. IsRunBackAt xs (set xs i (with_debugger (get_or xs i x) d)) i stop)
ok_run_back xs i x d (Ok stop) less back = record {
  old = get_or xs i x;
  new = with_debugger (get_or xs i x) d;
  was = get_there xs i x less;
  is = get_set xs i (with_debugger (get_or xs i x) d) less;
  back = back;
}
ok_run_back xs i x d (Err fault) less back = tt

pub ok_step_back : (xs : List Inferior) (i : ℕ) (x : Inferior) (d : DebugState) (r : Result Stop PlayFault) → i < length xs → IfOk r (λ stop. IsStepBack (get_or xs i x).debugger d stop)
    → IfOk r (λ stop. IsStepBackAt xs (set xs i (with_debugger (get_or xs i x) d)) i stop)
ok_step_back xs i x d (Ok stop) less back = record {
  old = get_or xs i x;
  new = with_debugger (get_or xs i x) d;
  was = get_there xs i x less;
  is = get_set xs i (with_debugger (get_or xs i x) d) less;
  back = back;
}
ok_step_back xs i x d (Err fault) less back = tt

pub ok_look_back : (xs : List Inferior) (i event : ℕ) (x : Inferior) (d : DebugState) (r : Result (Option Stop) PlayFault) → i < length xs → IfOk r (λ stop. IsLookedBack event (get_or xs i x).debugger d stop)
    → IfOk r (λ stop. IsLookedBackAt xs (set xs i (with_debugger (get_or xs i x) d)) i event stop)
ok_look_back xs i event x d (Ok stop) less back = record {
  old = get_or xs i x;
  new = with_debugger (get_or xs i x) d;
  was = get_there xs i x less;
  is = get_set xs i (with_debugger (get_or xs i x) d) less;
  back = back;
}
ok_look_back xs i event x d (Err fault) less back = tt

pub length_on : (xs ys : List Inferior) → AreOn xs ys → length ys ≡ length xs
length_on [] [] each = refl
length_on [] (y ∷ ys) each = absurd each
length_on (x ∷ xs) [] each = absurd each
length_on (x ∷ xs) (y ∷ ys) each = ap suc (length_on xs ys each.1)

pub length_back : (xs ys : List Inferior) → AreBack xs ys → length ys ≡ length xs
length_back [] [] each = refl
length_back [] (y ∷ ys) each = absurd each
length_back (x ∷ xs) [] each = absurd each
length_back (x ∷ xs) (y ∷ ys) each = ap suc (length_back xs ys each.1)

-- ---- as one that stands
pub stands_kept : (xs ys : List Inferior) (place : ℕ) (stop : Stop) → slice_get ys place ≡ slice_get xs place → StandsAt xs place stop → StandsAt ys place stop
stands_kept xs ys place stop same stands = record { inferior = stands.inferior; is_there = same ∙ stands.is_there; stands = stands.stands }

there : {A : Type 0} (xs : List A) (i : ℕ) → i < length xs → (x : A) × (slice_get xs i ≡ Some x)
there [] i less = absurd (omega (arith, less))
there (x ∷ xs) zero less = (x, refl)
there (x ∷ xs) (suc i) less = there xs i (omega (arith, less))

-- where one stands who is paused
pub paused_at : (xs ys : List Inferior) (who : ℕ) → who < length xs → AreOn xs ys → StandsAt ys who stops.Paused
paused_at xs ys who less on =
    let long : length ys ≡ length xs = length_on xs ys on in
    let one = there ys who (omega (arith, less, long)) in
    record { inferior = one.0; is_there = one.1; stands = tt }
