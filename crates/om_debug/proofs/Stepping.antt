-- What came last to the process.
use Rattle.std.proofs.Common.{◌≡◌, ◌≢◌, ℕ, zero, suc, ◌+◌, ◌-◌, ◌<◌, ◌≤◌, ◌⊎◌, inl, inr, List, [], ◌∷◌, length, get_or, Bool, true, false, Option, Some, None, Result, IfOk, refl, sym, ap, subst, ◌∙◌, arith}
use Rattle.std.specs.Prelude.{nat_lt, if◌then◌else◌, slice_get}
use Rattle.std.proofs.lemmas.Option.{slice_get_past, slice_get_read}
use Rattle.std.proofs.lemmas.Bool.Decides.{nat_tests}
use Rattle.om_timeline.specs.declared.deed.Deed.{Deed}
use Rattle.om_timeline.specs.declared.deed.Deed.TheVariants.{Nothing, Ran, Took, Fell, Back}
use Rattle.om_timeline.specs.declared.fault.PlayFault.{PlayFault}
use Rattle.om_timeline.specs.Deeds.{turns_at, turns_in}
use Rattle.om_debug.specs.declared.moment.Next.{Next}
use Rattle.om_debug.specs.declared.moment.Next.TheVariants.{Still, Instructions, Receipt, Failure, Return}
use Rattle.om_debug.specs.Moments.{is_down, next_at, next_of_deed}
use Rattle.om_debug.specs.declared.stop.Stop.{Stop}
use Rattle.om_debug.specs.Stops.{DebugState, IsBefore, IsLast, IsStepBack, IsStillBefore, standing}
use Rattle.om_debug.specs.steps.Stepping.{before_last, before_last_of}

-- ---- of one event
turns_of : Option Deed → ℕ
turns_of None = 0
turns_of (Some d) = turns_in d

turns_get : (ds : List Deed) (e : ℕ) → turns_at ds e ≡ turns_of (slice_get ds e)
unfolding turns_of
turns_get [] e = refl
turns_get (d ∷ ds) zero = refl
turns_get (d ∷ ds) (suc e) = turns_get ds e

pub last_read : (ds : List Deed) (e : ℕ) (d : Deed) → e < length ds → d ≡ get_or ds e d → before_last ds e ≡ before_last_of (is_down ds e) (Some d)
last_read ds e d there read = ap (before_last_of (is_down ds e)) (slice_get_read ds (length ds) e d refl there read)

pub last_past : (ds : List Deed) (e : ℕ) → length ds ≤ e → before_last ds e ≡ None
last_past ds e past = ap (before_last_of (is_down ds e)) (slice_get_past ds e past)

lt_true : (a b : ℕ) → a < b → nat_lt a b ≡ true
lt_true a b h = grind (arith, nat_tests)

lt_false : (a b : ℕ) → b ≤ a → nat_lt a b ≡ false
lt_false a b h = grind (arith, nat_tests)

not_still : (t : Bool) (left : ℕ) → t ≡ true → (if t then Instructions left else Still) ≡ Still → ⊥
not_still true left h e = cc
not_still false left h e = cc

-- the last thing that came stands behind so many instructions
record IsLastOf (b : Bool) (o : Option Deed) (k : ℕ) : Type 0 where
  few : k ≤ turns_of o
  comes : next_of_deed b o k ≢ Still
  still : (j : ℕ) → k < j → j ≤ turns_of o → next_of_deed b o j ≡ Still

same_some : (a b : ℕ) → Some a ≡ Some b → a ≡ b
same_some a b e = cc

first_of : (b : Bool) (o : Option Deed) (k : ℕ) → 0 ≡ k → turns_of o ≡ 0 → next_of_deed b o 0 ≢ Still → IsLastOf b o k
first_of b o k same none comes = record {
  few = omega (arith, same, none);
  comes = subst (λ j. next_of_deed b o j ≢ Still) same comes;
  still = λ j less most. absurd (omega (arith, less, most, same, none));
}

last_ran : (b : Bool) (n k : ℕ) → suc n - 1 ≡ k → IsLastOf b (Some (Ran (suc n))) k
unfolding turns_of
last_ran b n k same = record {
  few = omega (arith, same);
  comes = not_still (nat_lt k (suc n)) (suc n - k) (lt_true k (suc n) (omega (arith, same)));
  still = λ j less most. ap (λ t. if t then Instructions (suc n - j) else Still) (lt_false j (suc n) (omega (arith, less, same)));
}

picked : (t : Bool) (a k : ℕ) → t ≡ true → (if t then Some a else None) ≡ Some k → a ≡ k
picked true a k h e = same_some a k e
picked false a k h e = cc

not_picked : (t : Bool) (a : ℕ) → t ≡ true → (if t then Some a else None) ≡ None → ⊥
not_picked true a h e = cc
not_picked false a h e = cc

some_of : (b : Bool) (o : Option Deed) (k : ℕ) → before_last_of b o ≡ Some k → IsLastOf b o k
unfolding turns_of
some_of b None k e = cc
some_of b (Some Nothing) k e = cc
some_of b (Some (Ran zero)) k e = cc
some_of b (Some (Ran (suc n))) k e = last_ran b n k (picked (nat_lt 0 (suc n)) (suc n - 1) k (lt_true 0 (suc n) (omega arith)) e)
some_of b (Some (Took from body)) k e = first_of b (Some (Took from body)) k (same_some 0 k e) refl (λ h. cc)
some_of true (Some Fell) k e = cc
some_of false (Some Fell) k e = first_of false (Some Fell) k (same_some 0 k e) refl (λ h. cc)
some_of b (Some (Back m)) k e = first_of b (Some (Back m)) k (same_some 0 k e) refl (λ h. cc)

none_of : (b : Bool) (o : Option Deed) (j : ℕ) → before_last_of b o ≡ None → j ≤ turns_of o → next_of_deed b o j ≡ Still
unfolding turns_of
none_of b None j e most = refl
none_of b (Some Nothing) j e most = refl
none_of b (Some (Ran zero)) j e most = ap (λ t. if t then Instructions (0 - j) else Still) (lt_false j 0 (omega arith))
none_of b (Some (Ran (suc n))) j e most = absurd (not_picked (nat_lt 0 (suc n)) (suc n - 1) (lt_true 0 (suc n) (omega arith)) e)
none_of b (Some (Took from body)) j e most = cc
none_of true (Some Fell) j e most = refl
none_of false (Some Fell) j e most = cc
none_of b (Some (Back m)) j e most = cc

last_here : (ds : List Deed) (e k : ℕ) → before_last ds e ≡ Some k → IsLastOf (is_down ds e) (slice_get ds e) k
last_here ds e k is = some_of (is_down ds e) (slice_get ds e) k is

still_here : (ds : List Deed) (e : ℕ) → before_last ds e ≡ None → (j : ℕ) → j ≤ turns_at ds e → next_at ds e j ≡ Still
still_here ds e is j most = none_of (is_down ds e) (slice_get ds e) j is (subst (λ n. j ≤ n) (turns_get ds e) most)

-- ---- of all before a position
-- nothing came from an event on
pub StillFrom : List Deed → ℕ → ℕ → Type 0
StillFrom ds event end = (e k : ℕ) → event ≤ e → e < end → k ≤ turns_at ds e → next_at ds e k ≡ Still

pub still_none : (ds : List Deed) (end : ℕ) → StillFrom ds end end
unfolding StillFrom
still_none ds end e k from before most = absurd (omega (arith, from, before))

still_split : (ds : List Deed) (event e k : ℕ) → before_last ds event ≡ None → ((event ≡ e) ⊎ (event < e)) → (event < e → next_at ds e k ≡ Still) → k ≤ turns_at ds e → next_at ds e k ≡ Still
still_split ds event e k none (inl same) rest most =
    subst (λ x. k ≤ turns_at ds x → next_at ds x k ≡ Still) same (λ few. still_here ds event none k few) most
still_split ds event e k none (inr less) rest most = rest less

apart : (a b : ℕ) → a ≤ b → (a ≡ b) ⊎ (a < b)
apart zero zero h = inl refl
apart zero (suc b) h = inr (omega arith)
apart (suc a) zero h = absurd (omega (arith, h))
apart (suc a) (suc b) h = elim (apart a b (omega (arith, h))) [ inl same ↦ inl (ap suc same) | inr less ↦ inr (omega (arith, less)) ]

still_more : (ds : List Deed) (event end : ℕ) → before_last ds event ≡ None → StillFrom ds (event + 1) end → StillFrom ds event end
unfolding StillFrom
still_more ds event end none rest e k from before most =
    still_split ds event e k none (apart event e from) (λ less. rest e k (omega (arith, less)) before most) most

pub still_all : (ds : List Deed) (end done : ℕ) → done ≤ 0 → StillFrom ds 0 end → IsStillBefore ds end done
unfolding StillFrom
still_all ds end done none rest e k (inl less) most = rest e k (omega arith) less most
still_all ds end done none rest e k (inr same) most = let less = same.1 in absurd (omega (arith, less, none))

still_between : (ds : List Deed) (event turns end done e k : ℕ) → done ≤ 0
    → ((j : ℕ) → turns < j → j ≤ turns_of (slice_get ds event) → next_of_deed (is_down ds event) (slice_get ds event) j ≡ Still)
    → ((f j : ℕ) → event + 1 ≤ f → f < end → j ≤ turns_at ds f → next_at ds f j ≡ Still)
    → IsBefore event turns e k → IsBefore e k end done → k ≤ turns_at ds e → next_at ds e k ≡ Still
still_between ds event turns end done e k none here rest (inl later) (inl less) most = rest e k (omega (arith, later)) less most
still_between ds event turns end done e k none here rest (inl later) (inr same) most = let less = same.1 in absurd (omega (arith, less, none))
still_between ds event turns end done e k none here rest (inr same) before most =
    subst (λ x. k ≤ turns_at ds x → next_at ds x k ≡ Still) same.0 (λ few. here k same.1 (subst (λ n. k ≤ n) (turns_get ds event) few)) most

runs_on : (b : Bool) (o : Option Deed) (k : ℕ) → k < turns_of o → next_of_deed b o k ≢ Still
unfolding turns_of
runs_on b None k less = absurd (omega (arith, less))
runs_on b (Some Nothing) k less = absurd (omega (arith, less))
runs_on b (Some (Ran n)) k less = not_still (nat_lt k n) (n - k) (lt_true k n less)
runs_on b (Some (Took from body)) k less = absurd (omega (arith, less))
runs_on b (Some Fell) k less = absurd (omega (arith, less))
runs_on b (Some (Back m)) k less = absurd (omega (arith, less))

-- in an event before
last_behind : (ds : List Deed) (event turns end done : ℕ) → done ≤ 0 → event < end → before_last ds event ≡ Some turns → StillFrom ds (event + 1) end → IsLast ds event turns end done
unfolding StillFrom turns_of
last_behind ds event turns end done none less is rest =
    let here : IsLastOf (is_down ds event) (slice_get ds event) turns = last_here ds event turns is in
    record {
      before = inl less;
      few = subst (λ n. turns ≤ n) (sym (turns_get ds event)) here.few;
      comes = here.comes;
      still = λ e k from before most. still_between ds event turns end done e k none here.still rest from before most;
    }

before_more : (n : ℕ) → 0 < n → n ≡ n - 1 + 1
before_more n some = omega (arith, some)

-- the same by the event behind
pub still_back : (ds : List Deed) (next end : ℕ) → 0 < next → before_last ds (next - 1) ≡ None → StillFrom ds next end → StillFrom ds (next - 1) end
still_back ds next end some none rest = still_more ds (next - 1) end none (subst (λ n. StillFrom ds n end) (before_more next some) rest)

pub last_back : (ds : List Deed) (next turns end done : ℕ) → done ≤ 0 → 0 < next → next ≤ end → before_last ds (next - 1) ≡ Some turns → StillFrom ds next end → IsLast ds (next - 1) turns end done
last_back ds next turns end done none some within is rest =
    last_behind ds (next - 1) turns end done none (omega (arith, some, within)) is (subst (λ n. StillFrom ds n end) (before_more next some) rest)

-- in the event itself
turns_less : (ds : List Deed) (e k : ℕ) → k < turns_at ds e → next_at ds e k ≢ Still
unfolding turns_of
turns_less ds e k less = runs_on (is_down ds e) (slice_get ds e) k (subst (λ n. k < n) (turns_get ds e) less)

no_between : (event turns e k : ℕ) → 0 < turns → IsBefore event (turns - 1) e k → IsBefore e k event turns → ⊥
no_between event turns e k some (inl a) (inl b) = omega (arith, a, b)
no_between event turns e k some (inl a) (inr b) = let same = b.0 in omega (arith, a, same)
no_between event turns e k some (inr a) (inl b) = let same = a.0 in omega (arith, b, same)
no_between event turns e k some (inr a) (inr b) = let x = a.1 in let y = b.1 in omega (arith, x, y, some)

pub last_turn : (ds : List Deed) (event turns : ℕ) → 0 < turns → turns ≤ turns_at ds event → IsLast ds event (turns - 1) event turns
last_turn ds event turns some within = record {
  before = inr (refl, omega (arith, some));
  few = omega (arith, within);
  comes = turns_less ds event (turns - 1) (omega (arith, some, within));
  still = λ e k from before most. absurd (no_between event turns e k some from before);
}

-- ---- and back again
pub again : (old mid : DebugState) (e k e2 k2 : ℕ) → mid ≡ standing old e k → e2 ≡ old.timeline.event → k2 ≡ old.timeline.turns → standing mid e2 k2 ≡ old
again old mid e k e2 k2 is event turns =
    ap (λ d. standing d e2 k2) is ∙ ap (λ x. standing old x k2) event ∙ ap (λ x. standing old old.timeline.event x) turns

pub stepped_as : (r : Result Stop PlayFault) (old mid new : DebugState) (e k e2 k2 : ℕ) → mid ≡ standing old e k → e2 ≡ old.timeline.event → k2 ≡ old.timeline.turns
    → IfOk r (λ stop. IsStepBack (standing mid e2 k2) new stop) → IfOk r (λ stop. IsStepBack old new stop)
stepped_as r old mid new e k e2 k2 is event turns back =
    subst (λ d. IfOk r (λ stop. IsStepBack d new stop)) (again old mid e k e2 k2 is event turns) back

pub last_stands : (old mid : DebugState) (e k e2 k2 : ℕ) → mid ≡ standing old e k → e2 ≡ old.timeline.event → k2 ≡ old.timeline.turns
    → IsLast old.timeline.deeds e k old.timeline.event old.timeline.turns → IsLast mid.timeline.deeds mid.timeline.event mid.timeline.turns e2 k2
last_stands old mid e k e2 k2 is event turns last =
    subst (λ (d : DebugState). IsLast d.timeline.deeds d.timeline.event d.timeline.turns e2 k2) (sym is)
    (subst (λ x. IsLast old.timeline.deeds e k x k2) (sym event) (subst (λ x. IsLast old.timeline.deeds e k old.timeline.event x) (sym turns) last))

pub within_stands : (old mid : DebugState) (e k at : ℕ) → mid ≡ standing old e k → at ≤ length old.timeline.deeds → at ≤ length mid.timeline.deeds
within_stands old mid e k at is within = subst (λ (d : DebugState). at ≤ length d.timeline.deeds) (sym is) within

pub few_stands : (old mid : DebugState) (e k at done : ℕ) → mid ≡ standing old e k → done ≤ turns_at old.timeline.deeds at → done ≤ turns_at mid.timeline.deeds at
few_stands old mid e k at done is few = subst (λ (d : DebugState). done ≤ turns_at d.timeline.deeds at) (sym is) few

before_within : (deeds : List Deed) (e k end done : ℕ) → IsBefore e k end done → end ≤ length deeds → e ≤ length deeds
before_within deeds e k end done (inl less) within = omega (arith, less, within)
before_within deeds e k end done (inr same) within = let is = same.0 in omega (arith, is, within)

pub last_within : (deeds : List Deed) (e k end done : ℕ) → IsLast deeds e k end done → end ≤ length deeds → e ≤ length deeds
last_within deeds e k end done last within = before_within deeds e k end done last.before within
