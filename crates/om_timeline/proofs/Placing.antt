-- Positions of a tape, and the machine there.
use Rattle.std.proofs.Common.{◌≡◌, ℕ, zero, suc, ◌+◌, ◌<◌, ◌≤◌, List, [], ◌∷◌, ◌++◌, length, take, get_or, Option, None, Some, Bool, true, false, Result, Ok, Err, IfOk, OnErr, refl, sym, ap, subst, ◌∙◌, arith, length-append}
use Rattle.std.specs.Prelude.{IfSome, slice_get}
use Rattle.std.proofs.lemmas.Option.{slice_get_read}
use Rattle.om_machine.specs.State.{State}
use Rattle.om_world.specs.World.{WorldState}
use Rattle.om_world.proofs.Lists.{none_in, once}
use Rattle.om_timeline.specs.declared.deed.Deed.{Deed}
use Rattle.om_timeline.specs.declared.fault.PlayFault.{PlayFault}
use Rattle.om_timeline.specs.Alone.{turns_alone}
use Rattle.om_timeline.specs.Deeds.{after_deed, after_deeds, turns_at, turns_in}
use Rattle.om_timeline.specs.Shown.{ShownAt}
use Rattle.om_timeline.specs.steps.Filmed.{IsFilmed}
use Rattle.om_timeline.specs.steps.Placed.{IsPlaced}
use Rattle.om_timeline.specs.steps.Reels.{ReelState, tape_from}
use Rattle.om_timeline.proofs.Filming.{filmed_shows}
use Rattle.om_timeline.proofs.Taping.{after_more, take_more}
use Rattle.om_timeline.proofs.Turning.{joined}

pub turns_there : (deeds : List Deed) (event : ℕ) (deed : Deed) → slice_get deeds event ≡ Some deed → turns_at deeds event ≡ turns_in deed
turns_there [] event deed at = absurd (none_in event deed at)
turns_there (d ∷ deeds) zero deed at = ap turns_in (once d deed at)
turns_there (d ∷ deeds) (suc event) deed at = turns_there deeds event deed at

pub none_behind : (deeds : List Deed) (event : ℕ) → length deeds ≤ event → turns_at deeds event ≡ 0
none_behind [] event behind = refl
none_behind (d ∷ deeds) zero behind = absurd (omega (arith, behind))
none_behind (d ∷ deeds) (suc event) behind = none_behind deeds event (omega (arith, behind))

-- the same of what is read there
pub turns_read : (deeds : List Deed) (event : ℕ) (deed : Deed) → event < length deeds → deed ≡ get_or deeds event deed → turns_at deeds event ≡ turns_in deed
turns_read deeds event deed there read = turns_there deeds event deed (slice_get_read deeds (length deeds) event deed refl there read)

take_before : {A : Type 0} (xs ys : List A) (k : ℕ) → k ≤ length xs → take k (xs ++ ys) ≡ take k xs
take_before [] [] zero within = refl
take_before [] (y ∷ ys) zero within = refl
take_before [] ys (suc k) within = absurd (omega (arith, within))
take_before (x ∷ xs) ys zero within = refl
take_before (x ∷ xs) ys (suc k) within = ap (λ l. x ∷ l) (take_before xs ys k (omega (arith, within)))

few_longer : (deeds more : List Deed) (event turns : ℕ) → turns ≤ turns_at deeds event → turns ≤ turns_at (deeds ++ more) event
few_longer [] more event turns few = omega (arith, few)
few_longer (d ∷ deeds) more zero turns few = few
few_longer (d ∷ deeds) more (suc event) turns few = few_longer deeds more event turns few

-- what stands before an event stays as the tape grows
pub placed_longer : (t : ReelState) (more : List Deed) (m : State) (own n event turns : ℕ) → IsPlaced t m own n event turns → IsPlaced (record t { deeds = t.deeds ++ more }) m own n event turns
placed_longer t more m own n event turns p =
    let long = length-append t.deeds more in
    let within = p.within in
    record {
      is_own = p.is_own;
      is_n = p.is_n;
      within = omega (arith, within, long);
      few = few_longer t.deeds more event turns p.few;
      here = p.here ∙ ap (λ ds. turns_alone t.own t.n turns (after_deeds t.own t.n t.first ds)) (sym (take_before t.deeds more event p.within));
    }

-- some turns on
pub placed_on : (t : ReelState) (m next : State) (own n event turns more : ℕ) → IsPlaced t m own n event turns → turns + more ≤ turns_at t.deeds event → next ≡ turns_alone own n more m → IsPlaced t next own n event (turns + more)
placed_on t m next own n event turns more p few gone = record {
  is_own = p.is_own;
  is_n = p.is_n;
  within = p.within;
  few = few;
  here = gone ∙ ap (λ i. turns_alone i n more m) p.is_own ∙ ap (λ i. turns_alone t.own i more m) p.is_n ∙ ap (turns_alone t.own t.n more) p.here
      ∙ sym (joined t.own t.n turns more (after_deeds t.own t.n t.first (take event t.deeds)));
}

-- under another name of the process
pub placed_as : (t : ReelState) (m : State) (own n own2 n2 event turns : ℕ) → own2 ≡ own → n2 ≡ n → IsPlaced t m own n event turns → IsPlaced t m own2 n2 event turns
placed_as t m own n own2 n2 event turns is_own is_n p = record { is_own = is_own ∙ p.is_own; is_n = is_n ∙ p.is_n; within = p.within; few = p.few; here = p.here }

-- with what came of one event more
pub placed_filmed : (result : Result Bool PlayFault) (old new : ReelState) (m : State) (own n event turns : ℕ)
    → IfOk result (λ more. more ≡ true → (deed : Deed) × (new ≡ record old { deeds = old.deeds ++ deed ∷ [] }))
    → IfOk result (λ more. more ≡ false → new ≡ old) → OnErr result (new ≡ old) → IsPlaced old m own n event turns → IsPlaced new m own n event turns
placed_filmed (Ok true) old new m own n event turns more end refused p =
    let longer = more refl in
    subst (λ t. IsPlaced t m own n event turns) (sym longer.1) (placed_longer old (longer.0 ∷ []) m own n event turns p)
placed_filmed (Ok false) old new m own n event turns more end refused p = subst (λ t. IsPlaced t m own n event turns) (sym (end refl)) p
placed_filmed (Err fault) old new m own n event turns more end refused p = subst (λ t. IsPlaced t m own n event turns) (sym refused) p

-- behind the event
pub placed_behind : (t : ReelState) (m next : State) (own n event turns : ℕ) (deed : Deed) → IsPlaced t m own n event turns → slice_get t.deeds event ≡ Some deed → event < length t.deeds
    → ((x : State) → m ≡ turns_alone own n turns x → next ≡ after_deed own n x deed) → IsPlaced t next own n (event + 1) 0
placed_behind t m next own n event turns deed p at there finished =
    let before : State = after_deeds t.own t.n t.first (take event t.deeds) in
    let here : m ≡ turns_alone own n turns before = p.here ∙ ap (λ i. turns_alone i t.n turns before) (sym p.is_own) ∙ ap (λ i. turns_alone own i turns before) (sym p.is_n) in
    record {
      is_own = p.is_own;
      is_n = p.is_n;
      within = omega (arith, there);
      few = omega arith;
      here = finished before here ∙ ap (λ i. after_deed i n before deed) p.is_own ∙ ap (λ i. after_deed t.own i before deed) p.is_n
          ∙ sym (after_more t.own t.n t.first (take event t.deeds) deed)
          ∙ ap (after_deeds t.own t.n t.first) (sym (take_more t.deeds event deed at));
    }

-- before the first event
pub placed_first : (t : ReelState) (m : State) (own n : ℕ) → own ≡ t.own → n ≡ t.n → m ≡ t.first → IsPlaced t m own n 0 0
placed_first t m own n is_own is_n first = record { is_own = is_own; is_n = is_n; within = omega arith; few = omega arith; here = first }

shown_from : (r : ReelState) (m : State) (own n event turns : ℕ) (begun : Option WorldState) → IfSome begun (λ b. (last : WorldState) × IsFilmed (tape_from r b) last) → IsPlaced r m own n event turns
    → IfSome begun (λ b. ShownAt r.own r.first b r.events event turns m)
shown_from r m own n event turns None film p = tt
shown_from r m own n event turns (Some b) film p =
    subst (ShownAt r.own r.first b r.events event turns) (sym p.here)
    (filmed_shows r.own r.n r.first b film.0 r.events film.1.answers r.deeds event turns film.1.filmed p.within p.few)

-- the machine at a position of a record that is played is what is shown there
pub placed_shown : (r : ReelState) (m : State) (own n event turns : ℕ) → IfSome r.begun (λ b. (last : WorldState) × IsFilmed (tape_from r b) last) → IsPlaced r m own n event turns
    → IfSome r.begun (λ b. ShownAt r.own r.first b r.events event turns m)
placed_shown r m own n event turns film p = shown_from r m own n event turns r.begun film p
