-- A tape with one deed more.
use Rattle.std.proofs.Common.{◌≡◌, ℕ, zero, suc, ◌+◌, ◌<◌, ◌≤◌, List, [], ◌∷◌, ◌++◌, length, take, Option, Some, None, refl, sym, ap, subst, ◌∙◌, arith, length-append}
use Rattle.std.specs.Prelude.{IfSome, slice_get}
use Rattle.om_machine.specs.State.{State}
use Rattle.om_process.specs.declared.limits.TheConstants.{LAST_NUMBER}
use Rattle.om_process.specs.Core.{CoreState, cluster_size}
use Rattle.om_world.specs.declared.event.Event.{Event}
use Rattle.om_world.specs.Holds.{Holds}
use Rattle.om_world.specs.World.{IsKnown, WorldState}
use Rattle.om_world.proofs.Lists.{inside, none_in, once}
use Rattle.om_timeline.specs.declared.deed.Deed.{Deed}
use Rattle.om_timeline.specs.declared.fault.PlayFault.{PlayFault}
use Rattle.om_timeline.specs.Deeds.{after_deed, after_deeds}
use Rattle.om_timeline.specs.Shown.{machine_in, machine_of}
use Rattle.om_timeline.specs.Timeline.{CanBegin}
use Rattle.om_timeline.specs.steps.Filmed.{Filmed, GoesOn, HasMachine, HasSeat, IsFilmed, IsNextDeed, IsPlayedDeed, IsSeat, IsTaken, IsTape, TapeState}
use Rattle.om_timeline.specs.steps.Parts.{PlayerState}
use Rattle.om_timeline.proofs.Filming.{filmed_more, machine_after, taken_of}

pub take_more : {A : Type 0} (xs : List A) (k : ℕ) (x : A) → slice_get xs k ≡ Some x → take (k + 1) xs ≡ take k xs ++ x ∷ []
take_more [] k x at = absurd (none_in k x at)
take_more (y ∷ xs) zero x at = ap (λ z. z ∷ []) (once y x at)
take_more (y ∷ xs) (suc k) x at =
    let e : suc k + 1 ≡ suc (k + 1) = omega arith in
    ap (λ i. take i (y ∷ xs)) e ∙ ap (λ l. y ∷ l) (take_more xs k x at)

pub after_more : (p n : ℕ) (m : State) (deeds : List Deed) (deed : Deed) → after_deeds p n m (deeds ++ deed ∷ []) ≡ after_deed p n (after_deeds p n m deeds) deed
after_more p n m [] deed = refl
after_more p n m (d ∷ deeds) deed = after_more p n (after_deed p n m d) deeds deed

-- with one deed more
abbrev pub longer : TapeState → Deed → TapeState
longer t deed = record t { deeds = t.deeds ++ deed ∷ [] }

next_taken : (t : TapeState) (old new : WorldState) (e : Event) (deed : Deed) → GoesOn t old → IsNextDeed t.own t.n old e deed new
    → IsTaken t.own t.n (after_deeds t.own t.n t.first t.deeds) old e deed new
next_taken t old new e deed goes next =
    taken_of t.own t.n (after_deeds t.own t.n t.first t.deeds) old new e next.answer next.kind deed
    goes.holds goes.seat goes.machine next.seat next.step.happened next.is_kind next.is_deed

filmed_longer : (t : TapeState) (old new : WorldState) (e : Event) (deed : Deed) → slice_get t.events (length t.deeds) ≡ Some e → GoesOn t old → IsNextDeed t.own t.n old e deed new → IsFilmed (longer t deed) new
filmed_longer t old new e deed at goes next =
    let more : Filmed t.own t.n t.first t.begun (take (length t.deeds) t.events ++ e ∷ []) (goes.filmed.answers ++ next.answer ∷ []) (t.deeds ++ deed ∷ []) new =
    filmed_more t.own t.n t.first t.begun old new (take (length t.deeds) t.events) goes.filmed.answers t.deeds e next.answer deed goes.filmed.filmed next.step (next_taken t old new e deed goes next) in
    let long : length (t.deeds ++ deed ∷ []) ≡ length t.deeds + 1 = length-append t.deeds (deed ∷ []) in
    let events : take (length t.deeds) t.events ++ e ∷ [] ≡ take (length (t.deeds ++ deed ∷ [])) t.events = sym (take_more t.events (length t.deeds) e at) ∙ ap (λ k. take k t.events) (sym long) in
    record {
      answers = goes.filmed.answers ++ next.answer ∷ [];
      filmed = subst (λ es. Filmed t.own t.n t.first t.begun es (goes.filmed.answers ++ next.answer ∷ []) (t.deeds ++ deed ∷ []) new) events more;
    }

pub goes_longer : (t : TapeState) (old new : WorldState) (e : Event) (deed : Deed) → slice_get t.events (length t.deeds) ≡ Some e → GoesOn t old → IsNextDeed t.own t.n old e deed new → GoesOn (longer t deed) new
goes_longer t old new e deed at goes next =
    let m : State = after_deeds t.own t.n t.first t.deeds in
    let shown : machine_of t.own m new ≡ after_deeds t.own t.n t.first (t.deeds ++ deed ∷ []) =
    (next_taken t old new e deed goes next).shown ∙ sym (after_more t.own t.n t.first t.deeds deed) in
    record {
      filmed = filmed_longer t old new e deed at goes next;
      known = next.known;
      holds = next.step.holds;
      seat = next.seat;
      machine = subst (λ x. HasMachine t.own new x) shown (machine_after t.own m new);
    }

-- a tape that goes on is one
pub tape_goes : (t : TapeState) (s : PlayerState) → length t.deeds ≤ length t.events → GoesOn t s.before → s.begun ≡ None → IsTape t None s
tape_goes t s within goes none = record {
  within = within;
  last = s.before;
  filmed = goes.filmed;
  goes_on = λ kept. goes;
  begun = λ kept. subst (λ b. IfSome b (λ event. slice_get t.events (length t.deeds) ≡ Some event)) (sym none) tt;
}

pub some_fault : (fault : PlayFault) → Some fault ≡ None → ⊥
some_fault fault e = cc

-- a tape is lost with a fault
pub tape_lost : (t : TapeState) (fault : PlayFault) (before : Option PlayFault) (old new : PlayerState) → IsTape t before old → IsTape t (Some fault) new
tape_lost t fault before old new tape = record {
  within = tape.within;
  last = tape.last;
  filmed = tape.filmed;
  goes_on = λ none. absurd (some_fault fault none);
  begun = λ none. absurd (some_fault fault none);
}

-- a tape of no event yet
pub tape_new : (own n : ℕ) (first : State) (events : List Event) (s : PlayerState) (c : CoreState) → IsKnown s.before → Holds s.before → HasSeat own n s.before → slice_get s.before.cores own ≡ Some (Some c) → first ≡ c.now.machine → s.begun ≡ None
    → IsTape (record { own = own; n = n; first = first; begun = s.before; events = events; deeds = [] }) None s
tape_new own n first events s c known holds seat at is none =
    tape_goes (record { own = own; n = n; first = first; begun = s.before; events = events; deeds = [] }) s (omega arith) (record {
      filmed = record { answers = []; filmed = refl };
      known = known;
      holds = holds;
      seat = seat;
      machine = λ d there. ap (λ (x : Option (Option CoreState)). machine_in first x) (sym there ∙ at) ∙ sym is;
    }) none

-- and of one more
pub tape_longer : (t : TapeState) (old new : PlayerState) (e : Event) (deed : Deed) → slice_get t.events (length t.deeds) ≡ Some e → IsTape t None old → IsPlayedDeed t.own t.n old.before e deed new → IsTape (longer t deed) None new
tape_longer t old new e deed at tape played =
    let there : length t.deeds < length t.events = inside t.events (length t.deeds) e at in
    let long : length (t.deeds ++ deed ∷ []) ≡ length t.deeds + 1 = length-append t.deeds (deed ∷ []) in
    tape_goes (longer t deed) new (omega (arith, there, long)) (goes_longer t old.before new.before e deed at (tape.goes_on refl) played.next) played.over

-- ---- as the code has them
pub tape_begun : (own n : ℕ) (first : State) (events : List Event) (w begun : WorldState) (s : PlayerState) (deeds : List Deed) (c : CoreState) → IsKnown w → Holds w → HasSeat own n w → slice_get w.cores own ≡ Some (Some c) → first ≡ c.now.machine
    → begun ≡ w → s.before ≡ w → s.begun ≡ None → deeds ≡ [] → IsTape (record { own = own; n = n; first = first; begun = begun; events = events; deeds = deeds }) None s
tape_begun own n first events w begun s deeds c known holds seat at is same here over none =
    subst (λ b. IsTape (record { own = own; n = n; first = first; begun = b; events = events; deeds = deeds }) None s) (here ∙ sym same)
    (subst (λ ds. IsTape (record { own = own; n = n; first = first; begun = s.before; events = events; deeds = ds }) None s) (sym none)
    (tape_new own n first events s c (subst IsKnown (sym here) known) (subst Holds (sym here) holds) (subst (HasSeat own n) (sym here) seat) (subst (λ (x : WorldState). slice_get x.cores own ≡ Some (Some c)) (sym here) at) is over))

pub film_longer : (t : TapeState) (fault : Option PlayFault) (deeds : List Deed) (old new : PlayerState) (e : Event) (deed : Deed) → fault ≡ None → slice_get t.events (length t.deeds) ≡ Some e
    → IsTape t fault old → IsPlayedDeed t.own t.n old.before e deed new → deeds ≡ t.deeds ++ deed ∷ [] → IsTape (record t { deeds = deeds }) fault new
film_longer t fault deeds old new e deed none at tape next is =
    subst (λ ds. IsTape (record t { deeds = ds }) fault new) (sym is)
    (subst (λ f. IsTape (longer t deed) f new) (sym none) (tape_longer t old new e deed at (subst (λ f. IsTape t f old) none tape) next))

pub film_lost : (t : TapeState) (fault : PlayFault) (before : Option PlayFault) (deeds : List Deed) (old new : PlayerState) → IsTape t before old → deeds ≡ t.deeds → IsTape (record t { deeds = deeds }) (Some fault) new
film_lost t fault before deeds old new tape is =
    subst (λ ds. IsTape (record t { deeds = ds }) (Some fault) new) (sym is) (tape_lost t fault before old new tape)

-- of a part of the next event nothing is on the tape
pub film_part : (t : TapeState) (fault : Option PlayFault) (deeds : List Deed) (old new : PlayerState) (e : Event) → slice_get t.events (length t.deeds) ≡ Some e → IsTape t fault old → new ≡ record { before = old.before; begun = Some e } → deeds ≡ t.deeds
    → IsTape (record t { deeds = deeds }) fault new
film_part t fault deeds old new e at tape is same =
    subst (λ ds. IsTape (record t { deeds = ds }) fault new) (sym same)
    (subst (λ s. IsTape t fault s) (sym is)
    (record { within = tape.within; last = tape.last; filmed = tape.filmed; goes_on = tape.goes_on; begun = λ none. at }))

-- the next event is the run that has begun
pub film_begun : (t : TapeState) (fault : Option PlayFault) (s : PlayerState) (e : Event) → fault ≡ None → slice_get t.events (length t.deeds) ≡ Some e → IsTape t fault s → IfSome s.begun (λ begun. begun ≡ e)
film_begun t fault s e none at tape = same_event s.begun (tape.begun none)
  where
    same_event : (b : Option Event) → IfSome b (λ event. slice_get t.events (length t.deeds) ≡ Some event) → IfSome b (λ begun. begun ≡ e)
    same_event None is = tt
    same_event (Some event) is = once event e (sym is ∙ at)

-- whether there is a tape
pub none_there : (w : WorldState) (p : ℕ) → ((c : CoreState) → slice_get w.cores p ≡ Some (Some c) → ⊥) → CanBegin w p → ⊥
none_there w p none can = none can.core can.is_core

same_core : (w : WorldState) (p : ℕ) (c d : CoreState) → slice_get w.cores p ≡ Some (Some c) → slice_get w.cores p ≡ Some (Some d) → d ≡ c
same_core w p c d at there = once d c (once (Some d) (Some c) (sym there ∙ at))

seat_of : (w : WorldState) (p n : ℕ) (c : CoreState) → slice_get w.cores p ≡ Some (Some c) → c.own ≡ p → cluster_size c.now ≡ n → CanBegin w p → HasSeat p n w
seat_of w p n c at own size can = λ d there.
    subst (IsSeat p n) (sym (same_core w p c d at there))
    (record { own = own; size = size; few = subst (λ (x : CoreState). x.now.machine.count ≤ LAST_NUMBER) (same_core w p c can.core at can.is_core) can.few })

pub none_seated : (w : WorldState) (p n : ℕ) (c : CoreState) → slice_get w.cores p ≡ Some (Some c) → c.own ≡ p → cluster_size c.now ≡ n → (HasSeat p n w → ⊥) → CanBegin w p → ⊥
none_seated w p n c at own size none can = none (seat_of w p n c at own size can)

pub can_begin : (w : WorldState) (p n : ℕ) (c : CoreState) → slice_get w.cores p ≡ Some (Some c) → HasSeat p n w → CanBegin w p
can_begin w p n c at seat = record { core = c; is_core = at; few = (seat c at).few }
