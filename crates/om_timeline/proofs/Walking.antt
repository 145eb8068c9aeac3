-- From one position of a tape to another.
use Rattle.std.proofs.Common.{◌≡◌, ◌≢◌, ℕ, zero, suc, ◌+◌, ◌-◌, ◌<◌, ◌≤◌, inl, inr, length, Bool, true, false, refl, sym, ap, subst, ◌∙◌, arith}
use Rattle.om_timeline.specs.Deeds.{turns_at}
use Rattle.om_timeline.specs.Timeline.{IsUpTo, TimelineState, at}
use Rattle.om_timeline.specs.steps.Kept.{IsComing}
use Rattle.om_timeline.specs.steps.Placed.{IsLeft}

pub begun_at : (t : TimelineState) → t.turns ≡ 0 → t ≡ at t t.event 0
begun_at t none = ap (at t t.event) none

-- before the next event
pub walked_on : (first old new : TimelineState) (event to : ℕ) (went : Bool) → old ≡ at first event 0 → (went ≡ true → new ≡ at old (old.event + 1) 0) → (went ≡ false → length old.deeds ≤ old.event)
    → event < to → to ≤ length first.deeds → new ≡ at first (event + 1) 0
walked_on first old new event to true here step none less played = step refl ∙ ap (λ (t : TimelineState). at t (t.event + 1) 0) here
walked_on first old new event to false here step none less played =
    let end : length first.deeds ≤ event = subst (λ (t : TimelineState). length t.deeds ≤ t.event) here (none refl) in
    absurd (omega (arith, end, less, played))

pub walked_to : (first old : TimelineState) (event to : ℕ) → old ≡ at first event 0 → event ≡ to → old ≡ at first to 0
walked_to first old event to here same = here ∙ ap (λ e. at first e 0) same

pub stays_at : (first old new : TimelineState) (event : ℕ) → old ≡ at first event 0 → new ≡ old → (e : ℕ) × (k : ℕ) × (new ≡ at first e k)
stays_at first old new event here same = (event, 0, same ∙ here)

-- to before an event that is not behind another
pub left_on : (old new : TimelineState) (to : ℕ) (went : Bool) → (went ≡ true → new ≡ at old (old.event + 1) 0) → (went ≡ false → length old.deeds ≤ old.event) → old.event < to → to ≤ length old.deeds → IsLeft old new to
left_on old new to true step none less played = record { event = old.event + 1; order = omega (arith, less); is = step refl }
left_on old new to false step none less played = let end = none refl in absurd (omega (arith, end, less, played))

-- and on
pub jumped : (old left mid new : TimelineState) (event turns : ℕ) → IsLeft old left event → mid ≡ at left event 0 → new ≡ at mid mid.event (mid.turns + turns) → new ≡ at old event turns
jumped old left mid new event turns first there last =
    last
    ∙ ap (λ (t : TimelineState). at t t.event (t.turns + turns)) there
    ∙ ap (λ (t : TimelineState). at t event (0 + turns)) first.is
    ∙ ap (at old event) (omega arith)

pub gone_there : (old new : TimelineState) (event turns : ℕ) → new ≡ at old old.event (old.turns + (turns - old.turns)) → event ≡ old.event → old.turns ≤ turns → new ≡ at old event turns
gone_there old new event turns is same order =
    is ∙ ap (λ e. at old e (old.turns + (turns - old.turns))) (sym same) ∙ ap (at old event) (omega (arith, order))

pub stays_then : (old left new : TimelineState) (to : ℕ) → IsLeft old left to → ((e : ℕ) × (k : ℕ) × (new ≡ at left e k)) → (e : ℕ) × (k : ℕ) × (new ≡ at old e k)
stays_then old left new to first then = (then.0, then.1, then.2 ∙ ap (λ (t : TimelineState). at t then.0 then.1) first.is)

-- what is asked where it goes
pub few_left : (old : TimelineState) (event turns : ℕ) → event ≡ old.event → old.turns ≤ turns → turns ≤ turns_at old.deeds event → old.turns + (turns - old.turns) ≤ turns_at old.deeds old.event
few_left old event turns same order few =
    let there : turns ≤ turns_at old.deeds old.event = subst (λ e. turns ≤ turns_at old.deeds e) same few in
    omega (arith, there, order)

pub few_there : (old left mid : TimelineState) (event turns : ℕ) → IsLeft old left event → mid ≡ at left event 0 → turns ≤ turns_at old.deeds event → mid.turns + turns ≤ turns_at mid.deeds mid.event
few_there old left mid event turns first there few =
    let is : mid ≡ at old event 0 = there ∙ ap (λ (t : TimelineState). at t event 0) first.is in
    subst (λ (t : TimelineState). t.turns + turns ≤ turns_at t.deeds t.event) (sym is) (omega (arith, few))

pub left_turns : (old left : TimelineState) (to : ℕ) → IsLeft old left to → left.turns ≡ 0
left_turns old left to first = ap (λ (t : TimelineState). t.turns) first.is

pub left_event : (old left : TimelineState) (to : ℕ) → IsLeft old left to → left.event ≤ to
left_event old left to first = let order = first.order in let is : left.event ≡ first.event = ap (λ (t : TimelineState). t.event) first.is in omega (arith, order, is)

pub left_deeds : (old left : TimelineState) (to k : ℕ) → IsLeft old left to → k ≤ length old.deeds → k ≤ length left.deeds
left_deeds old left to k first within = subst (λ (t : TimelineState). k ≤ length t.deeds) (sym first.is) within

-- where it stands once it was refused
pub stays_left : (old left new : TimelineState) (to : ℕ) → IsLeft old left to → new ≡ left → (e : ℕ) × (k : ℕ) × (new ≡ at old e k)
stays_left old left new to first same = (first.event, 0, same ∙ first.is)

-- ---- back, by a position that is kept
pub less_event : (event turns to done : ℕ) → IsUpTo event turns to done → to ≢ event → event < to
less_event event turns to done (inl less) apart = less
less_event event turns to done (inr same) apart = absurd (apart (sym same.0))

pub same_order : (event turns to done : ℕ) → IsUpTo event turns to done → to ≡ event → turns ≤ done
same_order event turns to done (inl less) same = absurd (omega (arith, less, same))
same_order event turns to done (inr order) same = order.1

pub up_event : (event turns to done most : ℕ) → IsUpTo event turns to done → to ≤ most → event ≤ most
up_event event turns to done most (inl less) within = omega (arith, less, within)
up_event event turns to done most (inr order) within = let same = order.0 in omega (arith, same, within)

up_begin : (to done : ℕ) → IsUpTo 0 0 to done
up_begin zero done = inr (refl, omega arith)
up_begin (suc to) done = inl (omega arith)

pub begun_gone : (old new : TimelineState) → new ≡ at old 0 0 → (e : ℕ) × (k : ℕ) × (new ≡ at old e k)
begun_gone old new is = (0, 0, is)

pub begun_order : (old new : TimelineState) (to done : ℕ) → new ≡ at old 0 0 → IsUpTo new.event new.turns to done
begun_order old new to done is = subst (λ (t : TimelineState). IsUpTo t.event t.turns to done) (sym is) (up_begin to done)

pub coming_to : (old new : TimelineState) (to done : ℕ) → ((e : ℕ) × (k : ℕ) × (new ≡ at old e k)) → IsUpTo new.event new.turns to done → IsComing old new to done
coming_to old new to done there order = record {
  event = there.0;
  turns = there.1;
  order = subst (λ (t : TimelineState). IsUpTo t.event t.turns to done) there.2 order;
  is = there.2;
}

pub coming_at : (old new : TimelineState) (event turns to done : ℕ) → new ≡ at old event turns → IsUpTo event turns to done → IsComing old new to done
coming_at old new event turns to done is order = record { event = event; turns = turns; order = order; is = is }

pub coming_here : (t : TimelineState) (to done : ℕ) → IsUpTo t.event t.turns to done → IsComing t t to done
coming_here t to done order = record { event = t.event; turns = t.turns; order = order; is = refl }

pub coming_then : (old mid new : TimelineState) (to done : ℕ) → IsComing old mid to done → IsComing mid new to done → IsComing old new to done
coming_then old mid new to done first then = record {
  event = then.event;
  turns = then.turns;
  order = then.order;
  is = then.is ∙ ap (λ (t : TimelineState). at t then.event then.turns) first.is;
}

pub coming_order : (old new : TimelineState) (to done : ℕ) → IsComing old new to done → IsUpTo new.event new.turns to done
coming_order old new to done come = subst (λ (t : TimelineState). IsUpTo t.event t.turns to done) (sym come.is) come.order

pub coming_event : (old new : TimelineState) (to done k : ℕ) → IsComing old new to done → k ≤ length old.deeds → k ≤ length new.deeds
coming_event old new to done k come within = subst (λ (t : TimelineState). k ≤ length t.deeds) (sym come.is) within

pub coming_turns : (old new : TimelineState) (to done : ℕ) → IsComing old new to done → done ≤ turns_at old.deeds to → done ≤ turns_at new.deeds to
coming_turns old new to done come few = subst (λ (t : TimelineState). done ≤ turns_at t.deeds to) (sym come.is) few

pub came : (old mid new : TimelineState) (to done : ℕ) → IsComing old mid to done → new ≡ at mid to done → new ≡ at old to done
came old mid new to done come is = is ∙ ap (λ (t : TimelineState). at t to done) come.is

pub stays_come : (old mid new : TimelineState) (to done : ℕ) → IsComing old mid to done → ((e : ℕ) × (k : ℕ) × (new ≡ at mid e k)) → (e : ℕ) × (k : ℕ) × (new ≡ at old e k)
stays_come old mid new to done come then = (then.0, then.1, then.2 ∙ ap (λ (t : TimelineState). at t then.0 then.1) come.is)

pub stays_coming : (old new : TimelineState) (to done : ℕ) → IsComing old new to done → (e : ℕ) × (k : ℕ) × (new ≡ at old e k)
stays_coming old new to done come = (come.event, come.turns, come.is)
