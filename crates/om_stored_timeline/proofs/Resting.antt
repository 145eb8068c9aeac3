-- What a process came along, told as a timeline.
use Rattle.std.proofs.Common.{◌≡◌, ℕ, suc, ◌+◌, ◌-◌, ◌<◌, ◌≤◌, List, [], ◌∷◌, ◌++◌, length, None, refl, sym, ap, ◌∙◌, subst, arith, length-append}
use Rattle.om_format.specs.Receipts.{ReceiptRecord}
use Rattle.om_machine.specs.State.{State}
use Rattle.om_process.specs.declared.limits.TheConstants.{LAST_INTERVAL}
use Rattle.om_stable.specs.Content.{Records, between, rows_of}
use Rattle.om_timeline.specs.Alone.{HasTurns, turn_alone, turns_alone}
use Rattle.om_timeline.specs.Timeline.{TimelineState, told_timeline}
use Rattle.om_timeline.specs.declared.deed.Deed.{Deed}
use Rattle.om_timeline.specs.declared.deed.Deed.TheVariants.{Ran}
use Rattle.om_timeline.proofs.Turning.{has_more, joined}
use Rattle.om_world.specs.declared.event.Event.{Event}
use Rattle.om_world.specs.declared.event.Event.TheVariants as events
use Rattle.om_stored_timeline.specs.declared.following.Follower.{Follower}
use Rattle.om_stored_timeline.specs.declared.following.TheConstants.{MOST_BEHIND}
use Rattle.om_stored_timeline.specs.Following.{IsRest, IsToldFrom, behind_receipt, behind_receipts, deeds_of, events_of}
use Rattle.om_stored_timeline.specs.steps.Walking.{Found, IsLed}
use Rattle.om_stored_timeline.proofs.Rows.{followed_of}

-- ---- behind the last receipt
pub rest_far : (own n : ℕ) (m here : State) (done : ℕ) → MOST_BEHIND ≤ done → HasTurns own n done m → IsRest own n m done
rest_far own n m here done far has = record { turns = has; no_more = λ less. absurd (omega (arith, less, far)) }

pub rest_more : (own n : ℕ) (m here next : State) (done more : ℕ) → here ≡ turns_alone own n done m → HasTurns own n done m → next ≡ turns_alone own n more here → HasTurns own n more here
    → (more < MOST_BEHIND - done → turn_alone own n next ≡ None) → IsRest own n m (done + more)
rest_more own n m here next done more gone has on further none = record {
  turns = has_more own n done more m here has gone further;
  no_more = λ less.
      ap (turn_alone own n) (joined own n done more m ∙ ap (turns_alone own n more) (sym gone) ∙ sym on) ∙ none (omega (arith, less));
}

-- ---- the timeline
told_begun : (held : Records) (begun f : Follower) (found : Found) (rest : ℕ) (es : List Event) (ds : List Deed) → IsLed begun found f → begun.interval ≤ LAST_INTERVAL
    → rows_of found ≡ between held begun.interval LAST_INTERVAL → begun.events.items ≡ [] → begun.deeds.items ≡ []
    → ((m : State) → f.alone.machine ≡ turns_alone f.alone.own f.alone.n f.done m → HasTurns f.alone.own f.alone.n f.done m → IsRest f.alone.own f.alone.n m rest)
    → es ≡ f.events.items ++ events.Run begun.alone.own rest ∷ [] → ds ≡ f.deeds.items ++ Ran rest ∷ []
    → IsToldFrom held begun.alone.own begun.alone.n begun.interval begun.alone.machine (told_timeline begun.alone.own begun.alone.n begun.alone.machine es ds)
told_begun held begun f found rest es ds led low is no_events no_deeds rests all_events all_deeds =
    let own : ℕ = begun.alone.own in
    let n : ℕ = begun.alone.n in
    let m : State = begun.alone.machine in
    let along = led.along in
    let rs : List ReceiptRecord = along.receipts in
    let there : State = behind_receipts own n m rs in
    let gone : f.alone.machine ≡ turns_alone f.alone.own f.alone.n f.done there =
    along.machine ∙ ap (λ i. turns_alone i n f.done there) (sym along.own) ∙ ap (λ i. turns_alone f.alone.own i f.done there) (sym along.n) in
    let has : HasTurns f.alone.own f.alone.n f.done there =
    subst (λ i. HasTurns f.alone.own i f.done there) (sym along.n) (subst (λ i. HasTurns i n f.done there) (sym along.own) along.turns) in
    let is_rest : IsRest own n there rest =
    subst (λ i. IsRest own i there rest) along.n (subst (λ i. IsRest i f.alone.n there rest) along.own (rests there gone has)) in
    record {
      receipts = rs;
      followed = followed_of held own n begun.interval led.k f.interval m found rs is low led.within along.gapless along.spelled along.fit along.interval led.ends;
      rest = rest;
      is_rest = is_rest;
      is = ap (λ e. told_timeline own n m e ds) (all_events ∙ ap (λ e. e ++ events.Run own rest ∷ []) (along.events ∙ ap (λ e. e ++ events_of own n m rs) no_events))
          ∙ ap (λ d. told_timeline own n m (events_of own n m rs ++ events.Run own rest ∷ []) d) (all_deeds ∙ ap (λ d. d ++ Ran rest ∷ []) (along.deeds ∙ ap (λ d. d ++ deeds_of own n m rs) no_deeds));
    }

pub told_as : (held : Records) (own n begin : ℕ) (m first : State) (begun f : Follower) (found : Found) (rest : ℕ) (es : List Event) (ds : List Deed) (t : TimelineState) → IsLed begun found f → begin ≤ LAST_INTERVAL
    → rows_of found ≡ between held begin LAST_INTERVAL → begun.alone.own ≡ own → begun.alone.n ≡ n → begun.interval ≡ begin → begun.alone.machine ≡ m → begun.events.items ≡ [] → begun.deeds.items ≡ []
    → ((x : State) → f.alone.machine ≡ turns_alone f.alone.own f.alone.n f.done x → HasTurns f.alone.own f.alone.n f.done x → IsRest f.alone.own f.alone.n x rest)
    → es ≡ f.events.items ++ events.Run own rest ∷ [] → ds ≡ f.deeds.items ++ Ran rest ∷ [] → first ≡ m → t ≡ told_timeline own n first es ds → IsToldFrom held own n begin m t
told_as held own n begin m first begun f found rest es ds t led low is is_own is_n at machine no_events no_deeds rests all_events all_deeds same made =
    let low_there : begun.interval ≤ LAST_INTERVAL = omega (arith, low, at) in
    let told = told_begun held begun f found rest es ds led low_there (is ∙ ap (λ b. between held b LAST_INTERVAL) (sym at)) no_events no_deeds rests
    (all_events ∙ ap (λ o. f.events.items ++ events.Run o rest ∷ []) (sym is_own)) all_deeds in
    subst (IsToldFrom held own n begin m) (sym (made ∙ ap (λ x. told_timeline own n x es ds) same))
    (subst (λ x. IsToldFrom held own n begin x (told_timeline own n x es ds)) machine
    (subst (λ b. IsToldFrom held own n b begun.alone.machine (told_timeline own n begun.alone.machine es ds)) at
    (subst (λ k. IsToldFrom held own k begun.interval begun.alone.machine (told_timeline own k begun.alone.machine es ds)) is_n
    (subst (λ o. IsToldFrom held o begun.alone.n begun.interval begun.alone.machine (told_timeline o begun.alone.n begun.alone.machine es ds)) is_own told))))

-- each receipt is as many events as deeds
as_many : (own n : ℕ) (m : State) (rs : List ReceiptRecord) → length (deeds_of own n m rs) ≡ length (events_of own n m rs)
as_many own n m [] = refl
as_many own n m (r ∷ rs) = ap (λ k. suc (suc k)) (as_many own n (behind_receipt own n m r) rs)

pub told_lengths : (begun f : Follower) (found : Found) (es : List Event) (ds : List Deed) (e : Event) (d : Deed) → IsLed begun found f → begun.events.items ≡ [] → begun.deeds.items ≡ []
    → es ≡ f.events.items ++ e ∷ [] → ds ≡ f.deeds.items ++ d ∷ [] → length ds ≡ length es
told_lengths begun f found es ds e d led no_events no_deeds all_events all_deeds =
    let own : ℕ = begun.alone.own in
    let n : ℕ = begun.alone.n in
    let m : State = begun.alone.machine in
    let along = led.along in
    let rs : List ReceiptRecord = along.receipts in
    let one : f.events.items ≡ events_of own n m rs = along.events ∙ ap (λ l. l ++ events_of own n m rs) no_events in
    let two : f.deeds.items ≡ deeds_of own n m rs = along.deeds ∙ ap (λ l. l ++ deeds_of own n m rs) no_deeds in
    let first : length es ≡ length (events_of own n m rs) + 1 = ap length (all_events ∙ ap (λ l. l ++ e ∷ []) one) ∙ length-append (events_of own n m rs) (e ∷ []) in
    let second : length ds ≡ length (deeds_of own n m rs) + 1 = ap length (all_deeds ∙ ap (λ l. l ++ d ∷ []) two) ∙ length-append (deeds_of own n m rs) (d ∷ []) in
    second ∙ ap (λ k. k + 1) (as_many own n m rs) ∙ sym first
