-- Events that are played one behind another, and a world in which nothing is left to happen.
use Rattle.std.proofs.Common.{◌≡◌, ◌⊎◌, inl, inr, ℕ, ◌≤◌, ◌<◌, List, [], ◌∷◌, ◌++◌, length, Some, refl, sym, ap, subst, ◌∙◌, arith}
use Rattle.std.specs.Prelude.{slice_get, slice_index}
use Rattle.om_format.specs.declared.message.Message.{Message}
use Rattle.om_format.specs.declared.queue.QueueEntry.{QueueEntry}
use Rattle.om_process.specs.Claims.{HasEntry}
use Rattle.om_process.specs.Core.{CoreState, IsEnd, cluster_size, move_of, status_of}
use Rattle.om_process.specs.Dependencies.{count_from}
use Rattle.om_process.specs.Process.{Process, Program, made}
use Rattle.om_process.specs.Turns.{Reaches, next_move}
use Rattle.om_process.specs.declared.status.Status.{Status}
use Rattle.om_process.specs.declared.status.Status.TheVariants.{Waiting}
use Rattle.om_process.proofs.Vectors.{places_at}
use Rattle.om_manager.specs.Outputs.{HeldOutput}
use Rattle.om_world.specs.Holds.{StandsAt}
use Rattle.om_manager.specs.State.{released_by}
use Rattle.om_world.specs.Live.{Legal, program_at, received}
use Rattle.om_world.specs.Played.{Played, Step}
use Rattle.om_world.specs.World.{IsKnown, WorldState, entry_of}
use Rattle.om_world.proofs.Lists.{once}
use Rattle.om_world.specs.declared.event.Event.{Event}
use Rattle.om_world.specs.declared.event.Answer.{Answer}
use Rattle.om_check.specs.FailureFree.{IsAtRest, IsStuckBy, RestsWith}
use Rattle.om_check.specs.Whole.{AreReleasedIn, AreStatusesOf, IsDone, IsStarved, IsStuck, IsUnderWay, KeepsReceived}
use Rattle.om_check.proofs.Ending.{IsRested, below, core_once, end_has, rested_done, rests_with, same_next, stands_at}
use Rattle.om_check.specs.steps.Playing.{HasDelivered, HasReceived, IsOf, IsTaken, KeepsLive, StaysARun, StaysUnderWay, WasPlayed}

-- ---- one event more
played_on : (old mid new : WorldState) (es : List Event) (answers : List Answer) (e : Event) (a : Answer)
    → Played old es answers mid → Step mid e a new → Played old (es ++ e ∷ []) (answers ++ a ∷ []) new
played_on old mid new [] [] e a played step = (new, subst (λ w. Step w e a new) played step, refl)
played_on old mid new [] (b ∷ answers) e a played step = absurd played
played_on old mid new (x ∷ es) [] e a played step = absurd played
played_on old mid new (x ∷ es) (b ∷ answers) e a played step =
    (played.0, played.1, played_on played.0 mid new es answers e a played.2 step)

-- an event that was played is one more of those that lead there
pub goes_on : (events : List Event) (old : WorldState) (e : Event) (new : WorldState) → StaysUnderWay old new → WasPlayed old e new
    → StaysARun events old (events ++ e ∷ []) new
goes_on events old e new stays was programs way =
    let now = stays programs way in
    let step = was now.known in (
      now,
      λ led. record {
        begun = led.begun;
        started = led.started;
        known = led.known;
        answers = led.answers ++ step.0 ∷ [];
        played = played_on led.begun old new events led.answers e step.0 led.played step.1;
      },
    )

-- the same, where the events stand in a list of their own
pub one_event : (before mid after : List Event) (old : WorldState) (e : Event) (new : WorldState) → mid ≡ before → after ≡ mid ++ e ∷ []
    → StaysUnderWay old new → WasPlayed old e new → StaysARun before old after new
one_event before mid after old e new same more stays was =
    subst (λ xs. StaysARun before old xs new) (sym (more ∙ ap (λ xs. xs ++ e ∷ []) same)) (goes_on before old e new stays was)

-- the world is the same by another name
pub same_end : (xs ys : List Event) (old mid new : WorldState) → StaysARun xs old ys mid → new ≡ mid → StaysARun xs old ys new
same_end xs ys old mid new run same = subst (StaysARun xs old ys) (sym same) run

-- a run that stays one twice
pub goes_far : (xs ys zs : List Event) (old mid new : WorldState) → StaysARun xs old ys mid → StaysARun ys mid zs new → StaysARun xs old zs new
goes_far xs ys zs old mid new first second programs way =
    let one = first programs way in
    let two = second programs one.0 in
    (two.0, λ led. two.1 (one.1 led))

pub stays_one : (xs : List Event) (w : WorldState) → StaysARun xs w xs w
stays_one xs w programs way = (way, λ led. led)

-- ---- what was received
pub live_known : (old new : WorldState) → StaysUnderWay old new → (IsKnown new → new.live ≡ old.live) → KeepsLive old new
live_known old new stays same programs way = same (stays programs way).known

pub live_stays : (xs ys : List Event) (old mid new : WorldState) → StaysARun xs old ys mid → KeepsLive old mid → KeepsLive mid new → KeepsLive old new
live_stays xs ys old mid new run first second programs way = second programs (run programs way).0 ∙ first programs way

pub received_known : (old new : WorldState) (frame : ℕ) → StaysUnderWay old new → (IsKnown new → IsTaken old frame new) → HasReceived old frame new
received_known old new frame stays got programs way = got (stays programs way).known

-- what is received is of these two
pub received_from_it : (old new : WorldState) (frame from to : ℕ) → HasReceived old frame new → IsOf old frame from to → HasDelivered old new from to
received_from_it old new frame from to got of programs way =
    let m = got programs way in
    let same : m.0 ≡ of.0 = once m.0 of.0 (sym m.1 ∙ of.1) in
    (entry_of m.0, m.2, ap (λ (x : Message). x.from) same ∙ of.2, ap (λ (x : Message). x.to) same ∙ of.3)

pub delivered_stays : (xs ys : List Event) (old mid new : WorldState) (from to : ℕ) → StaysARun xs old ys mid → HasDelivered old mid from to → KeepsLive mid new
    → HasDelivered old new from to
delivered_stays xs ys old mid new from to run got keeps programs way =
    let e = got programs way in
    (e.0, keeps programs (run programs way).0 ∙ e.1, e.2, e.3)

-- ---- nothing is left to happen
starved_rested : (w : WorldState) (p : ℕ) → IsStarved w p → IsRested w p
starved_rested w p starved =
    (starved.0, starved.1, starved.2, starved.3, subst IsAtRest (sym starved.4) tt, starved.5)

rested : (w : WorldState) (p : ℕ) → IsDone w p ⊎ IsStarved w p → IsRested w p
rested w p (inl done) = rested_done w p done
rested w p (inr starved) = starved_rested w p starved

-- who waits is starved
is_starved : (w : WorldState) (p : ℕ) (c : CoreState) → IsDone w p ⊎ IsStarved w p → slice_get w.cores p ≡ Some (Some c)
    → status_of (move_of c) ≡ Waiting → IsStarved w p
is_starved w p c (inl done) core waits =
    let is : done.0 ≡ c = core_once (sym done.1 ∙ core) in
    absurd (subst IsEnd (ap (λ (d : CoreState). status_of (move_of d)) is ∙ waits) done.4)
is_starved w p c (inr starved) core waits = starved

-- a process keeps for another all that it sent and that was not received
received_from : (programs : List Program) (w : WorldState) (p q number : ℕ) (c d : CoreState) (s : Process) (e : QueueEntry)
    → IsUnderWay programs w → p < length programs → q < length programs
    → slice_get w.cores p ≡ Some (Some c) → c.own ≡ p → slice_get w.cores q ≡ Some (Some d) → IsRested w q → KeepsReceived d c → d.own ≡ q
    → Reaches (program_at programs q) q (length programs) (received q w.live) s → HasEntry s.queues p number e
    → number < count_from q (received p w.live)
received_from programs w p q number c d s e way p_lt q_lt c_core c_own d_core rest keeps d_own reaches has =
    go (less_or number (count_from q (received p w.live)))
  where
    less_or : (x y : ℕ) → (x < y) ⊎ (y ≤ x)
    less_or x y = grind arith

    long : length w.programs ≡ length programs
    long = ap length way.these

    mine : StandsAt w p c
    mine = stands_at programs w p c way p_lt c_core

    theirs : StandsAt w q d
    theirs = stands_at programs w q d way q_lt d_core

    is : rest.0 ≡ d
    is = core_once (sym rest.1 ∙ d_core)

    along : Reaches (program_at w.programs q) q (length w.programs) (received q w.live) s
    along = subst (λ ps. Reaches (program_at ps q) q (length ps) (received q w.live) s) (sym way.these) reaches

    next : move_of d ≡ next_move q (length w.programs) theirs.whole.machine (made theirs.whole.queues)
    next = same_next d q (length w.programs) theirs.whole d_own (subst (λ (x : CoreState). cluster_size x.now ≡ length w.programs) is rest.3) theirs.keeps

    over : IsAtRest (status_of (next_move q (length w.programs) theirs.whole.machine (made theirs.whole.queues)))
    over = subst (λ move. IsAtRest (status_of move)) next (subst (λ (x : CoreState). IsAtRest (status_of (move_of x))) is rest.4)

    whole_has : HasEntry theirs.whole.queues p number e
    whole_has = end_has (program_at w.programs q) q (length w.programs) p number (received q w.live) s theirs.whole e along theirs.reaches over has

    got_is : slice_index c.now.got q ≡ count_from q (received p w.live)
    got_is = ap (λ got. slice_index got q) mine.row.1 ∙ places_at (length w.programs) q (λ j. count_from j (received p w.live)) (subst (λ n. q < n) (sym long) q_lt)

    go : (number < count_from q (received p w.live)) ⊎ (count_from q (received p w.live) ≤ number) → number < count_from q (received p w.live)
    go (inl less) = less
    go (inr more) =
        let kept : HasEntry d.now.queues p number e = theirs.undelivered p number e (subst (λ n. p < n) (sym long) p_lt) more whole_has in
        let below : number < slice_index c.now.got d.own = keeps number e (subst (λ k. HasEntry d.now.queues k number e) (sym c_own) kept) in
        subst (λ x. number < x) got_is (subst (λ k. number < slice_index c.now.got k) d_own below)

pub stuck_run : (programs : List Program) (w : WorldState) (outputs : List (List HeldOutput)) (statuses : List Status) → IsStuck programs w
    → length outputs ≡ length programs → length statuses ≡ length programs → AreReleasedIn w outputs → AreStatusesOf w statuses
    → IsStuckBy programs w.live outputs statuses
stuck_run programs w outputs statuses stuck processes stands outs stats = record {
  rest = record {
    legal = subst (λ ps. Legal ps w.live) stuck.way.these stuck.way.holds.legal;
    processes = processes;
    stands = stands;
    each = λ p program out status at out_at status_at.
        let core = stats p status status_at in
        subst (λ os. RestsWith program p (length programs) (received p w.live) os status) (sym (outs p out out_at))
        (subst (λ s. RestsWith program p (length programs) (received p w.live) (released_by w.manager p) s) (sym core.2)
        (rests_with programs w p program core.0 stuck.way (rested w p (stuck.each p (below programs p program at))) at core.1));
  };
  waits = λ p status_at.
      let core = stats p Waiting status_at in
      let p_lt = subst (λ n. p < n) stands (below statuses p Waiting status_at) in
      let starved = is_starved w p core.0 (stuck.each p p_lt) core.1 (sym core.2) in
      λ q number s e q_lt reaches has.
      let d = starved.6 q (subst (λ n. q < n) (sym (ap length stuck.way.these)) q_lt) in
      received_from programs w p q number starved.0 d.0 s e stuck.way p_lt q_lt starved.1 starved.2 d.1 (rested w q (stuck.each q q_lt)) d.3 d.2 reaches has;
}
