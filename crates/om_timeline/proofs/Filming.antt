-- What is read of a world behind an event is what the event did to the machine.
use Rattle.std.proofs.Common.{◌≡◌, ℕ, zero, suc, ◌+◌, ◌-◌, ◌<◌, ◌≤◌, List, [], ◌∷◌, ◌++◌, length, take, Option, Some, None, refl, sym, ap, subst, ◌∙◌, arith}
use Rattle.std.specs.Prelude.{slice_get}
use Rattle.om_format.specs.declared.message.Message.{Message}
use Rattle.om_machine.specs.State.{State}
use Rattle.om_machine.specs.Finishing.{finished_receive}
use Rattle.om_process.specs.declared.accept.Accept.TheVariants.{Taken}
use Rattle.om_process.specs.declared.limits.TheConstants.{LAST_NUMBER}
use Rattle.om_process.specs.declared.status.Status.{Status}
use Rattle.om_process.specs.Accepts.{taken}
use Rattle.om_process.specs.Core.{CoreState, CoreTurns, cluster_size, with_now}
use Rattle.om_process.specs.Process.{Process, made}
use Rattle.om_process.specs.Turns.{IsWaiting, Turns}
use Rattle.om_process.proofs.Going.{counts_receive, counts_turns}
use Rattle.om_world.specs.declared.event.Answer.{Answer}
use Rattle.om_world.specs.declared.event.Answer.TheVariants as answers
use Rattle.om_world.specs.declared.event.Event.{Event}
use Rattle.om_world.specs.declared.event.Event.TheVariants as events
use Rattle.om_world.specs.Changes.{IsUp}
use Rattle.om_world.specs.Happened.{GiveHappened, Happened, RunHappened}
use Rattle.om_world.specs.Holds.{Holds, StandsAt}
use Rattle.om_world.specs.Live.{program_at, received}
use Rattle.om_world.specs.Played.{Step}
use Rattle.om_world.specs.World.{WorldState}
use Rattle.om_world.proofs.Lists.{once, set_there}
use Rattle.om_timeline.specs.declared.deed.Deed.{Deed}
use Rattle.om_timeline.specs.declared.deed.Deed.TheVariants.{Nothing, Ran, Took, Fell, Back}
use Rattle.om_timeline.specs.declared.kind.Kind.{Kind}
use Rattle.om_timeline.specs.declared.kind.Kind.TheVariants as kinds
use Rattle.om_timeline.specs.Alone.{received_alone, turns_alone}
use Rattle.om_timeline.specs.Deeds.{after_deed, after_deeds, at_position, turns_at, turns_in}
use Rattle.om_timeline.specs.Shown.{ShownAt, Shows, machine_in, machine_of, runs, still}
use Rattle.om_timeline.specs.steps.Filmed.{Filmed, HasMachine, HasSeat, IsDeed, IsFrom, IsSeat, IsTaken}
use Rattle.om_timeline.specs.steps.Kinds.{IsKind, kind_of}
use Rattle.om_timeline.proofs.Staying.{stays}
use Rattle.om_timeline.proofs.Turning.{IsCounted, counted_part, counted_reaches, few_counted, received_of, turns_of}

-- ---- what is shown of a world
nowhere_shown : (m : State) (o : Option (Option CoreState)) → ((c : CoreState) → o ≡ Some (Some c) → ⊥) → machine_in m o ≡ m
nowhere_shown m None none = refl
nowhere_shown m (Some None) none = refl
nowhere_shown m (Some (Some c)) none = absurd (none c refl)

same_shown : (m next : State) (o : Option (Option CoreState)) → m ≡ next → ((c : CoreState) → o ≡ Some (Some c) → c.now.machine ≡ next) → machine_in m o ≡ next
same_shown m next None same is = same
same_shown m next (Some None) same is = same
same_shown m next (Some (Some c)) same is = is c refl

there_shown : (p : ℕ) (m : State) (w : WorldState) (c : CoreState) → slice_get w.cores p ≡ Some (Some c) → machine_of p m w ≡ c.now.machine
there_shown p m w c at = ap (machine_in m) at

-- the machine that is shown is that of the core, where there is one
pub machine_after : (p : ℕ) (m : State) (w : WorldState) → HasMachine p w (machine_of p m w)
machine_after p m w c at = sym (there_shown p m w c at)

-- ---- a run
turns_apart : (own n j k : ℕ) (s t : Process) → Turns own n (j + k) s t → (mid : Process) × Turns own n j s mid
turns_apart own n zero k s t turns = (s, refl)
turns_apart own n (suc j) k s t turns =
    let e : suc j + k ≡ suc (j + k) = omega arith in
    let more : Turns own n (suc (j + k)) s t = subst (λ i. Turns own n i s t) e turns in
    let rest = turns_apart own n j k more.0 t more.2 in
    (rest.0, (more.0, more.1, rest.1))

counted_core : (p : ℕ) (w : WorldState) (c : CoreState) → Holds w → IsUp w p → slice_get w.cores p ≡ Some (Some c) → IsCounted c.now
counted_core p w c holds up at =
    let stands : StandsAt w p c = (holds.up p c at up).0 in
    counted_part stands.whole c.now stands.keeps
    (counted_reaches (program_at w.programs p) p (length w.programs) (received p w.live) stands.whole stands.reaches)

-- the turns of a core in its seat
seat_turns : (p n k : ℕ) (c : CoreState) (t : Process) → IsSeat p n c → Turns c.own (cluster_size c.now) k c.now t → Turns p n k c.now t
seat_turns p n k c t seat turns =
    subst (λ i. Turns p i k c.now t) seat.size (subst (λ i. Turns i (cluster_size c.now) k c.now t) seat.own turns)

-- some of the turns of a run
run_part : (p n k steps : ℕ) (m : State) (c d : CoreState) → IsSeat p n c → c.now.machine ≡ m → IsCounted c.now → d.now.machine.count ≤ LAST_NUMBER → CoreTurns steps c d → k ≤ steps
    → (t : Process) × Turns c.own (cluster_size c.now) k c.now t × (turns_alone p n k m ≡ t.machine)
run_part p n k steps m c d seat machine counted few turns within =
    let e : steps ≡ k + (steps - k) = omega (arith, within) in
    let all : Turns c.own (cluster_size c.now) (k + (steps - k)) c.now d.now = subst (λ i. Turns c.own (cluster_size c.now) i c.now d.now) e turns in
    let part = turns_apart c.own (cluster_size c.now) k (steps - k) c.now d.now all in
    let count = counts_turns c.own (cluster_size c.now) steps c.now d.now turns in
    let room : c.now.machine.count + k ≤ LAST_NUMBER = omega (arith, count, few, within) in
    (part.0, part.1, ap (turns_alone p n k) (sym machine) ∙ turns_of p n k c.now part.0 (seat_turns p n k c part.0 seat part.1) counted room)

whole_run : (p n steps : ℕ) (m : State) (c d : CoreState) → IsSeat p n c → c.now.machine ≡ m → IsCounted c.now → d.now.machine.count ≤ LAST_NUMBER → CoreTurns steps c d → turns_alone p n steps m ≡ d.now.machine
whole_run p n steps m c d seat machine counted few turns =
    let count = counts_turns c.own (cluster_size c.now) steps c.now d.now turns in
    let room : c.now.machine.count + steps ≤ LAST_NUMBER = omega (arith, count, few) in
    ap (turns_alone p n steps) (sym machine) ∙ turns_of p n steps c.now d.now (seat_turns p n steps c d.now seat turns) counted room

run_taken : (p n fuel steps : ℕ) (status : Status) (sent made : ℕ) (m : State) (old new : WorldState) → Holds old → HasSeat p n old → HasMachine p old m → HasSeat p n new → RunHappened old p fuel steps status sent made new → IsTaken p n m old (events.Run p fuel) (Ran steps) new
run_taken p n fuel steps status sent made m old new holds seat machine after r =
    let at : slice_get new.cores p ≡ Some (Some r.after) = ap (λ cores. slice_get cores p) r.changes.cores ∙ set_there old.cores p (Some r.before) (Some r.after) r.changes.before in
    let few = (after r.after at).few in
    let counted = counted_core p old r.before holds r.changes.up r.changes.before in
    let here = machine r.before r.changes.before in
    let place = seat r.before r.changes.before in
    record {
      shown = there_shown p m new r.after at ∙ sym (whole_run p n steps m r.before r.after place here counted few r.run.turns);
      turns = λ k some within.
          let part = run_part p n k steps m r.before r.after place here counted few r.run.turns within in
          let bound = r.run.within in
          record {
            fuel = fuel;
            is_run = refl;
            within = omega (arith, within, bound);
            core = r.before;
            is_core = r.changes.before;
            machine = here;
            next = with_now r.before part.0;
            leads = part.1;
            is_after = sym part.2;
          };
    }

-- ---- the other deeds, which have no turns
no_turns : (p n : ℕ) (m : State) (old new : WorldState) (e : Event) (deed : Deed) → turns_in deed ≡ 0 → machine_of p m new ≡ after_deed p n m deed → IsTaken p n m old e deed new
no_turns p n m old new e deed none shown = record { shown = shown; turns = λ k some within. absurd (omega (arith, some, within, none)) }

give_taken : (p n f x from : ℕ) (body : List ℕ) (m : State) (old new : WorldState) → Holds old → HasSeat p n old → HasMachine p old m → HasSeat p n new → IsFrom new f from body → GiveHappened old p f (Taken x) new → machine_of p m new ≡ received_alone p n from body m
give_taken p n f x from body m old new holds seat machine after got g =
    let c = g.1 in
    let at : slice_get old.cores p ≡ Some (Some c) = g.2.core in
    let there : slice_get new.cores p ≡ Some (Some (taken c g.0)) = ap (λ (w : WorldState). slice_get w.cores p) g.4 ∙ set_there old.cores p (Some c) (Some (taken c g.0)) at in
    let same : g.0 ≡ got.message = once g.0 got.message (sym g.2.frame ∙ sym (ap (λ (w : WorldState). slice_get w.frames f) g.4) ∙ got.there) in
    let is_from : g.0.from ≡ from = ap (λ (m : Message). m.from) same ∙ sym got.is_from in
    let is_body : g.0.body ≡ body = ap (λ (m : Message). m.body) same ∙ sym got.is_body in
    let few = (after (taken c g.0) there).few in
    let count = counts_receive g.0.from g.0.body c.now.machine in
    let below : c.now.machine.count < LAST_NUMBER = omega (arith, few, count) in
    let counted = counted_core p old c holds g.2.up at in
    let place = seat c at in
    let waits : IsWaiting p n c.now = subst (λ i. IsWaiting p i c.now) place.size (subst (λ i. IsWaiting i (cluster_size c.now) c.now) place.own g.3.0.waits) in
    there_shown p m new (taken c g.0) there
    ∙ ap (λ i. finished_receive i g.0.body c.now.machine) is_from
    ∙ ap (λ bytes. finished_receive from bytes c.now.machine) is_body
    ∙ sym (received_of p n from body c.now (few_counted c.now counted below) waits)
    ∙ ap (received_alone p n from body) (machine c at)

-- ---- all deeds
pub taken_of : (p n : ℕ) (m : State) (old new : WorldState) (e : Event) (a : Answer) (kind : Kind) (deed : Deed) → Holds old → HasSeat p n old → HasMachine p old m → HasSeat p n new → Happened old e a new → IsKind p a e kind → IsDeed deed p new kind → IsTaken p n m old e deed new
taken_of p n m old new e a kind Nothing holds seat machine after happened is deed =
    let none : kind_of p a e ≡ kinds.Nothing = subst (IsKind p a e) deed is in
    let stay = stays p old new e a happened none in
    no_turns p n m old new e Nothing refl (same_shown m m (slice_get new.cores p) refl (λ d at. (stay d at).2 ∙ machine (stay d at).0 (stay d at).1))
taken_of p n m old new e a kind (Ran steps) holds seat machine after happened is deed =
    let run : IsKind p a e (kinds.Ran steps) = subst (IsKind p a e) deed is in
    let did : Happened old (events.Run p run.0) (answers.Ran steps run.1 run.2 run.3) new = subst (λ x. Happened old x (answers.Ran steps run.1 run.2 run.3) new) run.5 (subst (λ x. Happened old e x new) run.4 happened) in
    subst (λ x. IsTaken p n m old x (Ran steps) new) (sym run.5) (run_taken p n run.0 steps run.1 run.2 run.3 m old new holds seat machine after did)
taken_of p n m old new e a kind (Took from body) holds seat machine after happened is deed =
    let got : IsKind p a e (kinds.Took deed.0) = subst (IsKind p a e) deed.1 is in
    let did : Happened old (events.Give p deed.0) (answers.Given (Taken got.0)) new = subst (λ x. Happened old x (answers.Given (Taken got.0)) new) got.2 (subst (λ x. Happened old e x new) got.1 happened) in
    no_turns p n m old new e (Took from body) refl (give_taken p n deed.0 got.0 from body m old new holds seat machine after deed.2 did)
taken_of p n m old new e a kind Fell holds seat machine after happened is deed =
    no_turns p n m old new e Fell refl (nowhere_shown m (slice_get new.cores p) deed)
taken_of p n m old new e a kind (Back back) holds seat machine after happened is deed =
    no_turns p n m old new e (Back back) refl (there_shown p m new deed.0 deed.1 ∙ sym deed.2)

-- ---- tapes
pub filmed_more : (p n : ℕ) (m : State) (old mid new : WorldState) (es : List Event) (answers : List Answer) (deeds : List Deed) (e : Event) (a : Answer) (deed : Deed)
    → Filmed p n m old es answers deeds mid → Step mid e a new → IsTaken p n (after_deeds p n m deeds) mid e deed new
    → Filmed p n m old (es ++ e ∷ []) (answers ++ a ∷ []) (deeds ++ deed ∷ []) new
filmed_more p n m old mid new [] [] [] e a deed f step one =
    (new, subst (λ w. Step w e a new) f step, subst (λ w. IsTaken p n m w e deed new) f one, refl)
filmed_more p n m old mid new [] [] (d ∷ deeds) e a deed f step one = absurd f
filmed_more p n m old mid new [] (b ∷ answers) deeds e a deed f step one = absurd f
filmed_more p n m old mid new (x ∷ es) [] deeds e a deed f step one = absurd f
filmed_more p n m old mid new (x ∷ es) (b ∷ answers) [] e a deed f step one = absurd f
filmed_more p n m old mid new (x ∷ es) (b ∷ answers) (d ∷ deeds) e a deed f step one =
    (f.0, f.1, f.2, filmed_more p n (after_deed p n m d) f.0 mid new es answers deeds e a deed f.3 step one)

-- each position of a tape shows what the world that was played shows
pub filmed_shows : (p n : ℕ) (m : State) (old new : WorldState) (es : List Event) (answers : List Answer) (deeds : List Deed) (event turns : ℕ)
    → Filmed p n m old (take (length deeds) es) answers deeds new → event ≤ length deeds → turns ≤ turns_at deeds event
    → ShownAt p m old es event turns (at_position p n m deeds event turns)
filmed_shows p n m old new es answers deeds zero zero f within few =
    record { answers = []; world = old; before = m; shows = (refl, refl); turned = still refl refl }
filmed_shows p n m old new es answers [] zero (suc k) f within few = absurd (omega (arith, few))
filmed_shows p n m old new [] [] (d ∷ deeds) zero (suc k) f within few = absurd f
filmed_shows p n m old new [] (a ∷ answers) (d ∷ deeds) zero (suc k) f within few = absurd f
filmed_shows p n m old new (e ∷ es) [] (d ∷ deeds) zero (suc k) f within few = absurd f
filmed_shows p n m old new (e ∷ es) (a ∷ answers) (d ∷ deeds) zero (suc k) f within few =
    record { answers = []; world = old; before = m; shows = (refl, refl); turned = runs (f.2.turns (suc k) (omega arith) few) }
filmed_shows p n m old new es answers [] (suc j) k f within few = absurd (omega (arith, within))
filmed_shows p n m old new [] [] (d ∷ deeds) (suc j) k f within few = absurd f
filmed_shows p n m old new [] (a ∷ answers) (d ∷ deeds) (suc j) k f within few = absurd f
filmed_shows p n m old new (e ∷ es) [] (d ∷ deeds) (suc j) k f within few = absurd f
filmed_shows p n m old new (e ∷ es) (a ∷ answers) (d ∷ deeds) (suc j) k f within few =
    let rest = filmed_shows p n (after_deed p n m d) f.0 new es answers deeds j k f.3 (omega (arith, within)) few in
    record {
      answers = a ∷ rest.answers;
      world = rest.world;
      before = rest.before;
      shows = (f.0, f.1, subst (λ x. Shows p x f.0 (take j es) rest.answers rest.before rest.world) (sym f.2.shown) rest.shows);
      turned = rest.turned;
    }
