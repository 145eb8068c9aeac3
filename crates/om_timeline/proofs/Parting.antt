-- A run in parts is the run.
use Rattle.std.proofs.Common.{◌≡◌, ℕ, zero, suc, ◌+◌, ◌-◌, ◌<◌, ◌≤◌, ◌⊎◌, inl, inr, List, [], ◌∷◌, ◌++◌, length, drop, set, get_or, Option, Some, None, refl, sym, ap, subst, ◌∙◌, add-one, arith}
use Rattle.std.specs.Prelude.{slice_get, slice_set}
use Rattle.std.proofs.lemmas.List.{append-nil, append_assoc, get_or-set_same, set-get_or, set-set, set_past}
use Rattle.std.proofs.lemmas.Option.{get_or_from_slice_get}
use Rattle.om_machine.specs.State.{State}
use Rattle.om_machine.specs.Step.{Steps, StepsOn}
use Rattle.om_machine.specs.Finishing.{finished_who}
use Rattle.om_machine.specs.derived.NextStep.{next_of}
use Rattle.om_machine.specs.declared.event.Event.TheVariants.{Went, Call}
use Rattle.om_machine.specs.declared.event.EnvCall.TheVariants.{Who}
use Rattle.om_machine.proofs.Stepping.{steps-next}
use Rattle.om_format.specs.declared.message.Message.{Message}
use Rattle.om_format.specs.declared.queue.QueueEntry.{QueueEntry}
use Rattle.om_process.specs.declared.status.Status.{Status}
use Rattle.om_process.specs.Core.{CoreState, CoreTurns, cluster_size, core_turn, with_now}
use Rattle.om_format.specs.Queues.{QueueRecord}
use Rattle.om_process.specs.Frames.{message_of, messages_to}
use Rattle.om_process.specs.Kept.{numbered}
use Rattle.om_process.specs.Process.{Process, made, moved}
use Rattle.om_process.specs.Turns.{Turns, after_event, next_move}
use Rattle.om_process.specs.steps.Pieces.{with_machine}
use Rattle.om_process.proofs.Going.{turns_add}
use Rattle.om_process.proofs.Runs.{turns_once}
use Rattle.om_manager.specs.Sound.{KeepsReleased}
use Rattle.om_manager.specs.State.{ManagerState, held_by, process_count, released_by}
use mathlib.Core.List.{IsPrefix}
use Rattle.om_world.specs.declared.event.Answer.{Answer}
use Rattle.om_world.specs.declared.event.Answer.TheVariants as answers
use Rattle.om_world.specs.declared.event.Event.{Event}
use Rattle.om_world.specs.declared.event.Event.TheVariants as events
use Rattle.om_world.specs.declared.event.Refusal.{Refusal}
use Rattle.om_world.specs.declared.event.Refusal.TheVariants as refusals
use Rattle.om_world.specs.Changes.{Changes, HoldsMore, made_by, messages_behind, new_messages}
use Rattle.om_world.specs.Happened.{Happened, RunHappened, RunStopped, UnlessUp}
use Rattle.om_world.specs.Played.{Step}
use Rattle.om_world.specs.World.{IsKnown, WorldState}
use Rattle.om_world.proofs.Keeping.{keeps_same}
use Rattle.om_world.proofs.Lists.{once, set_there}
use Rattle.om_timeline.specs.declared.alone.Alone.{Alone}
use Rattle.om_timeline.specs.declared.player.Part.{Part}
use Rattle.om_timeline.specs.steps.Parts.{GoesAlone, GoesOn, IsAhead, IsGoing, IsPlayed, IsSilent, PlayerState, UsesUp, at_machine, player_of}

-- ---- managers
long_or_short : (a b : ℕ) → (a < b) ⊎ (b ≤ a)
long_or_short zero zero = inr (omega arith)
long_or_short zero (suc b) = inl (omega arith)
long_or_short (suc a) zero = inr (omega arith)
long_or_short (suc a) (suc b) = elim (long_or_short a b) [ inl h ↦ inl (omega (arith, h)) | inr h ↦ inr (omega (arith, h)) ]

more_none : (m : ManagerState) (p : ℕ) → HoldsMore m p m
more_none m p = ([], ap (λ l. record m { outputs = l }) (sym (ap (slice_set m.outputs p) (append-nil (held_by m p)) ∙ set-get_or m.outputs p [])))

more_within : (a b c : ManagerState) (p : ℕ) → p < length a.outputs → HoldsMore a p b → HoldsMore b p c → HoldsMore a p c
more_within a b c p within f g =
    let h = held_by a p in (
      f.0 ++ g.0,
      g.1 ∙ ap (λ (m : ManagerState). record m { outputs = slice_set m.outputs p (held_by m p ++ g.0) }) f.1
          ∙ ap (λ l. record a { outputs = slice_set (slice_set a.outputs p (h ++ f.0)) p (l ++ g.0) }) (get_or-set_same a.outputs p (h ++ f.0) [] within)
          ∙ ap (λ l. record a { outputs = l }) (set-set a.outputs p (h ++ f.0) ((h ++ f.0) ++ g.0))
          ∙ ap (λ l. record a { outputs = slice_set a.outputs p l }) (append_assoc h f.0 g.0),
    )

-- of a process that is not there nothing is held
none_more : (a b : ManagerState) (p : ℕ) → length a.outputs ≤ p → HoldsMore a p b → b ≡ a
none_more a b p past f = f.1 ∙ ap (λ l. record a { outputs = l }) (set_past a.outputs p (held_by a p ++ f.0) past)

more_then : (a b c : ManagerState) (p : ℕ) → HoldsMore a p b → HoldsMore b p c → HoldsMore a p c
more_then a b c p f g = elim (long_or_short p (length a.outputs)) [
  | inl within ↦ more_within a b c p within f g
  | inr past ↦ subst (λ m. HoldsMore m p c) (none_more a b p past f) g
]

prefix_then : {A : Type 0} (xs ys zs : List A) → IsPrefix xs ys → IsPrefix ys zs → IsPrefix xs zs
prefix_then xs ys zs a b = (a.0 ++ b.0, sym (append_assoc xs a.0 b.0) ∙ ap (λ l. l ++ b.0) a.1 ∙ b.1)

released_then : (a b c : ManagerState) → process_count b ≡ process_count a → KeepsReleased a b → KeepsReleased b c → KeepsReleased a c
released_then a b c size f g = λ p few. prefix_then (released_by a p) (released_by b p) (released_by c p) (f p few) (g p (omega (arith, size, few)))

more_size : (a b : ManagerState) (p : ℕ) → HoldsMore a p b → process_count b ≡ process_count a
more_size a b p f = ap process_count f.1

-- ---- messages
none_behind : {A : Type 0} (form : ℕ → QueueEntry → A) (first : ℕ) (es : List QueueEntry) → drop (length es) (numbered form first es) ≡ []
none_behind form first [] = refl
none_behind form first (e ∷ es) = none_behind form (first + 1) es

silent_messages : (c : CoreState) (m next : State) (n : ℕ) → messages_behind (at_machine c next) (λ to. length (messages_to (at_machine c m) to).entries) n ≡ []
silent_messages c m next zero = refl
silent_messages c m next (suc n) =
    let q : QueueRecord = messages_to c n in
    let form : ℕ → QueueEntry → Message = message_of (at_machine c next) n in
    ap (λ l. l ++ drop (length q.entries) (numbered form q.first q.entries)) (silent_messages c m next n) ∙ none_behind form q.first q.entries

-- ---- cores
core_once : (c d : CoreState) → Some (Some c) ≡ Some (Some d) → c ≡ d
core_once c d e = once c d (once (Some c) (Some d) e)

-- where the second run begins
begins_there : (old mid new : WorldState) (own n p done fuel steps sent made : ℕ) (m : State) (status : Status) (s : IsSilent old p done own n m mid) (r : RunHappened mid p fuel steps status sent made new) → r.before ≡ at_machine s.before m
begins_there old mid new own n p done fuel steps sent made m status s r =
    core_once r.before (at_machine s.before m)
    (sym r.changes.before ∙ ap (λ cores. slice_get cores p) s.changes.cores ∙ set_there old.cores p (Some s.before) (Some (at_machine s.before m)) s.changes.before)

-- two changes of one process
changes_then : (old mid new : WorldState) (p : ℕ) (c d e f : CoreState) → Changes old p c d mid → Changes mid p e f new → Changes old p c f new
changes_then old mid new p c d e f first second = record {
  up = first.up;
  before = first.before;
  cores = second.cores ∙ ap (λ cores. slice_set cores p (Some f)) first.cores ∙ set-set old.cores p (Some d) (Some f);
  stays = second.stays ∙ ap (λ (w : WorldState). record new { programs = w.programs; live = w.live; places = w.places; rounds = w.rounds; origins = w.origins }) first.stays;
}

-- before the first turn
pub silent_none : (old new : WorldState) (p fuel steps sent made : ℕ) (status : Status) (r : RunHappened old p fuel steps status sent made new) → IsSilent old p 0 r.before.own (cluster_size r.before.now) r.before.now.machine old
silent_none old new p fuel steps sent made status r = record {
  before = r.before;
  is_own = refl;
  is_n = refl;
  changes = record {
    up = r.changes.up;
    before = r.changes.before;
    cores = sym (ap (slice_set old.cores p) (sym (get_or_from_slice_get old.cores p (Some r.before) (Some r.before) r.changes.before)) ∙ set-get_or old.cores p (Some r.before));
    stays = refl;
  };
  turns = refl;
  frames = refl;
  manager = more_none old.manager p;
  released = keeps_same old.manager;
  contents = refl;
  since = refl;
}

-- ---- turns that make nothing
going_add : (own n j k : ℕ) (m mid next : State) → GoesOn own n j m mid → GoesOn own n k mid next → GoesOn own n (j + k) m next
going_add own n zero k m mid next first more =
    let e : k ≡ 0 + k = omega arith in
    subst (λ i. GoesOn own n i m next) e (subst (λ x. GoesOn own n k x next) first more)
going_add own n (suc j) k m mid next first more =
    let e : suc (j + k) ≡ suc j + k = omega arith in
    subst (λ i. GoesOn own n i m next) e (first.0, first.1, going_add own n j k first.0 mid next first.2 more)

going_more : (own n k : ℕ) (m mid next : State) → GoesOn own n k m mid → GoesAlone own n mid next → GoesOn own n (suc k) m next
going_more own n zero m mid next same one = (next, subst (λ x. GoesAlone own n x next) same one, refl)
going_more own n (suc k) m mid next goes one = (goes.0, goes.1, going_more own n k goes.0 mid next goes.2 one)

-- a step of the machine is one
step_goes : (own n : ℕ) (m next : State) → Steps m Went next → GoesAlone own n m next
unfolding next_move
step_goes own n m next steps = λ counts. ap (λ e. after_event own n m counts e.0 e.1) (steps-next m Went next steps)

-- so is an answer to the question who it is
pub who_goes : (own n : ℕ) (m : State) → (next_of m).0 ≡ Call Who → GoesAlone own n m (finished_who own n m)
unfolding next_move
who_goes own n m at = λ counts. ap (λ e. after_event own n m counts e (next_of m).1) at

steps_going : (own n k : ℕ) (m next : State) → StepsOn k m next → GoesOn own n k m next
steps_going own n zero m next same = sym same
steps_going own n (suc k) m next steps = going_more own n k m steps.0 next (steps_going own n k m steps.0 steps.1) (step_goes own n steps.0 next steps.2)

pub going_none : (own n : ℕ) (m : State) → IsGoing own n 0 m m
going_none own n m = record { goes = refl }

pub going_on : (own n j k : ℕ) (m mid next : State) → IsGoing own n j m mid → StepsOn k mid next → IsGoing own n (j + k) m next
going_on own n j k m mid next going steps = record { goes = going_add own n j k m mid next going.goes (steps_going own n k mid next steps) }

pub going_told : (own n j : ℕ) (m mid next : State) → IsGoing own n j m mid → GoesAlone own n mid next → IsGoing own n (j + 1) m next
going_told own n j m mid next going one =
    record { goes = subst (λ i. GoesOn own n i m next) (sym (add-one j)) (going_more own n j m mid next going.goes one) }

-- they are turns of the process, whose machine alone they change
going_turns : (own n k : ℕ) (p : Process) (m : State) → GoesOn own n k p.machine m → Turns own n k p (with_machine p m)
going_turns own n zero p m same = ap (with_machine p) same
going_turns own n (suc k) p m goes =
    (with_machine p goes.0, ap (moved p) (goes.1 (made p.queues)), going_turns own n k (with_machine p goes.0) m goes.2)

silent_core : (c : CoreState) (m next : State) (k : ℕ) (d : CoreState) → GoesOn c.own (cluster_size c.now) k m next → CoreTurns k (at_machine c m) d → d ≡ with_now (at_machine c m) d.now → d ≡ at_machine c next
silent_core c m next k d goes turns rest =
    rest ∙ ap (with_now (at_machine c m))
    (turns_once c.own (cluster_size c.now) k (at_machine c m).now d.now (with_machine (at_machine c m).now next) turns (going_turns c.own (cluster_size c.now) k (at_machine c m).now next goes))

-- a part more, in which nothing is made
pub silent_more : (old mid new : WorldState) (own n p done k sent made : ℕ) (m next : State) (status : Status) → IsSilent old p done own n m mid → IsGoing own n k m next → RunHappened mid p k k status sent made new → KeepsReleased mid.manager new.manager
    → IsSilent old p (done + k) own n next new
silent_more old mid new own n p done k sent made m next status s going r keeps =
    let c = s.before in
    let goes : GoesOn c.own (cluster_size c.now) k m next = subst (λ i. GoesOn c.own i k m next) s.is_n (subst (λ i. GoesOn i n k m next) s.is_own going.goes) in
    let at : r.before ≡ at_machine c m = begins_there old mid new own n p done k k sent made m status s r in
    let turns : CoreTurns k (at_machine c m) r.after = subst (λ (d : CoreState). CoreTurns k d r.after) at r.run.turns in
    let rest : r.after ≡ with_now (at_machine c m) r.after.now = r.run.rest ∙ ap (λ (d : CoreState). with_now d r.after.now) at in
    let there : r.after ≡ at_machine c next = silent_core c m next k r.after goes turns rest in
    let none : new_messages r.before r.after ≡ [] =
    ap (λ d. new_messages d r.after) at ∙ ap (new_messages (at_machine c m)) there ∙ silent_messages c m next (cluster_size c.now) in
    record {
      before = c;
      is_own = s.is_own;
      is_n = s.is_n;
      changes = subst (λ d. Changes old p c d new) there (changes_then old mid new p c (at_machine c m) r.before r.after s.changes r.changes);
      turns = turns_add c.own (cluster_size c.now) done k c.now (at_machine c m).now (at_machine c next).now s.turns (subst (λ d. CoreTurns k (at_machine c m) d) there turns);
      frames = r.frames ∙ ap (λ l. mid.frames ++ l) none ∙ append-nil mid.frames ∙ s.frames;
      manager = more_then old.manager mid.manager new.manager p s.manager r.manager;
      released = released_then old.manager mid.manager new.manager (more_size old.manager mid.manager p s.manager) s.released keeps;
      contents = r.contents ∙ s.contents;
      since = r.since ∙ s.since;
    }

-- the last part, and with it the run
pub run_over : (old mid new : WorldState) (own n p fuel done k steps all sent made : ℕ) (m : State) (status : Status) → IsSilent old p done own n m mid → RunHappened mid p k steps status sent made new
    → all ≡ done + steps → done + k ≤ fuel → (all < fuel → steps < k) → RunHappened old p fuel all status sent made new
run_over old mid new own n p fuel done k steps all sent made m status s r is within ends =
    let c = s.before in
    let at : r.before ≡ at_machine c m = begins_there old mid new own n p done k steps sent made m status s r in
    let turns : CoreTurns steps (at_machine c m) r.after = subst (λ (d : CoreState). CoreTurns steps d r.after) at r.run.turns in
    let made_first : made_by r.before ≡ made_by c = ap made_by at in
    let few = r.run.within in
    record {
      before = c;
      after = r.after;
      changes = changes_then old mid new p c (at_machine c m) r.before r.after s.changes r.changes;
      run = record {
        within = omega (arith, is, within, few);
        turns = subst (λ i. CoreTurns i c r.after) (sym is) (turns_add c.own (cluster_size c.now) done steps c.now (at_machine c m).now r.after.now s.turns turns);
        stops = λ less. r.run.stops (ends less);
        rest = r.run.rest ∙ ap (λ (d : CoreState). with_now d r.after.now) at;
        told = r.run.told;
      };
      frames = r.frames ∙ ap (λ l. l ++ new_messages r.before r.after) s.frames ∙ ap (λ d. old.frames ++ new_messages d r.after) at;
      count = r.count ∙ ap (λ d. length (new_messages d r.after)) at;
      outputs = r.outputs ∙ ap (λ i. i + made) made_first;
      handed_in = r.handed_in;
      manager = more_then old.manager mid.manager new.manager p s.manager r.manager;
      contents = r.contents ∙ s.contents;
      since = r.since ∙ s.since;
    }

-- ---- events
-- a refusal does not hang on how long the run is to be
unless_more : (old new : WorldState) (p : ℕ) (why : Refusal) (A B : Type 0) → (A → B) → UnlessUp old p why new A → UnlessUp old p why new B
unless_more old new p refusals.NoProcess A B by h = h
unless_more old new p refusals.NotUp A B by h = h
unless_more old new p why A B by h = (h.0, by h.1)

run_refused : (old new : WorldState) (p k fuel : ℕ) (why : Refusal) → k ≤ fuel → Happened old (events.Run p k) (answers.Refused why) new → Happened old (events.Run p fuel) (answers.Refused why) new
run_refused old new p k fuel why within h =
    unless_more old new p why _ ((why ≡ refusals.Memory) × RunStopped old p fuel new) (λ r.
    let s = r.1 in (
      r.0,
      record {
        before = s.before;
        after = s.after;
        changes = s.changes;
        turns = let few = s.turns.1 in (s.turns.0, omega (arith, few, within), s.turns.2);
        rest = s.rest;
        frames = s.frames;
        manager = s.manager;
        contents = s.contents;
        since = s.since;
      },
    )) h

-- a run that stands before its fuel is used up does not hang on it
run_short : (old new : WorldState) (p k fuel : ℕ) (a : Answer) → k ≤ fuel → (UsesUp k a → ⊥) → Happened old (events.Run p k) a new → Happened old (events.Run p fuel) a new
run_short old new p k fuel (answers.Ran steps status sent made) within short h =
    run_over old old new h.before.own (cluster_size h.before.now) p fuel 0 k steps steps sent made h.before.now.machine status (silent_none old new p k steps sent made status h) h
    (omega arith) (omega (arith, within)) (λ less. below k steps short)
  where
    below : (k steps : ℕ) → (k ≤ steps → ⊥) → steps < k
    below k steps short = elim (long_or_short steps k) [ inl h ↦ h | inr h ↦ absurd (short h) ]
run_short old new p k fuel (answers.Given accept) within short h = absurd h
run_short old new p k fuel (answers.Noted count) within short h = absurd h
run_short old new p k fuel (answers.Resent count) within short h = absurd h
run_short old new p k fuel answers.Trimmed within short h = absurd h
run_short old new p k fuel answers.Pruned within short h = absurd h
run_short old new p k fuel (answers.Gathered answer) within short h = absurd h
run_short old new p k fuel answers.Down within short h = absurd h
run_short old new p k fuel (answers.Back interval inc) within short h = absurd h
run_short old new p k fuel answers.GoesOn within short h = absurd h
run_short old new p k fuel answers.Restarted within short h = absurd h
run_short old new p k fuel (answers.Refused why) within short h = run_refused old new p k fuel why within h

pub step_short : (old new : WorldState) (p k fuel : ℕ) (a : Answer) → k ≤ fuel → (UsesUp k a → ⊥) → Step old (events.Run p k) a new → Step old (events.Run p fuel) a new
step_short old new p k fuel a within short step = record { happened = run_short old new p k fuel a within short step.happened; holds = step.holds; released = step.released }

-- the first part
all_of : (k steps : ℕ) → steps ≤ k → k ≤ steps → steps ≡ k
all_of k steps within most = omega (arith, within, most)

silent_first : (old new : WorldState) (p k steps sent made : ℕ) (a : Alone) (status : Status) → IsAhead old p k a → steps ≡ k → Step old (events.Run p k) (answers.Ran steps status sent made) new → IsSilent old p k a.own a.n a.machine new
silent_first old new p k steps sent made a status ahead all step =
    let r : RunHappened old p k k status sent made new = subst (λ i. RunHappened old p k i status sent made new) all step.happened in
    let same : ahead.core ≡ r.before = core_once ahead.core r.before (sym ahead.is_core ∙ r.changes.before) in
    let going : IsGoing a.own a.n k r.before.now.machine a.machine = subst (λ (x : CoreState). IsGoing a.own a.n k x.now.machine a.machine) same ahead.going in
    let is_own : a.own ≡ r.before.own = ahead.is_own ∙ ap (λ (x : CoreState). x.own) same in
    let is_n : a.n ≡ cluster_size r.before.now = ahead.is_n ∙ ap (λ (x : CoreState). cluster_size x.now) same in
    let none : IsSilent old p 0 a.own a.n r.before.now.machine old =
    subst (λ i. IsSilent old p 0 a.own i r.before.now.machine old) (sym is_n)
    (subst (λ i. IsSilent old p 0 i (cluster_size r.before.now) r.before.now.machine old) (sym is_own) (silent_none old new p k k sent made status r)) in
    let e : 0 + k ≡ k = omega arith in
    subst (λ i. IsSilent old p i a.own a.n a.machine new) e
    (silent_more old old new a.own a.n p 0 k sent made r.before.now.machine a.machine status none going r step.released)

pub first_part : (old new : WorldState) (p k : ℕ) (next : Alone) (a : Answer) → IsAhead old p k next → UsesUp k a → Step old (events.Run p k) a new → IsSilent old p k next.own next.n next.machine new
first_part old new p k next (answers.Ran steps status sent made) ahead all step =
    silent_first old new p k steps sent made next status ahead (all_of k steps step.happened.run.within all) step
first_part old new p k next (answers.Given accept) ahead all step = absurd all
first_part old new p k next (answers.Noted count) ahead all step = absurd all
first_part old new p k next (answers.Resent count) ahead all step = absurd all
first_part old new p k next answers.Trimmed ahead all step = absurd all
first_part old new p k next answers.Pruned ahead all step = absurd all
first_part old new p k next (answers.Gathered answer) ahead all step = absurd all
first_part old new p k next answers.Down ahead all step = absurd all
first_part old new p k next (answers.Back interval inc) ahead all step = absurd all
first_part old new p k next answers.GoesOn ahead all step = absurd all
first_part old new p k next answers.Restarted ahead all step = absurd all
first_part old new p k next (answers.Refused why) ahead all step = absurd all

-- one more
silent_next : (old mid new : WorldState) (own n p done k steps sent made : ℕ) (m next : State) (status : Status) → IsSilent old p done own n m mid → IsGoing own n k m next → steps ≡ k
    → Step mid (events.Run p k) (answers.Ran steps status sent made) new → IsSilent old p (done + k) own n next new
silent_next old mid new own n p done k steps sent made m next status s going all step =
    silent_more old mid new own n p done k sent made m next status s going (subst (λ i. RunHappened mid p k i status sent made new) all step.happened) step.released

pub next_part : (old mid new : WorldState) (own n p done k : ℕ) (m next : State) (a : Answer) → IsSilent old p done own n m mid → IsGoing own n k m next → UsesUp k a → Step mid (events.Run p k) a new → IsSilent old p (done + k) own n next new
next_part old mid new own n p done k m next (answers.Ran steps status sent made) s going all step =
    silent_next old mid new own n p done k steps sent made m next status s going (all_of k steps step.happened.run.within all) step
next_part old mid new own n p done k m next (answers.Given accept) s going all step = absurd all
next_part old mid new own n p done k m next (answers.Noted count) s going all step = absurd all
next_part old mid new own n p done k m next (answers.Resent count) s going all step = absurd all
next_part old mid new own n p done k m next answers.Trimmed s going all step = absurd all
next_part old mid new own n p done k m next answers.Pruned s going all step = absurd all
next_part old mid new own n p done k m next (answers.Gathered answer) s going all step = absurd all
next_part old mid new own n p done k m next answers.Down s going all step = absurd all
next_part old mid new own n p done k m next (answers.Back interval inc) s going all step = absurd all
next_part old mid new own n p done k m next answers.GoesOn s going all step = absurd all
next_part old mid new own n p done k m next answers.Restarted s going all step = absurd all
next_part old mid new own n p done k m next (answers.Refused why) s going all step = absurd all

-- the last
pub step_over : (old mid new : WorldState) (own n p fuel done k steps all sent made : ℕ) (m : State) (status : Status) → IsSilent old p done own n m mid → Step mid (events.Run p k) (answers.Ran steps status sent made) new
    → all ≡ done + steps → k ≡ fuel - done → done ≤ fuel → Step old (events.Run p fuel) (answers.Ran all status sent made) new
step_over old mid new own n p fuel done k steps all sent made m status s step is left within = record {
  happened = run_over old mid new own n p fuel done k steps all sent made m status s step.happened is (omega (arith, left, within)) (λ less. omega (arith, less, is, left, within));
  holds = step.holds;
  released = released_then old.manager mid.manager new.manager (more_size old.manager mid.manager p s.manager) s.released step.released;
}

pub ran_within : (mid new : WorldState) (p k steps sent made : ℕ) (status : Status) → Step mid (events.Run p k) (answers.Ran steps status sent made) new → steps ≤ k
ran_within mid new p k steps sent made status step = step.happened.run.within

-- ---- machines that run ahead
pub ahead_of : (w : WorldState) (p turns own n : ℕ) (m : State) (a : Alone) (c : CoreState) → slice_get w.cores p ≡ Some (Some c) → c.own ≡ p → cluster_size c.now ≡ n → own ≡ p → m ≡ c.now.machine
    → IsGoing own n turns m a.machine → a.own ≡ own → a.n ≡ n → IsAhead w p turns a
ahead_of w p turns own n m a c at is_p size here same going keeps_own keeps_n = record {
  core = c;
  is_core = at;
  is_own = keeps_own ∙ here ∙ sym is_p;
  is_n = keeps_n ∙ sym size;
  going = subst (λ x. IsGoing a.own a.n turns x a.machine) same (subst (λ i. IsGoing a.own i turns m a.machine) (sym keeps_n) (subst (λ i. IsGoing i n turns m a.machine) (sym keeps_own) going));
}

-- ---- as the code has them
none_begun : (e : Event) (o : Option Event) → Some e ≡ o → o ≡ None → ⊥
none_begun e o is none = cc

-- between events the world is the one before the next
pub same_before : (own : Option Part) (w : WorldState) (s : PlayerState) → player_of own w ≡ s → s.begun ≡ None → s.before ≡ w
same_before None w s is none = ap (λ (x : PlayerState). x.before) (sym is)
same_before (Some part) w s is none = absurd (none_begun (events.Run part.process part.fuel) s.begun (ap (λ (x : PlayerState). x.begun) is) none)

pub over_played : (own : Option Part) (w new before : WorldState) (s : PlayerState) (e : Event) (a : Answer) → player_of own w ≡ s → s.begun ≡ None → Step before e a new → IsKnown new → IsPlayed before e a (player_of own new)
over_played None w new before s e a is none step known = record { over = refl; step = step; known = known }
over_played (Some part) w new before s e a is none step known = absurd (none_begun (events.Run part.process part.fuel) s.begun (ap (λ (x : PlayerState). x.begun) is) none)

pub whole_played : (own : Option Part) (w new : WorldState) (s : PlayerState) (e : Event) (a : Answer) → player_of own w ≡ s → s.begun ≡ None → Step w e a new → IsKnown new → IsPlayed s.before e a (player_of own new)
whole_played own w new s e a is none step known =
    over_played own w new s.before s e a is none (subst (λ x. Step x e a new) (sym (same_before own w s is none)) step) known
