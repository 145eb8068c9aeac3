-- What a run does, by its calls.
use Rattle.std.proofs.Common.{◌≡◌, inr, ℕ, ◌-◌, ◌≤◌, List, ◌++◌, length, Option, Some, Result, Ok, Err, refl, sym, ap, ◌∙◌, subst, arith}
use Rattle.std.specs.Prelude.{slice_get, slice_index}
use Rattle.om_process.specs.declared.turns.RunEnd.{RunEnd}
use Rattle.om_process.specs.Core.{CoreState, cluster_size, RunsTo}
use Rattle.om_process.specs.Frames.{messages_to, outputs_of}
use Rattle.om_process.specs.Kept.{queue_at}
use Rattle.om_process.specs.Parts.{Grow}
use Rattle.om_process.proofs.Runs.{turns_grow}
use Rattle.om_manager.specs.declared.answers.OutputError.{OutputError}
use Rattle.om_manager.specs.Sound.{KeepsReleased}
use Rattle.om_manager.specs.State.{held_by, process_count}
use Rattle.om_world.specs.declared.event.Event.{Event}
use Rattle.om_world.specs.declared.event.Answer.TheVariants as answers
use Rattle.om_world.specs.Changes.{Changes, HoldsMore, IsUp, made_by, new_messages}
use Rattle.om_world.specs.Happened.{Happened}
use Rattle.om_world.specs.World.{WorldState, IsKnown, all_clean}
use Rattle.om_world.specs.steps.Moves.{HasRunAt, Keeps, TakesTurnsAt}
use Rattle.om_world.specs.steps.Running.{AreKept, HasHandedIn, HasSent, KeepsMore, messages_past, refusal_of_output}
use Rattle.om_world.proofs.FailureCounts.{counts_by}
use Rattle.om_world.proofs.Lists.{once, set_there}
use Rattle.om_world.proofs.Sending.{behind_same, grown_at}
use Rattle.om_world.proofs.Staying.{all_stay}

same_core : (cs : List (Option CoreState)) (p : ℕ) (c d : CoreState) → slice_get cs p ≡ Some (Some c) → slice_get cs p ≡ Some (Some d) → c ≡ d
same_core cs p c d a b = once c d (once (Some c) (Some d) (sym a ∙ b))

-- ---- after the turns
-- the process that took turns
abbrev pub HasWent : WorldState → ℕ → ℕ → WorldState → Type 0
HasWent w p fuel v = TakesTurnsAt w.cores p fuel v.cores × (v ≡ record w { cores = v.cores })

core_after : (w v : WorldState) (p fuel : ℕ) (t : HasWent w p fuel v) → slice_get v.cores p ≡ Some (Some t.0.after)
core_after w v p fuel t = ap (λ cs. slice_get cs p) t.0.cores ∙ set_there w.cores p (Some t.0.before) (Some t.0.after) t.0.there

pub up_after : (w v : WorldState) (p fuel : ℕ) → IsUp w p → HasWent w p fuel v → IsUp v p
up_after w v p fuel up t = ap (λ (x : WorldState). slice_get x.places p) t.1 ∙ up

grows : (w v : WorldState) (p fuel : ℕ) (t : HasWent w p fuel v) → Grow t.0.before.now.interval t.0.before.now.queues t.0.after.now.queues
grows w v p fuel t = let g = t.0 in (turns_grow g.before.own (cluster_size g.before.now) g.turns.0 g.before.now g.after.now g.turns.2).1

-- what was counted before it, of the same core
abbrev pub WereKept : WorldState → ℕ → List ℕ → Type 0
WereKept w p few = (c : CoreState) × (slice_get w.cores p ≡ Some (Some c)) × AreKept c few

abbrev pub WereMade : WorldState → ℕ → ℕ → Type 0
WereMade w p count = (c : CoreState) × (slice_get w.cores p ≡ Some (Some c)) × (count ≡ length (outputs_of c).entries)

few_before : (w v : WorldState) (p fuel : ℕ) (few : List ℕ) → WereKept w p few → (t : HasWent w p fuel v) → AreKept t.0.before few
few_before w v p fuel few k t = subst (λ c. AreKept c few) (same_core w.cores p k.0 t.0.before k.1 t.0.there) k.2

pub keeps_more : (w v : WorldState) (p fuel : ℕ) (few : List ℕ) → WereKept w p few → HasWent w p fuel v → KeepsMore v.cores p few
keeps_more w v p fuel few k t = (
  t.0.after,
  core_after w v p fuel t,
  λ to lt.
      let size = t.0.size in
      let is = few_before w v p fuel few k t to (omega arith) in
      let le = (grown_at t.0.before.now.interval t.0.before.now.queues t.0.after.now.queues to (grows w v p fuel t)).1 in
      omega arith,
)

past_new : (w v : WorldState) (p fuel : ℕ) (few : List ℕ) → WereKept w p few → (t : HasWent w p fuel v) → messages_past t.0.after few ≡ new_messages t.0.before t.0.after
past_new w v p fuel few k t = behind_same t.0.after (λ to. slice_index few to) (λ to. length (messages_to t.0.before to).entries) (cluster_size t.0.after.now)
    (λ to lt. few_before w v p fuel few k t to (let size = t.0.size in omega arith))

-- the outputs of the process begin where they did
same_first : (w v : WorldState) (p fuel : ℕ) (t : HasWent w p fuel v) → ((outputs_of t.0.after).first ≡ (outputs_of t.0.before).first) × (length (outputs_of t.0.before).entries ≤ length (outputs_of t.0.after).entries)
same_first w v p fuel t =
    let g = t.0 in
    subst (λ n. ((queue_at g.after.now.queues n).first ≡ (outputs_of g.before).first) × (length (outputs_of g.before).entries ≤ length (queue_at g.after.now.queues n).entries)) (sym g.size)
    (grown_at g.before.now.interval g.before.now.queues g.after.now.queues (cluster_size g.before.now) (grows w v p fuel t))

-- ---- after the messages were put on their way
sent_there : (w v u : WorldState) (p fuel sent : ℕ) (few : List ℕ) → (t : HasWent w p fuel v) → HasSent v p few sent u → slice_get u.cores p ≡ Some (Some t.0.after)
sent_there w v u p fuel sent few t s = ap (λ (x : WorldState). slice_get x.cores p) s.3 ∙ core_after w v p fuel t

pub up_sent : (w v u : WorldState) (p fuel sent : ℕ) (few : List ℕ) → IsUp w p → HasWent w p fuel v → HasSent v p few sent u → IsUp u p
up_sent w v u p fuel sent few up t s = ap (λ (x : WorldState). slice_get x.places p) s.3 ∙ up_after w v p fuel up t

sent_new : (w v u : WorldState) (p fuel sent : ℕ) (few : List ℕ) → WereKept w p few → (t : HasWent w p fuel v) → HasSent v p few sent u
    → (sent ≡ length (new_messages t.0.before t.0.after)) × (u ≡ record v { frames = w.frames ++ new_messages t.0.before t.0.after })
sent_new w v u p fuel sent few k t s =
    let same = same_core v.cores p s.0 t.0.after s.1 (core_after w v p fuel t) in
    let is : messages_past s.0 few ≡ new_messages t.0.before t.0.after = ap (λ (c : CoreState). messages_past c few) same ∙ past_new w v p fuel few k t in
    (s.2 ∙ ap length is, s.3 ∙ ap (λ l. record v { frames = v.frames ++ l }) is ∙ ap (λ l. record v { frames = l ++ new_messages t.0.before t.0.after }) (ap (λ (x : WorldState). x.frames) t.1))

made_more : (w v u : WorldState) (p fuel sent a b : ℕ) (few : List ℕ) → WereMade w p a → (t : HasWent w p fuel v) → HasSent v p few sent u → WereMade u p b
    → (a ≡ length (outputs_of t.0.before).entries) × (b ≡ length (outputs_of t.0.after).entries)
made_more w v u p fuel sent a b few m t s n = (
  m.2 ∙ ap (λ (c : CoreState). length (outputs_of c).entries) (same_core w.cores p m.0 t.0.before m.1 t.0.there),
  n.2 ∙ ap (λ (c : CoreState). length (outputs_of c).entries) (same_core u.cores p n.0 t.0.after n.1 (sent_there w v u p fuel sent few t s)),
)

-- no fewer outputs are kept than before
pub made_grows : (w v u : WorldState) (p fuel sent a b : ℕ) (few : List ℕ) → WereMade w p a → HasWent w p fuel v → HasSent v p few sent u → WereMade u p b → a ≤ b
made_grows w v u p fuel sent a b few m t s n =
    let x = made_more w v u p fuel sent a b few m t s n in let i = x.0 in let j = x.1 in let le = (same_first w v p fuel t).1 in
    omega arith

-- ---- what the calls leave
changes_by : (w v u z : WorldState) (p fuel : ℕ) → IsUp w p → (t : HasWent w p fuel v) → u ≡ record v { frames = u.frames } → z ≡ record u { manager = z.manager } → Changes w p t.0.before t.0.after z
changes_by w v u z p fuel up t e f = record {
  up = up;
  before = t.0.there;
  cores = ap (λ (x : WorldState). x.cores) f ∙ ap (λ (x : WorldState). x.cores) e ∙ t.0.cores;
  stays = all_stay w z
      (ap (λ (x : WorldState). x.programs) f ∙ ap (λ (x : WorldState). x.programs) e ∙ ap (λ (x : WorldState). x.programs) t.1)
      (ap (λ (x : WorldState). x.live) f ∙ ap (λ (x : WorldState). x.live) e ∙ ap (λ (x : WorldState). x.live) t.1)
      (ap (λ (x : WorldState). x.places) f ∙ ap (λ (x : WorldState). x.places) e ∙ ap (λ (x : WorldState). x.places) t.1)
      (ap (λ (x : WorldState). x.rounds) f ∙ ap (λ (x : WorldState). x.rounds) e ∙ ap (λ (x : WorldState). x.rounds) t.1)
      (ap (λ (x : WorldState). x.origins) f ∙ ap (λ (x : WorldState). x.origins) e ∙ ap (λ (x : WorldState). x.origins) t.1);
}

keeps_by : (w v u z : WorldState) (p fuel : ℕ) → HasWent w p fuel v → u ≡ record v { frames = u.frames } → z ≡ record u { manager = z.manager } → process_count z.manager ≡ process_count u.manager → KeepsReleased u.manager z.manager → Keeps w z
keeps_by w v u z p fuel t e f size keeps = record {
  size = size ∙ ap (λ (x : WorldState). process_count x.manager) e ∙ ap (λ (x : WorldState). process_count x.manager) t.1;
  released = subst (λ m. KeepsReleased m z.manager) (ap (λ (x : WorldState). x.manager) e ∙ ap (λ (x : WorldState). x.manager) t.1) keeps;
  clean = λ all. ap all_clean (sym (ap (λ (x : WorldState). x.health) f ∙ ap (λ (x : WorldState). x.health) e ∙ ap (λ (x : WorldState). x.health) t.1)) ∙ all;
  counts = counts_by w.health z.health (ap (λ (x : WorldState). x.health) f ∙ ap (λ (x : WorldState). x.health) e ∙ ap (λ (x : WorldState). x.health) t.1);
  origins = ap (λ (x : WorldState). x.origins) f ∙ ap (λ (x : WorldState). x.origins) e ∙ ap (λ (x : WorldState). x.origins) t.1;
}

same_contents : (w v u z : WorldState) (p fuel : ℕ) → HasWent w p fuel v → u ≡ record v { frames = u.frames } → z ≡ record u { manager = z.manager } → z.contents ≡ w.contents
same_contents w v u z p fuel t e f = ap (λ (x : WorldState). x.contents) f ∙ ap (λ (x : WorldState). x.contents) e ∙ ap (λ (x : WorldState). x.contents) t.1

same_since : (w v u z : WorldState) (p fuel : ℕ) → HasWent w p fuel v → u ≡ record v { frames = u.frames } → z ≡ record u { manager = z.manager } → z.since ≡ w.since
same_since w v u z p fuel t e f = ap (λ (x : WorldState). x.since) f ∙ ap (λ (x : WorldState). x.since) e ∙ ap (λ (x : WorldState). x.since) t.1

same_manager : (w v u : WorldState) (p fuel : ℕ) → HasWent w p fuel v → u ≡ record v { frames = u.frames } → u.manager ≡ w.manager
same_manager w v u p fuel t e = ap (λ (x : WorldState). x.manager) e ∙ ap (λ (x : WorldState). x.manager) t.1

-- memory was refused as outputs were handed in
pub hand_stopped : (w v u z : WorldState) (p fuel sent : ℕ) (few : List ℕ) (fault : OutputError) → IsUp w p → WereKept w p few → HasWent w p fuel v → HasSent v p few sent u → HasHandedIn u p (Err fault) z → IsKnown z
    → Happened w (Event.Run p fuel) (answers.Refused (refusal_of_output fault)) z
hand_stopped w v u z p fuel sent few fault up k t s h known =
    let new = sent_new w v u p fuel sent few k t s in
    let e : u ≡ record v { frames = u.frames } = new.1 ∙ ap (λ l. record v { frames = l }) (sym (ap (λ (x : WorldState). x.frames) new.1)) in
    subst (λ f. Happened w (Event.Run p fuel) (answers.Refused (refusal_of_output f)) z) (sym (h.memory (subst IsKnown h.others known))) (
      up,
      (
        refl,
        record {
          before = t.0.before;
          after = t.0.after;
          changes = changes_by w v u z p fuel up t e h.others;
          turns = t.0.turns;
          rest = t.0.rest;
          frames = inr (ap (λ (x : WorldState). x.frames) h.others ∙ ap (λ (x : WorldState). x.frames) new.1);
          manager = subst (λ m. HoldsMore m p z.manager) (same_manager w v u p fuel t e) h.more;
          contents = same_contents w v u z p fuel t e h.others;
          since = same_since w v u z p fuel t e h.others;
        },
      ),
    )

pub hand_keeps : (w v u z : WorldState) (p fuel sent : ℕ) (few : List ℕ) (end : Result (Unit {0}) OutputError) → HasWent w p fuel v → HasSent v p few sent u → HasHandedIn u p end z → Keeps w z
hand_keeps w v u z p fuel sent few end t s h = keeps_by w v u z p fuel t (s.3 ∙ ap (λ l. record v { frames = l }) (sym (ap (λ (x : WorldState). x.frames) s.3))) h.others (ap process_count h.more.1) h.released

pub has_run : (w v u z : WorldState) (p fuel sent a b : ℕ) (few : List ℕ) (ran : RunEnd) → IsUp w p → WereKept w p few → WereMade w p a → HasWent w p fuel v → HasRunAt w.cores p fuel ran v.cores → HasSent v p few sent u → WereMade u p b
    → HasHandedIn u p (Ok tt) z → IsKnown z → Happened w (Event.Run p fuel) (answers.Ran ran.steps ran.status sent (b - a)) z
has_run w v u z p fuel sent a b few ran up k m t r s n h known =
    let new = sent_new w v u p fuel sent few k t s in
    let e : u ≡ record v { frames = u.frames } = new.1 ∙ ap (λ l. record v { frames = l }) (sym (ap (λ (x : WorldState). x.frames) new.1)) in
    let c = t.0.before in let d = t.0.after in
    let first = same_core w.cores p r.0 c r.2 t.0.there in
    let there : slice_get v.cores p ≡ Some (Some r.1) = ap (λ cs. slice_get cs p) r.4 ∙ set_there w.cores p (Some r.0) (Some r.1) r.2 in
    let last = same_core v.cores p r.1 d there (core_after w v p fuel t) in
    let counts = made_more w v u p fuel sent a b few m t s n in
    record {
      before = c;
      after = d;
      changes = changes_by w v u z p fuel up t e h.others;
      run = subst (λ (x : CoreState). RunsTo x fuel ran.steps ran.status d) first (subst (λ (x : CoreState). RunsTo r.0 fuel ran.steps ran.status x) last r.3);
      frames = ap (λ (x : WorldState). x.frames) h.others ∙ ap (λ (x : WorldState). x.frames) new.1;
      count = new.0;
      outputs = let x = counts.0 in let y = counts.1 in let same = (same_first w v p fuel t).0 in let le = (same_first w v p fuel t).1 in omega arith;
      handed_in = subst (λ (x : CoreState). made_by x ≤ length (held_by z.manager p)) (same_core u.cores p h.core d h.there (sent_there w v u p fuel sent few t s)) (h.all (subst IsKnown h.others known));
      manager = subst (λ m. HoldsMore m p z.manager) (same_manager w v u p fuel t e) h.more;
      contents = same_contents w v u z p fuel t e h.others;
      since = same_since w v u z p fuel t e h.others;
    }
