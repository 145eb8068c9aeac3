-- A world whose manager starts anew over its stores.
use Rattle.std.proofs.Common.{◌≡◌, ◌⊎◌, inl, inr, ℕ, zero, suc, ◌<◌, ◌≤◌, List, [], ◌∷◌, length, take, cond, replicate, Some, None, true, refl, sym, ap, ◌∙◌, subst, arith}
use Rattle.std.proofs.lemmas.List.{length-replicate}
use Rattle.std.proofs.lemmas.Bool.Decides.{nat_tests}
use Rattle.std.specs.Prelude.{nat_le, slice_get, slice_index}
use Rattle.om_interval.specs.Vectors.{IsBelow}
use Rattle.om_format.specs.Queues.{QueueRecord}
use Rattle.om_member.specs.Told.{row_for}
use Rattle.om_process.specs.Core.{CoreState}
use Rattle.om_process.specs.Dependencies.{count_from}
use Rattle.om_process.specs.Replays.{process_of_checkpoint}
use Rattle.om_process.specs.declared.row.PendingRow.{PendingRow}
use Rattle.om_recover.specs.Rows.{HasRow}
use Rattle.om_recover.specs.declared.row.Row.{Row}
use Rattle.om_recover.specs.declared.row.RowKind.TheVariants.{Checkpoint}
use Rattle.om_stable.specs.Content.{Content}
use Rattle.om_manager.specs.Gatherings.{AreAllIn, presence_of, presences_of}
use Rattle.om_manager.specs.Outputs.{HeldOutput, within}
use Rattle.om_manager.specs.Rounds.{Finishes}
use Rattle.om_manager.specs.Sound.{IsManager}
use Rattle.om_manager.specs.State.{ManagerState, held_by, process_count, released_by}
use Rattle.om_manager.specs.declared.answers.Gathered.TheVariants.{Finished}
use Rattle.om_manager.specs.declared.presence.Presence.{Presence}
use Rattle.om_manager.specs.declared.presence.Presence.TheVariants.{Away, Failed, Joined}
use Rattle.om_take_up.specs.Anew.{OnlyFailed}
use Rattle.om_world.specs.declared.process_state.ProcessState.{ProcessState}
use Rattle.om_world.specs.Disk.{held_in}
use Rattle.om_world.specs.Failures.{gathered}
use Rattle.om_world.specs.Live.{cut_list}
use Rattle.om_take_up.specs.StoreRows.{HasRowsOf}
use Rattle.om_world.specs.World.{WorldState, recovered}
use Rattle.om_world.specs.steps.Past.{Past, history, past_of}
use Rattle.om_world.specs.steps.Sound.{HasBytes, HasShape, IsBetween, IsOld, IsStored, KeptWithin, Sound}
use Rattle.om_world.proofs.Backing.{row_backed}
use Rattle.om_world.proofs.Beginning.{index_same, same_at}
use Rattle.om_world.proofs.Between.{between_finished}
use Rattle.om_world.proofs.Disk.{content_at, world_true}
use Rattle.om_world.proofs.Gathering.{AreDone, held_inside, past_with, sound_finished, within_at}
use Rattle.om_world.proofs.Lists.{inside, none_in, once}
use Rattle.om_world.proofs.Losing.{has_checkpoint}
use Rattle.om_world.proofs.Raising.{count_take, further, recovery_row}
use Rattle.om_world.proofs.Serving.{rows_serve}
use Rattle.om_world.proofs.Telling.{below_all}
use Rattle.om_world.proofs.TrueRows.{rows_are_true}
use Rattle.om_world.specs.steps.Restarting.{CanRestart}

-- all that runs is gone, and the manager is this one
abbrev pub put_down : WorldState → ManagerState → WorldState
put_down w m = record w {
  frames = [];
  cores = replicate (length w.programs) None;
  places = replicate (length w.programs) (ProcessState.Down true);
  rounds = replicate (length w.programs) 0;
  manager = m;
}

-- what is known of the manager, as only failures were declared to it
pub record Starts (w : WorldState) (m : ManagerState) : Type 0 where
  pub size : process_count m ≡ length w.programs
  pub sound : IsManager m
  pub rows : HasRowsOf (length w.programs) (held_in w) m.rows
  pub kept : IsBelow w.manager.recovery m.recovery
  pub outputs : (p : ℕ) → p < length w.programs → held_by m p ≡ released_by w.manager p
  pub round : m.round ≡ 0
  pub waiting : OnlyFailed (length w.programs) (presences_of m.gathering)

-- ---- lists of one element
pub none_up : (n p : ℕ) (place : ProcessState) → (ProcessState.Down true ≡ place → ⊥) → slice_get (replicate n (ProcessState.Down true)) p ≡ Some place → ⊥
none_up n p place apart at = apart (sym (same_at n p (ProcessState.Down true) place at))

pub down_up : ProcessState.Down true ≡ ProcessState.Up → ⊥
down_up e = cc

pub down_in : ProcessState.Down true ≡ ProcessState.In → ⊥
down_in e = cc

pub no_core : (n p : ℕ) (c : CoreState) → slice_get (replicate n None) p ≡ Some (Some c) → ⊥
no_core n p c at = apart (same_at n p None (Some c) at)
  where
    apart : Some c ≡ None → ⊥
    apart e = cc

pub at_place : {A : Type 0} (n p : ℕ) (x : A) → p < n → slice_get (replicate n x) p ≡ Some x
at_place zero p x lt = absurd (omega arith)
at_place (suc n) zero x lt = refl
at_place (suc n) (suc p) x lt = at_place n p x (omega arith)

failed_joined : (a : Presence) (x : ℕ) → a ≡ Failed → a ≡ Joined x → ⊥
failed_joined a x e f = cc

joined_away : (a : Presence) (x : ℕ) → a ≡ Joined x → a ≡ Away → ⊥
joined_away a x e f = cc

failed_away : (a : Presence) → a ≡ Failed → a ≡ Away → ⊥
failed_away a e f = cc

-- ---- what was released stays so
pub within_all : (xs : List HeldOutput) (limit : ℕ) → ((i : ℕ) (o : HeldOutput) → slice_get xs i ≡ Some o → o.interval ≤ limit) → within xs limit ≡ xs
within_all [] limit all = refl
within_all (x ∷ xs) limit all =
    let le = all 0 x refl in
    let is : nat_le x.interval limit ≡ true = grind (arith, nat_tests) in
    ap (λ b. cond b (x ∷ within xs limit) (within xs limit)) is ∙ ap (λ l. x ∷ l) (within_all xs limit (λ i o at. all (suc i) o at))

pub released_same : (w : WorldState) (m : ManagerState) (p : ℕ) → IsBelow w.manager.recovery m.recovery → held_by m p ≡ released_by w.manager p → released_by m p ≡ released_by w.manager p
released_same w m p kept held =
    ap (λ l. within l (slice_index m.recovery p)) held
    ∙ within_all (released_by w.manager p) (slice_index m.recovery p) (λ i o at.
    let le = within_at (held_by w.manager p) (slice_index w.manager.recovery p) i o at in let more = below_all w.manager.recovery m.recovery p kept in omega arith)

-- ---- what is kept
abbrev with_manager : Past → ManagerState → Past
with_manager v m = record { programs = v.programs; live = v.live; manager = m }

kept_anew : (w : WorldState) (m : ManagerState) (p : ℕ) (qs : List QueueRecord) → Starts w m → p < length w.programs → KeptWithin (past_of w) p qs → KeptWithin (with_manager (past_of w) m) p qs
kept_anew w m p qs k lt old q queue at =
    let was = old q queue at in
    let v = past_of w in
    let same = ap length (released_same w m p k.kept (k.outputs p lt)) in (
      (λ small. further queue.first (count_from p (take (recovered w.manager q) (history v q))) (count_from p (take (recovered m q) (history v q))) (was.0 small) (count_take p (recovered w.manager q) (recovered m q) (history v q) (below_all w.manager.recovery m.recovery q k.kept))),
      (λ is. let le = was.1 is in omega arith),
    )

stored_anew : (w : WorldState) (m : ManagerState) (p : ℕ) (held : Content) → Starts w m → p < length w.programs → IsStored (past_of w) p held → IsStored (with_manager (past_of w) m) p held
stored_anew w m p held k lt s = record {
  checkpoints = λ x bytes le at. let c = s.checkpoints x bytes le at in (c.0, c.1, c.2, c.3, c.4, kept_anew w m p (process_of_checkpoint c.0).queues k lt c.5);
  receipts = s.receipts;
}

-- ---- a row of the new manager has its record, or is checkpoint 0 behind which a later one stands
backed_anew : (w : WorldState) (m : ManagerState) (row : Row) (held : Content) → HasShape w → CanRestart w → Starts w m → HasRow m.rows row → slice_get w.contents row.pid ≡ Some held → HasBytes held row.kind row.interval ⊎ IsOld m row.pid row.kind row.interval
backed_anew w m row held h s k has at =
    let told = k.rows.only row has in
    let p = row.pid in
    let is : held_in w p ≡ held = once (held_in w p) held (sym (content_at w p h told.0) ∙ at) in
    elim told.1 [
      | inr one ↦
          inl (subst (λ (c : Content). HasBytes c row.kind row.interval) is
          (subst (λ (r : Row). HasBytes (held_in w p) r.kind r.interval) (sym one.3) (row_backed p n (held_in w p) (k.rows.told p) one.0 one.1 (k.rows.of_store p told.0) one.2)))
      | inl first ↦
          let row_at = recovery_row w p h told.0 in
          let few = h.manager.lawful.numbered row_at.0 row_at.1 in let there = row_at.3 in
          let serve = rows_serve p n (held_in w p) (k.rows.told p) (recovered w.manager p) (omega arith) (s.served p told.0) (k.rows.of_store p told.0) in
          let checkpoint = has_checkpoint n (held_in w) m.rows p serve.0 k.rows told.0 serve.2 in
          let more = below_all w.manager.recovery m.recovery p k.kept in
          let low = serve.1 in
          elim (less serve.0) [
            | inl some ↦ inr (subst (λ (r : Row). IsOld m p r.kind r.interval) (sym first) (record { checkpoint = serve.0; there = checkpoint; within = omega arith; before = some }))
            | inr none ↦
                let one = serve.2 in
                let bytes = row_backed p n (held_in w p) (k.rows.told p) one.0 one.1 (k.rows.of_store p told.0) one.2 in
                let zero_at : HasBytes (held_in w p) Checkpoint 0 = subst (HasBytes (held_in w p) Checkpoint) (one.4 ∙ none) (as_checkpoint (held_in w p) p one.1 one.3 bytes) in
                inl (subst (λ (c : Content). HasBytes c row.kind row.interval) is (subst (λ (r : Row). HasBytes (held_in w p) r.kind r.interval) (sym first) zero_at))
          ]
    ]
  where
    n : ℕ
    n = length w.programs

    less : (x : ℕ) → (0 < x) ⊎ (x ≡ 0)
    less x = grind arith

    as_checkpoint : (held : Content) (p : ℕ) (t : PendingRow) → t.ckpt ≡ true → HasBytes held (row_for p t).kind (row_for p t).interval → HasBytes held Checkpoint t.x
    as_checkpoint held p t is = rw is (λ b. b)

-- ---- the world with the new manager, before the last failure
pub shape_down : (w : WorldState) (m : ManagerState) → HasShape w → process_count m ≡ length w.programs → IsManager m → HasShape (put_down w m)
shape_down w m h size sound = record {
  few = h.few;
  stores = h.stores;
  cores = length-replicate (length w.programs) None;
  places = length-replicate (length w.programs) (ProcessState.Down true);
  own = λ p c at. absurd (no_core (length w.programs) p c at);
  rounds = length-replicate (length w.programs) 0;
  there = λ p up. absurd (none_up (length w.programs) p ProcessState.Up down_up up);
  inside = λ p joined. absurd (none_up (length w.programs) p ProcessState.In down_in joined);
  manager = sound;
  size = size;
}

sound_down : (w : WorldState) (m : ManagerState) → HasShape w → CanRestart w → Starts w m → Sound (put_down w m)
sound_down w m h s k = record {
  legal = s.legal;
  frames = λ i f at. absurd (none_in i f at);
  outputs = λ p i o at.
      let many = k.sound.places in let size = k.size in let old_size = h.size in
      let lt : p < n = let short = held_inside m.outputs p i o at in omega arith in
      let here : slice_get (released_by w.manager p) i ≡ Some o = ap (λ l. slice_get l i) (sym (k.outputs p lt)) ∙ at in
      (s.released p i o lt here).1;
  rows = λ row has. rows_are_true w.programs w.live (held_in w) m.rows row (world_true w h s) k.rows has;
  stored = λ p held at. let stores = h.stores in let short = inside w.contents p held at in stored_anew w m p held k (omega arith) (s.stored p held at);
  backed = λ row held has at. backed_anew w m row held h s k has at;
  running = λ p c held at. absurd (no_core n p c at);
  up = λ p c at. absurd (no_core n p c at);
  joined = λ p x at. absurd (failed_joined (presence_of (presences_of m.gathering) p) x (k.waiting p (λ away. joined_away (presence_of (presences_of m.gathering) p) x at away)).1 at);
  failed = λ p at. at_place n p (ProcessState.Down true) (k.waiting p (λ away. failed_away (presence_of (presences_of m.gathering) p) at away)).0;
  gathered = λ p some. index_same n p 0 ∙ sym k.round;
  current = λ p up. absurd (none_up n p ProcessState.Up down_up up);
  known = λ p. no_more (slice_index (replicate n 0) p) m.round (index_same n p 0);
  ends = λ p declared held place old at. s.ends p held at;
  behind = λ p lt news. absurd (let first = k.round in omega arith);
  inside = λ p c at. absurd (no_core n p c at);
  beyond = λ p c at. absurd (no_core n p c at);
}
  where
    n : ℕ
    n = length w.programs

    no_more : (a b : ℕ) → a ≡ 0 → a ≤ b
    no_more a b e = omega arith

-- ---- and with the last
done_started : (w : WorldState) (m new : ManagerState) (presences : List Presence) → HasShape w → CanRestart w → Starts w m → OnlyFailed (length w.programs) presences → AreAllIn (process_count m) presences → Finishes presences m new
    → AreDone (put_down w m) presences new
done_started w m new presences h s k only all done = record {
  shape = shape_down w m h k.size k.sound;
  sound = sound_down w m h s k;
  known = record {
    up = λ q up. absurd (none_up (length w.programs) q ProcessState.Up down_up up);
    round = λ q some. index_same (length w.programs) q 0 ∙ sym k.round;
    failed = λ q is. at_place (length w.programs) q (ProcessState.Down true) (only q (λ away. failed_away (presence_of presences q) is away)).0;
    joined = λ q x is. absurd (failed_joined (presence_of presences q) x (only q (λ away. joined_away (presence_of presences q) x is away)).1 is);
  };
  all = all;
  done = done;
}

pub sound_started : (w : WorldState) (m new : ManagerState) (presences : List Presence) → HasShape w → CanRestart w → Starts w m → OnlyFailed (length w.programs) presences → AreAllIn (process_count m) presences → Finishes presences m new
    → Sound (gathered (put_down w m) Finished new)
sound_started w m new presences h s k only all done = sound_finished (put_down w m) presences new (done_started w m new presences h s k only all done)

pub between_started : (w : WorldState) (m new : ManagerState) (presences : List Presence) → HasShape w → CanRestart w → Starts w m → OnlyFailed (length w.programs) presences → AreAllIn (process_count m) presences → Finishes presences m new
    → IsBetween (past_with (past_of w) w.live new) (cut_list m.recovery w.live) w.contents
between_started w m new presences h s k only all done = between_finished (put_down w m) presences new (done_started w m new presences h s k only all done)
