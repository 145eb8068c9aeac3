-- What a restart comes to.
use Rattle.std.proofs.Common.{◌≡◌, ◌≢◌, ℕ, ◌<◌, List, [], ◌∷◌, length, map, replicate, Bool, None, true, false, refl, sym, ap, ◌∙◌, subst, arith}
use Rattle.std.specs.List.{AllByRecursion}
use Rattle.std.specs.Prelude.{slice_index}
use Rattle.std.proofs.lemmas.List.{length-replicate}
use mathlib.Core.List.{IsPrefix}
use Rattle.om_interval.specs.Vectors.{IsBelow}
use Rattle.om_format.specs.declared.message.Message.{Message}
use Rattle.om_process.specs.Process.{Program}
use Rattle.om_recover.specs.Recoverable.{IsGreatest}
use Rattle.om_stable.specs.Content.{Content}
use Rattle.om_member.specs.declared.member.Member.{Member}
use Rattle.om_manager.specs.Gatherings.{AreAllIn, presences_of}
use Rattle.om_manager.specs.Outputs.{within}
use Rattle.om_manager.specs.Sound.{IsManager, KeepsReleased}
use Rattle.om_manager.specs.State.{ManagerState, held_by, process_count, released_by}
use Rattle.om_take_up.specs.Anew.{EachFailed, IsBefore, IsFirst, OnlyFailed}
use Rattle.om_world.specs.declared.entry.Entry.{Entry}
use Rattle.om_world.specs.declared.event.Answer.TheVariants as answers
use Rattle.om_world.specs.declared.event.Event.{Event}
use Rattle.om_world.specs.declared.event.Refusal.{Refusal}
use Rattle.om_world.specs.declared.event.Refusal.TheVariants as why
use Rattle.om_world.specs.declared.process_state.ProcessState.{ProcessState}
use Rattle.om_world.specs.Changes.{HasFailed, NoneFell}
use Rattle.om_world.specs.Disk.{held_in}
use Rattle.om_world.specs.Happened.{Happened, Refused}
use Rattle.om_world.specs.Live.{cut_list}
use Rattle.om_world.specs.Restarted.{HasRestarted, anew}
use Rattle.om_world.specs.Started.{IsNew}
use Rattle.om_take_up.specs.StoreRows.{HasRowsOf}
use Rattle.om_world.specs.World.{Health, IsKnown, SinceState, WorldState, all_clean, recovered}
use Rattle.om_world.specs.steps.Members.{Besides, content_in, core_in, downed, health_in, place_in, round_in, seen, sound_in}
use Rattle.om_world.specs.steps.Moves.{Keeps}
use Rattle.om_world.specs.steps.Restarting.{HasLearned, HasRead, HasToldStores, IsAnew, IsRefusal, CanRestart, left_run}
use Rattle.om_world.specs.steps.Sound.{HasShape, IsBetween, IsWorld, Sound, before_of}
use Rattle.om_world.proofs.Keeping.{keeps_same}
use Rattle.om_member.proofs.KeepLemmas.{prefix_same}
use Rattle.om_world.proofs.Lists.{length-map}
use Rattle.om_world.proofs.Reading.{held_same, left_with, same_but}
use Rattle.om_world.proofs.Gathering.{within_at}
use Rattle.om_world.proofs.Restarting.{Starts, between_started, released_same, shape_down, sound_started, within_all}
use Rattle.om_world.proofs.RowsTold.{all_stores, same_rows}
use Rattle.om_world.proofs.Seats.{world_is}
use Rattle.om_world.specs.Stopped.{IsLeft, IsWhole, along}
use Rattle.om_world.proofs.Leaving.{can_restart, shape_along}

-- ---- the manager before the last failure
starts : (w : WorldState) (run : List Entry) (m : ManagerState) → IsKnown w → IsWhole w → (a : IsAnew w m) → Starts (along w run) a.failed.before
starts w run m known whole a = record {
  size = ap process_count a.failed.others ∙ a.first.size;
  sound = a.failed.sound;
  rows = subst (λ (k : ManagerState). HasRowsOf (length w.programs) (held_in w) k.rows) (sym a.failed.others) (a.rows known);
  kept = subst (λ (k : ManagerState). IsBelow w.manager.recovery k.recovery) (sym a.failed.others) (a.kept known whole);
  outputs = λ p lt. ap (λ (k : ManagerState). held_by k p) a.failed.others ∙ a.outputs p lt;
  round = ap (λ (k : ManagerState). k.round) a.failed.others ∙ a.first.round;
  waiting = subst (λ n. OnlyFailed n (presences_of a.failed.before.gathering)) a.first.size a.failed.waiting;
}

recovery_is : (w : WorldState) (m : ManagerState) (a : IsAnew w m) → m.recovery ≡ a.told.recovery
recovery_is w m a = a.failed.finished.recovery ∙ ap (λ (k : ManagerState). k.recovery) a.failed.others

size_anew : (w : WorldState) (m : ManagerState) → IsAnew w m → process_count m ≡ length w.programs
size_anew w m a = ap length (recovery_is w m a) ∙ a.first.size

sound_anew : (w : WorldState) (run : List Entry) (m : ManagerState) → HasShape w → CanRestart (along w run) → IsWhole w → IsKnown w → IsAnew w m → Sound (anew (along w run) m)
sound_anew w run m h s whole known a =
    let v = along w run in
    let before = a.failed.before in
    let same = ap process_count a.failed.others in
    subst (λ r. Sound (record (anew v m) { live = cut_list r run })) (sym a.failed.finished.recovery)
    (sound_started v before m a.failed.presences (shape_along w run h) s (starts w run m known whole a) (subst (λ n. OnlyFailed n a.failed.presences) a.first.size a.failed.failed) (subst (λ n. AreAllIn n a.failed.presences) (sym same) a.failed.all) a.failed.finished)

between_anew : (w : WorldState) (run : List Entry) (m : ManagerState) → HasShape w → CanRestart (along w run) → IsWhole w → IsKnown w → IsAnew w m → IsBetween (before_of (anew (along w run) m)) (cut_list m.recovery run) w.contents
between_anew w run m h s whole known a =
    let v = along w run in
    let before = a.failed.before in
    let same = ap process_count a.failed.others in
    subst (λ r. IsBetween (before_of (anew v m)) (cut_list r run) w.contents) (sym a.failed.finished.recovery)
    (between_started v before m a.failed.presences (shape_along w run h) s (starts w run m known whole a) (subst (λ n. OnlyFailed n a.failed.presences) a.first.size a.failed.failed) (subst (λ n. AreAllIn n a.failed.presences) (sym same) a.failed.all) a.failed.finished)

shape_anew : (w : WorldState) (run : List Entry) (m : ManagerState) → HasShape w → IsAnew w m → HasShape (anew (along w run) m)
shape_anew w run m h a =
    let d = shape_down w m h (size_anew w m a) a.finished in
    record { few = d.few; stores = d.stores; cores = d.cores; places = d.places; own = d.own; rounds = d.rounds; there = d.there; inside = d.inside; manager = d.manager; size = d.size }

world_anew : {S T : Type 0} (IsSound : S → Type 0) (xs : List S) (Other : T → Type 0) (ys : List T) (w : WorldState) (run : List Entry) (m : ManagerState) → (AllByRecursion IsSound xs → AllByRecursion Other ys) → IsWorld IsSound xs w → IsLeft w run → IsAnew w m → IsWorld Other ys (anew (along w run) m)
world_anew IsSound xs Other ys w run m goes i left a = record {
  shape = shape_anew w run m i.shape a;
  clean = λ known. (goes (i.clean known).0, sound_anew w run m i.shape (can_restart IsSound xs w run i known left) (run, left) known a);
  between = λ known free. between_anew w run m i.shape (can_restart IsSound xs w run i known left) (run, left) known a;
}

-- ---- its members
module _ {S : Type 0} (content : S → Content) (health : S → Health) (IsSound : S → Type 0) (P : List Program) (L : List Entry) (F : List Message) (ms : List (Member S)) (M : ManagerState) (O : Besides) (v : WorldState)
    (i : IsWorld (sound_in IsSound) ms (seen content health P L F ms M O)) (e : seen content health P L F ms M O ≡ v) (run : List Entry) (m : ManagerState) (live : List Entry) (cut : live ≡ cut_list m.recovery run) (since : SinceState) (begun : since ≡ record { before = run; stored = false }) (fs : List Message) (none : fs ≡ []) (now : List (Member S)) (down : now ≡ map downed ms) where
  all_sound : (xs : List (Member S)) → AllByRecursion (sound_in IsSound) xs → AllByRecursion (sound_in IsSound) (map downed xs)
  all_sound [] all = all
  all_sound (x ∷ xs) all = (all.0, all_sound xs all.1)

  all_same : {X : Type 0} (f : Member S → X) (x : X) → ((y : Member S) → f (downed y) ≡ x) → (xs : List (Member S)) → map f (map downed xs) ≡ replicate (length xs) x
  all_same f x same [] = refl
  all_same f x same (y ∷ xs) = ap (λ z. z ∷ map f (map downed xs)) (same y) ∙ ap (λ l. x ∷ l) (all_same f x same xs)

  all_kept : {X : Type 0} (f : Member S → X) → ((y : Member S) → f (downed y) ≡ f y) → (xs : List (Member S)) → map f (map downed xs) ≡ map f xs
  all_kept f same [] = refl
  all_kept f same (y ∷ xs) = ap (λ z. z ∷ map f (map downed xs)) (same y) ∙ ap (λ l. f y ∷ l) (all_kept f same xs)

  many : length ms ≡ length P
  many = sym (length-map core_in ms) ∙ i.shape.cores

  as_anew : seen content health P live [] (map downed ms) m (record O { since = since }) ≡ anew (along (seen content health P L F ms M O) run) m
  as_anew = world_is (seen content health P live [] (map downed ms) m (record O { since = since })) (anew (along (seen content health P L F ms M O) run) m)
      refl cut refl
      (all_same core_in None (λ y. refl) ms ∙ ap (λ n. replicate n None) many)
      (all_same place_in (ProcessState.Down true) (λ y. refl) ms ∙ ap (λ n. replicate n (ProcessState.Down true)) many)
      (all_same round_in 0 (λ y. refl) ms ∙ ap (λ n. replicate n 0) many)
      refl (all_kept (content_in content) (λ y. refl) ms) (all_kept (health_in health) (λ y. refl) ms) refl begun

  as_now : seen content health P live fs now m (record O { since = since }) ≡ anew (along (seen content health P L F ms M O) run) m
  as_now = ap (λ l. seen content health P live l now m (record O { since = since })) none ∙ ap (λ l. seen content health P live [] l m (record O { since = since })) down ∙ as_anew

  pub after_anew : IsLeft v run → IsAnew v m → IsWorld (sound_in IsSound) now (seen content health P live fs now m (record O { since = since }))
  after_anew left a = subst (IsWorld (sound_in IsSound) now) (sym as_now)
      (world_anew (sound_in IsSound) ms (sound_in IsSound) now (seen content health P L F ms M O) run m (λ all. subst (AllByRecursion (sound_in IsSound)) (sym down) (all_sound ms all)) i (subst (λ (x : WorldState). IsLeft x run) (sym e) left) (subst (λ (x : WorldState). IsAnew x m) (sym e) a))

  pub was_anew : seen content health P live fs now m (record O { since = since }) ≡ anew (along v run) m
  was_anew = as_now ∙ ap (λ (x : WorldState). anew (along x run) m) e

-- ---- what was released is
pub released_is : (w : WorldState) (m : ManagerState) → IsAnew w m → (p : ℕ) → p < length w.programs → released_by m p ≡ released_by w.manager p
released_is w m a p lt =
    let size : p < process_count a.failed.before = let same = ap process_count a.failed.others in let many = a.first.size in omega arith in
    let held : held_by m p ≡ released_by a.told p = a.failed.finished.outputs p size ∙ ap (λ (k : ManagerState). released_by k p) a.failed.others in
    let again : within (released_by a.told p) (slice_index a.told.recovery p) ≡ released_by a.told p =
    within_all (released_by a.told p) (slice_index a.told.recovery p) (λ i o at. within_at (held_by a.told p) (slice_index a.told.recovery p) i o at) in
    ap (λ l. within l (slice_index m.recovery p)) held ∙ ap (λ r. within (released_by a.told p) (slice_index r p)) (recovery_is w m a) ∙ again ∙ a.released p lt

released_anew : (w : WorldState) (m : ManagerState) → IsAnew w m → KeepsReleased w.manager m
released_anew w m a p lt = prefix_to w m p (released_is w m a p (let many = a.many in omega arith))
  where
    prefix_to : (w : WorldState) (m : ManagerState) (p : ℕ) → released_by m p ≡ released_by w.manager p → IsPrefix (released_by w.manager p) (released_by m p)
    prefix_to w m p same = subst (λ l. IsPrefix (released_by w.manager p) l) (sym same) (prefix_same (released_by w.manager p))

pub keeps_anew : (old mid new : WorldState) (run : List Entry) (m : ManagerState) → HasRead old mid → IsAnew mid m → new ≡ anew (along mid run) m → Keeps old new
keeps_anew old mid new run m r a e =
    let manager : new.manager ≡ m = ap (λ (x : WorldState). x.manager) e in
    let was : mid.manager ≡ old.manager = ap (λ (x : WorldState). x.manager) r.others in
    let health : new.health ≡ mid.health = ap (λ (x : WorldState). x.health) e in
    record {
      size = ap process_count manager ∙ ap length (recovery_is mid m a) ∙ a.first.size ∙ sym a.many ∙ ap process_count was;
      released = subst (λ k. KeepsReleased old.manager k) (sym manager) (subst (λ k. KeepsReleased k m) was (released_anew mid m a));
      clean = λ all. r.was_clean (ap all_clean (sym health) ∙ all);
      counts = subst (λ l. NoneFell old.health l) (sym health) r.counts;
      origins = ap (λ (x : WorldState). x.origins) e ∙ ap (λ (x : WorldState). x.origins) r.others;
    }

pub keeps_read : (old new : WorldState) → HasRead old new → Keeps old new
keeps_read old new r =
    let was : new.manager ≡ old.manager = ap (λ (x : WorldState). x.manager) r.others in
    record {
      size = ap process_count was;
      released = subst (λ k. KeepsReleased old.manager k) (sym was) (keeps_same old.manager);
      clean = r.was_clean;
      counts = r.counts;
      origins = ap (λ (x : WorldState). x.origins) r.others;
    }

-- the run that a restart takes up, once the stores were read
pub same_run : (current : Bool) (old mid : WorldState) → HasRead old mid → left_run current mid ≡ left_run current old
same_run current old mid r = ap (left_run current) r.others

-- ---- what happened
pub restart_happened : (old mid new : WorldState) (run : List Entry) (m : ManagerState) → IsLeft old run → HasRead old mid → IsAnew mid m → new ≡ anew (along mid run) m → IsKnown new → HasRestarted old new
restart_happened old mid new run m left r a e known =
    let known_mid : IsKnown mid = subst IsKnown e known in
    let is : mid ≡ record old { health = mid.health } = same_but old mid r known_mid in
    let b : IsAnew (record old { health = mid.health }) m = subst (λ (x : WorldState). IsAnew x m) is a in
    let here : IsKnown (record old { health = mid.health }) = subst IsKnown is known_mid in
    let now : new ≡ anew (along (record old { health = mid.health }) run) m = e ∙ ap (λ (x : WorldState). anew (along x run) m) is in
    let manager : new.manager ≡ m = ap (λ (x : WorldState). x.manager) now in
    record {
      run = run;
      left = left;
      told = b.told;
      first = b.first;
      rows = b.rows here;
      greatest = subst (λ n. IsGreatest n b.told.rows b.told.recovery) b.first.size b.sound.exact.greatest;
      kept = b.kept here (run, left_with old run old.contents mid.health left);
      outputs = b.outputs;
      failed = subst (EachFailed b.told) (sym manager) b.failed;
      recovery = ap (λ (k : ManagerState). k.recovery) manager ∙ recovery_is (record old { health = mid.health }) m b;
      others = now ∙ ap (λ (k : ManagerState). record (anew (along old run) k) { health = mid.health }) (sym manager) ∙ ap (λ h. record (anew (along old run) new.manager) { health = h }) (sym (ap (λ (x : WorldState). x.health) now));
    }

pub restart_refused : (old mid : WorldState) (refusal : Refusal) → IsRefusal refusal → HasRead old mid → (refusal ≡ why.Fault → (p : ℕ) × HasFailed old p mid) → refusal ≢ why.Damaged → IsKnown mid → Happened old Event.Restart (answers.Refused refusal) mid
restart_refused old mid refusal (IsRefusal.fault is) r failed whole known = subst (λ x. Refused old Event.Restart x mid) (sym is) (failed is, same_but old mid r known)
restart_refused old mid refusal (IsRefusal.damaged is) r failed whole known = absurd (whole is)
restart_refused old mid refusal (IsRefusal.memory is) r failed whole known = subst (λ x. Refused old Event.Restart x mid) (sym is) (same_but old mid r known)

-- ---- the manager that is made
pub told_first : (n : ℕ) (first told : ManagerState) → IsNew n first → HasLearned first told → IsFirst n told
told_first n first told fresh t = record {
  size = t.size ∙ ap length fresh.recovery ∙ length-replicate n 0;
  starts = ap (λ (k : ManagerState). k.starts) t.others ∙ fresh.starts;
  round = ap (λ (k : ManagerState). k.round) t.others ∙ fresh.round;
}

pub told_before : (n : ℕ) (first told : ManagerState) → IsNew n first → HasLearned first told → IsBefore told
told_before n first told fresh t = record {
  gathering = ap (λ (k : ManagerState). k.gathering) t.others ∙ fresh.gathering;
  round = ap (λ (k : ManagerState). k.round) t.others ∙ fresh.round;
}

-- what the stores' processes had released is held, and released where no less is recovered
pub told_outputs : (old mid : WorldState) (first told : ManagerState) → HasToldStores old first (length old.programs) mid told → (p : ℕ) → p < length mid.programs → held_by told p ≡ released_by mid.manager p
told_outputs old mid first told s p lt =
    let many : length mid.programs ≡ length old.programs = ap (λ (x : WorldState). length x.programs) s.read.others in
    s.held p (omega arith) ∙ ap (λ (x : WorldState). released_by x.manager p) (sym s.read.others)

pub released_told : (old mid : WorldState) (first told : ManagerState) → HasToldStores old first (length old.programs) mid told → IsBelow mid.manager.recovery told.recovery → (p : ℕ) → p < length mid.programs → released_by told p ≡ released_by mid.manager p
released_told old mid first told s kept p lt = released_same mid told p kept (told_outputs old mid first told s p lt)

pub made_anew : (old mid : WorldState) (first told final : ManagerState) → IsNew (length old.programs) first → HasToldStores old first (length old.programs) mid told → process_count mid.manager ≡ length mid.programs
    → (IsKnown mid → IsWhole mid → IsBelow mid.manager.recovery told.recovery) → ((p : ℕ) → p < length mid.programs → released_by told p ≡ released_by mid.manager p) → EachFailed told final → IsManager final → IsAnew mid final
made_anew old mid first told final fresh s size kept released failed finished =
    let programs : mid.programs ≡ old.programs = ap (λ (x : WorldState). x.programs) s.read.others in
    let many : length mid.programs ≡ length old.programs = ap length programs in
    record {
      told = told;
      first = subst (λ n. IsFirst n told) (sym many) (told_first (length old.programs) first told fresh s.told);
      rows = λ known.
          let all = all_stores (length old.programs) (held_in old) told.rows (s.rows known) in
          let here = same_rows (length old.programs) (held_in old) (held_in mid) told.rows (held_same old mid s.read known) all in
          subst (λ n. HasRowsOf n (held_in mid) told.rows) (sym many) here;
      sound = s.told.sound;
      many = size;
      kept = kept;
      outputs = told_outputs old mid first told s;
      released = released;
      failed = failed;
      finished = finished;
    }
