-- A world that ends.
use Rattle.std.proofs.Common.{◌≡◌, ◌⊎◌, inl, inr, ℕ, zero, suc, ◌<◌, List, [], ◌∷◌, ◌++◌, get_or, length, map, replicate, Some, None, true, refl, sym, ap, ◌∙◌, subst, arith}
use Rattle.std.specs.List.{AllByRecursion}
use Rattle.std.specs.Prelude.{Vec, slice_get}
use Rattle.std.specs.declared.alloc.Global.{Global}
use Rattle.std.proofs.lemmas.List.{get_or-map, length-replicate}
use Rattle.om_format.specs.declared.message.Message.{Message}
use Rattle.om_process.specs.Process.{Program}
use Rattle.om_stable.specs.Content.{Content}
use Rattle.om_member.specs.declared.member.Member.{Member}
use Rattle.om_manager.specs.Outputs.{AreNumbered, held_of}
use Rattle.om_manager.specs.State.{ManagerState, released_by}
use Rattle.om_manager.specs.declared.output_log.Output.{Output}
use Rattle.om_world.specs.declared.entry.Entry.{Entry}
use Rattle.om_world.specs.declared.process_state.ProcessState.{ProcessState}
use Rattle.om_world.specs.Disk.{IsOnDisk, IsSettled}
use Rattle.om_world.specs.Stopped.{AreCurrent, IsLeft, along, stopped}
use Rattle.om_world.specs.World.{Health, IsKnown, WorldState}
use Rattle.om_world.specs.steps.Members.{Besides, content_in, core_in, health_in, place_in, round_in, seen, sound_in}
use Rattle.om_world.specs.steps.Sound.{HasShape, IsWorld, Sound}
use Rattle.om_world.specs.steps.Stopping.{AreReleasedBy, halted}
use Rattle.om_world.proofs.Disk.{on_disk}
use Rattle.om_world.proofs.Lists.{inside, length-map, none_in, once}
use Rattle.om_world.proofs.Restarting.{at_place, down_in, down_up, no_core, none_up}
use Rattle.om_world.proofs.Seats.{world_is}
use Rattle.om_world.proofs.Undamaged.{stands}
use Rattle.om_world.proofs.TakenDown.{ended}
use Rattle.om_world.specs.Failures.{HasNews}

shape_stopped : (w : WorldState) → HasShape w → HasShape (stopped w)
shape_stopped w h = record {
  few = h.few;
  stores = h.stores;
  cores = length-replicate (length w.programs) None;
  places = length-replicate (length w.programs) (ProcessState.Down true);
  own = λ p c at. absurd (no_core (length w.programs) p c at);
  rounds = h.rounds;
  there = λ p up. absurd (none_up (length w.programs) p ProcessState.Up down_up up);
  inside = λ p joined. absurd (none_up (length w.programs) p ProcessState.In down_in joined);
  manager = h.manager;
  size = h.size;
}

sound_stopped : (w : WorldState) → HasShape w → Sound w → Sound (stopped w)
sound_stopped w h s = record {
  legal = s.legal;
  frames = λ i f at. absurd (none_in i f at);
  outputs = s.outputs;
  rows = s.rows;
  stored = s.stored;
  backed = s.backed;
  running = λ p c held at. absurd (no_core (length w.programs) p c at);
  up = λ p c at. absurd (no_core (length w.programs) p c at);
  joined = s.joined;
  failed = λ p at.
      let down = inside w.places p (ProcessState.Down true) (s.failed p at) in
      let places = h.places in
      at_place (length w.programs) p (ProcessState.Down true) (omega arith);
  gathered = s.gathered;
  current = λ p up. absurd (none_up (length w.programs) p ProcessState.Up down_up up);
  known = s.known;
  ends = λ p declared held place old at. ended w p held h s old at;
  behind = s.behind;
  inside = λ p c at. absurd (no_core (length w.programs) p c at);
  beyond = λ p c at. absurd (no_core (length w.programs) p c at);
}

world_stopped : {S T : Type 0} (IsSound : S → Type 0) (xs : List S) (Other : T → Type 0) (ys : List T) (w : WorldState) → (AllByRecursion IsSound xs → AllByRecursion Other ys) → IsWorld IsSound xs w → IsWorld Other ys (stopped w)
world_stopped IsSound xs Other ys w goes i = record {
  shape = shape_stopped w i.shape;
  clean = λ known. let s = i.clean known in (goes s.0, sound_stopped w i.shape s.1);
  between = i.between;
}

-- ---- what was released
more_had : {A : Type 0} (xs : List A) (i : ℕ) (x y : A) → slice_get (xs ++ x ∷ []) i ≡ Some y → ((i ≡ length xs) × (y ≡ x)) ⊎ (slice_get xs i ≡ Some y)
more_had [] zero x y at = inl (refl, sym (once x y at))
more_had [] (suc i) x y at = absurd (none_in i y at)
more_had (z ∷ xs) zero x y at = inr at
more_had (z ∷ xs) (suc i) x y at = elim (more_had xs i x y at) [ inl last ↦ inl (ap suc last.0, last.1) | inr old ↦ inr old ]

pub numbered_too : (copies outputs : List Output) → map (λ o. o.seq) copies ≡ map (λ o. o.seq) outputs → AreNumbered outputs → AreNumbered copies
numbered_too copies outputs same numbered place d lt =
    let long : length copies ≡ length outputs = sym (length-map (λ (o : Output). o.seq) copies) ∙ ap length same ∙ length-map (λ (o : Output). o.seq) outputs in
    let inside : place < length outputs = subst (λ n. place < n) long lt in
    sym (get_or-map (λ (o : Output). o.seq) copies place d 0 lt) ∙ ap (λ ns. get_or ns place 0) same ∙ get_or-map (λ (o : Output). o.seq) outputs place d 0 inside ∙ numbered place d inside

pub released_more : (m : ManagerState) (released : List (Vec Output Global)) (outputs : Vec Output Global) → AreReleasedBy m released
    → map held_of outputs.items ≡ released_by m (length released) → AreNumbered outputs.items → AreReleasedBy m (released ++ outputs ∷ [])
released_more m released outputs are held numbered p found at = elim (more_had released p outputs found at) [
  | inl here ↦ (
    subst (λ q. map held_of found.items ≡ released_by m q) (sym here.0) (ap (λ (v : Vec Output Global). map held_of v.items) here.1 ∙ held),
    subst (λ (v : Vec Output Global). AreNumbered v.items) (sym here.1) numbered,
  )
  | inr old ↦ are p found old
]

-- ---- its members
module _ {S : Type 0} (content : S → Content) (health : S → Health) (IsSound : S → Type 0) (P : List Program) (L : List Entry) (F : List Message) (ms : List (Member S)) (M : ManagerState) (O : Besides) (v : WorldState)
    (i : IsWorld (sound_in IsSound) ms (seen content health P L F ms M O)) (e : seen content health P L F ms M O ≡ v) (now : List (Member S)) (down : now ≡ map halted ms)
    (live : List Entry) (received : live ≡ L) (manager : ManagerState) (managed : manager ≡ M) where
  all_sound : (xs : List (Member S)) → AllByRecursion (sound_in IsSound) xs → AllByRecursion (sound_in IsSound) (map halted xs)
  all_sound [] all = all
  all_sound (x ∷ xs) all = (all.0, all_sound xs all.1)

  all_same : {X : Type 0} (f : Member S → X) (x : X) → ((y : Member S) → f (halted y) ≡ x) → (xs : List (Member S)) → map f (map halted xs) ≡ replicate (length xs) x
  all_same f x same [] = refl
  all_same f x same (y ∷ xs) = ap (λ z. z ∷ map f (map halted xs)) (same y) ∙ ap (λ l. x ∷ l) (all_same f x same xs)

  all_kept : {X : Type 0} (f : Member S → X) → ((y : Member S) → f (halted y) ≡ f y) → (xs : List (Member S)) → map f (map halted xs) ≡ map f xs
  all_kept f same [] = refl
  all_kept f same (y ∷ xs) = ap (λ z. z ∷ map f (map halted xs)) (same y) ∙ ap (λ l. f y ∷ l) (all_kept f same xs)

  many : length ms ≡ length P
  many = sym (length-map core_in ms) ∙ i.shape.cores

  as_stopped : seen content health P L [] (map halted ms) M O ≡ stopped (seen content health P L F ms M O)
  as_stopped = world_is (seen content health P L [] (map halted ms) M O) (stopped (seen content health P L F ms M O))
      refl refl refl
      (all_same core_in None (λ y. refl) ms ∙ ap (λ n. replicate n None) many)
      (all_same place_in (ProcessState.Down true) (λ y. refl) ms ∙ ap (λ n. replicate n (ProcessState.Down true)) many)
      (all_kept round_in (λ y. refl) ms)
      refl (all_kept (content_in content) (λ y. refl) ms) (all_kept (health_in health) (λ y. refl) ms) refl refl

  as_now : seen content health P L [] now M O ≡ stopped (seen content health P L F ms M O)
  as_now = ap (λ l. seen content health P L [] l M O) down ∙ as_stopped

  as_left : seen content health P live [] now manager O ≡ seen content health P L [] now M O
  as_left = ap (λ l. seen content health P l [] now manager O) received ∙ ap (λ m. seen content health P L [] now m O) managed

  pub after_stopped : IsWorld (sound_in IsSound) now (seen content health P live [] now manager O)
  after_stopped = subst (IsWorld (sound_in IsSound) now) (sym (as_left ∙ as_now))
      (world_stopped (sound_in IsSound) ms (sound_in IsSound) now (seen content health P L F ms M O) (λ all. subst (AllByRecursion (sound_in IsSound)) (sym down) (all_sound ms all)) i)

  pub was_stopped : seen content health P live [] now manager O ≡ stopped v
  was_stopped = as_left ∙ as_now ∙ ap stopped e

-- what it leaves
pub left_stopped : (w : WorldState) (run : List Entry) → IsLeft w run → IsLeft (stopped w) run
left_stopped w run (IsLeft.current none is) = IsLeft.current none is
left_stopped w run (IsLeft.between p lt news free is) = IsLeft.between p lt news free is

pub still_current : (w v : WorldState) → v ≡ stopped w → AreCurrent w → AreCurrent v
still_current w v is none = subst AreCurrent (sym is) none

pub still_news : (w v : WorldState) → v ≡ stopped w → ((p : ℕ) × (p < length w.programs) × HasNews w p) → (p : ℕ) × (p < length v.programs) × HasNews v p
still_news w v is news = subst (λ (x : WorldState). (p : ℕ) × (p < length x.programs) × HasNews x p) (sym is) news

left_ended : (w : WorldState) (run : List Entry) → IsLeft (stopped w) run → IsLeft w run
left_ended w run (IsLeft.current none is) = IsLeft.current none is
left_ended w run (IsLeft.between p lt news free is) = IsLeft.between p lt news free is

disk_along : (w : WorldState) (run : List Entry) → IsOnDisk (along w run) → IsOnDisk (along (stopped w) run)
disk_along w run d = record { legal = d.legal; held = d.held; places = d.places; last = d.last; served = d.served; within = d.within; released = d.released }

pub run_disk : {S : Type 0} (IsSound : S → Type 0) (stores : List S) (v w : WorldState) (run : List Entry) → IsWorld IsSound stores v → v ≡ w → IsKnown w → IsLeft (stopped w) run → IsOnDisk (along (stopped w) run)
run_disk IsSound stores v w run i e known left = let s = stands IsSound stores v w run i e known (left_ended w run left) in disk_along w run (on_disk (along w run) s.0 s.1)

pub stopped_disk : {S : Type 0} (IsSound : S → Type 0) (stores : List S) (v w : WorldState) → IsWorld IsSound stores v → v ≡ w → IsKnown w → IsSettled w → IsOnDisk (stopped w)
stopped_disk IsSound stores v w i e known settled = run_disk IsSound stores v w w.live i e known (left_stopped w w.live (IsLeft.current none refl))
  where
    none : AreCurrent w
    none p lt news =
        let s = subst Sound e (i.clean (subst IsKnown (sym e) known)).1 in
        elim (settled p lt) [ inl up ↦ let same = s.current p up in absurd (omega arith) | inr never ↦ never news ]
