-- What holds of a world at its start.
use Rattle.std.proofs.Common.{◌≡◌, inl, ℕ, zero, suc, ◌+◌, ◌≤◌, ◌<◌, List, [], ◌∷◌, ◌++◌, length, map, replicate, Option, Some, None, Bool, true, false, refl, sym, ap, ◌∙◌, subst, arith}
use Rattle.std.proofs.lemmas.List.{length-replicate}
use Rattle.std.specs.Prelude.{◌&&◌, All, IsTrue, slice_get, slice_index, slice_index_or}
use Rattle.std.specs.FinMap.{get, get-empty}
use Rattle.std.specs.List.{AllByRecursion}
use Rattle.om_interval.specs.declared.pid.TheConstants.{MAX_PROCESSES}
use Rattle.om_interval.specs.Starts.{newest_of}
use Rattle.om_format.specs.Queues.{QueueRecord}
use Rattle.om_format.specs.declared.message.Message.{Message}
use Rattle.om_stable.specs.Content.{Content, nothing}
use Rattle.om_stable.proofs.RecordLemmas.{get-insert_here, get-insert_apart}
use Rattle.om_process.specs.Process.{Process, Program, empty_queue, started}
use Rattle.om_process.specs.Turns.{Reaches}
use Rattle.om_process.specs.Parts.{IsTrimmed}
use Rattle.om_process.specs.steps.Pieces.{KeepQueues}
use Rattle.om_process.specs.Core.{CoreState}
use Rattle.om_process.specs.Claims.{AtInterval, RowOf}
use Rattle.om_process.specs.Starting.{started_core}
use Rattle.om_process.specs.Stores.{HasGainedCheckpoint}
use Rattle.om_process.proofs.Vectors.{row_along}
use Rattle.om_recover.specs.Records.{first_row}
use Rattle.om_recover.specs.Rows.{HasRow}
use Rattle.om_recover.specs.declared.row.Row.{Row}
use Rattle.om_manager.specs.Gatherings.{presence_of, presences_of}
use Rattle.om_manager.specs.Sound.{IsManager}
use Rattle.om_manager.specs.State.{ManagerState}
use Rattle.om_manager.specs.declared.presence.Presence.{Presence}
use Rattle.om_manager.specs.declared.presence.Presence.TheVariants.{Away, Failed, Joined}
use Rattle.om_world.specs.declared.entry.Entry.{Entry}
use Rattle.om_world.specs.declared.process_state.ProcessState.{ProcessState}
use Rattle.om_world.specs.Live.{program_at}
use Rattle.om_world.specs.World.{Health, WorldState, IsEmpty, IsKnown, all_clean, SinceState}
use Rattle.om_world.specs.steps.Past.{Past, history}
use Rattle.om_world.specs.Started.{HaveFirst, IsLoadable, IsNew, IsStarted}
use Rattle.om_world.specs.steps.Sound.{HasBytes, HasShape, IsCoreOf, IsRunning, IsStored, IsUpIn, IsWorld, Sound}
use Rattle.om_world.specs.steps.Starting.{AreStarted}
use Rattle.om_world.proofs.Gaining.{checkpoint_stored}
use Rattle.om_world.proofs.Holding.{before_map}
use Rattle.om_world.proofs.Legal.{each_legal}
use Rattle.om_world.proofs.Lists.{inside, length-map, map_at, none_in, once, there}
use Rattle.om_world.proofs.Between.{between_now}

-- ---- lists
index_at : {A : Type 0} (xs : List A) (i : ℕ) (x d : A) → slice_get xs i ≡ Some x → slice_index_or xs i d ≡ x
index_at [] i x d at = absurd (none_in i x at)
index_at (y ∷ xs) zero x d at = once y x at
index_at (y ∷ xs) (suc i) x d at = index_at xs i x d at

pub all_at : {A : Type 0} (P : A → Type 0) (xs : List A) (i : ℕ) (x : A) → All P xs → slice_get xs i ≡ Some x → P x
all_at P xs i x all at = subst P (index_at xs i x x at) (all i x (inside xs i x at))

all_from : {A : Type 0} (P : A → Type 0) (xs : List A) → ((i : ℕ) (x : A) → slice_get xs i ≡ Some x → P x) → All P xs
all_from P xs each i d lt = let x = there xs i lt in subst P (sym (index_at xs i x.0 d x.1)) (each i x.0 x.1)

pub index_same : {A : Type 0} (n i : ℕ) (x : A) → slice_index_or (replicate n x) i x ≡ x
index_same zero i x = refl
index_same (suc n) zero x = refl
index_same (suc n) (suc i) x = index_same n i x

pub same_at : {A : Type 0} (n i : ℕ) (x y : A) → slice_get (replicate n x) i ≡ Some y → y ≡ x
same_at zero i x y at = absurd (none_in i y at)
same_at (suc n) zero x y at = sym (once x y at)
same_at (suc n) (suc i) x y at = same_at n i x y at

one_start : (n p : ℕ) → newest_of (replicate n (0 ∷ [])) p ≡ 0
one_start zero p = refl
one_start (suc n) zero = refl
one_start (suc n) (suc p) = one_start n p

empty_at : (n q : ℕ) (queue : QueueRecord) → slice_get (replicate n empty_queue ++ empty_queue ∷ []) q ≡ Some queue → queue ≡ empty_queue
empty_at zero zero queue at = sym (once empty_queue queue at)
empty_at zero (suc q) queue at = absurd (none_in q queue at)
empty_at (suc n) zero queue at = sym (once empty_queue queue at)
empty_at (suc n) (suc q) queue at = empty_at n q queue at

keep_same : (qs : List QueueRecord) → KeepQueues qs qs
keep_same [] = tt
keep_same (q ∷ qs) = (([], refl, plain q.first), keep_same qs)
  where
    plain : (x : ℕ) → x ≡ x + 0
    plain x = omega arith

clean_at : {S : Type 0} (health : S → Health) (xs : List S) (i : ℕ) (s : S) → all_clean (map health xs) ≡ true → slice_get xs i ≡ Some s → (health s).clean ≡ true
clean_at health [] i s all at = absurd (none_in i s at)
clean_at health (x ∷ xs) zero s all at = ap (λ y. (health y).clean) (sym (once x s at)) ∙ first (health x).clean (all_clean (map health xs)) all
  where
    first : (a b : Bool) → (a && b) ≡ true → a ≡ true
    first true b e = refl
    first false b e = e
clean_at health (x ∷ xs) (suc i) s all at = clean_at health xs i s (second (health x).clean (all_clean (map health xs)) all) at
  where
    second : (a b : Bool) → (a && b) ≡ true → b ≡ true
    second true b e = e
    second false b e = cc

pub clean_from : {S : Type 0} (health : S → Health) (xs : List S) → ((i : ℕ) (s : S) → slice_get xs i ≡ Some s → (health s).clean ≡ true) → all_clean (map health xs) ≡ true
clean_from health [] each = refl
clean_from health (x ∷ xs) each = ap (λ b. b && all_clean (map health xs)) (each 0 x refl) ∙ clean_from health xs (λ i. each (suc i))

sound_from : {S : Type 0} (IsSound : S → Type 0) (xs : List S) → ((i : ℕ) (s : S) → slice_get xs i ≡ Some s → IsSound s) → AllByRecursion IsSound xs
sound_from IsSound [] each = tt
sound_from IsSound (x ∷ xs) each = (each 0 x refl, sound_from IsSound xs (λ i. each (suc i)))

-- ---- one process at its start
stands_still : (program : Program) (own n : ℕ) → Reaches program own n [] (started program n)
stands_still program own n = (0, (started program n, refl, refl))

zeros_row : (own n : ℕ) → RowOf own n (replicate n 0) (replicate n 0) []
zeros_row own n = let program = program_at [] 0 in row_along program own n [] (started program n) (stands_still program own n)

none_some : {A : Type 0} (o : Option A) (x : A) → o ≡ None → o ≡ Some x → ⊥
none_some o x e f = cc

abbrev pub at_start : List Program → ManagerState → Past
at_start programs m = record { programs = programs; live = []; manager = m }

first_running : (programs : List Program) (m : ManagerState) (p : ℕ) (held : Content) (program : Program) → slice_get programs p ≡ Some program → ((y : ℕ) → get held.receipts y ≡ None) → ((y : ℕ) → 0 < y → get held.checkpoints y ≡ None)
    → IsRunning (at_start programs m) p held (started_core program p (length programs))
first_running programs m p held program at receipts checkpoints = record {
  state = subst (λ (x : Program). (whole : Process) × Reaches x p (length programs) [] whole × KeepsIt whole) (sym (index_at programs p program _ at)) (started program (length programs), stands_still program p (length programs), record { same = refl; queues = keep_same (started program (length programs)).queues });
  kept = λ q queue f. let is = empty_at (length programs) q queue f in ((λ lt. low queue _ is), (λ same. low queue _ is));
  log = ([], refl, tt);
  pending = λ i row f. absurd (none_in i row f);
  above = record { receipts = λ y le. receipts y; checkpoints = λ y lt. checkpoints y lt };
}
  where
    KeepsIt : Process → Type 0
    KeepsIt whole = IsTrimmed whole (started program (length programs))

    low : (queue : QueueRecord) (x : ℕ) → queue ≡ empty_queue → queue.first ≤ x
    low queue x is = subst (λ (q : QueueRecord). q.first ≤ x) (sym is) (least x)
      where
        least : (x : ℕ) → 0 ≤ x
        least x = omega arith

none_stored : (v : Past) (p : ℕ) → IsStored v p nothing
none_stored v p = record {
  checkpoints = λ x bytes le at. absurd (none_some _ bytes (get-empty _ x) at);
  receipts = λ x bytes some le at. absurd (none_some _ bytes (get-empty _ x) at);
}

-- ---- all of them
-- whether what a store holds is known
abbrev pub clean_in : {S : Type 0} → (S → Health) → S → Bool
clean_in health store = (health store).clean

pub record IsBegun {S : Type 0} (content : S → Content) (health : S → Health) (IsSound : S → Type 0) (programs : List Program) (cores : List (Option CoreState)) (xs ys : List S) (m : ManagerState) : Type 0 where
  pub few : length programs ≤ MAX_PROCESSES
  pub stores : length xs ≡ length programs
  pub started : AreStarted content (clean_in health) IsSound programs (length programs) (length programs) cores xs ys
  pub fresh : IsNew (length programs) m
  pub manager : IsManager m
  pub sound : (i : ℕ) (s : S) → slice_get xs i ≡ Some s → IsTrue (health s).clean → IsSound s

abbrev pub begun : {S : Type 0} → (S → Content) → (S → Health) → List Program → List (Option CoreState) → List S → List S → ManagerState → WorldState
begun content health programs cores xs ys m = record {
  programs = programs;
  live = [];
  frames = [];
  cores = cores;
  places = replicate (length programs) ProcessState.Up;
  rounds = replicate (length programs) 0;
  manager = m;
  contents = map content ys;
  health = map health ys;
  origins = map content xs;
  since = record { before = []; stored = false };
}

-- the core at a place
core_at : {S : Type 0} (content : S → Content) (health : S → Health) (IsSound : S → Type 0) (programs : List Program) (cores : List (Option CoreState)) (xs ys : List S) (m : ManagerState) (p : ℕ) (c : CoreState) → IsBegun content health IsSound programs cores xs ys m → slice_get cores p ≡ Some (Some c)
    → (program : Program) × (slice_get programs p ≡ Some program) × (p < length programs) × (started_core program p (length programs) ≡ c)
core_at content health IsSound programs cores xs ys m p c b at =
    let short = inside cores p (Some c) at in
    let many = b.started.many in
    let lt : p < length programs = omega arith in
    let program = there programs p lt in
    (program.0, program.1, lt, once (started_core program.0 p (length programs)) c (once _ (Some c) (sym (b.started.cores p program.0 lt program.1) ∙ at)))

-- the store at a place, where all are clean
abbrev IsOver : {S : Type 0} → (S → Content) → (S → Type 0) → List Program → List S → ℕ → Program → S → Type 0
IsOver {S} content IsSound programs ys p program before = (after : S) × (slice_get ys p ≡ Some after) × (get (content before).checkpoints 0 ≡ None)
    × HasGainedCheckpoint (started_core program p (length programs)) (content before) (content after) × IsSound after

over_at : {S : Type 0} (content : S → Content) (health : S → Health) (IsSound : S → Type 0) (programs : List Program) (cores : List (Option CoreState)) (xs ys : List S) (m : ManagerState) (p : ℕ) (program : Program) (before : S) → IsBegun content health IsSound programs cores xs ys m
    → all_clean (map health ys) ≡ true → slice_get programs p ≡ Some program → slice_get xs p ≡ Some before → IsOver content IsSound programs ys p program before
over_at content health IsSound programs cores xs ys m p program before b all at was =
    let lt = inside programs p program at in
    let d = b.started.done p program before lt at was in
    let clean : IsTrue (health d.0).clean = clean_at health ys p d.0 all d.1 in
    let sound = b.sound p before was (d.2.clean clean) in
    (d.0, d.1, d.2.free (clean, sound), d.2.stored (clean, sound), d.2.sound clean sound)

-- what a store holds, where all are clean and none held anything
held_at : {S : Type 0} (content : S → Content) (health : S → Health) (IsSound : S → Type 0) (programs : List Program) (cores : List (Option CoreState)) (xs ys : List S) (m : ManagerState) (p : ℕ) (held : Content) → IsBegun content health IsSound programs cores xs ys m
    → IsKnown (begun content health programs cores xs ys m) → slice_get (map content ys) p ≡ Some held → (program : Program) × (slice_get programs p ≡ Some program) × HasGainedCheckpoint (started_core program p (length programs)) nothing held
held_at content health IsSound programs cores xs ys m p held b known at =
    let s = before_map content ys p held at in
    let short = inside ys p s.0 s.1 in
    let size = b.started.size in
    let stores = b.stores in
    let program = there programs p (omega arith) in
    let before = there xs p (omega arith) in
    let o = over_at content health IsSound programs cores xs ys m p program.0 before.0 b known.1 program.1 before.1 in
    let is : content o.0 ≡ held = ap content (once o.0 s.0 (sym o.1 ∙ s.1)) ∙ s.2 in
    let none : content before.0 ≡ nothing = all_at IsEmpty (map content xs) p (content before.0) known.0 (map_at content xs p before.0 before.1) in
    (program.0, program.1, subst (HasGainedCheckpoint (started_core program.0 p (length programs)) nothing) is (subst (λ a. HasGainedCheckpoint (started_core program.0 p (length programs)) a (content o.0)) none o.3))

none_joined : (n p : ℕ) → slice_get (replicate n ProcessState.Up) p ≡ Some ProcessState.In → ⊥
none_joined n p at = apart (same_at n p ProcessState.Up ProcessState.In at)
  where
    apart : ProcessState.In ≡ ProcessState.Up → ⊥
    apart e = cc

none_down : (n p : ℕ) (declared : Bool) → slice_get (replicate n ProcessState.Up) p ≡ Some (ProcessState.Down declared) → ⊥
none_down n p declared at = apart (same_at n p ProcessState.Up (ProcessState.Down declared) at)
  where
    apart : ProcessState.Down declared ≡ ProcessState.Up → ⊥
    apart e = cc

shape_begun : {S : Type 0} (content : S → Content) (health : S → Health) (IsSound : S → Type 0) (programs : List Program) (cores : List (Option CoreState)) (xs ys : List S) (m : ManagerState) → IsBegun content health IsSound programs cores xs ys m → HasShape (begun content health programs cores xs ys m)
shape_begun content health IsSound programs cores xs ys m b = record {
  few = b.few;
  stores = length-map content ys ∙ b.started.size ∙ b.stores;
  cores = b.started.many;
  places = length-replicate (length programs) ProcessState.Up;
  own = λ p c at.
      let o = core_at content health IsSound programs cores xs ys m p c b at in
      subst (IsCoreOf (length programs) p) o.3 (record { own = refl; size = length-replicate (length programs) 0 });
  there = λ p at.
      let short = inside (replicate (length programs) ProcessState.Up) p ProcessState.Up at in
      let long : length (replicate (length programs) ProcessState.Up) ≡ length programs = length-replicate (length programs) ProcessState.Up in
      let program = there programs p (omega arith) in
      (started_core program.0 p (length programs), b.started.cores p program.0 (omega arith) program.1);
  rounds = length-replicate (length programs) 0;
  inside = λ p at. absurd (none_joined (length programs) p at);
  manager = b.manager;
  size = ap length b.fresh.recovery ∙ length-replicate (length programs) 0;
}

nobody_in : (m : ManagerState) (p : ℕ) → m.gathering ≡ None → presence_of (presences_of m.gathering) p ≡ Away
nobody_in m p is = ap (λ g. presence_of (presences_of g) p) is ∙ index_same MAX_PROCESSES p Away

not_joined : (a : Presence) (x : ℕ) → a ≡ Away → a ≡ Joined x → ⊥
not_joined a x e f = cc

not_failed : (a : Presence) → a ≡ Away → a ≡ Failed → ⊥
not_failed a e f = cc

-- what holds of a row of a new manager
first_claim : (programs : List Program) (m : ManagerState) (row : Row) → IsNew (length programs) m → HasRow m.rows row → AtInterval (history (at_start programs m) row.pid) row.interval (RowOf row.pid (length programs) row.vec row.got)
first_claim programs m row new has =
    let is = (new.rows row).0 has in
    subst (λ (r : Row). AtInterval (history (at_start programs m) row.pid) r.interval (RowOf row.pid (length programs) r.vec r.got)) (sym is.1) (none, zeros_row row.pid (length programs))
  where
    none : 0 ≤ 0
    none = omega arith

first_backed : (n : ℕ) (row : Row) (own : ℕ) (held : Content) (program : Program) → row ≡ first_row n row.pid → HasGainedCheckpoint (started_core program own n) nothing held → HasBytes held row.kind row.interval
first_backed n row own held program is g = subst (λ (r : Row). HasBytes held r.kind r.interval) (sym is) (g.2, ap (λ (d : Content). get d.checkpoints 0) g.4 ∙ get-insert_here nothing.checkpoints 0 g.2)

gained_running : (programs : List Program) (m : ManagerState) (p : ℕ) (held : Content) (program : Program) → slice_get programs p ≡ Some program → HasGainedCheckpoint (started_core program p (length programs)) nothing held
    → IsRunning (at_start programs m) p held (started_core program p (length programs))
gained_running programs m p held program at g = first_running programs m p held program at
    (λ y. ap (λ (d : Content). get d.receipts y) g.4 ∙ get-empty _ y)
    (λ y lt. ap (λ (d : Content). get d.checkpoints y) g.4 ∙ get-insert_apart nothing.checkpoints 0 g.2 y (omega arith) ∙ get-empty _ y)

gained_stored : (programs : List Program) (m : ManagerState) (p : ℕ) (held : Content) (program : Program) → slice_get programs p ≡ Some program → HasGainedCheckpoint (started_core program p (length programs)) nothing held
    → IsStored (at_start programs m) p held
gained_stored programs m p held program at g =
    let c = started_core program p (length programs) in
    checkpoint_stored (at_start programs m) p nothing held c (record { own = refl; size = length-replicate (length programs) 0 }) g
    (first_running programs m p nothing program at (λ y. get-empty _ y) (λ y lt. get-empty _ y)) (none_stored (at_start programs m) p)

up_begun : (n : ℕ) (m : ManagerState) (p : ℕ) (program : Program) → IsNew n m → IsUpIn m p (started_core program p n)
up_begun n m p program new = record {
  round = sym new.round;
  starts = sym new.starts;
  inc = sym (ap (λ s. newest_of s p) new.starts ∙ one_start n p);
  away = nobody_in m p new.gathering;
}

sound_begun : {S : Type 0} (content : S → Content) (health : S → Health) (IsSound : S → Type 0) (programs : List Program) (cores : List (Option CoreState)) (xs ys : List S) (m : ManagerState) → IsBegun content health IsSound programs cores xs ys m → IsKnown (begun content health programs cores xs ys m) → Sound (begun content health programs cores xs ys m)
sound_begun content health IsSound programs cores xs ys m b known = record {
  legal = each_legal programs [] [] tt;
  frames = λ i f at. absurd (none_in i f at);
  outputs = λ p i o at. absurd (none_in i o (sym (ap (λ l. slice_get l i) (ap (λ l. slice_index_or l p []) b.fresh.outputs ∙ index_same (length programs) p [])) ∙ at));
  rows = λ row has. first_claim programs m row b.fresh has;
  stored = λ p held at. let h = held_at content health IsSound programs cores xs ys m p held b known at in gained_stored programs m p held h.0 h.1 h.2;
  backed = λ row held has at.
      let h = held_at content health IsSound programs cores xs ys m row.pid held b known at in
      inl (first_backed (length programs) row row.pid held h.0 ((b.fresh.rows row).0 has).1 h.2);
  running = λ p c held at holds runs.
      let o = core_at content health IsSound programs cores xs ys m p c b at in
      let h = held_at content health IsSound programs cores xs ys m p held b known holds in
      let is : h.0 ≡ o.0 = once h.0 o.0 (sym h.1 ∙ o.1) in
      subst (IsRunning (at_start programs m) p held) o.3 (gained_running programs m p held o.0 o.1 (subst (λ x. HasGainedCheckpoint (started_core x p (length programs)) nothing held) is h.2));
  up = λ p c at place. let o = core_at content health IsSound programs cores xs ys m p c b at in subst (IsUpIn m p) o.3 (up_begun (length programs) m p o.0 b.fresh);
  joined = λ p x at. absurd (not_joined (presence_of (presences_of m.gathering) p) x (nobody_in m p b.fresh.gathering) at);
  failed = λ p at. absurd (not_failed (presence_of (presences_of m.gathering) p) (nobody_in m p b.fresh.gathering) at);
  gathered = λ p not. absurd (not (nobody_in m p b.fresh.gathering));
  current = λ p place. index_same (length programs) p 0 ∙ sym b.fresh.round;
  known = λ p. no_more (slice_index (replicate (length programs) 0) p) m.round (index_same (length programs) p 0);
  ends = λ p declared held at. absurd (none_down (length programs) p declared at);
  behind = λ p lt news. absurd (no_news p news);
  inside = λ p c at place. absurd (none_joined (length programs) p place);
  beyond = λ p c at place. absurd (none_joined (length programs) p place);
}
  where
    no_more : (a b : ℕ) → a ≡ 0 → a ≤ b
    no_more a b e = omega arith

    no_news : (p : ℕ) → slice_index (replicate (length programs) 0) p < m.round → ⊥
    no_news p news = let first = b.fresh.round in omega arith

stores_sound : {S : Type 0} (content : S → Content) (health : S → Health) (IsSound : S → Type 0) (programs : List Program) (cores : List (Option CoreState)) (xs ys : List S) (m : ManagerState) → IsBegun content health IsSound programs cores xs ys m → all_clean (map health ys) ≡ true → AllByRecursion IsSound ys
stores_sound content health IsSound programs cores xs ys m b all = sound_from IsSound ys (λ p s at.
    let short = inside ys p s at in
    let size = b.started.size in
    let stores = b.stores in
    let program = there programs p (omega arith) in
    let before = there xs p (omega arith) in
    let o = over_at content health IsSound programs cores xs ys m p program.0 before.0 b all program.1 before.1 in
    subst IsSound (once o.0 s (sym o.1 ∙ at)) o.4)

pub world_begun : {S : Type 0} (content : S → Content) (health : S → Health) (IsSound : S → Type 0) (programs : List Program) (cores : List (Option CoreState)) (xs ys : List S) (m : ManagerState) → IsBegun content health IsSound programs cores xs ys m
    → IsWorld IsSound ys (begun content health programs cores xs ys m)
world_begun content health IsSound programs cores xs ys m b = record {
  shape = shape_begun content health IsSound programs cores xs ys m b;
  clean = λ known. (stores_sound content health IsSound programs cores xs ys m b known.1, sound_begun content health IsSound programs cores xs ys m b known);
  between = λ known free.
      between_now (begun content health programs cores xs ys m) (shape_begun content health IsSound programs cores xs ys m b) (sound_begun content health IsSound programs cores xs ys m b known)
      (λ p lt news. let first = b.fresh.round in omega arith);
}

-- ---- what a start says
pub is_started : {S : Type 0} (content : S → Content) (health : S → Health) (IsSound : S → Type 0) (programs : List Program) (cores : List (Option CoreState)) (xs ys : List S) (m : ManagerState) → IsBegun content health IsSound programs cores xs ys m
    → IsStarted programs (begun content health programs cores xs ys m)
is_started content health IsSound programs cores xs ys m b = record {
  programs = refl;
  live = refl;
  frames = refl;
  many = b.started.many;
  cores = λ p program at. b.started.cores p program (inside programs p program at) at;
  places = refl;
  rounds = refl;
  manager = b.fresh;
  since = refl;
}

pub have_first : {S : Type 0} (content : S → Content) (health : S → Health) (IsSound : S → Type 0) (programs : List Program) (cores : List (Option CoreState)) (xs ys : List S) (m : ManagerState) → IsBegun content health IsSound programs cores xs ys m → all_clean (map health ys) ≡ true
    → HaveFirst (begun content health programs cores xs ys m)
have_first content health IsSound programs cores xs ys m b all = λ p c before at was.
    let core = core_at content health IsSound programs cores xs ys m p c b at in
    let store = before_map content xs p before was in
    let o = over_at content health IsSound programs cores xs ys m p core.0 store.0 b all core.1 store.1 in
    (content o.0, map_at content ys p o.0 o.1, subst (λ (a : Content). get a.checkpoints 0 ≡ None) store.2 o.2, subst (λ d. HasGainedCheckpoint d before (content o.0)) core.3 (subst (λ a. HasGainedCheckpoint (started_core core.0 p (length programs)) a (content o.0)) store.2 o.3))

pub clean_begun : {S : Type 0} (content : S → Content) (health : S → Health) (IsSound : S → Type 0) (programs : List Program) (cores : List (Option CoreState)) (xs ys : List S) (m : ManagerState) → IsBegun content health IsSound programs cores xs ys m → all_clean (map health ys) ≡ true → All (λ store. IsTrue (health store).clean) xs
clean_begun content health IsSound programs cores xs ys m b all = all_from (λ store. IsTrue (health store).clean) xs (λ p s at.
    let short = inside xs p s at in
    let stores = b.stores in
    let program = there programs p (omega arith) in
    let d = b.started.done p program.0 s (omega arith) program.1 at in
    d.2.clean (clean_at health ys p d.0 all d.1))

pub all_loadable : {S : Type 0} (content : S → Content) (health : S → Health) (IsSound : S → Type 0) (programs : List Program) (cores : List (Option CoreState)) (xs ys : List S) (m : ManagerState) → IsBegun content health IsSound programs cores xs ys m → All IsLoadable programs
all_loadable content health IsSound programs cores xs ys m b = all_from IsLoadable programs (λ p program at. b.started.loadable p program (inside programs p program at) at)

-- ---- from what the calls of a start say
pub begun_by : {S : Type 0} (content : S → Content) (health : S → Health) (IsSound : S → Type 0) (programs : List Program) (n : ℕ) (cores : List (Option CoreState)) (xs ys : List S) (m : ManagerState) → length programs ≡ n → n ≤ MAX_PROCESSES → length xs ≡ n
    → AreStarted content (clean_in health) IsSound programs n n cores xs ys → IsNew n m → IsManager m → ((i : ℕ) (s : S) → slice_get xs i ≡ Some s → IsTrue (health s).clean → IsSound s) → IsBegun content health IsSound programs cores xs ys m
begun_by content health IsSound programs n cores xs ys m size few stores started fresh manager sound = record {
  few = subst (λ k. k ≤ MAX_PROCESSES) (sym size) few;
  stores = stores ∙ sym size;
  started = subst (λ k. AreStarted content (clean_in health) IsSound programs k k cores xs ys) (sym size) started;
  fresh = subst (λ k. IsNew k m) (sym size) fresh;
  manager = manager;
  sound = sound;
}

pub begun_is : {S : Type 0} (content : S → Content) (health : S → Health) (programs ps : List Program) (n : ℕ) (live : List Entry) (frames : List Message) (cores : List (Option CoreState)) (places : List ProcessState) (rounds : List ℕ) (xs os ys : List S) (m : ManagerState) (since : SinceState) → length programs ≡ n
    → ps ≡ programs → live ≡ [] → frames ≡ [] → places ≡ replicate n ProcessState.Up → rounds ≡ replicate n 0 → os ≡ xs → since ≡ record { before = []; stored = false }
    → begun content health programs cores xs ys m ≡ record { programs = ps; live = live; frames = frames; cores = cores; places = places; rounds = rounds; manager = m; contents = map content ys; health = map health ys; origins = map content os; since = since }
begun_is content health programs ps n live frames cores places rounds xs os ys m since size p l f u r o z =
    ap (λ k. record { programs = programs; live = []; frames = []; cores = cores; places = replicate k ProcessState.Up; rounds = replicate k 0; manager = m; contents = map content ys; health = map health ys; origins = map content xs; since = record { before = []; stored = false } }) size
    ∙ sym (ap (λ k. record { programs = k; live = live; frames = frames; cores = cores; places = places; rounds = rounds; manager = m; contents = map content ys; health = map health ys; origins = map content os; since = record { before = []; stored = false } }) p
    ∙ ap (λ k. record { programs = programs; live = k; frames = frames; cores = cores; places = places; rounds = rounds; manager = m; contents = map content ys; health = map health ys; origins = map content os; since = record { before = []; stored = false } }) l
    ∙ ap (λ k. record { programs = programs; live = []; frames = k; cores = cores; places = places; rounds = rounds; manager = m; contents = map content ys; health = map health ys; origins = map content os; since = record { before = []; stored = false } }) f
    ∙ ap (λ k. record { programs = programs; live = []; frames = []; cores = cores; places = k; rounds = rounds; manager = m; contents = map content ys; health = map health ys; origins = map content os; since = record { before = []; stored = false } }) u
    ∙ ap (λ k. record { programs = programs; live = []; frames = []; cores = cores; places = replicate n ProcessState.Up; rounds = k; manager = m; contents = map content ys; health = map health ys; origins = map content os; since = record { before = []; stored = false } }) r
    ∙ ap (λ k. record { programs = programs; live = []; frames = []; cores = cores; places = replicate n ProcessState.Up; rounds = replicate n 0; manager = m; contents = map content ys; health = map health ys; origins = map content k; since = record { before = []; stored = false } }) o)
    ∙ ap (λ k. record { programs = ps; live = live; frames = frames; cores = cores; places = places; rounds = rounds; manager = m; contents = map content ys; health = map health ys; origins = map content os; since = k }) (sym z)
