-- Members that are started one after another.
use Rattle.std.proofs.Common.{◌≡◌, ℕ, zero, suc, ◌+◌, ◌<◌, List, [], ◌∷◌, ◌++◌, length, map, set, drop, get_or, replicate, Some, Bool, Ok, Err, refl, sym, ap, ◌∙◌, subst, arith}
use Rattle.std.proofs.lemmas.List.FromFn.{get_or-enumerate_from, length-enumerate_from}
use Rattle.std.proofs.lemmas.Option.{slice_get_read}
use Rattle.std.specs.List.{AllByRecursion, enumerate_from}
use Rattle.std.specs.Prelude.{slice_get}
use Rattle.om_format.specs.declared.message.Message.{Message}
use Rattle.om_stable.specs.Content.{Content}
use Rattle.om_process.specs.Core.{CoreState}
use Rattle.om_process.specs.Process.{Program}
use Rattle.om_process.specs.declared.start.StartFault.{StartFault}
use Rattle.om_manager.specs.State.{ManagerState}
use Rattle.om_member.specs.Members.{core_of}
use Rattle.om_member.specs.declared.member.Member.{Member}
use Rattle.om_member.specs.declared.member.MemberState.TheVariants as stands
use Rattle.om_world.specs.declared.entry.Entry.{Entry}
use Rattle.om_world.specs.declared.process_state.ProcessState.{ProcessState}
use Rattle.om_world.specs.Started.{IsRefusedAt}
use Rattle.om_world.specs.World.{Health, WorldState}
use Rattle.om_world.specs.steps.Members.{Besides, core_in, place_in, place_of, round_in, seen, sound_in, store_in}
use Rattle.om_world.specs.steps.Sound.{IsWorld}
use Rattle.om_world.specs.steps.Starting.{AreSeated, AreStarted, IsStart}
use Rattle.om_world.proofs.Lists.{length-map, none_in}
use Rattle.om_world.proofs.Seats.{world_is}
use Rattle.om_world.proofs.Starting.{none_started, one_started, refused_at}

-- ---- lists
at_rest : {A : Type 0} (ys xs : List A) (x : A) → slice_get xs (length ys) ≡ Some x → slice_get (ys ++ drop (length ys) xs) (length ys) ≡ Some x
at_rest [] xs x e = e
at_rest (y ∷ ys) [] x e = absurd (none_in (length (y ∷ ys)) x e)
at_rest (y ∷ ys) (z ∷ xs) x e = at_rest ys xs x e

set_rest : {A : Type 0} (ys xs : List A) (x new : A) → slice_get xs (length ys) ≡ Some x → set (ys ++ drop (length ys) xs) (length ys) new ≡ (ys ++ new ∷ []) ++ drop (suc (length ys)) xs
set_rest [] [] x new e = absurd (none_in 0 x e)
set_rest [] (z ∷ xs) x new e = refl
set_rest (y ∷ ys) [] x new e = absurd (none_in (length (y ∷ ys)) x e)
set_rest (y ∷ ys) (z ∷ xs) x new e = ap (λ l. y ∷ l) (set_rest ys xs x new e)

map_push : {A B : Type 0} (f : A → B) (xs : List A) (x : A) → map f (xs ++ x ∷ []) ≡ map f xs ++ f x ∷ []
map_push f [] x = refl
map_push f (y ∷ xs) x = ap (λ l. f y ∷ l) (map_push f xs x)

replicate_push : {A : Type 0} (k : ℕ) (x : A) → replicate k x ++ x ∷ [] ≡ replicate (suc k) x
replicate_push zero x = refl
replicate_push (suc k) x = ap (λ l. x ∷ l) (replicate_push k x)

drop_all : {A : Type 0} (xs : List A) → drop (length xs) xs ≡ []
drop_all [] = refl
drop_all (x ∷ xs) = drop_all xs

append_none : {A : Type 0} (xs : List A) → xs ++ [] ≡ xs
append_none [] = refl
append_none (x ∷ xs) = ap (λ l. x ∷ l) (append_none xs)

more : (k : ℕ) → suc k ≡ k + 1
more k = omega arith

map_in : {S X : Type 0} (f : S → X) (ms : List (Member S)) → map f (map store_in ms) ≡ map (λ m. f m.store) ms
map_in f [] = refl
map_in f (m ∷ ms) = ap (λ l. f m.store ∷ l) (map_in f ms)

-- the turn of a loop over a list with numbers
pub turn_at : {X : Type 0} (xs : List X) (k i : ℕ) (x : X) → (k < length (enumerate_from 0 xs)) × ((i, x) ≡ get_or (enumerate_from 0 xs) k (i, x)) → (i ≡ k) × (slice_get xs i ≡ Some x)
turn_at {X = X} xs k i x turn =
    let lt : k < length xs = subst (λ n. k < n) (length-enumerate_from 0 xs) turn.0 in
    let number : i ≡ 0 + k = ap (λ (p : ℕ × X). p.0) (turn.1 ∙ get_or-enumerate_from 0 xs k (i, x) lt) in
    let item : x ≡ get_or xs k x = ap (λ (p : ℕ × X). p.1) (turn.1 ∙ get_or-enumerate_from 0 xs k (i, x) lt) in
    let here : i ≡ k = omega (arith, number) in
    (here, subst (λ j. slice_get xs j ≡ Some x) (sym here) (slice_get_read xs (length xs) k x refl lt item))

-- ---- one more
pub none_seated : {S : Type 0} (content : S → Content) (is_clean : S → Bool) (IsSound : S → Type 0) (programs : List Program) (n : ℕ) (stores : List S) → AreSeated content is_clean IsSound programs n 0 stores []
none_seated content is_clean IsSound programs n stores = record { started = none_started content is_clean IsSound programs n stores; places = refl; rounds = refl }

module _ {S : Type 0} (content : S → Content) (failed : S → ℕ) (is_clean : S → Bool) (IsSound : S → Type 0) (programs : List Program) (n k : ℕ) (stores : List S) (ms : List (Member S)) (a : AreSeated content is_clean IsSound programs n k stores ms)
    (program : Program) (at_program : slice_get programs k ≡ Some program) (before after : S) (at_store : slice_get stores k ≡ Some before) where
  long : length (map store_in ms) ≡ k
  long = length-map store_in ms ∙ sym (length-map core_in ms) ∙ a.started.many

  here : slice_get stores (length (map store_in ms)) ≡ Some before
  here = subst (λ j. slice_get stores j ≡ Some before) (sym long) at_store

  begun : slice_get (map store_in ms ++ drop k stores) k ≡ Some before
  begun = subst (λ j. slice_get (map store_in ms ++ drop j stores) j ≡ Some before) long (at_rest (map store_in ms) stores before here)

  pub one_seated : (core : CoreState) → IsStart content failed is_clean IsSound program k n before after (Ok core) → (m : Member S) → m.standing ≡ stands.Up core → m.round ≡ 0 → m.store ≡ after
      → AreSeated content is_clean IsSound programs n (k + 1) stores (ms ++ m ∷ [])
  one_seated core s m up round store = record {
    started =
        subst (λ l. AreStarted content is_clean IsSound programs n (k + 1) l stores (map store_in (ms ++ m ∷ []) ++ drop (k + 1) stores)) (sym (map_push core_in ms m ∙ ap (λ x. map core_in ms ++ core_of x ∷ []) up))
        (subst (AreStarted content is_clean IsSound programs n (k + 1) (map core_in ms ++ Some core ∷ []) stores) stores_are
        (one_started content failed is_clean IsSound programs n k (map core_in ms) stores (map store_in ms ++ drop k stores) before after program core at_program a.started begun s));
    places = map_push place_in ms m ∙ ap (λ x. map place_in ms ++ place_of x ∷ []) up ∙ ap (λ l. l ++ ProcessState.Up ∷ []) a.places ∙ replicate_push k ProcessState.Up ∙ ap (λ j. replicate j ProcessState.Up) (more k);
    rounds = map_push round_in ms m ∙ ap (λ x. map round_in ms ++ x ∷ []) round ∙ ap (λ l. l ++ 0 ∷ []) a.rounds ∙ replicate_push k 0 ∙ ap (λ j. replicate j 0) (more k);
  }
    where
      stores_are : set (map store_in ms ++ drop k stores) k after ≡ map store_in (ms ++ m ∷ []) ++ drop (k + 1) stores
      stores_are =
          subst (λ j. set (map store_in ms ++ drop j stores) j after ≡ (map store_in ms ++ after ∷ []) ++ drop (suc j) stores) long (set_rest (map store_in ms) stores before after here)
          ∙ ap (λ l. l ++ drop (suc k) stores) (ap (λ x. map store_in ms ++ x ∷ []) (sym store) ∙ sym (map_push store_in ms m))
          ∙ ap (λ j. map store_in (ms ++ m ∷ []) ++ drop j stores) (more k)

  pub not_seated : (why : StartFault) → IsStart content failed is_clean IsSound program k n before after (Err why) → IsRefusedAt content failed is_clean IsSound programs stores why
  not_seated why s = refused_at content failed is_clean IsSound programs n k (map core_in ms) stores (map store_in ms ++ drop k stores) before after program why at_program a.started begun s

-- ---- all of them
pub all_seated : {S : Type 0} (content : S → Content) (is_clean : S → Bool) (IsSound : S → Type 0) (programs : List Program) (n : ℕ) (stores : List S) (ms : List (Member S)) → length stores ≡ n → AreSeated content is_clean IsSound programs n n stores ms
    → AreStarted content is_clean IsSound programs n n (map core_in ms) stores (map store_in ms)
all_seated content is_clean IsSound programs n stores ms long a =
    subst (AreStarted content is_clean IsSound programs n n (map core_in ms) stores) (ap (λ j. map store_in ms ++ drop j stores) (sym long) ∙ ap (λ l. map store_in ms ++ l) (drop_all stores) ∙ append_none (map store_in ms)) a.started

pub sound_seated : {S : Type 0} (IsSound : S → Type 0) (ms : List (Member S)) → AllByRecursion IsSound (map store_in ms) → AllByRecursion (sound_in IsSound) ms
sound_seated IsSound [] all = tt
sound_seated IsSound (m ∷ ms) all = (all.0, sound_seated IsSound ms all.1)

pub world_seated : {S : Type 0} (IsSound : S → Type 0) (ms : List (Member S)) (w : WorldState) → IsWorld IsSound (map store_in ms) w → IsWorld (sound_in IsSound) ms w
world_seated IsSound ms w i = record { shape = i.shape; clean = λ known. let s = i.clean known in (sound_seated IsSound ms s.0, s.1); between = i.between }

-- the parts of a world at its start are what is seen of its members
pub seen_begun : {S : Type 0} (content : S → Content) (health : S → Health) (P : List Program) (L : List Entry) (F : List Message) (ms : List (Member S)) (M : ManagerState) (O : Besides)
    → record { programs = P; live = L; frames = F; cores = map core_in ms; places = map place_in ms; rounds = map round_in ms; manager = M; contents = map content (map store_in ms); health = map health (map store_in ms); origins = O.origins; since = O.since } ≡ seen content health P L F ms M O
seen_begun content health P L F ms M O =
    world_is (record { programs = P; live = L; frames = F; cores = map core_in ms; places = map place_in ms; rounds = map round_in ms; manager = M; contents = map content (map store_in ms); health = map health (map store_in ms); origins = O.origins; since = O.since }) (seen content health P L F ms M O)
    refl refl refl refl refl refl refl (map_in content ms) (map_in health ms) refl refl
