-- A failure that is declared, and a join.
use Rattle.std.proofs.Common.{◌≡◌, ◌≢◌, ◌⊎◌, inl, inr, ℕ, zero, suc, ◌≤◌, ◌<◌, List, [], ◌∷◌, length, get_or, set, Option, Some, None, Bool, true, false, Ok, Err, refl, sym, ap, ◌∙◌, subst, arith, length-set}
use Rattle.std.specs.Prelude.{slice_get, slice_index}
use Rattle.std.proofs.lemmas.List.{get_or_default}
use Rattle.om_interval.specs.Starts.{newest_of}
use Rattle.om_process.specs.Core.{CoreState}
use Rattle.om_manager.specs.Gatherings.{presence_of, presences_of}
use Rattle.om_manager.specs.Rounds.{Failing, Fails, Gathers, Joining, MayJoin}
use Rattle.om_manager.specs.steps.Presences.{with_failed, with_joined}
use Rattle.om_manager.specs.State.{ManagerState, released_by}
use Rattle.om_manager.specs.declared.answers.FailError.{FailError}
use Rattle.om_manager.specs.declared.answers.FailError.TheVariants as failing
use Rattle.om_manager.specs.declared.answers.Gathered.{Gathered}
use Rattle.om_manager.specs.declared.answers.JoinError.{JoinError}
use Rattle.om_manager.specs.declared.answers.JoinError.TheVariants as joining
use Rattle.om_manager.specs.declared.presence.Presence.{Presence}
use Rattle.om_manager.specs.declared.presence.Presence.TheVariants.{Away, Failed, Joined}
use Rattle.om_world.specs.declared.entry.Entry.{Entry}
use Rattle.om_world.specs.declared.process_state.ProcessState.{ProcessState}
use Rattle.om_world.specs.Changes.{IsUp}
use Rattle.om_world.specs.Failures.{HasNews, gathered, live_after, since_after}
use Rattle.om_world.specs.World.{WorldState, SinceState, recovered}
use Rattle.om_world.specs.steps.Past.{past_of}
use Rattle.om_world.specs.steps.Gathering.{HasDeclaredAt, HasEntered, HasGathered, IsWhyNot, StandsIn}
use Rattle.om_world.specs.steps.Sound.{HasShape, IsWorld, Runs, Sound, IsBetween, before_of}
use Rattle.om_world.proofs.Gathering.{IsEntering, now_in, running_interval, sound_gathered, are_in}
use Rattle.om_world.proofs.Lists.{at_change, either, inside, once, set_apart, there}
use Rattle.om_world.proofs.Between.{between_finished, between_more}
use Rattle.om_manager.specs.Outputs.{HeldOutput}
use Rattle.om_manager.specs.declared.answers.Gathered.TheVariants.{Waiting, Finished}

-- ---- a process is placed anew
abbrev pub placed : WorldState → ℕ → ProcessState → WorldState
placed w p place = record w { places = set w.places p place }

-- the manager knows more, and what was received may be cut
abbrev pub placed_with : WorldState → ℕ → ProcessState → List Entry → ManagerState → SinceState → WorldState
placed_with w p place live m since = record w { live = live; places = set w.places p place; manager = m; since = since }

-- it is in with its core, or down
record IsOut (w : WorldState) (p : ℕ) (place : ProcessState) : Type 0 where
  pub not_up : place ≡ ProcessState.Up → ⊥
  pub core : place ≡ ProcessState.In → (c : CoreState) × (slice_get w.cores p ≡ Some (Some c))

-- what is known of it there
record IsPlacing (w : WorldState) (p : ℕ) (place : ProcessState) : Type 0 where
  pub not_up : place ≡ ProcessState.Up → ⊥
  pub failed : presence_of (presences_of w.manager.gathering) p ≡ Failed → place ≡ ProcessState.Down true
  pub ran : place ≡ ProcessState.In → Runs w p
  pub inc : place ≡ ProcessState.In → (c : CoreState) → slice_get w.cores p ≡ Some (Some c) → c.inc ≡ newest_of w.manager.starts p
  pub told : place ≡ ProcessState.In → HasNews w p → ⊥
  pub was : (declared : Bool) → place ≡ ProcessState.Down declared → (before : Bool) × (slice_get w.places p ≡ Some (ProcessState.Down before))

pub here : {A : Type 0} (xs : List A) (i : ℕ) (x : A) → i < length xs → slice_get (set xs i x) i ≡ Some x
here [] i x lt = absurd (omega arith)
here (y ∷ xs) zero x lt = refl
here (y ∷ xs) (suc i) x lt = here xs i x (omega arith)

-- where a process stands that stands there after one was placed
stood : (w : WorldState) (p q : ℕ) (place at : ProcessState) → slice_get (set w.places p place) q ≡ Some at → ((q ≡ p) × (place ≡ at)) ⊎ (slice_get w.places q ≡ Some at)
stood w p q place at is = elim (at_change w.places p q at place is) [ inl mine ↦ inl (mine.0, sym mine.1) | inr other ↦ inr other.1 ]

ran_before : (w : WorldState) (p q : ℕ) (place : ProcessState) → IsPlacing w p place → Runs (placed w p place) q → Runs w q
ran_before w p q place k runs = elim runs [
  | inl up ↦ elim (stood w p q place ProcessState.Up up) [ inl mine ↦ absurd (k.not_up mine.1) | inr old ↦ inl old ]
  | inr stays ↦ elim (stood w p q place ProcessState.In stays.0) [ inl mine ↦ subst (Runs w) (sym mine.0) (k.ran mine.1) | inr old ↦ inr (old, stays.1) ]
]

shape_placed : (w : WorldState) (p : ℕ) (place : ProcessState) → HasShape w → IsOut w p place → HasShape (placed w p place)
shape_placed w p place h k = record {
  few = h.few;
  stores = h.stores;
  cores = h.cores;
  places = length-set w.places p place ∙ h.places;
  own = h.own;
  rounds = h.rounds;
  there = λ q up. elim (stood w p q place ProcessState.Up up) [ inl mine ↦ absurd (k.not_up mine.1) | inr old ↦ h.there q old ];
  inside = λ q joined. elim (stood w p q place ProcessState.In joined) [
    | inl mine ↦ subst (λ o. (c : CoreState) × (slice_get w.cores o ≡ Some (Some c))) (sym mine.0) (k.core mine.1)
    | inr old ↦ h.inside q old
  ];
  manager = h.manager;
  size = h.size;
}

sound_placed : (w : WorldState) (p : ℕ) (place : ProcessState) → p < length w.places → Sound w → IsPlacing w p place → Sound (placed w p place)
sound_placed w p place lt s k = record {
  legal = s.legal;
  frames = s.frames;
  outputs = s.outputs;
  rows = s.rows;
  stored = s.stored;
  backed = s.backed;
  running = λ q c held at holds runs. s.running q c held at holds (ran_before w p q place k runs);
  up = λ q c at up. elim (stood w p q place ProcessState.Up up) [ inl mine ↦ absurd (k.not_up mine.1) | inr old ↦ s.up q c at old ];
  joined = s.joined;
  failed = λ q is. elim (either q p) [
    | inl mine ↦ ap (slice_get (set w.places p place)) mine ∙ here w.places p place lt ∙ ap (λ a. Some a) (k.failed (ap (presence_of (presences_of w.manager.gathering)) (sym mine) ∙ is))
    | inr other ↦ set_apart w.places p q place other ∙ s.failed q is
  ];
  gathered = s.gathered;
  current = λ q up. elim (stood w p q place ProcessState.Up up) [ inl mine ↦ absurd (k.not_up mine.1) | inr old ↦ s.current q old ];
  known = s.known;
  ends = λ q declared held at old holds. elim (stood w p q place (ProcessState.Down declared) at) [
    | inl mine ↦ let before = k.was declared mine.1 in s.ends q before.0 held (subst (λ o. slice_get w.places o ≡ Some (ProcessState.Down before.0)) (sym mine.0) before.1) old holds
    | inr was ↦ s.ends q declared held was old holds
  ];
  behind = s.behind;
  inside = λ q c at joined runs. elim (stood w p q place ProcessState.In joined) [
    | inl mine ↦ k.inc mine.1 c (subst (λ o. slice_get w.cores o ≡ Some (Some c)) mine.0 at) ∙ ap (newest_of w.manager.starts) (sym mine.0)
    | inr old ↦ s.inside q c at old (ran_before w p q place k runs)
  ];
  beyond = λ q c at joined news back. elim (stood w p q place ProcessState.In joined) [
    | inl mine ↦ absurd (k.told mine.1 (subst (HasNews w) mine.0 news))
    | inr old ↦ s.beyond q c at old news back
  ];
}

-- ---- and the manager takes it in
-- what is known of a process that was placed, and that the manager has taken in
record IsTakenIn (w : WorldState) (p : ℕ) (place : ProcessState) (x : Presence) (told : Gathered) (m : ManagerState) : Type 0 where
  pub placing : IsPlacing w p place
  pub entering : IsEntering (placed w p place) p x
  pub gathers : Gathers (now_in w p x) w.manager told m

between_gathered : (w : WorldState) (p : ℕ) (x : Presence) (told : Gathered) (m : ManagerState) → HasShape w → Sound w → IsEntering w p x → Gathers (now_in w p x) w.manager told m → (w.since.stored ≡ false → IsBetween (before_of w) w.live w.contents)
    → (gathered w told m).since.stored ≡ false → IsBetween (before_of (gathered w told m)) (gathered w told m).live (gathered w told m).contents
between_gathered w p x Waiting m h s e g old free = between_more (before_of w) m w.live w.contents (λ q. ap (λ (k : ManagerState). recovered k q) g.1) (λ q lt. no_less (released_by w.manager q) (released_by m q) (ap (λ (k : ManagerState). released_by k q) g.1)) (old free)
  where
    no_less : (xs ys : List HeldOutput) → ys ≡ xs → length xs ≤ length ys
    no_less xs ys is = let same = ap length is in omega arith
between_gathered w p x Finished m h s e g old free = between_finished w (now_in w p x) m (record { shape = h; sound = s; known = are_in w p x h s e; all = g.0; done = g.1 })

after_gather : {S E : Type 0} (IsSound : S → Type 0) (xs : List S) (w : WorldState) (p : ℕ) (place : ProcessState) (x : Presence) (told : Gathered) (m : ManagerState) (live : List Entry) (since : SinceState) → IsWorld IsSound xs w → p < length w.places
    → IsOut w p place → (Sound w → IsTakenIn w p place x told m) → HasGathered {E = E} w.manager w.live (Ok told) m live → since ≡ since_after told w.live w.since → IsWorld IsSound xs (placed_with w p place live m since)
after_gather IsSound xs w p place x told m live since i lt k takes g kept =
    subst (λ l. IsWorld IsSound xs (placed_with w p place l m since)) (sym g.live) (subst (λ z. IsWorld IsSound xs (placed_with w p place (live_after told w.manager w.live) m z)) (sym kept) (record {
      shape = let h = shape_placed w p place i.shape k in record { few = h.few; stores = h.stores; cores = h.cores; places = h.places; own = h.own; rounds = h.rounds; there = h.there; inside = h.inside; manager = g.sound; size = g.size ∙ h.size };
      clean = λ known. let s = i.clean known in let t = takes s.1 in (s.0, sound_gathered (placed w p place) p x told m (shape_placed w p place i.shape k) (sound_placed w p place lt s.1 t.placing) t.entering t.gathers);
      between = λ known free.
          let s = i.clean known in let t = takes s.1 in
          between_gathered (placed w p place) p x told m (shape_placed w p place i.shape k) (sound_placed w p place lt s.1 t.placing) t.entering t.gathers (i.between known) free;
    }))

-- ---- a failure
other_place : (o : Option ProcessState) (a : Bool) (b : ProcessState) → o ≡ Some (ProcessState.Down a) → o ≡ Some b → ProcessState.Down a ≡ b
other_place o a b e f = once (ProcessState.Down a) b (sym e ∙ f)

down_up : (a : Bool) → ProcessState.Down a ≡ ProcessState.Up → ⊥
down_up a e = cc

down_in : (a : Bool) → ProcessState.Down a ≡ ProcessState.In → ⊥
down_in a e = cc

undeclared : ProcessState.Down false ≡ ProcessState.Down true → ⊥
undeclared e = cc

failed_joined : (x : ℕ) → Failed ≡ Joined x → ⊥
failed_joined x e = cc

placing_down : (w : WorldState) (p : ℕ) → slice_get w.places p ≡ Some (ProcessState.Down false) → IsPlacing w p (ProcessState.Down true)
placing_down w p at = record {
  not_up = λ e. down_up true e;
  failed = λ e. refl;
  ran = λ e. absurd (down_in true e);
  inc = λ e. absurd (down_in true e);
  told = λ e. absurd (down_in true e);
  was = λ declared e. (false, at);
}

entering_failed : (w : WorldState) (p : ℕ) → p < length w.places → slice_index w.rounds p ≡ w.manager.round → IsEntering (placed w p (ProcessState.Down true)) p Failed
entering_failed w p lt round = record {
  not_up = λ up. down_up true (other_place (slice_get (set w.places p (ProcessState.Down true)) p) true ProcessState.Up (here w.places p (ProcessState.Down true) lt) up);
  round = round;
  failed = λ e. here w.places p (ProcessState.Down true) lt;
  joined = λ x e. absurd (failed_joined x e);
}

-- the round that is read at a process's place
pub round_at : (w : WorldState) (p n : ℕ) (place : ProcessState) → HasShape w → slice_get w.places p ≡ Some place → n ≡ get_or w.rounds p n → n ≡ slice_index w.rounds p
round_at w p n place h at read = let lt = inside w.places p place at in let long = h.places in let many = h.rounds in read ∙ get_or_default w.rounds p n 0 (omega arith)

-- a process whose failure was not declared has not failed in the gathering
not_failed : (w : WorldState) (p : ℕ) → Sound w → slice_get w.places p ≡ Some (ProcessState.Down false) → presence_of (presences_of w.manager.gathering) p ≡ Failed → ⊥
not_failed w p s at is = undeclared (other_place (slice_get w.places p) false (ProcessState.Down true) at (s.failed p is))

first_failed : (w : WorldState) (p : ℕ) (told : Gathered) (m : ManagerState) → Sound w → slice_get w.places p ≡ Some (ProcessState.Down false) → Fails w.manager p told m → Gathers (with_failed w.manager p) w.manager told m
first_failed w p told m s at (Fails.first new g) = g
first_failed w p told m s at (Fails.again is e same) = absurd (not_failed w p s at is)

pub after_declare : {S : Type 0} (IsSound : S → Type 0) (xs : List S) (w : WorldState) (p round : ℕ) (told : Gathered) (m : ManagerState) (live : List Entry) (since : SinceState) → IsWorld IsSound xs w → slice_get w.places p ≡ Some (ProcessState.Down false)
    → round ≡ slice_index w.rounds p → Failing w.manager p round (Ok told) m → HasGathered {E = FailError} w.manager w.live (Ok told) m live → since ≡ since_after told w.live w.since → IsWorld IsSound xs (placed_with w p (ProcessState.Down true) live m since)
after_declare IsSound xs w p round told m live since i at is f g kept =
    let lt = inside w.places p (ProcessState.Down false) at in
    after_gather IsSound xs w p (ProcessState.Down true) Failed told m live since i lt (record { not_up = λ e. down_up true e; core = λ e. absurd (down_in true e) })
    (λ s. record { placing = placing_down w p at; entering = entering_failed w p lt (sym is ∙ f.0.in_round); gathers = first_failed w p told m s at f.2 }) g kept

pub has_declared : {S : Type 0} (IsSound : S → Type 0) (xs : List S) (w : WorldState) (p round : ℕ) (told : Gathered) (m : ManagerState) (live : List Entry) (since : SinceState) → IsWorld IsSound xs w → slice_get w.places p ≡ Some (ProcessState.Down false)
    → Failing w.manager p round (Ok told) m → HasGathered {E = FailError} w.manager w.live (Ok told) m live → since ≡ since_after told w.live w.since → HasDeclaredAt w p (Ok told) (placed_with w p (ProcessState.Down true) live m since)
has_declared IsSound xs w p round told m live since i at f g kept = record {
  size = g.size;
  released = g.released;
  others = ap (λ l. placed_with w p (ProcessState.Down true) l m since) g.live ∙ ap (λ z. placed_with w p (ProcessState.Down true) (live_after told w.manager w.live) m z) kept;
  manager = λ known. first_failed w p told m (i.clean known).1 at f.2;
  refused = tt;
  why = λ known old. tt;
}

same_manager : (m new : ManagerState) (p round : ℕ) (fault : FailError) → Failing m p round (Err fault) new → new ≡ m
same_manager m new p round failing.Stranger f = f.1
same_manager m new p round (failing.Stale told) f = f.3
same_manager m new p round failing.Spent f = f.2
same_manager m new p round failing.Memory f = f.4

why_not : (w : WorldState) (new : ManagerState) (p round : ℕ) (fault : FailError) → HasShape w → Sound w → p < length w.places → round ≡ slice_index w.rounds p → (HasNews w p → ⊥) → Failing w.manager p round (Err fault) new → IsWhyNot fault w.manager p
why_not w new p round failing.Stranger h s lt is old f = let size = h.size in let long = h.places in let ge = f.0 in absurd (omega arith)
why_not w new p round (failing.Stale told) h s lt is old f = let le = s.known p in absurd (f.1 (is ∙ same (slice_index w.rounds p) w.manager.round le old))
  where
    same : (a b : ℕ) → a ≤ b → (a < b → ⊥) → a ≡ b
    same a b le never = grind arith
why_not w new p round failing.Spent h s lt is old f = f.1
why_not w new p round failing.Memory h s lt is old f = f.3

pub not_declared : {S : Type 0} (IsSound : S → Type 0) (xs : List S) (w : WorldState) (p round : ℕ) (fault : FailError) (m : ManagerState) (live : List Entry) → IsWorld IsSound xs w → slice_get w.places p ≡ Some (ProcessState.Down false)
    → round ≡ slice_index w.rounds p → Failing w.manager p round (Err fault) m → HasGathered {E = FailError} w.manager w.live (Err fault) m live → HasDeclaredAt w p (Err fault) (record w { live = live; manager = m })
not_declared IsSound xs w p round fault m live i at is f g =
    let lt = inside w.places p (ProcessState.Down false) at in
    record {
      size = g.size;
      released = g.released;
      others = tt;
      manager = λ known. tt;
      refused = ap (λ l. record w { live = l; manager = m }) g.refused ∙ ap (λ (k : ManagerState). record w { manager = k }) (same_manager w.manager m p round fault f);
      why = λ known old. why_not w m p round fault i.shape (i.clean known).1 lt is old f;
    }

-- ---- a join
in_up : ProcessState.In ≡ ProcessState.Up → ⊥
in_up e = cc

away_failed : (a : Presence) → a ≡ Away → a ≡ Failed → ⊥
away_failed a e f = cc

joined_failed : (x : ℕ) → Joined x ≡ Failed → ⊥
joined_failed x e = cc

same_joined : (x y : ℕ) → Joined x ≡ Joined y → x ≡ y
same_joined x y e = cc

joins : (w : WorldState) (p : ℕ) (c : CoreState) (told : Gathered) (m : ManagerState) → HasShape w → Sound w → IsUp w p → slice_get w.cores p ≡ Some (Some c) → MayJoin w.manager p c.round → Gathers (with_joined w.manager p c.now.interval) w.manager told m
    → IsTakenIn w p ProcessState.In (Joined c.now.interval) told m
joins w p c told m h s up at may g =
    let lt = inside w.places p ProcessState.Up up in
    let u = s.up p c at up in
    let current = s.current p up in
    let long = h.places in let stores = h.stores in
    let store = there w.contents p (omega arith) in
    let interval = running_interval (past_of w) p store.0 c (s.running p c store.0 at store.1 (inl up)) in
    record {
      placing = record {
        not_up = λ e. in_up e;
        failed = λ e. absurd (away_failed (presence_of (presences_of w.manager.gathering) p) may.away e);
        ran = λ e. inl up;
        inc = λ e d f. ap (λ (x : CoreState). x.inc) (same_core (slice_get w.cores p) d c f at) ∙ u.inc;
        told = λ e news. less_not (slice_index w.rounds p) w.manager.round current news;
        was = λ declared e. absurd (down_in declared (sym e));
      };
      entering = record {
        not_up = λ e. in_up (once ProcessState.In ProcessState.Up (sym (here w.places p ProcessState.In lt) ∙ e));
        round = current;
        failed = λ e. absurd (joined_failed c.now.interval e);
        joined = λ y e. sym (same_joined c.now.interval y e) ∙ interval;
      };
      gathers = g;
    }
  where
    less_not : (a b : ℕ) → a ≡ b → a < b → ⊥
    less_not a b e lt = omega arith

    same_core : (o : Option (Option CoreState)) (d e : CoreState) → o ≡ Some (Some d) → o ≡ Some (Some e) → d ≡ e
    same_core o d e f g = once d e (once (Some d) (Some e) (sym f ∙ g))

pub after_join : {S : Type 0} (IsSound : S → Type 0) (xs : List S) (w : WorldState) (p : ℕ) (at : ℕ × ℕ) (told : Gathered) (m : ManagerState) (live : List Entry) (since : SinceState) → IsWorld IsSound xs w → IsUp w p → StandsIn w.cores p at
    → Joining w.manager p at.0 at.1 (Ok told) m → HasGathered {E = JoinError} w.manager w.live (Ok told) m live → since ≡ since_after told w.live w.since → IsWorld IsSound xs (placed_with w p ProcessState.In live m since)
after_join IsSound xs w p at told m live since i up stands j g kept =
    let lt = inside w.places p ProcessState.Up up in
    let c = stands.0 in
    let may = subst (MayJoin w.manager p) stands.2 j.0 in
    let gathers = subst (λ x. Gathers (with_joined w.manager p x) w.manager told m) stands.3 j.1 in
    after_gather IsSound xs w p ProcessState.In (Joined c.now.interval) told m live since i lt (record { not_up = λ e. in_up e; core = λ e. (c, stands.1) }) (λ s. joins w p c told m i.shape s up stands.1 may gathers) g kept

pub has_entered : (w : WorldState) (p : ℕ) (at : ℕ × ℕ) (told : Gathered) (m : ManagerState) (live : List Entry) (since : SinceState) → StandsIn w.cores p at → Joining w.manager p at.0 at.1 (Ok told) m → HasGathered {E = JoinError} w.manager w.live (Ok told) m live → since ≡ since_after told w.live w.since
    → HasEntered w p (Ok told) (placed_with w p ProcessState.In live m since)
has_entered w p at told m live since stands j g kept = record {
  size = g.size;
  released = g.released;
  core = stands.0;
  there = stands.1;
  others = ap (λ l. placed_with w p ProcessState.In l m since) g.live ∙ ap (λ z. placed_with w p ProcessState.In (live_after told w.manager w.live) m z) kept;
  manager = subst (λ x. Gathers (with_joined w.manager p x) w.manager told m) stands.3 j.1;
  refused = tt;
  memory = λ known opened. tt;
}

same_joining : (m new : ManagerState) (p round current : ℕ) (fault : JoinError) → Joining m p round current (Err fault) new → new ≡ m
same_joining m new p round current joining.Stranger j = j.1
same_joining m new p round current (joining.Stale told) j = j.3
same_joining m new p round current joining.NoRound j = j.2
same_joining m new p round current joining.Joined j = j.3
same_joining m new p round current joining.Memory j = j.2

for_memory : (w : WorldState) (new : ManagerState) (p round current : ℕ) (c : CoreState) (fault : JoinError) → HasShape w → Sound w → IsUp w p → slice_get w.cores p ≡ Some (Some c) → round ≡ c.round → w.manager.gathering ≢ None
    → Joining w.manager p round current (Err fault) new → fault ≡ joining.Memory
for_memory w new p round current c joining.Stranger h s up at is opened j = let lt = inside w.places p ProcessState.Up up in let size = h.size in let long = h.places in let ge = j.0 in absurd (omega arith)
for_memory w new p round current c (joining.Stale told) h s up at is opened j = absurd (j.1 (is ∙ (s.up p c at up).round))
for_memory w new p round current c joining.NoRound h s up at is opened j = absurd (opened j.1)
for_memory w new p round current c joining.Joined h s up at is opened j = absurd (j.2 (s.up p c at up).away)
for_memory w new p round current c joining.Memory h s up at is opened j = refl

pub not_entered : {S : Type 0} (IsSound : S → Type 0) (xs : List S) (w : WorldState) (p : ℕ) (at : ℕ × ℕ) (fault : JoinError) (m : ManagerState) (live : List Entry) → IsWorld IsSound xs w → IsUp w p → StandsIn w.cores p at
    → Joining w.manager p at.0 at.1 (Err fault) m → HasGathered {E = JoinError} w.manager w.live (Err fault) m live → HasEntered w p (Err fault) (record w { live = live; manager = m })
not_entered IsSound xs w p at fault m live i up stands j g = record {
  size = g.size;
  released = g.released;
  core = stands.0;
  there = stands.1;
  others = tt;
  manager = tt;
  refused = ap (λ l. record w { live = l; manager = m }) g.refused ∙ ap (λ (k : ManagerState). record w { manager = k }) (same_joining w.manager m p at.0 at.1 fault j);
  memory = λ known opened. for_memory w m p at.0 at.1 stands.0 fault i.shape (i.clean known).1 up stands.1 stands.2 opened j;
}
