-- Processes that fail one after another.
use Rattle.std.proofs.Common.{◌≡◌, ◌≢◌, ◌⊎◌, inl, inr, ℕ, zero, suc, ◌+◌, ◌<◌, ◌≤◌, List, [], ◌∷◌, length, set, replicate, Some, Ok, Err, refl, sym, ap, ◌∙◌, subst, arith, length-set}
use Rattle.std.proofs.lemmas.List.{length-replicate}
use Rattle.om_interval.specs.declared.pid.TheConstants.{MAX_PROCESSES}
use Rattle.om_manager.specs.Gatherings.{AreAllIn, presence_of, presences_of}
use Rattle.om_manager.specs.Rounds.{Failing, Gathers, again, first, gathering_with, with_presence}
use Rattle.om_manager.specs.Sound.{IsManager}
use Rattle.om_manager.specs.State.{ManagerState, process_count}
use Rattle.om_manager.specs.declared.answers.FailError.{FailError}
use Rattle.om_manager.specs.declared.answers.FailError.TheVariants as failing
use Rattle.om_manager.specs.declared.answers.Gathered.{Gathered}
use Rattle.om_manager.specs.declared.answers.Gathered.TheVariants.{Finished, Waiting}
use Rattle.om_manager.specs.declared.presence.Presence.{Presence}
use Rattle.om_manager.specs.declared.presence.Presence.TheVariants.{Away, Failed}
use Rattle.om_take_up.specs.Anew.{EachFailed, IsBefore, OnlyFailed}
use Rattle.om_take_up.specs.steps.Failing.{AreFailed}

-- ---- who is in
pub none_away : (n q : ℕ) → presence_of (replicate n Away) q ≡ Away
none_away zero q = refl
none_away (suc n) zero = refl
none_away (suc n) (suc q) = none_away n q

pub set_at : (l : List Presence) (p : ℕ) (x : Presence) → p < length l → presence_of (set l p x) p ≡ x
set_at [] p x lt = absurd (omega arith)
set_at (y ∷ l) zero x lt = refl
set_at (y ∷ l) (suc p) x lt = set_at l p x (omega arith)

pub set_off : (l : List Presence) (p q : ℕ) (x : Presence) → q ≢ p → presence_of (set l p x) q ≡ presence_of l q
set_off [] p q x other = refl
set_off (y ∷ l) zero zero x other = absurd (other refl)
set_off (y ∷ l) zero (suc q) x other = refl
set_off (y ∷ l) (suc p) zero x other = refl
set_off (y ∷ l) (suc p) (suc q) x other = set_off l p q x (λ e. other (ap suc e))

away_failed : (a : Presence) → a ≡ Away → a ≡ Failed → ⊥
away_failed a e f = cc

failed_away : (a : Presence) → a ≡ Failed → a ≡ Away → ⊥
failed_away a e f = cc

-- ---- none has failed
pub none_failed : (m : ManagerState) → IsManager m → IsBefore m → AreFailed m 0 m
none_failed m sound b = record {
  sound = sound;
  others = refl;
  places = ap (λ g. length (presences_of g)) b.gathering ∙ length-replicate MAX_PROCESSES Away;
  failed = λ p lt. absurd (omega arith);
  away = λ p le. ap (λ g. presence_of (presences_of g) p) b.gathering ∙ none_away MAX_PROCESSES p;
}

-- ---- a failure is refused for memory alone
pub for_memory : (old m new : ManagerState) (p : ℕ) (fault : FailError) → IsBefore old → AreFailed old p m → p < process_count old → Failing m p 0 (Err fault) new → fault ≡ failing.Memory
for_memory old m new p fault b a lt f = by fault f
  where
    round : m.round ≡ 0
    round = ap (λ (k : ManagerState). k.round) a.others ∙ b.round

    size : process_count m ≡ process_count old
    size = ap process_count a.others

    by : (fault : FailError) → Failing m p 0 (Err fault) new → fault ≡ failing.Memory
    by failing.Stranger f = let ge = f.0 in let many = size in absurd (omega arith)
    by (failing.Stale told) f = absurd (f.1 (sym round))
    by failing.Spent f = absurd (far m.round round f.1.last_round)
      where
        far : (r : ℕ) → r ≡ 0 → r ≡ 4294967295 → ⊥
        far r e g = omega arith
    by failing.Memory f = refl

-- ---- one more, with which all are in or not
with_one : (old m : ManagerState) (p n : ℕ) → AreFailed old p m → p < MAX_PROCESSES → p < n → OnlyFailed n (with_presence m p Failed)
with_one old m p n a few small q some = by (nat_either q p)
  where
    nat_either : (q p : ℕ) → (q < p) ⊎ ((q ≡ p) ⊎ (p < q))
    nat_either q p = grind arith

    by : (q < p) ⊎ ((q ≡ p) ⊎ (p < q)) → (q < n) × (presence_of (with_presence m p Failed) q ≡ Failed)
    by (inl lt) = (omega arith, set_off (presences_of m.gathering) p q Failed (λ e. absurd (omega arith)) ∙ a.failed q lt)
    by (inr (inl is)) = (omega arith, ap (presence_of (with_presence m p Failed)) is ∙ set_at (presences_of m.gathering) p Failed (let long = a.places in omega arith))
    by (inr (inr gt)) = absurd (some (set_off (presences_of m.gathering) p q Failed (λ e. absurd (omega arith)) ∙ a.away q (omega arith)))

-- with the last, all are in
all_with_last : (old m : ManagerState) (p : ℕ) → AreFailed old p m → p < MAX_PROCESSES → AreAllIn (p + 1) (with_presence m p Failed)
all_with_last old m p a few q lt away = failed_away (presence_of (with_presence m p Failed) q) (by (either q p)) away
  where
    either : (q p : ℕ) → (q ≡ p) ⊎ (q ≢ p)
    either q p = grind arith

    by : (q ≡ p) ⊎ (q ≢ p) → presence_of (with_presence m p Failed) q ≡ Failed
    by (inl is) = ap (presence_of (with_presence m p Failed)) is ∙ set_at (presences_of m.gathering) p Failed (let long = a.places in omega arith)
    by (inr other) = set_off (presences_of m.gathering) p q Failed other ∙ a.failed q (omega arith)

-- before the last, one is not in
not_all : (old m : ManagerState) (p n : ℕ) → AreFailed old p m → p + 1 < n → AreAllIn n (with_presence m p Failed) → ⊥
not_all old m p n a lt all = all (p + 1) lt (set_off (presences_of m.gathering) p (p + 1) Failed (λ e. absurd (omega arith)) ∙ a.away (p + 1) (omega arith))

gathers : (old m new : ManagerState) (p : ℕ) (told : Gathered) → AreFailed old p m → Failing m p 0 (Ok told) new → Gathers (with_presence m p Failed) m told new
gathers old m new p told a f = elim f.2 [
  | first fresh g ↦ g
  | again failed waits same ↦ absurd (away_failed (presence_of (presences_of m.gathering) p) (a.away p (omega arith)) failed)
]

pub one_failed : (old m new : ManagerState) (p count : ℕ) (told : Gathered) → IsManager new → AreFailed old p m → p < count → count < process_count old → Failing m p 0 (Ok told) new → AreFailed old (p + 1) new
one_failed old m new p count told sound a lt few f = by told (gathers old m new p told a f)
  where
    n : ℕ
    n = process_count m

    size : process_count m ≡ process_count old
    size = ap process_count a.others

    short : p < MAX_PROCESSES
    short = let le = a.sound.few in let many = size in omega arith

    by : (told : Gathered) → Gathers (with_presence m p Failed) m told new → AreFailed old (p + 1) new
    by Waiting g = record {
      sound = sound;
      others = g.1 ∙ ap (λ (k : ManagerState). record k { gathering = Some (with_presence m p Failed); version = (gathering_with m (with_presence m p Failed)).version }) a.others
          ∙ ap (λ (k : ManagerState). record old { gathering = k.gathering; version = k.version }) (sym g.1);
      places = ap (λ (k : ManagerState). length (presences_of k.gathering)) g.1 ∙ length-set (presences_of m.gathering) p Failed ∙ a.places;
      failed = λ q small. ap (λ (k : ManagerState). presence_of (presences_of k.gathering) q) g.1 ∙ was q small (either q p);
      away = λ q le. ap (λ (k : ManagerState). presence_of (presences_of k.gathering) q) g.1 ∙ set_off (presences_of m.gathering) p q Failed (λ e. absurd (omega arith)) ∙ a.away q (omega arith);
    }
      where
        either : (q p : ℕ) → (q ≡ p) ⊎ (q ≢ p)
        either q p = grind arith

        was : (q : ℕ) → q < p + 1 → (q ≡ p) ⊎ (q ≢ p) → presence_of (with_presence m p Failed) q ≡ Failed
        was q small (inl is) = ap (presence_of (with_presence m p Failed)) is ∙ set_at (presences_of m.gathering) p Failed (let long = a.places in let lt = short in omega arith)
        was q small (inr other) = set_off (presences_of m.gathering) p q Failed other ∙ a.failed q (omega arith)
    by Finished g = let many = size in absurd (not_all old m p n a (omega arith) g.0)

pub last_failed : (old m new : ManagerState) (p : ℕ) (told : Gathered) → AreFailed old p m → p + 1 ≡ process_count old → Failing m p 0 (Ok told) new → EachFailed old new
last_failed old m new p told a is f = by told (gathers old m new p told a f)
  where
    size : process_count m ≡ process_count old
    size = ap process_count a.others

    short : p < MAX_PROCESSES
    short = let le = a.sound.few in let many = size in omega arith

    all : AreAllIn (process_count m) (with_presence m p Failed)
    all = subst (λ n. AreAllIn n (with_presence m p Failed)) (is ∙ sym size) (all_with_last old m p a short)

    was : OnlyFailed (process_count old) (presences_of m.gathering)
    was q some = elim (less q p) [ inl lt ↦ (omega arith, a.failed q lt) | inr ge ↦ absurd (some (a.away q ge)) ]
      where
        less : (q p : ℕ) → (q < p) ⊎ (p ≤ q)
        less q p = grind arith

    by : (told : Gathered) → Gathers (with_presence m p Failed) m told new → EachFailed old new
    by Waiting g = absurd (g.0 all)
    by Finished g = record {
      before = m;
      others = a.others;
      sound = a.sound;
      waiting = was;
      presences = with_presence m p Failed;
      failed = with_one old m p (process_count old) a short (omega arith);
      all = subst (λ n. AreAllIn n (with_presence m p Failed)) size all;
      finished = g.1;
    }
