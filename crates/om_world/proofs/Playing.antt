-- One event more.
use Rattle.std.proofs.Common.{◌≡◌, ℕ, zero, suc, ◌+◌, List, [], ◌∷◌, ◌++◌, ◌<◌, length, take, get_or, Some, All, true, refl, sym, ap, ◌∙◌, subst, arith, length-append}
use Rattle.std.specs.Prelude.{slice_get}
use Rattle.om_manager.specs.Sound.{KeepsReleased}
use Rattle.om_manager.specs.State.{process_count, released_by}
use Rattle.om_world.specs.declared.event.Event.{Event}
use Rattle.om_world.specs.declared.event.Answer.{Answer}
use Rattle.om_world.specs.Changes.{NoneFell}
use Rattle.om_world.specs.Played.{Played, Step}
use Rattle.om_world.specs.World.{WorldState, IsEmpty, IsKnown, all_clean}
use Rattle.om_world.specs.steps.Moves.{Keeps}
use Rattle.om_world.proofs.FailureCounts.{counts_stay, counts_then}
use Rattle.om_world.proofs.Keeping.{keeps_same, prefix_then}
use Rattle.om_world.proofs.Lists.{none_in, once}

played_more : (old mid new : WorldState) (es : List Event) (answers : List Answer) (e : Event) (a : Answer) → Played old es answers mid → Step mid e a new → Played old (es ++ e ∷ []) (answers ++ a ∷ []) new
played_more old mid new [] [] e a p s = (new, subst (λ w. Step w e a new) p s, refl)
played_more old mid new [] (b ∷ answers) e a p s = absurd p
played_more old mid new (d ∷ es) [] e a p s = absurd p
played_more old mid new (d ∷ es) (b ∷ answers) e a p s = (p.0, p.1, played_more p.0 mid new es answers e a p.2 s)

take_next : (es : List Event) (k : ℕ) (e : Event) → slice_get es k ≡ Some e → take k es ++ e ∷ [] ≡ take (k + 1) es
take_next [] k e at = absurd (none_in k e at)
take_next (d ∷ es) zero e at = ap (λ x. x ∷ []) (sym (once d e at))
take_next (d ∷ es) (suc k) e at = ap (λ l. d ∷ l) (take_next es k e at) ∙ ap (λ n. take n (d ∷ es)) (next k)
  where
    next : (k : ℕ) → suc (k + 1) ≡ suc k + 1
    next k = omega arith

-- a known world was known
pub known_before : (old new : WorldState) → Keeps old new → IsKnown new → IsKnown old
known_before old new k known = (subst (All IsEmpty) k.origins known.0, k.clean known.1)

-- what was played, up to one event
pub record IsPlayed (old : WorldState) (events : List Event) (k : ℕ) (answers : List Answer) (new : WorldState) : Type 0 where
  pub long : length answers ≡ k
  pub size : process_count new.manager ≡ process_count old.manager
  pub released : KeepsReleased old.manager new.manager
  pub clean : all_clean new.health ≡ true → all_clean old.health ≡ true
  pub counts : NoneFell old.health new.health
  pub origins : new.origins ≡ old.origins
  pub played : IsKnown new → Played old (take k events) answers new

pub none_played : (w : WorldState) (events : List Event) → IsPlayed w events 0 [] w
none_played w events = record { long = refl; size = refl; released = keeps_same w.manager; clean = λ all. all; counts = counts_stay w.health; origins = refl; played = λ known. refl }

pub one_played : (old mid new : WorldState) (events : List Event) (k : ℕ) (answers : List Answer) (e : Event) (a : Answer) → slice_get events k ≡ Some e → IsPlayed old events k answers mid → (IsKnown new → Step mid e a new) → Keeps mid new → IsPlayed old events (k + 1) (answers ++ a ∷ []) new
one_played old mid new events k answers e a at p step keeps = record {
  long = length-append answers (a ∷ []) ∙ ap (λ n. n + 1) p.long;
  size = keeps.size ∙ p.size;
  released = λ q lt. let size = p.size in prefix_then (released_by old.manager q) (released_by mid.manager q) (released_by new.manager q) (p.released q lt) (keeps.released q (omega arith));
  clean = λ all. p.clean (keeps.clean all);
  counts = counts_then old.health mid.health new.health p.counts keeps.counts;
  origins = keeps.origins ∙ p.origins;
  played = λ known. subst (λ es. Played old es (answers ++ a ∷ []) new) (take_next events k e at) (played_more old mid new (take k events) answers e a (p.played (known_before mid new keeps known)) (step known));
}

pub event_at : (events : List Event) (k : ℕ) (d : Event) → k < length events → slice_get events k ≡ Some (get_or events k d)
event_at [] k d lt = absurd (omega arith)
event_at (e ∷ events) zero d lt = refl
event_at (e ∷ events) (suc k) d lt = event_at events k d (omega arith)
