-- What is kept of the last finished round while none has stored since.
use Rattle.std.proofs.Common.{◌≡◌, inl, inr, ℕ, ◌<◌, ◌≤◌, List, [], ◌∷◌, ◌++◌, length, take, cond, set, Some, None, Bool, true, false, refl, sym, ap, ◌∙◌, subst, arith}
use Rattle.std.specs.Prelude.{nat_le, nat_lt, slice_get, slice_index}
use Rattle.std.specs.FinMap.{get}
use Rattle.std.proofs.lemmas.List.{take-append-le}
use Rattle.om_format.specs.Queues.{QueueRecord}
use Rattle.om_stable.specs.Content.{Content, Records, kept_by_cut, kept_by_prune}
use Rattle.om_stable.proofs.RecordLemmas.{get-retained}
use Rattle.om_process.specs.Dependencies.{count_from}
use Rattle.om_process.specs.Replays.{process_of_checkpoint}
use Rattle.om_manager.specs.State.{ManagerState, released_by}
use Rattle.om_manager.specs.declared.presence.Presence.{Presence}
use Rattle.om_world.specs.declared.entry.Entry.{Entry}
use Rattle.om_world.specs.Failures.{HasNews}
use Rattle.om_world.specs.Live.{cut_list, received}
use Rattle.om_world.specs.World.{SinceState, WorldState, recovered}
use Rattle.om_world.specs.steps.Past.{Past, history, past_of}
use Rattle.om_world.specs.steps.Sound.{EndsAt, HasShape, IsBetween, IsStored, KeptWithin, Sound}
use Rattle.om_world.proofs.Gathering.{AreDone, goes_finished, past_with}
use Rattle.om_world.proofs.Legal.{cut_first, received-append, take_take}
use Rattle.om_world.proofs.Lists.{at_change, inside}
use Rattle.om_world.proofs.TakenDown.{ended}

-- ---- a world that differs in what is kept of the last round alone
pub shape_since : (w : WorldState) (since : SinceState) → HasShape w → HasShape (record w { since = since })
shape_since w since h = record { few = h.few; stores = h.stores; cores = h.cores; places = h.places; own = h.own; rounds = h.rounds; there = h.there; inside = h.inside; manager = h.manager; size = h.size }

pub sound_since : (w : WorldState) (since : SinceState) → Sound w → Sound (record w { since = since })
sound_since w since s = record {
  legal = s.legal;
  frames = s.frames;
  outputs = s.outputs;
  rows = s.rows;
  stored = s.stored;
  backed = s.backed;
  running = s.running;
  up = s.up;
  joined = s.joined;
  failed = s.failed;
  gathered = s.gathered;
  current = s.current;
  known = s.known;
  ends = s.ends;
  behind = s.behind;
  inside = s.inside;
  beyond = s.beyond;
}

pub stored_apart : (b : Bool) → b ≡ true → b ≡ false → ⊥
stored_apart b is not = cc

-- ---- a manager of the same recovery state, which releases no less
further : (a b y : ℕ) → a ≤ b → b ≤ y → a ≤ y
further a b y le lt = omega arith

kept_more : (v : Past) (m : ManagerState) (p : ℕ) (qs : List QueueRecord) → ((q : ℕ) → recovered m q ≡ recovered v.manager q) → length (released_by v.manager p) ≤ length (released_by m p) → KeptWithin v p qs → KeptWithin (past_with v v.live m) p qs
kept_more v m p qs same more k q queue at =
    let old = k q queue at in (
      (λ lt. subst (λ r. queue.first ≤ count_from p (take r (history v q))) (sym (same q)) (old.0 lt)),
      (λ is. further queue.first (length (released_by v.manager p)) (length (released_by m p)) (old.1 is) more),
    )

stored_more : (v : Past) (m : ManagerState) (p : ℕ) (held : Content) → ((q : ℕ) → recovered m q ≡ recovered v.manager q) → length (released_by v.manager p) ≤ length (released_by m p) → IsStored v p held → IsStored (past_with v v.live m) p held
stored_more v m p held same more s = record {
  checkpoints = λ x bytes le at. let c = s.checkpoints x bytes le at in (c.0, c.1, c.2, c.3, c.4, kept_more v m p (process_of_checkpoint c.0).queues same more c.5);
  receipts = s.receipts;
}

pub between_more : (v : Past) (m : ManagerState) (live : List Entry) (contents : List Content) → ((q : ℕ) → recovered m q ≡ recovered v.manager q) → ((p : ℕ) → p < length contents → length (released_by v.manager p) ≤ length (released_by m p))
    → IsBetween v live contents → IsBetween (past_with v v.live m) live contents
between_more v m live contents same more b = record {
  legal = b.legal;
  same = λ p. subst (λ r. take r (history v p) ≡ take r (received p live)) (sym (same p)) (b.same p);
  stored = λ p held at. stored_more v m p held same (more p (inside contents p held at)) (b.stored p held at);
  ends = b.ends;
}

-- ---- one more is received
pub between_given : (v : Past) (live : List Entry) (contents : List Content) (e : Entry) → ((q : ℕ) → recovered v.manager q ≤ length (received q live)) → IsBetween v live contents → IsBetween v (live ++ e ∷ []) contents
between_given v live contents e within b = record {
  legal = b.legal;
  same = λ p. b.same p ∙ sym (ap (take (recovered v.manager p)) (received-append p live (e ∷ [])) ∙ take-append-le (recovered v.manager p) (received p live) (received p (e ∷ [])) (within p));
  stored = b.stored;
  ends = b.ends;
}

-- ---- a store of which less is left
pub between_set : (v : Past) (live : List Entry) (contents : List Content) (p : ℕ) (held : Content) → IsStored v p held → EndsAt held (length (history v p)) → IsBetween v live contents → IsBetween v live (set contents p held)
between_set v live contents p held stored ends b = record {
  legal = b.legal;
  same = b.same;
  stored = λ q other at. elim (at_change contents p q other held at) [
    | inl same ↦ subst (λ o. IsStored v o other) (sym same.0) (subst (IsStored v p) (sym same.1) stored)
    | inr old ↦ b.stored q other old.1
  ];
  ends = λ q other at. elim (at_change contents p q other held at) [
    | inl same ↦ subst (λ o. EndsAt other (length (history v o))) (sym same.0) (subst (λ (c : Content). EndsAt c (length (history v p))) (sym same.1) ends)
    | inr old ↦ b.ends q other old.1
  ];
}

-- what is left stood there
was_left : (m : Records) (test : ℕ → Bool) (x : ℕ) (bytes : List ℕ) → cond (test x) (get m x) None ≡ Some bytes → get m x ≡ Some bytes
was_left m test x bytes at = go (test x) at
  where
    none : None ≡ Some bytes → ⊥
    none e = cc

    go : (b : Bool) → cond b (get m x) None ≡ Some bytes → get m x ≡ Some bytes
    go true e = e
    go false e = absurd (none e)

none_left : (m : Records) (test : ℕ → Bool) (x : ℕ) → get m x ≡ None → cond (test x) (get m x) None ≡ None
none_left m test x none = go (test x)
  where
    go : (b : Bool) → cond b (get m x) None ≡ None
    go true = none
    go false = refl

stored_cut : (v : Past) (p r : ℕ) (a : Content) → IsStored v p a → IsStored v p (kept_by_cut a r)
stored_cut v p r a s = record {
  checkpoints = λ x bytes le at. s.checkpoints x bytes le (was_left a.checkpoints (λ y. nat_le y r) x bytes (sym (get-retained a.checkpoints (λ y. nat_le y r) x) ∙ at));
  receipts = λ x bytes some le at. s.receipts x bytes some le (was_left a.receipts (λ y. nat_le y r) x bytes (sym (get-retained a.receipts (λ y. nat_le y r) x) ∙ at));
}

ends_cut : (r : ℕ) (a : Content) (x : ℕ) → EndsAt a x → EndsAt (kept_by_cut a r) x
ends_cut r a x e = record {
  receipts = λ y lt. get-retained a.receipts (λ y. nat_le y r) y ∙ none_left a.receipts (λ y. nat_le y r) y (e.receipts y lt);
  checkpoints = λ y lt. get-retained a.checkpoints (λ y. nat_le y r) y ∙ none_left a.checkpoints (λ y. nat_le y r) y (e.checkpoints y lt);
}

pub between_cut : (v : Past) (live : List Entry) (contents : List Content) (p r : ℕ) (a : Content) → slice_get contents p ≡ Some a → IsBetween v live contents → IsBetween v live (set contents p (kept_by_cut a r))
between_cut v live contents p r a at b = between_set v live contents p (kept_by_cut a r) (stored_cut v p r a (b.stored p a at)) (ends_cut r a (length (history v p)) (b.ends p a at)) b

stored_pruned : (v : Past) (p c : ℕ) (a : Content) → IsStored v p a → IsStored v p (kept_by_prune a c)
stored_pruned v p c a s = record {
  checkpoints = λ x bytes le at. s.checkpoints x bytes le (was_left a.checkpoints (λ y. nat_le c y) x bytes (sym (get-retained a.checkpoints (λ y. nat_le c y) x) ∙ at));
  receipts = λ x bytes some le at. s.receipts x bytes some le (was_left a.receipts (λ y. nat_lt c y) x bytes (sym (get-retained a.receipts (λ y. nat_lt c y) x) ∙ at));
}

ends_pruned : (c : ℕ) (a : Content) (x : ℕ) → EndsAt a x → EndsAt (kept_by_prune a c) x
ends_pruned c a x e = record {
  receipts = λ y lt. get-retained a.receipts (λ y. nat_lt c y) y ∙ none_left a.receipts (λ y. nat_lt c y) y (e.receipts y lt);
  checkpoints = λ y lt. get-retained a.checkpoints (λ y. nat_le c y) y ∙ none_left a.checkpoints (λ y. nat_le c y) y (e.checkpoints y lt);
}

pub between_pruned : (v : Past) (live : List Entry) (contents : List Content) (p c : ℕ) (a : Content) → slice_get contents p ≡ Some a → IsBetween v live contents → IsBetween v live (set contents p (kept_by_prune a c))
between_pruned v live contents p c a at b = between_set v live contents p (kept_by_prune a c) (stored_pruned v p c a (b.stored p a at)) (ends_pruned c a (length (history v p)) (b.ends p a at)) b

-- ---- where all know the last round, what was received is what the stores hold
pub between_now : (w : WorldState) → HasShape w → Sound w → ((p : ℕ) → p < length w.programs → HasNews w p → ⊥) → IsBetween (past_of w) w.live w.contents
between_now w h s none = record {
  legal = s.legal;
  same = λ p. refl;
  stored = s.stored;
  ends = λ p held at.
      let stores = h.stores in let short = inside w.contents p held at in
      ended w p held h s (none p (omega arith)) at;
}

-- a round finishes
pub between_finished : (w : WorldState) (presences : List Presence) (m : ManagerState) → AreDone w presences m → IsBetween (past_with (past_of w) w.live m) (cut_list w.manager.recovery w.live) w.contents
between_finished w presences m d =
    let h = d.shape in let s = d.sound in let size = h.size in
    let goes = goes_finished w presences m d in
    let as_much : (q : ℕ) → recovered m q ≡ recovered w.manager q = λ q. ap (λ r. slice_index r q) d.done.recovery in
    let b = between_more (past_of w) m w.live w.contents as_much (λ p lt. goes.released p)
    (between_now w h s (λ p lt news. let same = d.known.round p (d.all p (omega arith)) in absurd (omega arith))) in
    record {
      legal = b.legal;
      same = λ p. sym (ap (take (recovered m p)) (cut_first w.manager.recovery w.live p) ∙ take_take (recovered m p) (recovered w.manager p) (received p w.live) (let le = as_much p in omega arith));
      stored = b.stored;
      ends = b.ends;
    }
