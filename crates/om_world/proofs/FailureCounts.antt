-- Counts of failures, which never fall.
use Rattle.std.proofs.Common.{◌≡◌, inl, inr, ℕ, ◌≤◌, ◌<◌, List, [], ◌∷◌, ◌++◌, length, map, set, Some, All, refl, sym, ap, ◌∙◌, subst, arith, length-set}
use Rattle.std.specs.Prelude.{slice_get}
use Rattle.std.proofs.Math.Nat.{eq-or-lt_of_le}
use Rattle.std.proofs.lemmas.List.Elements.{All-push}
use Rattle.om_stable.specs.Content.{Content}
use Rattle.om_stable.specs.Count.{Rose}
use Rattle.om_world.specs.declared.event.Answer.{Answer}
use Rattle.om_world.specs.declared.event.Answer.TheVariants.{Refused}
use Rattle.om_world.specs.declared.event.Refusal.TheVariants as why
use Rattle.om_world.specs.Changes.{NoneFell, RoseAt}
use Rattle.om_world.specs.Played.{IsCounted, IsFaultless}
use Rattle.om_world.specs.World.{Health, WorldState}
use Rattle.om_world.specs.steps.Moves.{IsCalled}
use Rattle.om_world.proofs.Lists.{at_change, inside, length-map, map_at, map_set, once, set_there, there}

-- ---- counts that do not fall
least : (n : ℕ) → n ≤ n
least n = omega arith

same_count : (a b : Health) → a ≡ b → a.failed ≤ b.failed
same_count a b e = subst (λ (x : Health). a.failed ≤ x.failed) e (least a.failed)

pub counts_stay : (hs : List Health) → NoneFell hs hs
counts_stay hs = record { many = refl; counts = λ p a b at now. same_count a b (once a b (sym at ∙ now)) }

pub counts_by : (old new : List Health) → new ≡ old → NoneFell old new
counts_by old new e = subst (λ l. NoneFell old l) (sym e) (counts_stay old)

pub counts_then : (old mid new : List Health) → NoneFell old mid → NoneFell mid new → NoneFell old new
counts_then old mid new f g = record {
  many = g.many ∙ f.many;
  counts = λ p a b at now.
      let short = inside old p a at in let many = f.many in
      let m = there mid p (omega arith) in
      let le = f.counts p a m.0 at m.1 in let more = g.counts p m.0 b m.1 now in
      omega arith;
}

-- ---- a count that rose
rose_after : (a b c : ℕ) → a ≤ b → Rose b c → Rose a c
rose_after a b c le (inl lt) = inl (omega arith)
rose_after a b c le (inr same) = elim (eq-or-lt_of_le le) [
  | inl is ↦ inr (is ∙ same.0, same.1 ∙ sym is)
  | inr lt ↦ inl (subst (λ n. a < n) (sym same.1) lt)
]

rose_before : (a b c : ℕ) → Rose a b → b ≤ c → Rose a c
rose_before a b c (inl lt) le = inl (omega arith)
rose_before a b c (inr same) le = elim (eq-or-lt_of_le le) [
  | inl is ↦ inr (same.0, sym is ∙ same.1)
  | inr lt ↦ inl (subst (λ n. n < c) same.1 lt)
]

pub failed_after : (old mid new : List Health) (p : ℕ) → NoneFell old mid → RoseAt mid p new → RoseAt old p new
failed_after old mid new p n r =
    let short = inside mid p r.before r.is_before in let many = n.many in
    let b = there old p (omega arith) in
    record {
      before = b.0;
      after = r.after;
      is_before = b.1;
      is_after = r.is_after;
      rose = rose_after b.0.failed r.before.failed r.after.failed (n.counts p b.0 r.before b.1 r.is_before) r.rose;
    }

pub failed_before : (old mid new : List Health) (p : ℕ) → RoseAt old p mid → NoneFell mid new → RoseAt old p new
failed_before old mid new p r n =
    let short = inside mid p r.after r.is_after in let many = n.many in
    let a = there new p (omega arith) in
    record {
      before = r.before;
      after = a.0;
      is_before = r.is_before;
      is_after = a.1;
      rose = rose_before r.before.failed r.after.failed a.0.failed r.rose (n.counts p r.after a.0 r.is_after a.1);
    }

-- ---- a store that was called
pub counted : {S Failed : Type 0} (content : S → Content) (health : S → Health) (IsSound : S → Type 0) (p : ℕ) (xs ys : List S)
    (Did : Content → Content → Type 0) → IsCalled content health IsSound Failed xs ys p Did → Failed → RoseAt (map health xs) p (map health ys)
counted content health IsSound p xs ys Did k failed = record {
  before = health k.before;
  after = health k.after;
  is_before = map_at health xs p k.before k.there;
  is_after = map_at health ys p k.after (ap (λ zs. slice_get zs p) k.stores ∙ set_there xs p k.before k.after k.there);
  rose = k.counted failed;
}

pub called_counts : {S Failed : Type 0} (content : S → Content) (health : S → Health) (IsSound : S → Type 0) (p : ℕ) (xs ys : List S)
    (Did : Content → Content → Type 0) → IsCalled content health IsSound Failed xs ys p Did → NoneFell (map health xs) (map health ys)
called_counts content health IsSound p xs ys Did k = record {
  many = length-map health ys ∙ ap length k.stores ∙ length-set xs p k.after ∙ sym (length-map health xs);
  counts = λ q a b at now.
      let changed : slice_get (set (map health xs) p (health k.after)) q ≡ Some b =
      ap (λ l. slice_get l q) (map_set health xs p k.after ∙ ap (map health) (sym k.stores)) ∙ now in
      elim (at_change (map health xs) p q b (health k.after) changed) [
        | inl same ↦
            let was : a ≡ health k.before =
            once a (health k.before) (sym at ∙ ap (slice_get (map health xs)) same.0 ∙ map_at health xs p k.before k.there) in
            subst (λ (x : Health). x.failed ≤ b.failed) (sym was)
            (subst (λ (x : Health). (health k.before).failed ≤ x.failed) (sym same.1) k.count)
        | inr other ↦ same_count a b (once a b (sym at ∙ other.1))
      ];
}

-- ---- answers
pub present_apart : IsFaultless (Refused why.Present)
present_apart is = cc

pub memory_apart : IsFaultless (Refused why.Memory)
memory_apart is = cc

pub damaged_apart : IsFaultless (Refused why.Damaged)
damaged_apart is = cc

-- one answer more
pub one_counted : (old mid new : WorldState) (xs ys : List Answer) (a : Answer) → ys ≡ xs ++ a ∷ [] → NoneFell old.health mid.health
    → NoneFell mid.health new.health → All (IsCounted old mid) xs → IsCounted mid new a → All (IsCounted old new) ys
one_counted old mid new xs ys a same before after all one = subst (All (IsCounted old new)) (sym same)
    (All-push (IsCounted old new) xs a
    (λ k d lt is. let f = all k d lt is in (f.0, failed_before old.health mid.health new.health f.0 f.1 after))
    (λ is. let f = one is in (f.0, failed_after old.health mid.health new.health f.0 before f.1)))
