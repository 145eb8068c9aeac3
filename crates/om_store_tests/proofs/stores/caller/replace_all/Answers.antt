use Rattle.std.proofs.Common.{◌≡◌, ◌≢◌, ℕ, ◌+◌, ◌≤◌, Bool, cond, List, refl, sym, ap, subst, ◌∙◌, arith}
use Rattle.std.specs.Prelude.{Option, None, Some, IsSome, IfSome, IfNone, IsTrue, nat_le, nat_lt, is_some, Vec}
use Rattle.std.specs.declared.alloc.Global.{Global}
use Rattle.std.specs.Ordering.{nat_cmp}
use Rattle.std.specs.FinMap.{get, insert, retain_keys, empty, get-empty}
use Rattle.std.proofs.lemmas.Bool.{false≢true, cases_eq, le-leb}
use Rattle.std.proofs.lemmas.Bool.Decides.{nat_tests}
use Rattle.std.proofs.lemmas.Option.{same_Some}
use Rattle.std.proofs.Math.Logic.{⊎_elim}
use Rattle.om_stable.specs.Content.{Records, IsEffective, IsFree, with_checkpoint, kept_by_cut, kept_by_prune}
use Rattle.om_stable.proofs.RecordLemmas.{same_records, get-insert_here, get-insert_apart, get-retained}
use Rattle.om_store_tests.proofs.stores.caller.replace_all.Given.{Over}
use Rattle.om_store_tests.proofs.stores.caller.replace_all.Goals as goal

twice_retained : (m : Records) (p r : ℕ → Bool) (q : ℕ) → get (retain_keys (retain_keys m p) r) q ≡ cond (r q) (cond (p q) (get m q) None) None
twice_retained m p r q = get-retained (retain_keys m p) r q ∙ ap (λ o. cond (r q) o None) (get-retained m p q)

-- above x and at or below it stands nothing
none_left : (m : Records) (x : ℕ) → retain_keys (retain_keys m (λ y. nat_le y x)) (λ y. nat_lt x y) ≡ empty
none_left m x = same_records _ _ (λ q.
    let h : cond (nat_lt x q) (cond (nat_le q x) (get m q) None) None ≡ None = grind (arith, nat_tests) in
    twice_retained m (λ y. nat_le y x) (λ y. nat_lt x y) q ∙ h ∙ sym (get-empty nat_cmp q))

-- the one record at x
abbrev only : ℕ → List ℕ → Records
only x bytes = insert empty x bytes

get-only_apart : (x : ℕ) (bytes : List ℕ) (q : ℕ) → q ≢ x → get (only x bytes) q ≡ None
get-only_apart x bytes q apart = get-insert_apart empty x bytes q apart ∙ get-empty nat_cmp q

-- of what stands at or below x and at or above it, only the record at x is left
one_left : (m : Records) (x : ℕ) (bytes : List ℕ) → retain_keys (retain_keys (insert m x bytes) (λ y. nat_le y x)) (λ y. nat_le x y) ≡ only x bytes
one_left m x bytes =
    let left : Records = retain_keys (retain_keys (insert m x bytes) (λ y. nat_le y x)) (λ y. nat_le x y) in
    same_records left (only x bytes) (λ q. ⊎_elim
    (λ same. subst (λ y. get left y ≡ get (only x bytes) y) (sym same)
    (twice_retained (insert m x bytes) (λ y. nat_le y x) (λ y. nat_le x y) x
    ∙ ap (λ b. cond b (cond b (get (insert m x bytes) x) None) None) (le-leb x x (omega arith))
    ∙ get-insert_here m x bytes ∙ sym (get-insert_here empty x bytes)))
    (λ apart.
    let h : cond (nat_le x q) (cond (nat_le q x) (get (insert m x bytes) q) None) None ≡ None = grind (arith, nat_tests) in
    twice_retained (insert m x bytes) (λ y. nat_le y x) (λ y. nat_le x y) q ∙ h ∙ sym (get-only_apart x bytes q apart))
    (cases_eq q x))

-- the effective checkpoint of a store with one checkpoint
record Finds (o : Option (ℕ × Vec ℕ Global)) (x : ℕ) (bytes : List ℕ) : Type 0 where
  kept : IsSome o
  interval : IfSome o (λ e. e.0 ≡ x)
  items : IfSome o (λ e. e.1.items ≡ bytes)

finds : (o : Option (ℕ × Vec ℕ Global)) (held : Records) (x last : ℕ) (bytes : List ℕ) → x ≤ last → held ≡ only x bytes → IfSome o (λ e. IsEffective held last e.0) → IfSome o (λ e. get held e.0 ≡ Some e.1.items) → IfNone o (IsFree held 0 (last + 1)) → Finds o x bytes
finds None held x last bytes within is found same free =
    absurd (false≢true (ap is_some (sym (free x (omega arith) (omega arith)) ∙ ap (λ m. get m x) is ∙ get-insert_here empty x bytes)))
finds (Some e) held x last bytes within is found same free =
    let at : e.0 ≡ x = ⊎_elim (λ same. same)
    (λ apart. absurd (false≢true (sym (ap is_some (ap (λ m. get m e.0) is ∙ get-only_apart x bytes e.0 apart)) ∙ found.has))) (cases_eq e.0 x) in
    record {
      kept = refl;
      interval = at;
      items = same_Some e.1.items bytes (sym same ∙ ap (λ m. get m e.0) is ∙ ap (get (only x bytes)) at ∙ get-insert_here empty x bytes);
    }

-- what is known as the last read begins
record Pruned (g : Over) (c : goal.In_ok-kept g) : Type 0 where
  sound : g.S.Stable.IsSound c.prune.new.self
  receipts : (g.S.Stable.content c.prune.new.self).receipts ≡ empty
  checkpoints : (g.S.Stable.content c.prune.new.self).checkpoints ≡ only c.args.x c.args.bytes.now

pruned : (g : Over) (c : goal.In_ok-kept g) → IsTrue (g.S.Stable.is_clean c.effective.new.self) → g.S.Stable.IsSound c.args.store.now → Pruned g c
pruned g c clean sound =
    let x = c.args.x in
    let held = g.S.Stable.content c.put_receipts.new.self in
    let clean_pruned : IsTrue (g.S.Stable.is_clean c.prune.new.self) = c.in_ok-kept.ensures.call.clean clean in
    let clean_cut : IsTrue (g.S.Stable.is_clean c.cut.new.self) = c.in_ok-prune.ensures.call.clean clean_pruned in
    let clean_read : IsTrue (g.S.Stable.is_clean c.receipts.new.self) = c.in_ok-cut.ensures.call.clean clean_cut in
    let clean_two : IsTrue (g.S.Stable.is_clean c.put_checkpoint.new.self) = c.in_ok-before.ensures.call.clean clean_read in
    let sound_one = c.in_ok-put_receipts.ensures.call.sound (c.in_ok-put_checkpoint.ensures.call.clean clean_two) sound in
    let sound_two = c.in_ok-put_checkpoint.ensures.call.sound clean_two sound_one in
    let sound_read = c.in_ok-before.ensures.call.sound clean_read sound_two in
    let sound_cut = c.in_ok-cut.ensures.call.sound clean_cut sound_read in
    let is : g.S.Stable.content c.prune.new.self ≡ kept_by_prune (kept_by_cut (with_checkpoint held x c.args.bytes.now) x) x =
    c.in_ok-prune.ensures.pruned (clean_pruned, sound_cut) ∙ ap (λ held. kept_by_prune held x) (c.in_ok-cut.ensures.cut (clean_cut, sound_read)
    ∙ ap (λ held. kept_by_cut held x) (c.in_ok-before.ensures.same (clean_read, sound_two) ∙ c.in_ok-put_checkpoint.ensures.put (clean_two, sound_one))) in
    record {
      sound = c.in_ok-prune.ensures.call.sound clean_pruned sound_cut;
      receipts = ap (λ content. content.receipts) is ∙ none_left held.receipts x;
      checkpoints = ap (λ content. content.checkpoints) is ∙ one_left held.checkpoints x c.args.bytes.now;
    }

found : (g : Over) (c : goal.In_ok-kept g) → IsTrue (g.S.Stable.is_clean c.effective.new.self) → g.S.Stable.IsSound c.args.store.now → Finds c.in_ok-kept.kept c.args.x c.args.bytes.now
found g c clean sound =
    let was = pruned g c clean sound in
    finds c.in_ok-kept.kept _ c.args.x _ c.args.bytes.now (omega (arith, c.ranges.x.fits)) was.checkpoints
    (c.in_ok-kept.ensures.effective (clean, was.sound)) (c.in_ok-kept.ensures.bytes (clean, was.sound)) (c.in_ok-kept.ensures.none (clean, was.sound))

pub returns-clause-kept : goal.returns-clause-kept
returns-clause-kept g c = λ known. (found g c known.0 known.1).kept

pub returns-clause-interval : goal.returns-clause-interval
returns-clause-interval g c = λ known. (found g c known.0 known.1).interval

pub returns-clause-bytes : goal.returns-clause-bytes
returns-clause-bytes g c = λ known. (found g c known.0 known.1).items

pub returns-clause-receipts : goal.returns-clause-receipts
returns-clause-receipts g c = λ known.
    let was = pruned g c known.0 known.1 in
    ap (λ content. content.receipts) (c.in_ok-kept.ensures.same (known.0, was.sound)) ∙ was.receipts

pub returns-clause-checkpoints : goal.returns-clause-checkpoints
returns-clause-checkpoints g c = λ known.
    let was = pruned g c known.0 known.1 in
    ap (λ content. content.checkpoints) (c.in_ok-kept.ensures.same (known.0, was.sound)) ∙ was.checkpoints
