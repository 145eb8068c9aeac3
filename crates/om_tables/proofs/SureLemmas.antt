-- From what each call says to what the store promises.
use Rattle.std.proofs.Common.{◌≡◌, ℕ, [], Bool, true, false, ◌&&◌, None, IsSome, Ok, Err, Result, IfOk, OnOk, OnErr, IsTrue, refl, sym, ap, subst, ◌∙◌, arith}
use Rattle.std.specs.Prelude.{is_ok, ◌↔◌}
use Rattle.std.specs.Bool.{OnTrue, OnFalse}
use Rattle.std.specs.FinMap.{get}
use Rattle.om_tables.specs.declared.refusal.Refusal.{Refusal}
use Rattle.sqlite.specs.Schema.{Schema}
use Rattle.sqlite.specs.State.{State, HasCleanDisk}
use Rattle.sqlite_trees.proofs.Doubt as doubt
use Rattle.om_stable.specs.declared.error.StoreError.{StoreError}
use Rattle.om_stable.specs.Content.{Records, Content, IsFree, IsTaken}
use Rattle.om_tables.specs.Tables.{no_schema}
use Rattle.om_tables.specs.Store.{IsFormed, content_in, is_sure}
use Rattle.om_tables.specs.steps.Statements.{Same, Changed, Follows, Asks, Transacts}
use Rattle.om_tables.proofs.HoldsLemmas.{content_is, formed, still_formed}

both_true : (a b : Bool) → (a && b) ≡ true → (a ≡ true) × (b ≡ true)
both_true true b h = (refl, h)
both_true false b h = absurd cc

pub clean_of : (s : State) → IsTrue (is_sure s) → HasCleanDisk s
clean_of s h = doubt.no_doubt s.is_clean (both_true s.is_clean s.is_open h).0

pub open_of : (s : State) → IsTrue (is_sure s) → IsTrue s.is_open
open_of s h = (both_true s.is_clean s.is_open h).1

pub sure_of : (s : State) → HasCleanDisk s → IsTrue s.is_open → IsTrue (is_sure s)
sure_of s clean here = let one : s.is_clean ≡ true = doubt.clean_of s.is_clean clean in rw (one, here) refl

pub was_sure : (old new : State) → Follows old new → IsTrue (is_sure new) → IsTrue (is_sure old)
was_sure old new follows h = sure_of old (follows.clean (clean_of new h)) (follows.was_open (clean_of new h) (open_of new h))

pub still : (old new : State) → Asks old new → IsTrue (is_sure new) → IsFormed old → Same old new
still old new asks h was = asks.same (clean_of new h) (open_of new h) was

pub changed : {A : Type 0} (f : Content → Content) (old new : State) (r : Result A Refusal) → Transacts f old new r
    → IsTrue (is_sure new) → IsFormed old → Changed f old new r
changed f old new (Ok a) done h was =
    let now = done.put (clean_of new h) (content_in old.now) was.holds in
    record { formed = formed new _ now (sym (done.settled (clean_of new h))); ok = content_is new.now _ now; err = tt }
changed f old new (Err e) done h was =
    let back = done.refused (clean_of new h) (open_of new h) in
    record { formed = still_formed old new was (back.0 ∙ sym was.settled) back.1; ok = tt; err = ap content_in (back.0 ∙ sym was.settled) }

-- ---- what `told` hands on
pub through : {A : Type 0} (P : A → Type 0) (r : Result A StoreError) (o : Result A Refusal) → IfOk r (λ x. o ≡ Ok x) → IfOk o P → IfOk r P
through {A} P (Ok x) o is h = subst (λ (o : Result A Refusal). IfOk o P) is h
through P (Err e) o is h = tt

pub then_changed : {A : Type 0} (f : Content → Content) (old mid new : State) (r : Result A StoreError) (o : Result A Refusal) → Same old mid → Changed f mid new o → IfOk r (λ x. o ≡ Ok x) → is_ok r ≡ is_ok o
    → OnOk r (content_in new.now ≡ f (content_in old.now)) × OnErr r (content_in new.now ≡ content_in old.now)
then_changed {A} f old mid new (Ok x) o same change is alike = (subst (λ (o : Result A Refusal). OnOk o (content_in new.now ≡ f (content_in mid.now))) is change.ok ∙ ap f same.content, tt)
then_changed f old mid new (Err e) (Err d) same change is alike = (tt, change.err ∙ same.content)
then_changed f old mid new (Err e) (Ok x) same change is alike = absurd cc

pub always_ok : {A E P : Type 0} (r : Result A E) → P → OnOk r P
always_ok (Ok x) p = p
always_ok (Err e) p = tt

pub always_err : {A E P : Type 0} (r : Result A E) → P → OnErr r P
always_err (Ok x) p = tt
always_err (Err e) p = p

pub if_true : {P : Type 0} (o : Result Bool Refusal) (b : Bool) → IfOk o (λ r. OnTrue r P) → o ≡ Ok b → b ≡ true → P
if_true {P} o b h is t = subst (λ b. OnTrue b P) t (subst (λ (o : Result Bool Refusal). IfOk o (λ r. OnTrue r P)) is h)

pub if_false : {P : Type 0} (o : Result Bool Refusal) (b : Bool) → IfOk o (λ r. OnFalse r P) → o ≡ Ok b → b ≡ false → P
if_false {P} o b h is f = subst (λ b. OnFalse b P) f (subst (λ (o : Result Bool Refusal). IfOk o (λ r. OnFalse r P)) is h)

-- ---- one interval
pub taken_one : (held : Records) (x : ℕ) → IsTaken held x 1 → IsSome (get held x)
taken_one held x h = let same : h.0 ≡ x = omega (arith, h.1, h.2) in subst (λ y. IsSome (get held y)) same h.3

pub free_one : (held : Records) (x : ℕ) → IsFree held x 1 → get held x ≡ None
free_one held x h = h x (omega arith) (omega arith)

-- ---- no tables
pub nothing_there : (s : Schema) (a b c : Bool) → (IsTrue a ↔ (s.tables ≡ [])) → a ≡ true → (IsTrue b ↔ (s.indexes ≡ [])) → b ≡ true → (IsTrue c ↔ (s.views ≡ [])) → c ≡ true → s ≡ no_schema
nothing_there s a b c ia ta ib tb ic tc =
    let t = ia.0 ta in
    let i = ib.0 tb in
    let v = ic.0 tc in
    λ k. record { tables = t k; indexes = i k; views = v k }
