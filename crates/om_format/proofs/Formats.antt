-- The laws of every format: what is read is spelled so, what is spelled so is read, and what is not read has a first
-- fault.
use Rattle.std.proofs.Common.{◌≡◌, ℕ, ◌+◌, ◌*◌, Bool, true, false, cond, ltb, List, [], ◌∷◌, ◌++◌, length, drop, Option, Some, None, Result, Ok, Err, refl, sym, ap, subst, ◌∙◌, ◌⊎◌, inl, inr}
use Rattle.om_format.specs.declared.error.DecodeError.{DecodeError}
use Rattle.om_format.specs.declared.error.DecodeError.TheVariants.{Short, Kind, Version, Field, Trailing, Memory}
use Rattle.om_format.specs.Formats.{bytes_in, Format, end, field}
use Rattle.om_format.specs.Spelling.{numbers, IsField, Spells}
use Rattle.om_format.specs.FirstFault.{values_at, first_fault, AreRead}
use Rattle.om_format.specs.steps.Reading.{◌>>=◌, allow, numbers_at, fields_at, end_at}
use Rattle.om_format.proofs.Numbers.{IsBytes, numbers_take, numbers_again}

-- the value of a step that did not fail
pub bind_ok : {A B : Type 0} (r : Result A DecodeError) (f : A → Result B DecodeError) (y : B) → (r >>= f) ≡ Ok y → (x : A) × (r ≡ Ok x) × (f x ≡ Ok y)
bind_ok (Ok x) f y e = (x, refl, e)
bind_ok (Err d) f y e = absurd cc

pub allow_ok : (b : Bool) (d : DecodeError) (u : Unit {0}) → allow b d ≡ Ok u → b ≡ true
allow_ok true d u e = refl
allow_ok false d u e = absurd cc

abbrev done : {A : Type 0} → A → Result A DecodeError
done x = Ok x

pub ok_is : {A : Type 0} (x y : A) → done x ≡ done y → x ≡ y
ok_is x y e = cc

pub found : (format : Format) (offset : ℕ) (bytes : List ℕ) (fields : List (List ℕ)) → IsBytes bytes → fields_at format offset bytes ≡ Ok fields → Spells format fields bytes
found end offset [] fields fits e = subst (λ (fs : List (List ℕ)). Spells end fs []) (ok_is [] fields e) refl
found end offset (byte ∷ bytes) fields fits e = absurd cc
found (field size count allowed fault behind) offset bytes fields fits e =
    let more : List ℕ × List ℕ → Result (List (List ℕ)) DecodeError = λ values. fields_at (behind values.0) (offset + count * bytes_in size) values.1 >>= λ rest. Ok (values.0 ∷ rest) in
    let a = bind_ok (numbers_at size count bytes) (λ values. allow (allowed values.0) (fault offset) >>= λ fine. more values) fields e in
    let b = bind_ok (allow (allowed a.0.0) (fault offset)) (λ fine. more a.0) fields a.2 in
    let c = bind_ok (fields_at (behind a.0.0) (offset + count * bytes_in size) a.0.1) (λ rest. Ok (a.0.0 ∷ rest)) fields b.2 in
    let t = numbers_take size count bytes a.0 fits a.1 in
    let here : IsField size count allowed a.0.0 = record { whole = t.whole; within = t.within; allowed = allow_ok (allowed a.0.0) (fault offset) b.0 b.1 } in
    let rest = found (behind a.0.0) (offset + count * bytes_in size) a.0.1 c.0 t.rest_fits c.1 in
    subst (λ (fs : List (List ℕ)). Spells (field size count allowed fault behind) fs bytes) (ok_is (a.0.0 ∷ c.0) fields c.2) (here, a.0.1, t.parts, rest)

pub again : (format : Format) (offset : ℕ) (bytes : List ℕ) (fields : List (List ℕ)) → Spells format fields bytes → fields_at format offset bytes ≡ Ok fields
again end offset bytes [] e = subst (λ (bs : List ℕ). fields_at end offset bs ≡ Ok []) (sym e) refl
again end offset bytes (values ∷ fields) e = absurd e
again (field size count allowed fault behind) offset bytes [] e = absurd e
again (field size count allowed fault behind) offset bytes (values ∷ fields) e =
    let rest = again (behind values) (offset + count * bytes_in size) e.1 fields e.3 in
    rw (e.2, numbers_again size count allowed values e.1 e.0, e.0.allowed, rest) refl

allow_step : (is_allowed : Bool) (values : List ℕ) (fault : DecodeError) (more : Result (List (List ℕ)) DecodeError) (next : Option DecodeError) (e : DecodeError) → (more ≡ Err e → next ≡ Some e)
    → (allow is_allowed fault >>= λ fine. more >>= λ rest. Ok (values ∷ rest)) ≡ Err e
    → cond is_allowed next (Some fault) ≡ Some e
allow_step false values fault more next e later h = cc
allow_step true values fault (Ok rest) next e later h = absurd cc
allow_step true values fault (Err d) next e later h = later cc

fault_step : (short : Bool) (x : List ℕ × List ℕ) (allowed : List ℕ → Bool) (fault : DecodeError) (more : List ℕ × List ℕ → Result (List (List ℕ)) DecodeError) (next : Option DecodeError) (e : DecodeError) → (more x ≡ Err e → next ≡ Some e)
    → (cond short (Err Short) (Ok x) >>= λ y. allow (allowed y.0) fault >>= λ fine. more y >>= λ rest. Ok (y.0 ∷ rest)) ≡ Err e
    → cond short (Some Short) (cond (allowed x.0) next (Some fault)) ≡ Some e
fault_step true x allowed fault more next e later h = cc
fault_step false x allowed fault more next e later h = allow_step (allowed x.0) x.0 fault (more x) next e later h

pub faulty : (format : Format) (offset : ℕ) (bytes : List ℕ) (e : DecodeError) → fields_at format offset bytes ≡ Err e → first_fault format offset bytes ≡ Some e
unfolding numbers_at
faulty end offset [] e h = absurd cc
faulty end offset (byte ∷ bytes) e h = cc
faulty (field size count allowed fault behind) offset bytes e h =
    let k = count * bytes_in size in
    let values = values_at size count bytes in
    let after = drop k bytes in
    fault_step (ltb (length bytes) k) (values, after) allowed (fault offset) (λ x. fields_at (behind x.0) (offset + k) x.1) (first_fault (behind values) (offset + k) after) e (λ later. faulty (behind values) (offset + k) after e later) h

allow_fine : (is_allowed : Bool) (values : List ℕ) (fault : DecodeError) (more : Result (List (List ℕ)) DecodeError) (next : Option DecodeError) (vs : List (List ℕ)) → ((ws : List (List ℕ)) → more ≡ Ok ws → next ≡ None)
    → (allow is_allowed fault >>= λ fine. more >>= λ rest. Ok (values ∷ rest)) ≡ Ok vs
    → cond is_allowed next (Some fault) ≡ None
allow_fine false values fault more next vs later h = absurd cc
allow_fine true values fault (Ok rest) next vs later h = later rest refl
allow_fine true values fault (Err d) next vs later h = absurd cc

fine_step : (short : Bool) (x : List ℕ × List ℕ) (allowed : List ℕ → Bool) (fault : DecodeError) (more : List ℕ × List ℕ → Result (List (List ℕ)) DecodeError) (next : Option DecodeError) (vs : List (List ℕ)) → ((ws : List (List ℕ)) → more x ≡ Ok ws → next ≡ None)
    → (cond short (Err Short) (Ok x) >>= λ y. allow (allowed y.0) fault >>= λ fine. more y >>= λ rest. Ok (y.0 ∷ rest)) ≡ Ok vs
    → cond short (Some Short) (cond (allowed x.0) next (Some fault)) ≡ None
fine_step true x allowed fault more next vs later h = absurd cc
fine_step false x allowed fault more next vs later h = allow_fine (allowed x.0) x.0 fault (more x) next vs later h

-- what is read has no fault
pub fine : (format : Format) (offset : ℕ) (bytes : List ℕ) (vs : List (List ℕ)) → fields_at format offset bytes ≡ Ok vs → first_fault format offset bytes ≡ None
unfolding numbers_at
fine end offset [] vs h = refl
fine end offset (byte ∷ bytes) vs h = absurd cc
fine (field size count allowed fault behind) offset bytes vs h =
    let k = count * bytes_in size in
    let values = values_at size count bytes in
    let after = drop k bytes in
    fine_step (ltb (length bytes) k) (values, after) allowed (fault offset) (λ x. fields_at (behind x.0) (offset + k) x.1) (first_fault (behind values) (offset + k) after) vs (λ ws later. fine (behind values) (offset + k) after ws later) h

-- all fields are read, whatever follows
pub read_all : (format : Format) (bytes rest : List ℕ) (vs : List (List ℕ)) → fields_at format 0 bytes ≡ (end_at rest >>= λ u. Ok vs) → AreRead format bytes
unfolding end_at
read_all format bytes [] vs h = inl (fine format 0 bytes vs h)
read_all format bytes (byte ∷ rest) vs h = inr (faulty format 0 bytes Trailing h)

-- a format spells its fields in one way
pub one_spelling : (format : Format) (fields : List (List ℕ)) (a b : List ℕ) → Spells format fields a → Spells format fields b → a ≡ b
one_spelling end [] a b p q = p ∙ sym q
one_spelling end (values ∷ fields) a b p q = absurd p
one_spelling (field size count allowed fault behind) [] a b p q = absurd p
one_spelling (field size count allowed fault behind) (values ∷ fields) a b p q =
    p.2 ∙ ap (λ (x : List ℕ). numbers size values ++ x) (one_spelling (behind values) fields p.1 q.1 p.3 q.3) ∙ sym q.2

-- an error is the one that is due, or want of memory where that may be
pub fault_or_memory : (e : DecodeError) (fault : Option DecodeError) (P : Type 0) → ((e ≡ Memory → ⊥) → fault ≡ Some e) → (e ≡ Memory → P) → (fault ≡ Some e) ⊎ ((e ≡ Memory) × P)
fault_or_memory Short fault P is may = inl (is (λ h. cc))
fault_or_memory Kind fault P is may = inl (is (λ h. cc))
fault_or_memory Version fault P is may = inl (is (λ h. cc))
fault_or_memory (Field offset) fault P is may = inl (is (λ h. cc))
fault_or_memory Trailing fault P is may = inl (is (λ h. cc))
fault_or_memory Memory fault P is may = inr (refl, may refl)
