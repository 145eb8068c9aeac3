-- Entries with their numbers.
use Rattle.std.proofs.Common.{◌≡◌, ◌⊎◌, inl, inr, ℕ, zero, suc, ◌+◌, ◌-◌, ◌<◌, ◌≤◌, List, [], ◌∷◌, ◌++◌, length, drop, get_or, map, refl, sym, ap, ◌∙◌, Some, None, arith}
use Rattle.std.specs.Prelude.{max, min, slice_get}
use Rattle.std.proofs.lemmas.List.{map-append, length-append, length-map, length-drop, drop-map, drop_all}
use Rattle.om_format.specs.declared.queue.QueueEntry.{QueueEntry}
use Rattle.om_format.specs.Queues.{QueueRecord, queue_end}
use Rattle.om_process.specs.Claims.{HasEntry}
use Rattle.om_process.specs.Kept.{numbered, queue_at}
use Rattle.om_process.specs.steps.Numbers.{AreNumbered}
use Rattle.om_process.specs.Process.{empty_queue}
use Rattle.om_process.proofs.Basics.{some_once}
use Rattle.om_process.specs.Trims.{trimmed_queue}

pub numbered-push : {A : Type 0} (form : ℕ → QueueEntry → A) (first next : ℕ) (es : List QueueEntry) (e : QueueEntry) → next ≡ first + length es
    → numbered form first (es ++ e ∷ []) ≡ numbered form first es ++ form next e ∷ []
numbered-push form first next [] e is = let at : next ≡ first = omega arith in ap (λ k. form k e ∷ []) (sym at)
numbered-push form first next (x ∷ es) e is = ap (λ xs. form first x ∷ xs) (numbered-push form (first + 1) next es e (omega arith))

pub numbered-drop : {A : Type 0} (form : ℕ → QueueEntry → A) (k first next : ℕ) (es : List QueueEntry) → k ≤ length es → next ≡ first + k
    → numbered form next (drop k es) ≡ drop k (numbered form first es)
numbered-drop form zero first next es le is = let at : next ≡ first = omega arith in ap (λ j. numbered form j es) at
numbered-drop form (suc k) first next [] le is = absurd (omega arith)
numbered-drop form (suc k) first next (x ∷ es) le is = numbered-drop form k (first + 1) next es (omega arith) (omega arith)

pub length-numbered : {A : Type 0} (form : ℕ → QueueEntry → A) (first : ℕ) (es : List QueueEntry) → length (numbered form first es) ≡ length es
length-numbered form first [] = refl
length-numbered form first (x ∷ es) = ap suc (length-numbered form (first + 1) es)

-- the entry at a place, with its number
pub numbered_at : {A : Type 0} (form : ℕ → QueueEntry → A) (first k : ℕ) (es : List QueueEntry) (x : A) → k < length es → x ≡ get_or (numbered form first es) k x
    → (e : QueueEntry) × (slice_get es k ≡ Some e) × (x ≡ form (first + k) e)
numbered_at form first k [] x within at = absurd (omega arith)
numbered_at form first zero (e ∷ es) x within at = let is : first ≡ first + 0 = omega arith in (e, refl, at ∙ ap (λ j. form j e) is)
numbered_at form first (suc k) (e ∷ es) x within at =
    let there = numbered_at form (first + 1) k es x (omega arith) at in
    let is : first + 1 + k ≡ first + suc k = omega arith in
    (there.0, there.1, there.2 ∙ ap (λ j. form j there.0) is)

pub nothing_at : (k : ℕ) (es : List QueueEntry) → length es ≤ k → slice_get es k ≡ None
nothing_at k [] le = refl
nothing_at zero (e ∷ es) le = absurd (omega arith)
nothing_at (suc k) (e ∷ es) le = nothing_at k es (omega arith)

-- those numbered from this number on
pub numbered_from : {A : Type 0} (form : ℕ → QueueEntry → A) (first seq before : ℕ) (values : List A) (es : List QueueEntry) → values ≡ numbered form first es
    → before ≡ min (seq - first) (length values) → drop before values ≡ numbered form (max first seq) (drop (seq - first) es)
numbered_from form first seq before values es all is = go (le_or (seq - first) (length values))
  where
    le_or : (x y : ℕ) → (x ≤ y) ⊎ (y ≤ x)
    le_or x y = grind arith

    long : length values ≡ length es
    long = ap length all ∙ length-numbered form first es

    go : (seq - first ≤ length values) ⊎ (length values ≤ seq - first) → drop before values ≡ numbered form (max first seq) (drop (seq - first) es)
    go (inl le) =
        let at : before ≡ seq - first = omega arith in
        let l = long in
        ap (λ k. drop k values) at ∙ ap (drop (seq - first)) all ∙ sym (numbered-drop form (seq - first) first (max first seq) es (omega arith) (omega arith))
    go (inr le) =
        let l = long in
        drop_all before values (omega arith) ∙ sym (ap (numbered form (max first seq)) (drop_all (seq - first) es (omega arith)))

-- one value more, of the next number
pub are_numbered-push : {A : Type 0} (form : ℕ → QueueEntry → A) (entry : A → QueueEntry) (last first next : ℕ) (values new : List A) (x : A) (e : QueueEntry)
    → next ≡ first + length values → queue_end (record { first = first; entries = map entry values }) < last → x ≡ form next e → e ≡ entry x → new ≡ values ++ x ∷ []
    → AreNumbered form last (record { first = first; entries = map entry values }) values
    → AreNumbered form last (record { first = first; entries = map entry new }) new
are_numbered-push form entry last first next values new x e at room is same more all =
    let long : length (map entry values) ≡ length values = length-map values entry in
    let entries : map entry new ≡ map entry values ++ e ∷ [] = ap (map entry) more ∙ map-append entry values (x ∷ []) ∙ ap (λ d. map entry values ++ d ∷ []) (sym same) in
    let grown : length (map entry new) ≡ length (map entry values) + 1 = ap length entries ∙ length-append (map entry values) (e ∷ []) in
    record {
      numbers = more ∙ ap (λ y. values ++ y ∷ []) is ∙ ap (λ vs. vs ++ form next e ∷ []) all.numbers ∙ sym (numbered-push form first next (map entry values) e (omega arith)) ∙ ap (numbered form first) (sym entries);
      within = omega arith;
    }

-- without the first values
pub are_numbered-drop : {A : Type 0} (form : ℕ → QueueEntry → A) (entry : A → QueueEntry) (last first next k : ℕ) (values new : List A) → k ≤ length values → next ≡ first + k → new ≡ drop k values
    → AreNumbered form last (record { first = first; entries = map entry values }) values
    → AreNumbered form last (record { first = next; entries = map entry new }) new
are_numbered-drop form entry last first next k values new within at less all =
    let long : length (map entry values) ≡ length values = length-map values entry in
    let entries : map entry new ≡ drop k (map entry values) = ap (map entry) less ∙ sym (drop-map entry k values) in
    let shrunk : length (map entry new) ≡ length (map entry values) - k = ap length entries ∙ length-drop k (map entry values) in
    let end : first + length (map entry values) ≤ last = all.within in
    record {
      numbers = less ∙ ap (drop k) all.numbers ∙ sym (numbered-drop form k first next (map entry values) (omega arith) at) ∙ ap (numbered form next) (sym entries);
      within = omega arith;
    }

-- the queue is the trimmed one
pub is_trimmed : {A : Type 0} (entry : A → QueueEntry) (bound first next k : ℕ) (values new : List A) → k ≡ min (bound - first) (length values) → next ≡ first + k → new ≡ drop k values
    → record { first = next; entries = map entry new } ≡ trimmed_queue bound (record { first = first; entries = map entry values })
is_trimmed entry bound first next k values new is at less =
    let long : length (map entry values) ≡ length values = length-map values entry in
    let by : k ≡ min (bound - first) (length (map entry values)) = omega arith in
    ap (λ (n : ℕ). record { first = n; entries = map entry new }) at
    ∙ ap (λ (es : List QueueEntry). record { first = first + k; entries = es }) (ap (map entry) less ∙ sym (drop-map entry k values))
    ∙ ap (λ (j : ℕ). record { first = first + j; entries = drop j (map entry values) }) by

-- ---- what is kept, by its number
pub has_entry_at : (qs : List QueueRecord) (place k number : ℕ) (e : QueueEntry) → number ≡ (queue_at qs place).first + k → slice_get (queue_at qs place).entries k ≡ Some e → HasEntry qs place number e
has_entry_at [] place k number e is at = absurd (nothing_there k at)
  where
    nothing_there : (k : ℕ) → slice_get empty_queue.entries k ≡ Some e → ⊥
    nothing_there k at = cc
has_entry_at (q ∷ qs) zero k number e is at = (k, is, at)
has_entry_at (q ∷ qs) (suc place) k number e is at = has_entry_at qs place k number e is at

get_of : (A : Type 0) (xs : List A) (k : ℕ) (x : A) → slice_get xs k ≡ Some x → (k < length xs) × (x ≡ get_or xs k x)
get_of A [] k x at = cc
get_of A (y ∷ xs) zero x at = (omega arith, sym (some_once y x at))
get_of A (y ∷ xs) (suc k) x at = let rest = get_of A xs k x at in let l = rest.0 in (omega arith, rest.1)

pub some_at : {A : Type 0} (xs : List A) (k : ℕ) (x : A) → k < length xs → x ≡ get_or xs k x → slice_get xs k ≡ Some x
some_at [] k x within at = absurd (omega arith)
some_at (y ∷ xs) zero x within at = ap (λ z. Some z) (sym at)
some_at (y ∷ xs) (suc k) x within at = some_at xs k x (omega arith) at

get_dropped : (n k : ℕ) (es : List QueueEntry) → slice_get (drop n es) k ≡ slice_get es (n + k)
get_dropped zero k es = let is : k ≡ 0 + k = omega arith in ap (slice_get es) is
get_dropped (suc n) k [] = refl
get_dropped (suc n) k (e ∷ es) = let is : suc (n + k) ≡ suc n + k = omega arith in get_dropped n k es ∙ ap (slice_get (e ∷ es)) is

-- each of the numbered values is the queue's entry of its number
pub has_kept : {A : Type 0} (form : ℕ → QueueEntry → A) (number : A → ℕ) (entry : A → QueueEntry) (qs : List QueueRecord) (place i : ℕ) (values : List A) (x : A)
    → ((k : ℕ) (e : QueueEntry) → (number (form k e) ≡ k) × (entry (form k e) ≡ e))
    → values ≡ numbered form (queue_at qs place).first (queue_at qs place).entries → slice_get values i ≡ Some x → HasEntry qs place (number x) (entry x)
has_kept form number entry qs place i values x back all at =
    let q = queue_at qs place in
    let here = get_of _ (numbered form q.first q.entries) i x (ap (λ vs. slice_get vs i) (sym all) ∙ at) in
    let long = length-numbered form q.first q.entries in
    let within = here.0 in
    let there = numbered_at form q.first i q.entries x (omega arith) here.1 in
    let n : number x ≡ q.first + i = ap number there.2 ∙ (back (q.first + i) there.0).0 in
    let e : entry x ≡ there.0 = ap entry there.2 ∙ (back (q.first + i) there.0).1 in
    has_entry_at qs place i (number x) (entry x) n (there.1 ∙ ap (λ (d : QueueEntry). Some d) (sym e))

-- and of those numbered from a number on is the queue's entry of its number
pub has_numbered : {A : Type 0} (form : ℕ → QueueEntry → A) (number : A → ℕ) (entry : A → QueueEntry) (qs : List QueueRecord) (place seq i : ℕ) (values : List A) (x : A)
    → ((k : ℕ) (e : QueueEntry) → (number (form k e) ≡ k) × (entry (form k e) ≡ e))
    → values ≡ numbered form (max (queue_at qs place).first seq) (drop (seq - (queue_at qs place).first) (queue_at qs place).entries)
    → slice_get values i ≡ Some x → HasEntry qs place (number x) (entry x)
has_numbered form number entry qs place seq i values x back all at =
    let q = queue_at qs place in
    let left = drop (seq - q.first) q.entries in
    let here = get_of _ (numbered form (max q.first seq) left) i x (ap (λ vs. slice_get vs i) (sym all) ∙ at) in
    let long = length-numbered form (max q.first seq) left in
    let within = here.0 in
    let there = numbered_at form (max q.first seq) i left x (omega arith) here.1 in
    let n : number x ≡ max q.first seq + i = ap number there.2 ∙ (back (max q.first seq + i) there.0).0 in
    let e : entry x ≡ there.0 = ap entry there.2 ∙ (back (max q.first seq + i) there.0).1 in
    has_entry_at qs place (seq - q.first + i) (number x) (entry x) (omega arith) (sym (get_dropped (seq - q.first) i q.entries) ∙ there.1 ∙ ap (λ (d : QueueEntry). Some d) (sym e))

-- ---- values that are made of entries
-- what is numbered are the entries
pub numbered_entries : {A : Type 0} (form : ℕ → QueueEntry → A) (entry : A → QueueEntry) (first : ℕ) (es : List QueueEntry) → ((k : ℕ) (e : QueueEntry) → entry (form k e) ≡ e) → map entry (numbered form first es) ≡ es
numbered_entries form entry first [] back = refl
numbered_entries form entry first (e ∷ es) back = ap (λ (d : QueueEntry). d ∷ map entry (numbered form (first + 1) es)) (back first e) ∙ ap (λ ds. e ∷ ds) (numbered_entries form entry (first + 1) es back)

pub are_numbered : {A : Type 0} (form : ℕ → QueueEntry → A) (entry : A → QueueEntry) (last first : ℕ) (es : List QueueEntry) (values : List A) → ((k : ℕ) (e : QueueEntry) → entry (form k e) ≡ e)
    → values ≡ numbered form first es → first + length es ≤ last → AreNumbered form last (record { first = first; entries = map entry values }) values
are_numbered form entry last first es values back all within =
    let same : map entry values ≡ es = ap (map entry) all ∙ numbered_entries form entry first es back in
    let long : length (map entry values) ≡ length es = ap length same in
    record {
      numbers = all ∙ ap (numbered form first) (sym same);
      within = omega arith;
    }
