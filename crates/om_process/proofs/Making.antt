-- What a process makes: in which interval, and that it is one entry to a number.
use Rattle.std.proofs.Common.{◌≡◌, ◌⊎◌, inl, inr, ℕ, zero, suc, ◌+◌, ◌-◌, ◌≤◌, ◌<◌, List, [], ◌∷◌, ◌++◌, length, take, replicate, Some, refl, sym, ap, ◌∙◌, subst, arith}
use Rattle.std.specs.Prelude.{slice_get}
use Rattle.std.specs.List.{AllByRecursion}
use Rattle.std.proofs.lemmas.List.{take_all}
use Rattle.om_format.specs.declared.queue.QueueEntry.{QueueEntry}
use Rattle.om_format.specs.Queues.{QueueRecord}
use Rattle.om_process.specs.Process.{Process, Received, Program, Move, Waits, Ends, Traps, Goes, Emits, made, moved, delivered, emitted, started, empty_queue}
use Rattle.om_process.specs.Turns.{next_move, Turns, Leads, Along, Reaches}
use Rattle.om_process.specs.steps.Pieces.{From, KeepQueues}
use Rattle.om_process.specs.Parts.{Grow}
use Rattle.om_process.specs.Claims.{HasEntry, AtInterval, Makes}
use Rattle.om_process.proofs.Basics.{some_once, some_none}
use Rattle.om_process.proofs.Runs.{leads_once, turns_between, turns_grow, leads_grow, earlier}

none_there : (i : ℕ) (e : QueueEntry) → slice_get [] i ≡ Some e → ⊥
none_there i e h = cc

-- ---- no entry is of a later interval than the present one
abbrev pub Below : ℕ → List QueueRecord → Type 0
Below x qs = (place number : ℕ) (e : QueueEntry) → HasEntry qs place number e → e.interval ≤ x

last_of : (a : List QueueEntry) (i : ℕ) (new e : QueueEntry) → slice_get (a ++ new ∷ []) i ≡ Some e → (slice_get a i ≡ Some e) ⊎ (e ≡ new)
last_of [] zero new e h = inr (sym (some_once new e h))
last_of [] (suc i) new e h = absurd (none_there i e h)
last_of (b ∷ a) zero new e h = inl h
last_of (b ∷ a) (suc i) new e h = last_of a i new e h

emitted_has : (j : ℕ) (new : QueueEntry) (qs : List QueueRecord) (place number : ℕ) (e : QueueEntry) → HasEntry (emitted j new qs) place number e → HasEntry qs place number e ⊎ (e ≡ new)
emitted_has j new [] place number e h = absurd h
emitted_has zero new (q ∷ qs) zero number e h = elim (last_of q.entries h.0 new e h.2) [ inl at ↦ inl (h.0, h.1, at) | inr is ↦ inr is ]
emitted_has zero new (q ∷ qs) (suc place) number e h = inl h
emitted_has (suc j) new (q ∷ qs) zero number e h = inl h
emitted_has (suc j) new (q ∷ qs) (suc place) number e h = emitted_has j new qs place number e h

below_emitted : (x j : ℕ) (new : QueueEntry) (qs : List QueueRecord) → Below x qs → new.interval ≤ x → Below x (emitted j new qs)
below_emitted x j new qs all le place number e h = elim (emitted_has j new qs place number e h) [ inl old ↦ all place number e old | inr is ↦ subst (λ (i : QueueEntry). i.interval ≤ x) (sym is) le ]

below_moved : (s m : Process) (move : Move) → Below s.interval s.queues → moved s move ≡ Some m → Below m.interval m.queues
below_moved s m Waits b e = absurd (some_none m (sym e))
below_moved s m (Ends code) b e = absurd (some_none m (sym e))
below_moved s m (Traps cause) b e = absurd (some_none m (sym e))
below_moved s m (Goes next) b e = subst (λ (t : Process). Below t.interval t.queues) (some_once _ m e) b
below_moved s m (Emits place body next) b e = subst (λ (t : Process). Below t.interval t.queues) (some_once _ m e) (below_emitted s.interval place (record { interval = s.interval; body = body }) s.queues b (omega arith))

pub below_turns : (own n k : ℕ) (s t : Process) → Below s.interval s.queues → Turns own n k s t → Below t.interval t.queues
below_turns own n zero s t b a = subst (λ (m : Process). Below m.interval m.queues) (sym a) b
below_turns own n (suc k) s t b a = below_turns own n k a.0 t (below_moved s a.0 (next_move own n s.machine (made s.queues)) b a.1) a.2

later : (x : ℕ) (qs : List QueueRecord) → Below x qs → Below (x + 1) qs
later x qs b place number e h = let le = b place number e h in omega arith

pub below_leads : (own n : ℕ) (h : List Received) (s t : Process) → Below s.interval s.queues → Leads own n h s t → Below t.interval t.queues
below_leads own n [] s t b a = subst (λ (m : Process). Below m.interval m.queues) (sym a) b
below_leads own n (r ∷ rs) s t b a = below_leads own n rs (delivered own a.1 r) t (later a.1.interval a.1.queues (below_turns own n a.0 s a.1 b a.2)) a.4

nothing_made : (n place number : ℕ) (e : QueueEntry) → HasEntry (replicate n empty_queue ++ empty_queue ∷ []) place number e → ⊥
nothing_made zero zero number e h = none_there h.0 e h.2
nothing_made zero (suc place) number e h = h
nothing_made (suc n) zero number e h = none_there h.0 e h.2
nothing_made (suc n) (suc place) number e h = nothing_made n place number e h

-- the interval is the number of the receipts
pub interval_along : (program : Program) (own n k : ℕ) (h : List Received) (t : Process) → Along program own n h k t → t.interval ≡ length h
interval_along program own n k h t a =
    let e = (turns_grow own n k a.0 t a.2).0 in let f = (leads_grow own n h (started program n) a.0 a.1).0 in
    omega arith

-- each entry of a state along some receipts is of one of their intervals
pub below_along : (program : Program) (own n : ℕ) (h : List Received) (t : Process) → Reaches program own n h t → Below (length h) t.queues
below_along program own n h t a =
    subst (λ x. Below x t.queues) (interval_along program own n a.0 h t a.1)
    (below_turns own n a.0 a.1.0 t (below_leads own n h (started program n) a.1.0 (λ place number e there. absurd (nothing_made n place number e there)) a.1.1) a.1.2)

-- ---- what is there stays, and what is old enough was there before
entry_in : (a new : List QueueEntry) (i : ℕ) (e : QueueEntry) → slice_get a i ≡ Some e → slice_get (a ++ new) i ≡ Some e
entry_in [] new i e h = absurd (none_there i e h)
entry_in (x ∷ a) new zero e h = h
entry_in (x ∷ a) new (suc i) e h = entry_in a new i e h

pub entry_stays : (x place number : ℕ) (ps qs : List QueueRecord) (e : QueueEntry) → Grow x ps qs → HasEntry ps place number e → HasEntry qs place number e
entry_stays x place number [] [] e g h = absurd h
entry_stays x place number [] (q ∷ qs) e g h = absurd g
entry_stays x place number (p ∷ ps) [] e g h = absurd g
entry_stays x zero number (p ∷ ps) (q ∷ qs) e g h = (h.0, h.1 ∙ ap (λ f. f + h.0) (sym g.0.0), ap (λ l. slice_get l h.0) g.0.1.1 ∙ entry_in p.entries g.0.1.0 h.0 e h.2)
entry_stays x (suc place) number (p ∷ ps) (q ∷ qs) e g h = entry_stays x place number ps qs e g.1 h

old_entry : (x : ℕ) (a new : List QueueEntry) (i : ℕ) (e : QueueEntry) → AllByRecursion (λ d. x ≤ d.interval) new → slice_get (a ++ new) i ≡ Some e → e.interval < x → slice_get a i ≡ Some e
old_entry x [] [] i e all h lt = h
old_entry x [] (d ∷ new) zero e all h lt = let is = some_once d e h in let le : x ≤ e.interval = subst (λ (j : QueueEntry). x ≤ j.interval) is all.0 in absurd (omega arith)
old_entry x [] (d ∷ new) (suc i) e all h lt = let r = old_entry x [] new i e all.1 h lt in absurd (none_there i e r)
old_entry x (d ∷ a) new zero e all h lt = h
old_entry x (d ∷ a) new (suc i) e all h lt = old_entry x a new i e all h lt

pub old_in_queue : (x place number : ℕ) (ps qs : List QueueRecord) (e : QueueEntry) → Grow x ps qs → HasEntry qs place number e → e.interval < x → HasEntry ps place number e
old_in_queue x place number [] [] e g h lt = absurd h
old_in_queue x place number [] (q ∷ qs) e g h lt = absurd g
old_in_queue x place number (p ∷ ps) [] e g h lt = absurd g
old_in_queue x zero number (p ∷ ps) (q ∷ qs) e g h lt = (h.0, h.1 ∙ ap (λ f. f + h.0) g.0.0, old_entry x p.entries g.0.1.0 h.0 e g.0.1.2 (ap (λ l. slice_get l h.0) (sym g.0.1.1) ∙ h.2) lt)
old_in_queue x (suc place) number (p ∷ ps) (q ∷ qs) e g h lt = old_in_queue x place number ps qs e g.1 h lt

-- what is made along more receipts, in an interval of the earlier ones, is made along those
pub made_before : (program : Program) (own n place number : ℕ) (g h : List Received) (r : Received) (e : QueueEntry) → e.interval ≤ length g → Makes program own n place number e (g ++ r ∷ h) → Makes program own n place number e g
made_before program own n place number g h r e le m =
    let w = earlier own n (started program n) m.0 g h r m.1.0 m.1.1 in
    (w.1, (w.0, w.2), old_in_queue (0 + length g + 1) place number w.1.queues m.0.queues e w.4 m.2 (omega arith))

split_at : (x : ℕ) (h : List Received) → x < length h → (r : Received) × (rest : List Received) × (h ≡ take x h ++ r ∷ rest) × (length (take x h) ≡ x)
split_at x [] lt = absurd (omega arith)
split_at zero (r ∷ h) lt = (r, h, refl, refl)
split_at (suc x) (r ∷ h) lt = let s = split_at x h (omega arith) in (s.0, s.1, ap (λ l. r ∷ l) s.2, ap suc s.3)

-- each entry is made at its interval, or any later one
pub made_from : (program : Program) (own n place number x : ℕ) (h : List Received) (e : QueueEntry) → e.interval ≤ x → x ≤ length h → Makes program own n place number e h → Makes program own n place number e (take x h)
made_from program own n place number x h e old le m = at (length h - x) refl
  where
    at : (d : ℕ) → length h - x ≡ d → Makes program own n place number e (take x h)
    at zero is = subst (Makes program own n place number e) (sym (take_all x h (omega arith))) m
    at (suc d) is = let s = split_at x h (omega arith) in let l = s.3 in made_before program own n place number (take x h) s.1 s.0 e (omega arith) (subst (Makes program own n place number e) s.2 m)

-- no premise on the interval: an entry is of an interval of its receipts
pub made_at : (program : Program) (own n place number : ℕ) (h : List Received) (e : QueueEntry) → Makes program own n place number e h → AtInterval h e.interval (Makes program own n place number e)
made_at program own n place number h e m =
    let le = below_along program own n h m.0 m.1 place number e m.2 in
    (le, made_from program own n place number e.interval h e (omega arith) le m)

-- ---- one entry to a number
once_here : (qs : List QueueRecord) (place number : ℕ) (a b : QueueEntry) → HasEntry qs place number a → HasEntry qs place number b → a ≡ b
once_here [] place number a b f g = absurd f
once_here (q ∷ qs) zero number a b f g =
    let e = f.1 in let d = g.1 in let same : f.0 ≡ g.0 = omega arith in
    some_once a b (sym f.2 ∙ ap (slice_get q.entries) same ∙ g.2)
once_here (q ∷ qs) (suc place) number a b f g = once_here qs place number a b f g

-- two states along the same receipts agree at a number that both have
same_here : (program : Program) (own n place number : ℕ) (h : List Received) (a b : QueueEntry) → Makes program own n place number a h → Makes program own n place number b h → a ≡ b
same_here program own n place number h a b f g = go (le_or k i)
  where
    le_or : (x y : ℕ) → (x ≤ y) ⊎ (y ≤ x)
    le_or x y = grind arith

    k : ℕ
    k = f.1.0

    i : ℕ
    i = g.1.0

    u : From own n (started program n) h k f.0
    u = f.1.1

    v : From own n (started program n) h i g.0
    v = g.1.1

    same : u.0 ≡ v.0
    same = leads_once own n h (started program n) u.0 v.0 u.1 v.1

    go : (k ≤ i) ⊎ (i ≤ k) → a ≡ b
    go (inl le) = let on = turns_between own n k i u.0 f.0 g.0 u.2 (subst (λ x. Turns own n i x g.0) (sym same) v.2) le in once_here g.0.queues place number a b (entry_stays f.0.interval place number f.0.queues g.0.queues a (turns_grow own n on.0 f.0 g.0 on.1).1 f.2) g.2
    go (inr le) = let on = turns_between own n i k v.0 g.0 f.0 v.2 (subst (λ x. Turns own n k x f.0) same u.2) le in once_here f.0.queues place number a b f.2 (entry_stays g.0.interval place number g.0.queues f.0.queues b (turns_grow own n on.0 g.0 f.0 on.1).1 g.2)

take_take : (m n : ℕ) (h : List Received) → m ≤ n → take m (take n h) ≡ take m h
take_take zero n h le = refl
take_take (suc m) zero h le = absurd (omega arith)
take_take (suc m) (suc n) [] le = refl
take_take (suc m) (suc n) (r ∷ h) le = ap (λ g. r ∷ g) (take_take m n h (omega arith))

-- along the first x receipts, and along the first y: each was made at its own interval, so both are made along the fewer
pub same_entry : (program : Program) (own n place number x y : ℕ) (h : List Received) (a b : QueueEntry) → x ≤ length h → y ≤ length h → b.interval ≤ x → a.interval ≤ y → Makes program own n place number a (take x h) → Makes program own n place number b (take y h) → a ≡ b
same_entry program own n place number x y h a b xs ys old new f g = go (le_or x y)
  where
    le_or : (x y : ℕ) → (x ≤ y) ⊎ (y ≤ x)
    le_or x y = grind arith

    long : (x : ℕ) (h : List Received) → x ≤ length h → length (take x h) ≡ x
    long zero h le = refl
    long (suc x) [] le = absurd (omega arith)
    long (suc x) (r ∷ h) le = ap suc (long x h (omega arith))

    go : (x ≤ y) ⊎ (y ≤ x) → a ≡ b
    go (inl le) = let l = long y h ys in same_here program own n place number (take x h) a b f (subst (Makes program own n place number b) (take_take x y h le) (made_from program own n place number x (take y h) b old (omega arith) g))
    go (inr le) = let l = long x h xs in same_here program own n place number (take y h) a b (subst (Makes program own n place number a) (take_take y x h le) (made_from program own n place number y (take x h) a new (omega arith) f)) g

-- ---- what a part has the whole one has
behind : (gone kept : List QueueEntry) (i : ℕ) (e : QueueEntry) → slice_get kept i ≡ Some e → slice_get (gone ++ kept) (length gone + i) ≡ Some e
behind [] kept i e h = ap (slice_get kept) (none_less i) ∙ h
  where
    none_less : (i : ℕ) → 0 + i ≡ i
    none_less i = omega arith
behind (d ∷ gone) kept i e h = ap (slice_get (d ∷ gone ++ kept)) (one_less (length gone) i) ∙ behind gone kept i e h
  where
    one_less : (j i : ℕ) → suc j + i ≡ suc (j + i)
    one_less j i = omega arith

pub part_has : (ps qs : List QueueRecord) (place number : ℕ) (e : QueueEntry) → KeepQueues ps qs → HasEntry qs place number e → HasEntry ps place number e
part_has [] [] place number e k h = absurd h
part_has [] (q ∷ qs) place number e k h = absurd k
part_has (p ∷ ps) [] place number e k h = absurd k
part_has (p ∷ ps) (q ∷ qs) zero number e k h =
    let f : q.first ≡ p.first + length k.0.0 = k.0.2 in let g : number ≡ q.first + h.0 = h.1 in
    (length k.0.0 + h.0, omega arith, ap (λ l. slice_get l (length k.0.0 + h.0)) k.0.1 ∙ behind k.0.0 q.entries h.0 e h.2)
part_has (p ∷ ps) (q ∷ qs) (suc place) number e k h = part_has ps qs place number e k.1 h
