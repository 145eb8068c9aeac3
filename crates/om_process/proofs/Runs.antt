-- Runs of a process: one state at most, runs joined and parted, and how the queues grow.
use Rattle.std.proofs.Common.{◌≡◌, ℕ, zero, suc, ◌+◌, ◌≤◌, List, [], ◌∷◌, ◌++◌, length, Some, refl, sym, ap, ◌∙◌, subst, arith}
use Rattle.std.specs.List.{AllByRecursion}
use Rattle.std.proofs.lemmas.List.{append_assoc, append-nil}
use Rattle.om_format.specs.declared.queue.QueueEntry.{QueueEntry}
use Rattle.om_format.specs.Queues.{QueueRecord}
use Rattle.om_format.specs.Receipts.{ReceiptRecord}
use Rattle.om_process.specs.Process.{Process, Received, Move, Waits, Ends, Traps, Goes, Emits, made, moved, delivered, emitted}
use Rattle.om_process.specs.Turns.{next_move, next_turn, Turns, Leads, IsWaiting}
use Rattle.om_process.specs.Replays.{Replayed, received_of}
use Rattle.om_process.specs.steps.Pieces.{receipts_of, From}
use Rattle.om_process.specs.Parts.{Grow}
use Rattle.om_process.proofs.Basics.{some_once, some_none}

-- one turn at most
pub one_turn : (own size : ℕ) (s m n : Process) → next_turn own size s ≡ Some m → next_turn own size s ≡ Some n → m ≡ n
one_turn own size s m n a b = some_once m n (sym a ∙ b)

-- none at a wait
pub no_turn : (own size : ℕ) (s m : Process) → IsWaiting own size s → next_turn own size s ≡ Some m → ⊥
no_turn own size s m w a = some_none m (sym a ∙ ap (moved s) w)

pub turns_once : (own size : ℕ) (k : ℕ) (s t u : Process) → Turns own size k s t → Turns own size k s u → t ≡ u
turns_once own size zero s t u a b = a ∙ sym b
turns_once own size (suc k) s t u a b = turns_once own size k a.0 t u a.2 (subst (λ m. Turns own size k m u) (one_turn own size s b.0 a.0 b.1 a.1) b.2)

-- one wait at most, however many turns lead to it
pub waits_once : (own size : ℕ) (j k : ℕ) (s t u : Process) → Turns own size j s t → IsWaiting own size t → Turns own size k s u → IsWaiting own size u → t ≡ u
waits_once own size zero zero s t u a _ b _ = a ∙ sym b
waits_once own size zero (suc k) s t u a w b _ = absurd (no_turn own size s b.0 (subst (IsWaiting own size) a w) b.1)
waits_once own size (suc j) zero s t u a _ b w = absurd (no_turn own size s a.0 (subst (IsWaiting own size) b w) a.1)
waits_once own size (suc j) (suc k) s t u a v b w = waits_once own size j k a.0 t u a.2 v (subst (λ m. Turns own size k m u) (one_turn own size s b.0 a.0 b.1 a.1) b.2) w

pub leads_once : (own size : ℕ) (h : List Received) (s t u : Process) → Leads own size h s t → Leads own size h s u → t ≡ u
leads_once own size [] s t u a b = a ∙ sym b
leads_once own size (r ∷ rs) s t u a b =
    leads_once own size rs (delivered own a.1 r) t u a.4 (subst (λ w. Leads own size rs (delivered own w r) u) (waits_once own size b.0 a.0 s b.1 a.1 b.2 b.3 a.2 a.3) b.4)

pub along_once : (own size : ℕ) (start : Process) (h : List Received) (k : ℕ) (s t : Process) → From own size start h k s → From own size start h k t → s ≡ t
along_once own size start h k s t a b = turns_once own size k a.0 s t a.2 (subst (λ m. Turns own size k m t) (leads_once own size h start b.0 a.0 b.1 a.1) b.2)

pub turns_then : (own size : ℕ) (j k : ℕ) (s m t : Process) → Turns own size j s m → Turns own size k m t → (n : ℕ) × Turns own size n s t
turns_then own size zero k s m t a b = (k, subst (λ x. Turns own size k x t) a b)
turns_then own size (suc j) k s m t a b = let r = turns_then own size j k a.0 m t a.2 b in (suc r.0, (a.0, a.1, r.1))

-- of two states on one way, one comes after the other
pub turns_between : (own size : ℕ) (j k : ℕ) (s m t : Process) → Turns own size j s m → Turns own size k s t → j ≤ k → (n : ℕ) × Turns own size n m t
turns_between own size zero k s m t a b h = (k, subst (λ x. Turns own size k x t) (sym a) b)
turns_between own size (suc j) zero s m t a b h = absurd (omega arith)
turns_between own size (suc j) (suc k) s m t a b h = turns_between own size j k a.0 m t a.2 (subst (λ x. Turns own size k x t) (one_turn own size s b.0 a.0 b.1 a.1) b.2) (omega arith)

-- what leads on from a state leads on from one before it
pub leads_before : (own size : ℕ) (j : ℕ) (r : Received) (rs : List Received) (s m t : Process) → Turns own size j s m → Leads own size (r ∷ rs) m t → Leads own size (r ∷ rs) s t
leads_before own size j r rs s m t a b = let c = turns_then own size j b.0 s m b.1 a b.2 in (c.0, b.1, c.1, b.3, b.4)

pub leads_then : (own size : ℕ) (g h : List Received) (s m t : Process) → Leads own size g s m → Leads own size h m t → Leads own size (g ++ h) s t
leads_then own size [] h s m t a b = subst (λ x. Leads own size h x t) a b
leads_then own size (r ∷ g) h s m t a b = (a.0, a.1, a.2, a.3, leads_then own size g h (delivered own a.1 r) m t a.4 b)

pub leads_apart : (own size : ℕ) (g h : List Received) (s t : Process) → Leads own size (g ++ h) s t → (m : Process) × Leads own size g s m × Leads own size h m t
leads_apart own size [] h s t a = (s, refl, a)
leads_apart own size (r ∷ g) h s t a = let b = leads_apart own size g h (delivered own a.1 r) t a.4 in (b.0, (a.0, a.1, a.2, a.3, b.1), b.2)

-- one delivery more
pub leads_more : (own size : ℕ) (h : List Received) (k : ℕ) (s w : Process) (r : Received) → From own size s h k w → IsWaiting own size w → Leads own size (h ++ r ∷ []) s (delivered own w r)
leads_more own size h k s w r a is = leads_then own size h (r ∷ []) s a.0 (delivered own w r) a.1 (k, w, a.2, is, refl)

pub replay_leads : (own size : ℕ) (rs : List ReceiptRecord) (s t : Process) → Replayed own size s rs t → Leads own size (receipts_of rs) s t
replay_leads own size [] s t a = a
replay_leads own size (r ∷ rs) s t a = (a.0, a.1, a.2, a.3.waits, replay_leads own size rs (delivered own a.1 (received_of r)) t a.4)

-- going on from a state along the way
pub going_on : (own size : ℕ) (start c t : Process) (h : List Received) (k : ℕ) (rs : List ReceiptRecord) → From own size start h k c → Replayed own size c rs t → (j : ℕ) × From own size start (h ++ receipts_of rs) j t
going_on own size start c t h k [] a b = (k, (a.0, subst (λ g. Leads own size g start a.0) (sym (append-nil h)) a.1, subst (λ x. Turns own size k a.0 x) (sym b) a.2))
going_on own size start c t h k (r ∷ rs) a b = (0, (t, leads_then own size h (receipts_of (r ∷ rs)) start a.0 t a.1 (leads_before own size k (received_of r) (receipts_of rs) a.0 c t a.2 (replay_leads own size (r ∷ rs) c t b)), refl))

-- growth of the queues
grow_same : (x : ℕ) (qs : List QueueRecord) → Grow x qs qs
grow_same x [] = tt
grow_same x (q ∷ qs) = ((refl, ([], sym (append-nil q.entries), tt)), grow_same x qs)

grow_emitted : (x j : ℕ) (item : QueueEntry) (qs : List QueueRecord) → x ≤ item.interval → Grow x qs (emitted j item qs)
grow_emitted x j item [] h = tt
grow_emitted x zero item (q ∷ qs) h = ((refl, (item ∷ [], refl, (h, tt))), grow_same x qs)
grow_emitted x (suc j) item (q ∷ qs) h = ((refl, ([], sym (append-nil q.entries), tt)), grow_emitted x j item qs h)

all_append : (x : ℕ) (a b : List QueueEntry) → AllByRecursion (λ i. x ≤ i.interval) a → AllByRecursion (λ i. x ≤ i.interval) b → AllByRecursion (λ i. x ≤ i.interval) (a ++ b)
all_append x [] b h g = g
all_append x (i ∷ a) b h g = (h.0, all_append x a b h.1 g)

all_above : (x y : ℕ) (a : List QueueEntry) → x ≤ y → AllByRecursion (λ i. y ≤ i.interval) a → AllByRecursion (λ i. x ≤ i.interval) a
all_above x y [] le h = tt
all_above x y (i ∷ a) le h = (omega arith, all_above x y a le h.1)

pub grow_then : (x y : ℕ) (ps qs rs : List QueueRecord) → x ≤ y → Grow x ps qs → Grow y qs rs → Grow x ps rs
grow_then x y [] [] [] le g h = tt
grow_then x y [] [] (r ∷ rs) le g h = absurd h
grow_then x y [] (q ∷ qs) rs le g h = absurd g
grow_then x y (p ∷ ps) [] rs le g h = absurd g
grow_then x y (p ∷ ps) (q ∷ qs) [] le g h = absurd h
grow_then x y (p ∷ ps) (q ∷ qs) (r ∷ rs) le g h = (
  (
    h.0.0 ∙ g.0.0,
    (
      g.0.1.0 ++ h.0.1.0,
      h.0.1.1 ∙ ap (λ l. l ++ h.0.1.0) g.0.1.1 ∙ append_assoc p.entries g.0.1.0 h.0.1.0,
      all_append x g.0.1.0 h.0.1.0 g.0.1.2 (all_above x y h.0.1.0 le h.0.1.2),
    ),
  ),
  grow_then x y ps qs rs le g.1 h.1,
)

pub moved_grows : (s m : Process) (move : Move) → moved s move ≡ Some m → (m.interval ≡ s.interval) × Grow s.interval s.queues m.queues
moved_grows s m Waits e = absurd (some_none m (sym e))
moved_grows s m (Ends code) e = absurd (some_none m (sym e))
moved_grows s m (Traps cause) e = absurd (some_none m (sym e))
moved_grows s m (Goes next) e = let is = some_once _ m e in subst (λ n. (n.interval ≡ s.interval) × Grow s.interval s.queues n.queues) is (refl, grow_same s.interval s.queues)
moved_grows s m (Emits queue body next) e = let is = some_once _ m e in subst (λ n. (n.interval ≡ s.interval) × Grow s.interval s.queues n.queues) is (refl, grow_emitted s.interval queue (record { interval = s.interval; body = body }) s.queues (omega arith))

pub turns_grow : (own size : ℕ) (k : ℕ) (s t : Process) → Turns own size k s t → (t.interval ≡ s.interval) × Grow s.interval s.queues t.queues
turns_grow own size zero s t a = subst (λ n. (n.interval ≡ s.interval) × Grow s.interval s.queues n.queues) (sym a) (refl, grow_same s.interval s.queues)
turns_grow own size (suc k) s t a =
    let one = moved_grows s a.0 (next_move own size s.machine (made s.queues)) a.1 in
    let more = turns_grow own size k a.0 t a.2 in
    (more.0 ∙ one.0, grow_then s.interval a.0.interval s.queues a.0.queues t.queues (omega arith) one.1 more.1)

pub leads_grow : (own size : ℕ) (h : List Received) (s t : Process) → Leads own size h s t → (t.interval ≡ s.interval + length h) × Grow s.interval s.queues t.queues
leads_grow own size [] s t a = subst (λ n. (n.interval ≡ s.interval + 0) × Grow s.interval s.queues n.queues) (sym a) (omega arith, grow_same s.interval s.queues)
leads_grow own size (r ∷ rs) s t a =
    let one = turns_grow own size a.0 s a.1 a.2 in
    let more = leads_grow own size rs (delivered own a.1 r) t a.4 in
    let next = one.0 in let then = more.0 in
    (omega arith, grow_then s.interval (a.1.interval + 1) s.queues a.1.queues t.queues (omega arith) one.1 more.1)

grown : (a b x y : ℕ) → x ≡ a + b → y ≡ x → y + 1 ≡ a + b + 1
grown a b x y e f = omega arith

-- what stands before a later receipt: a wait along the earlier ones; what is made after it has a greater interval
pub earlier : (own size : ℕ) (start t : Process) (g h : List Received) (r : Received) (k : ℕ) → From own size start (g ++ r ∷ h) k t
    → (j : ℕ) × (w : Process) × From own size start g j w × IsWaiting own size w × Grow (start.interval + length g + 1) w.queues t.queues
earlier own size start t g h r k a =
    let b = leads_apart own size g (r ∷ h) start a.0 a.1 in
    let w = b.2.1 in
    let at = leads_grow own size g start b.0 b.1 in
    let same = turns_grow own size b.2.0 b.0 w b.2.2 in
    let rest = leads_grow own size h (delivered own w r) a.0 b.2.4 in
    let last = turns_grow own size k a.0 t a.2 in
    let e = at.0 in let f = same.0 in let i = rest.0 in
    (b.2.0, w, (b.0, b.1, b.2.2), b.2.3, grow_then (start.interval + length g + 1) a.0.interval w.queues a.0.queues t.queues (omega arith) (subst (λ x. Grow x w.queues a.0.queues) (grown start.interval (length g) b.0.interval w.interval e f) rest.1) last.1)
