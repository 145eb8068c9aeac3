-- Messages that are put on their way.
use Rattle.std.proofs.Common.{◌≡◌, ℕ, zero, suc, ◌+◌, ◌-◌, ◌≤◌, ◌<◌, List, [], ◌∷◌, ◌++◌, length, take, drop, replicate, Option, Some, None, refl, sym, ap, ◌∙◌, arith}
use Rattle.std.specs.Prelude.{slice_get, slice_index, Result, Ok, Err, IfOk}
use Rattle.std.specs.Global.{Vec}
use Rattle.std.specs.declared.alloc.AllocError.{AllocError}
use Rattle.std.proofs.lemmas.List.{append_assoc, append-nil, take_all}
use Rattle.om_format.specs.declared.message.Message.{Message}
use Rattle.om_format.specs.declared.queue.QueueEntry.{QueueEntry}
use Rattle.om_process.specs.Core.{CoreState, cluster_size}
use Rattle.om_process.specs.Frames.{frame_at, messages_to}
use Rattle.om_process.specs.steps.Pieces.{frame_of}
use Rattle.om_process.specs.Kept.{numbered}
use Rattle.om_process.proofs.Numbering.{length-numbered}
use Rattle.om_world.specs.Changes.{message_of, messages_behind}
use Rattle.om_world.specs.steps.Running.{messages_in}
use Rattle.om_world.specs.steps.Running.{messages_past}
use Rattle.om_world.proofs.Lists.{none_in, none_some, once, there}

numbered_get : (c : CoreState) (to first k : ℕ) (es : List QueueEntry) → slice_get (numbered (message_of c to) first es) k ≡ frame_of c to (first + k) (slice_get es k)
numbered_get c to first k [] = none k
  where
    none : (k : ℕ) → slice_get [] k ≡ frame_of c to (first + k) (slice_get [] k)
    none zero = refl
    none (suc k) = refl
numbered_get c to first zero (e ∷ es) = ap (λ x. Some (message_of c to x e)) (plain first)
  where
    plain : (x : ℕ) → x ≡ x + 0
    plain x = omega arith
numbered_get c to first (suc k) (e ∷ es) = numbered_get c to (first + 1) k es ∙ ap (λ x. frame_of c to x (slice_get es k)) (next first k)
  where
    next : (x k : ℕ) → (x + 1) + k ≡ x + suc k
    next x k = omega arith

-- the k-th of the messages
pub message_at : (c : CoreState) (to k : ℕ) → slice_get (messages_in c to) k ≡ frame_at c to k
message_at c to k = numbered_get c to (messages_to c to).first k (messages_to c to).entries

pub messages_long : (c : CoreState) (to : ℕ) → length (messages_in c to) ≡ length (messages_to c to).entries
messages_long c to = length-numbered (message_of c to) (messages_to c to).first (messages_to c to).entries

pub drop_get : (ms : List Message) (few k : ℕ) → slice_get (drop few ms) k ≡ slice_get ms (few + k)
drop_get ms zero k = ap (slice_get ms) (plain k)
  where
    plain : (k : ℕ) → k ≡ 0 + k
    plain k = omega arith
drop_get [] (suc few) k = none k (few + k)
  where
    nothing : List Message
    nothing = []

    none : (i j : ℕ) → slice_get nothing i ≡ slice_get nothing (suc j)
    none zero j = refl
    none (suc i) j = refl
drop_get (m ∷ ms) (suc few) k = drop_get ms few k ∙ ap (slice_get (m ∷ ms)) (next few k)
  where
    next : (few k : ℕ) → suc (few + k) ≡ suc few + k
    next few k = omega arith

take_push : (ms : List Message) (k : ℕ) (m : Message) → slice_get ms k ≡ Some m → take k ms ++ m ∷ [] ≡ take (k + 1) ms
take_push [] k m at = absurd (none_in k m at)
take_push (x ∷ ms) zero m at = ap (λ y. y ∷ []) (sym (once x m at))
take_push (x ∷ ms) (suc k) m at = ap (λ l. x ∷ l) (take_push ms k m at) ∙ ap (λ j. take j (x ∷ ms)) (next k)
  where
    next : (k : ℕ) → suc (k + 1) ≡ suc k + 1
    next k = omega arith

-- so many of the messages behind the first few are added
abbrev pub AreAdded : List Message → CoreState → ℕ → ℕ → ℕ → List Message → Type 0
AreAdded old c to few k new = (few ≤ k) × (new ≡ old ++ take (k - few) (drop few (messages_in c to)))

pub none_added : (old : List Message) (c : CoreState) (to few : ℕ) → AreAdded old c to few few old
none_added old c to few = (omega arith, sym (append-nil old) ∙ ap (λ j. old ++ take j (drop few (messages_in c to))) (zero_is few))
  where
    zero_is : (few : ℕ) → 0 ≡ few - few
    zero_is few = omega arith

pub one_added : (old mid new : List Message) (c : CoreState) (to few k : ℕ) (m : Message) → AreAdded old c to few k mid → frame_at c to k ≡ Some m → new ≡ mid ++ m ∷ [] → AreAdded old c to few (k + 1) new
one_added old mid new c to few k m a at is =
    let ms = messages_in c to in
    let le = a.0 in
    let here : slice_get (drop few ms) (k - few) ≡ Some m = drop_get ms few (k - few) ∙ ap (slice_get ms) (back few k le) ∙ message_at c to k ∙ at in
    (omega arith, is ∙ ap (λ l. l ++ m ∷ []) a.1 ∙ append_assoc old (take (k - few) (drop few ms)) (m ∷ []) ∙ ap (λ l. old ++ l) (take_push (drop few ms) (k - few) m here) ∙ ap (λ j. old ++ take j (drop few ms)) (next few k le))
  where
    back : (few k : ℕ) → few ≤ k → few + (k - few) ≡ k
    back few k le = omega arith

    next : (few k : ℕ) → few ≤ k → (k - few) + 1 ≡ (k + 1) - few
    next few k le = omega arith

length-drop : (ms : List Message) (few : ℕ) → length (drop few ms) ≡ length ms - few
length-drop ms zero = plain (length ms)
  where
    plain : (n : ℕ) → n ≡ n - 0
    plain n = omega arith
length-drop [] (suc few) = omega arith
length-drop (m ∷ ms) (suc few) = length-drop ms few ∙ less (length ms) few
  where
    less : (n few : ℕ) → n - few ≡ suc n - suc few
    less n few = omega arith

pub all_added : (old new : List Message) (c : CoreState) (to few k : ℕ) → AreAdded old c to few k new → length (messages_to c to).entries ≤ k → new ≡ old ++ drop few (messages_in c to)
all_added old new c to few k a le =
    let ms = messages_in c to in
    let long = messages_long c to in let rest = length-drop ms few in
    a.1 ∙ ap (λ l. old ++ l) (take_all (k - few) (drop few ms) (omega arith))

-- where there is one more there is a message
pub some_frame : (c : CoreState) (to k : ℕ) → k < length (messages_to c to).entries → frame_at c to k ≡ None → ⊥
some_frame c to k lt none = let long = messages_long c to in let m = there (messages_in c to) k (omega arith) in none_some (frame_at c to k) m.0 none (sym (message_at c to k) ∙ m.1)

-- ---- all of them
pub messages_same : (c : CoreState) (f g : ℕ → ℕ) (n : ℕ) → ((to : ℕ) → f to ≡ g to) → messages_behind c f n ≡ messages_behind c g n
messages_same c f g zero all = refl
messages_same c f g (suc n) all = ap (λ l. l ++ drop (f n) (messages_in c n)) (messages_same c f g n all) ∙ ap (λ k. messages_behind c g n ++ drop k (messages_in c n)) (all n)

pub zero_at : (n to : ℕ) → slice_index (replicate n 0) to ≡ 0
zero_at zero to = refl
zero_at (suc n) zero = refl
zero_at (suc n) (suc to) = zero_at n to

pub frames_here : (cs : List (Option CoreState)) (p : ℕ) (c : CoreState) (few : List ℕ) (r : Result (Vec Message) AllocError) → slice_get cs p ≡ Some (Some c)
    → IfOk r (λ frames. frames.items ≡ messages_behind c (λ to. slice_index few to) (cluster_size c.now)) → IfOk r (λ frames. (x : CoreState) × (slice_get cs p ≡ Some (Some x)) × (frames.items ≡ messages_past x few))
frames_here cs p c few (Ok frames) at is = (c, at, is)
frames_here cs p c few (Err e) at is = tt
