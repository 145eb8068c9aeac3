-- A queue among others gains an entry.
use Rattle.std.proofs.Common.{◌≡◌, ℕ, zero, suc, ◌+◌, ◌-◌, ◌<◌, ◌≤◌, ◌&&◌, Bool, true, false, List, [], ◌∷◌, ◌++◌, length, drop, map, set, take, get_or, length-append, refl, sym, ap, ◌∙◌, arith}
use Rattle.std.specs.Prelude.{min}
use Rattle.std.proofs.lemmas.List.{length-drop}
use Rattle.om_format.specs.declared.limits.TheConstants.{MAX_BODY}
use Rattle.om_format.specs.declared.queue.QueueEntry.{QueueEntry}
use Rattle.om_format.specs.Queues.{QueueRecord, queue_end, are_entries, all_entries}
use Rattle.om_format.proofs.Entries.{are_entries-drop, are_entries-push}
use Rattle.om_process.specs.Kept.{queue_at}
use Rattle.om_process.specs.Process.{emitted}
use Rattle.om_process.specs.steps.Pieces.{with_entry}
use Rattle.om_process.specs.Trims.{trimmed_queue, trimmed_queues}

pub emitted_at : (qs : List QueueRecord) (place : ℕ) (old new : QueueRecord) (e : QueueEntry) → place < length qs → old ≡ get_or qs place old → new ≡ with_entry e old → set qs place new ≡ emitted place e qs
emitted_at [] place old new e within at is = absurd (omega arith)
emitted_at (q ∷ qs) zero old new e within at is = ap (λ r. r ∷ qs) (is ∙ ap (with_entry e) at)
emitted_at (q ∷ qs) (suc place) old new e within at is = ap (λ rs. q ∷ rs) (emitted_at qs place old new e (omega arith) at is)

pub same_at : (qs : List QueueRecord) (place : ℕ) (old new : QueueRecord) → place < length qs → old ≡ get_or qs place old → new ≡ old → set qs place new ≡ qs
same_at [] place old new within at is = absurd (omega arith)
same_at (q ∷ qs) zero old new within at is = ap (λ r. r ∷ qs) (is ∙ at)
same_at (q ∷ qs) (suc place) old new within at is = ap (λ rs. q ∷ rs) (same_at qs place old new (omega arith) at is)

-- the end of the queue at a place is that place of the ends
pub end_at : (qs : List QueueRecord) (place : ℕ) (q : QueueRecord) → place < length qs → q ≡ get_or qs place q → queue_end q ≡ get_or (map queue_end qs) place 0
end_at [] place q within at = absurd (omega arith)
end_at (p ∷ qs) zero q within at = ap queue_end at
end_at (p ∷ qs) (suc place) q within at = end_at qs place q (omega arith) at

-- ---- the ends of queues and their entries, as one gains an entry
pub ends-append : (qs : List QueueRecord) (q : QueueRecord) → map queue_end (qs ++ q ∷ []) ≡ map queue_end qs ++ queue_end q ∷ []
ends-append [] q = refl
ends-append (p ∷ qs) q = ap (λ es. queue_end p ∷ es) (ends-append qs q)

pub end_with : (e : QueueEntry) (q : QueueRecord) → queue_end (with_entry e q) ≡ queue_end q + 1
end_with e q = simp (length-append) (omega arith)

-- so many were made at that place, one more than before
pub ends_emitted : (place : ℕ) (e : QueueEntry) (qs : List QueueRecord) → map queue_end (emitted place e qs) ≡ set (map queue_end qs) place (get_or (map queue_end qs) place 0 + 1)
ends_emitted place e [] = refl
ends_emitted zero e (q ∷ qs) = ap (λ x. x ∷ map queue_end qs) (end_with e q)
ends_emitted (suc place) e (q ∷ qs) = ap (λ es. queue_end q ∷ es) (ends_emitted place e qs)

pub emitted-append : (place : ℕ) (e : QueueEntry) (qs rs : List QueueRecord) → place < length qs → emitted place e (qs ++ rs) ≡ emitted place e qs ++ rs
emitted-append place e [] rs within = absurd (omega arith)
emitted-append zero e (q ∷ qs) rs within = refl
emitted-append (suc place) e (q ∷ qs) rs within = ap (λ more. q ∷ more) (emitted-append place e qs rs (omega arith))

pub emitted-last : (e : QueueEntry) (qs : List QueueRecord) (q : QueueRecord) → emitted (length qs) e (qs ++ q ∷ []) ≡ qs ++ with_entry e q ∷ []
emitted-last e [] q = refl
emitted-last e (p ∷ qs) q = ap (λ more. p ∷ more) (emitted-last e qs q)

both : (a b : Bool) → (a && b) ≡ true → (a ≡ true) × (b ≡ true)
both true b e = (refl, e)
both false b e = cc

and : (a b : Bool) → a ≡ true → b ≡ true → (a && b) ≡ true
and a b ea eb = rw (ea, eb) refl

-- one more entry, of the newest interval
pub all_entries_emitted : (newest place : ℕ) (e : QueueEntry) (qs : List QueueRecord) → e.interval ≡ newest → length e.body ≤ MAX_BODY → all_entries newest qs ≡ true → all_entries newest (emitted place e qs) ≡ true
all_entries_emitted newest place e [] is short all = refl
all_entries_emitted newest zero e (q ∷ qs) is short all =
    let h = both (are_entries newest 0 q.entries) (all_entries newest qs) all in
    and (are_entries newest 0 (q.entries ++ e ∷ [])) (all_entries newest qs) (are_entries-push newest 0 q.entries e (omega arith) is short h.0) h.1
all_entries_emitted newest (suc place) e (q ∷ qs) is short all =
    let h = both (are_entries newest 0 q.entries) (all_entries newest qs) all in
    and (are_entries newest 0 q.entries) (all_entries newest (emitted place e qs)) h.0 (all_entries_emitted newest place e qs is short h.1)

-- ---- queues of messages, and behind them that of the outputs
pub queue_here : (qs : List QueueRecord) (last q : QueueRecord) (place : ℕ) → place < length qs → q ≡ get_or qs place q → queue_at (qs ++ last ∷ []) place ≡ q
queue_here [] last q place within at = absurd (omega arith)
queue_here (p ∷ qs) last q zero within at = sym at
queue_here (p ∷ qs) last q (suc place) within at = queue_here qs last q place (omega arith) at

pub queue_last : (qs : List QueueRecord) (last : QueueRecord) (place : ℕ) → length qs ≡ place → queue_at (qs ++ last ∷ []) place ≡ last
queue_last [] last zero long = refl
queue_last [] last (suc place) long = absurd (omega arith)
queue_last (p ∷ qs) last zero long = absurd (omega arith)
queue_last (p ∷ qs) last (suc place) long = queue_last qs last place (omega arith)

-- ---- trimming
pub trimmed_more : (bounds : List ℕ) (qs : List QueueRecord) (k : ℕ) (old : QueueRecord) → k < length bounds → length bounds ≡ length qs → old ≡ get_or (trimmed_queues (take k bounds) qs) k old
    → set (trimmed_queues (take k bounds) qs) k (trimmed_queue (get_or bounds k 0) old) ≡ trimmed_queues (take (suc k) bounds) qs
trimmed_more [] qs k old within long at = absurd (omega arith)
trimmed_more (b ∷ bounds) [] k old within long at = absurd (omega arith)
trimmed_more (b ∷ bounds) (q ∷ qs) zero old within long at = ap (λ p. trimmed_queue b p ∷ qs) at
trimmed_more (b ∷ bounds) (q ∷ qs) (suc k) old within long at = ap (λ ps. trimmed_queue b q ∷ ps) (trimmed_more bounds qs k old (omega arith) (omega arith) at)

pub length-trimmed_queues : (bounds : List ℕ) (qs : List QueueRecord) → length (trimmed_queues bounds qs) ≡ length qs
length-trimmed_queues [] qs = refl
length-trimmed_queues (b ∷ bounds) [] = refl
length-trimmed_queues (b ∷ bounds) (q ∷ qs) = ap suc (length-trimmed_queues bounds qs)

pub trimmed-append : (bounds : List ℕ) (b : ℕ) (qs : List QueueRecord) (q : QueueRecord) → length bounds ≡ length qs → trimmed_queues (bounds ++ b ∷ []) (qs ++ q ∷ []) ≡ trimmed_queues bounds qs ++ trimmed_queue b q ∷ []
trimmed-append [] b [] q long = refl
trimmed-append [] b (p ∷ qs) q long = absurd (omega arith)
trimmed-append (c ∷ bounds) b [] q long = absurd (omega arith)
trimmed-append (c ∷ bounds) b (p ∷ qs) q long = ap (λ rs. trimmed_queue c p ∷ rs) (trimmed-append bounds b qs q (omega arith))

-- what is trimmed ends where it ended
pub end_trimmed : (bound : ℕ) (q : QueueRecord) → queue_end (trimmed_queue bound q) ≡ queue_end q
end_trimmed bound q =
    let l : length (drop (min (bound - q.first) (length q.entries)) q.entries) ≡ length q.entries - min (bound - q.first) (length q.entries) = length-drop (min (bound - q.first) (length q.entries)) q.entries in
    omega arith

pub ends_trimmed : (bounds : List ℕ) (qs : List QueueRecord) → map queue_end (trimmed_queues bounds qs) ≡ map queue_end qs
ends_trimmed [] qs = refl
ends_trimmed (b ∷ bounds) [] = refl
ends_trimmed (b ∷ bounds) (q ∷ qs) = ap (λ e. e ∷ map queue_end (trimmed_queues bounds qs)) (end_trimmed b q) ∙ ap (λ es. queue_end q ∷ es) (ends_trimmed bounds qs)

pub all_entries_trimmed : (newest : ℕ) (bounds : List ℕ) (qs : List QueueRecord) → all_entries newest qs ≡ true → all_entries newest (trimmed_queues bounds qs) ≡ true
all_entries_trimmed newest [] qs all = all
all_entries_trimmed newest (b ∷ bounds) [] all = all
all_entries_trimmed newest (b ∷ bounds) (q ∷ qs) all =
    let h = both (are_entries newest 0 q.entries) (all_entries newest qs) all in
    and (are_entries newest 0 (trimmed_queue b q).entries) (all_entries newest (trimmed_queues bounds qs)) (are_entries-drop newest 0 (min (b - q.first) (length q.entries)) q.entries h.0) (all_entries_trimmed newest bounds qs h.1)
