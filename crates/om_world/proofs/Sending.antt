-- Messages that became frames in a run, and what was counted before it.
use Rattle.std.proofs.Common.{◌≡◌, ◌⊎◌, inl, inr, ℕ, zero, suc, ◌+◌, ◌-◌, ◌≤◌, ◌<◌, List, [], ◌∷◌, ◌++◌, length, drop, set, refl, sym, ap, ◌∙◌, subst, arith, length-append}
use Rattle.std.specs.Prelude.{max, slice_index}
use Rattle.std.proofs.lemmas.List.{get_or-set_same, get_or-set_other, length-drop}
use Rattle.om_format.specs.Queues.{QueueRecord}
use Rattle.om_process.specs.Core.{CoreState}
use Rattle.om_process.specs.Frames.{messages_to}
use Rattle.om_process.specs.Kept.{made_as, numbered, queue_at}
use Rattle.om_process.specs.Parts.{Grow}
use Rattle.om_process.proofs.Numbering.{length-numbered}
use Rattle.om_world.specs.Changes.{messages_behind}
use Rattle.om_world.specs.steps.Running.{messages_in}

-- ---- counts
abbrev pub AreCounted : CoreState → List ℕ → ℕ → Type 0
AreCounted c counts to = (k : ℕ) → k < to → slice_index counts k ≡ length (messages_to c k).entries

pub one_counted : (c : CoreState) (counts : List ℕ) (to x : ℕ) → AreCounted c counts to → to < length counts → x ≡ length (messages_to c to).entries → AreCounted c (set counts to x) (to + 1)
one_counted c counts to x all lt is k less = elim (under k to less) [
  | inl same ↦ subst (λ j. slice_index (set counts to x) j ≡ length (messages_to c j).entries) (sym same) (get_or-set_same counts to x 0 lt ∙ is)
  | inr below ↦ get_or-set_other counts to k x 0 (λ e. apart k to e below) ∙ all k below
]
  where
    under : (k to : ℕ) → k < to + 1 → (k ≡ to) ⊎ (k < to)
    under k to lt = grind arith

    apart : (k to : ℕ) → k ≡ to → k < to → ⊥
    apart k to e lt = omega arith

pub outputs_long : (q : QueueRecord) → length (numbered made_as (max q.first 0) (drop (0 - q.first) q.entries)) ≡ length q.entries
outputs_long q = length-numbered made_as (max q.first 0) (drop (0 - q.first) q.entries) ∙ length-drop (0 - q.first) q.entries ∙ less (length q.entries) q.first
  where
    less : (n first : ℕ) → n - (0 - first) ≡ n
    less n first = omega arith

-- ---- a core that went on
-- a queue that grew begins where it did, and is no shorter
pub grown_at : (x : ℕ) (ps qs : List QueueRecord) (place : ℕ) → Grow x ps qs → ((queue_at qs place).first ≡ (queue_at ps place).first) × (length (queue_at ps place).entries ≤ length (queue_at qs place).entries)
grown_at x [] [] place g = (refl, omega arith)
grown_at x [] (q ∷ qs) place g = absurd g
grown_at x (p ∷ ps) [] place g = absurd g
grown_at x (p ∷ ps) (q ∷ qs) zero g =
    let more : length q.entries ≡ length p.entries + length g.0.1.0 = ap length g.0.1.1 ∙ length-append p.entries g.0.1.0 in
    (g.0.0, omega arith)
grown_at x (p ∷ ps) (q ∷ qs) (suc place) g = grown_at x ps qs place g.1

-- what is behind the same first few of each of the processes
pub behind_same : (c : CoreState) (f g : ℕ → ℕ) (n : ℕ) → ((to : ℕ) → to < n → f to ≡ g to) → messages_behind c f n ≡ messages_behind c g n
behind_same c f g zero all = refl
behind_same c f g (suc n) all =
    ap (λ l. l ++ drop (f n) (messages_in c n)) (behind_same c f g n (λ to lt. all to (omega arith)))
    ∙ ap (λ k. messages_behind c g n ++ drop k (messages_in c n)) (all n (omega arith))
