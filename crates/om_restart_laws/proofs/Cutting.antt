-- Stores that are cut to a state are true of the run that is cut to it.
use Rattle.std.proofs.Common.{◌≡◌, ℕ, ◌≤◌, List, length, Some, None, Option, Bool, true, false, cond, refl, sym, ◌∙◌, subst, arith}
use Rattle.std.specs.Prelude.{nat_le, slice_index}
use Rattle.std.specs.FinMap.{get, retain_keys}
use Rattle.std.proofs.lemmas.Bool.Decides.{nat_tests}
use Rattle.om_process.specs.Claims.{AtInterval, CheckpointOf, RecordOf}
use Rattle.om_process.specs.Process.{Program, Received}
use Rattle.om_process.specs.Replays.{process_of_checkpoint}
use Rattle.om_stable.specs.Content.{Content, Records, kept_by_cut}
use Rattle.om_stable.proofs.RecordLemmas.{get-retained}
use Rattle.om_world.specs.Live.{cut_list, program_at, received}
use Rattle.om_world.specs.declared.entry.Entry.{Entry}
use Rattle.om_world.proofs.Legal.{at_cut, cut_first}
use Rattle.om_world.specs.Disk.{AreTrue}

-- what a cut leaves was there, at or below the interval of the cut
pub of_cut : (held : Records) (r x : ℕ) (bytes : List ℕ) → get (retain_keys held (λ y. nat_le y r)) x ≡ Some bytes → (x ≤ r) × (get held x ≡ Some bytes)
of_cut held r x bytes at = go (nat_le x r) refl (sym (get-retained held (λ y. nat_le y r) x) ∙ at)
  where
    go : (b : Bool) → nat_le x r ≡ b → cond (nat_le x r) (get held x) None ≡ Some bytes → (x ≤ r) × (get held x ≡ Some bytes)
    go true is there = (grind (arith, nat_tests), rw is at there)
    go false is there = absurd (none (rw is at there))
      where
        none : ◌≡◌ {A = Option (List ℕ)} None (Some bytes) → ⊥
        none e = cc

pub cut_fact : (s : List ℕ) (live : List Entry) (p x : ℕ) (P : List Received → Type 0) → x ≤ slice_index s p → AtInterval (received p live) x P → AtInterval (received p (cut_list s live)) x P
cut_fact s live p x P le at = subst (λ h. AtInterval h x P) (sym (cut_first s live p)) (at_cut (received p live) x (slice_index s p) P le at)

pub cut_true : (programs : List Program) (live : List Entry) (held : ℕ → Content) (s : List ℕ) → AreTrue programs live held
    → AreTrue programs (cut_list s live) (λ p. kept_by_cut (held p) (slice_index s p))
cut_true programs live held s disk = record {
  checkpoints = λ p x c lt at.
      let was = of_cut (held p).checkpoints (slice_index s p) x at.0 at.1 in
      cut_fact s live p x (CheckpointOf (program_at programs p) p (length programs) (process_of_checkpoint c)) was.0 (disk.checkpoints p x c lt (at.0, was.1, at.2, at.3));
  receipts = λ p x r lt begun at.
      let was = of_cut (held p).receipts (slice_index s p) x at.0 at.1 in
      cut_fact s live p x (RecordOf (program_at programs p) p (length programs) r) was.0 (disk.receipts p x r lt begun (at.0, was.1, at.2, at.3));
}
