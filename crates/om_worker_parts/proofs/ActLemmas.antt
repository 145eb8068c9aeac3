-- What a worker does with the board.
use Rattle.std.proofs.Common.{◌≡◌, ◌↔◌, ℕ, List, Option, None, Some, Bool, IsTrue, ap, ◌∙◌, subst, sym, length, take, drop, Ok, Err}
use Rattle.std.specs.Prelude.{Any, IfNone, OnOk, Result, slice_get}
use Rattle.std.proofs.lemmas.Option.{same_Some}
use Rattle.std.proofs.Math.Seq.{drop-length, take-length}
use Rattle.std.proofs.lemmas.List.{length-map}
use Rattle.om_process.specs.Core.{CoreState, with_pending}
use Rattle.om_process.specs.Process.{Program}
use Rattle.om_process.specs.declared.row.PendingRow.{PendingRow}
use Rattle.om_board.specs.Made.{IsMade, IsOutputOf}
use Rattle.om_board.specs.Boards.{BoardState}
use Rattle.om_manager.specs.Rounds.{Joining}
use Rattle.om_manager.specs.declared.answers.Gathered.{Gathered}
use Rattle.om_manager.specs.State.{ManagerState, held_by}
use Rattle.om_member.specs.Handed.{AreHanded, AreHandedUpTo, outputs_from}
use Rattle.om_member.specs.Keeps.{Keeps}
use Rattle.om_member.specs.Told.{IsToldAtOnce, row_for}
use Rattle.om_member.proofs.KeepLemmas.{keeps_then}
use Rattle.om_worker_parts.specs.Acts.{HasHandedOver}
use Rattle.om_node.specs.Nodes.{AreAlwaysClean, Member, TakesFrom}
use Rattle.om_worker_parts.specs.Places.{IsProcessOf}

-- what holds, holds where the result is well
pub on_any : {A E P : Type 0} (r : Result A E) → P → OnOk r P
on_any (Ok x) p = p
on_any (Err e) p = tt

-- all that was offered was taken
pub handed_over : (before mid after : ManagerState) (p q count : ℕ) (old new : CoreState) → q ≡ p → IsToldAtOnce before old.round p old.pending count (Ok tt) mid → Keeps before mid
    → new ≡ with_pending old (drop count old.pending) → AreHandedUpTo mid new.round q (outputs_from new (length (held_by mid q))) (Ok tt) after → Keeps mid after → HasHandedOver before p old after new
handed_over before mid after p q count old new is_p told k same handing l =
    let handed = subst (λ (x : ℕ). AreHandedUpTo mid new.round x (outputs_from new (length (held_by mid x))) (Ok tt) after) is_p handing in
    let made = outputs_from new (length (held_by mid p)) in
    let all : count ≡ length old.pending = told.all ∙ length-map old.pending (row_for p) in
    record {
      told_all = mid;
      told = subst (λ k. IsToldAtOnce before old.round p old.pending k (Ok tt) mid) all told;
      handed = subst (λ ms. AreHanded mid new.round p ms after) (ap (λ n. take n made) handed.1.all ∙ take-length made) handed.1.done;
      none_left = same ∙ ap (λ rows. with_pending old rows) (ap (λ n. drop n old.pending) all ∙ drop-length old.pending);
      keeps = keeps_then before mid after k l;
    }

-- a process joins in its round, with its interval
pub joined_in : (m after : ManagerState) (p r x : ℕ) (g : Gathered) (c d : CoreState) → d ≡ c → r ≡ d.round → x ≡ d.now.interval → Joining m p r x (Ok g) after → Joining m p c.round c.now.interval (Ok g) after
joined_in m after p r x g c d same in_round in_interval joins =
    subst (λ (e : CoreState). Joining m p e.round e.now.interval (Ok g) after) same
    (subst (λ (i : ℕ). Joining m p d.round i (Ok g) after) in_interval (subst (λ (k : ℕ). Joining m p k x (Ok g) after) in_round joins))

-- whether a checkpoint is among the rows of a core
pub found_where : (has : Bool) (rows : List PendingRow) (c d : CoreState) → d ≡ c → rows ≡ d.pending → (IsTrue has ↔ Any (λ row. IsTrue row.ckpt) rows) → (IsTrue has ↔ Any (λ row. IsTrue row.ckpt) c.pending)
found_where has rows c d same are found =
    subst (λ (e : CoreState). IsTrue has ↔ Any (λ row. IsTrue row.ckpt) e.pending) same
    (subst (λ (l : List PendingRow). IsTrue has ↔ Any (λ row. IsTrue row.ckpt) l) are found)

-- a manager is pruned where a checkpoint was among the rows, and else is the same
pub asked_where : (asked has : Bool) (P : Type 0) → asked ≡ has → (IsTrue has ↔ P) → (IsTrue asked ↔ P)
asked_where asked has P is_asked found = subst (λ (b : Bool). IsTrue b ↔ P) (sym is_asked) found

pub same_where_none : {A : Type 0} (asked : Option A) (a b : BoardState) → IfNone asked (a ≡ b) → IfNone asked (a.manager ≡ b.manager)
same_where_none None a b same = ap (λ (x : BoardState). x.manager) same
same_where_none (Some x) a b same = tt

-- the same member, by the same number
pub still_process : {S : Type 0} (is_clean : S → Bool) (over_clean : Type 0) (programs : List Program) (n p q : ℕ) (old new : Member) → new ≡ old → q ≡ p
    → IsProcessOf is_clean over_clean programs n p old → IsProcessOf is_clean over_clean programs n q new
still_process is_clean over_clean programs n p q old new same number is =
    subst (λ (m : Member). IsProcessOf is_clean over_clean programs n q m) (sym same) (subst (λ (k : ℕ). IsProcessOf is_clean over_clean programs n k old) (sym number) is)

-- what the program of a member makes may be handed in where its cluster names that program
pub takes_named : {S : Type 0} (programs : List Program) (n : ℕ) (over_clean : Type 0) (is_clean : S → Bool) (m : Member) → slice_get programs m.own ≡ Some m.program → m.n ≡ n
    → (over_clean → AreAlwaysClean is_clean) → TakesFrom (λ p seq output. over_clean → IsMade programs n p seq output) is_clean m
takes_named programs n over_clean is_clean m named size always seq output made clean program at =
    subst (λ (q : Program). IsOutputOf q m.own n seq output) (same_Some m.program program (sym named ∙ at))
    (subst (λ (k : ℕ). IsOutputOf m.program m.own k seq output) size (made (always clean)))
