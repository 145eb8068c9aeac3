-- Receipts that fit a process, and those that do not.
use Rattle.std.proofs.Common.{◌≡◌, ◌≢◌, ℕ, zero, suc, ◌+◌, ◌<◌, [], ◌∷◌, None, sym, ap, ◌∙◌, subst, get_or, arith}
use Rattle.om_format.specs.Receipts.{ReceiptRecord}
use Rattle.om_process.specs.declared.status.Status.{Status}
use Rattle.om_process.specs.declared.status.Status.TheVariants.{Waiting}
use Rattle.om_process.specs.Process.{Process, delivered}
use Rattle.om_process.specs.Turns.{IsWaiting, Turns, next_turn}
use Rattle.om_process.specs.Replays.{Replayed, received_of}
use Rattle.om_process.specs.Core.{CoreState, cluster_size, move_of, status_of}
use Rattle.om_process.specs.steps.Fitting.{MayTake, WaitsAt}
use Rattle.om_process.proofs.Basics.{some_none}
use Rattle.om_process.proofs.Going.{counts_turns, stays_turns}
use Rattle.om_process.proofs.Runs.{turns_between, turns_once}
use Rattle.om_process.proofs.CoreLemmas.{waits_by_status}

-- no wait is at a count that is passed
pub passed : (own n count : ℕ) (s : Process) → count < s.machine.count → WaitsAt own n s count → ⊥
passed own n count s lt waits =
    let counts : waits.1.machine.count ≡ s.machine.count + waits.0 = counts_turns own n waits.0 s waits.1 waits.2 in
    let at : waits.1.machine.count ≡ count = waits.4 in
    absurd (omega arith)

-- none is where the process stands before that count
pub stands_before : (s t : CoreState) (steps turns count : ℕ) → Turns s.own (cluster_size s.now) steps s.now t.now → t.own ≡ s.own → cluster_size t.now ≡ cluster_size s.now → count ≡ s.now.machine.count + turns → steps < turns
    → next_turn t.own (cluster_size t.now) t.now ≡ None → WaitsAt s.own (cluster_size s.now) s.now count → ⊥
stands_before s t steps turns count so_far own size is lt none waits =
    let counts : waits.1.machine.count ≡ s.now.machine.count + waits.0 = counts_turns s.own (cluster_size s.now) waits.0 s.now waits.1 waits.2 in
    let at : waits.1.machine.count ≡ count = waits.4 in
    let before : t.now.machine.count ≡ s.now.machine.count + steps = counts_turns s.own (cluster_size s.now) steps s.now t.now so_far in
    let on = turns_between s.own (cluster_size s.now) steps waits.0 s.now t.now waits.1 so_far waits.2 (omega arith) in
    let none_here : next_turn s.own (cluster_size s.now) t.now ≡ None = ap (λ o. next_turn o (cluster_size s.now) t.now) (sym own) ∙ ap (λ k. next_turn t.own k t.now) (sym size) ∙ none in
    let after : waits.1.machine.count ≡ t.now.machine.count + on.0 = counts_turns s.own (cluster_size s.now) on.0 t.now waits.1 on.1 in
    first on.0 (omega arith) on.1 none_here
  where
    first : (i : ℕ) → 0 < i → Turns s.own (cluster_size s.now) i t.now waits.1 → next_turn s.own (cluster_size s.now) t.now ≡ None → ⊥
    first zero some turns none = absurd (omega arith)
    first (suc i) some turns none = some_none turns.0 (sym turns.1 ∙ none)

-- and none is where it stands at that count and does not wait
pub stands_at : (s t : CoreState) (turns count : ℕ) (status : Status) → Turns s.own (cluster_size s.now) turns s.now t.now → t.own ≡ s.own → cluster_size t.now ≡ cluster_size s.now → count ≡ s.now.machine.count + turns
    → status ≡ status_of (move_of t) → status ≢ Waiting → WaitsAt s.own (cluster_size s.now) s.now count → ⊥
stands_at s t turns count status so_far own size is told not waits =
    let counts : waits.1.machine.count ≡ s.now.machine.count + waits.0 = counts_turns s.own (cluster_size s.now) waits.0 s.now waits.1 waits.2 in
    let at : waits.1.machine.count ≡ count = waits.4 in
    let same : waits.0 ≡ turns = omega arith in
    let here : waits.1 ≡ t.now = turns_once s.own (cluster_size s.now) turns s.now waits.1 t.now (subst (λ k. Turns s.own (cluster_size s.now) k s.now waits.1) same waits.2) so_far in
    let there : IsWaiting s.own (cluster_size s.now) t.now = subst (IsWaiting s.own (cluster_size s.now)) here waits.3 in
    not (told ∙ ap status_of (subst (λ k. IsWaiting t.own k t.now) (sym size) (subst (λ o. IsWaiting o (cluster_size s.now) t.now) (sym own) there)))

-- a receipt that fits, delivered where the process waits at its count
pub delivered_again : (s t u : CoreState) (r : ReceiptRecord) (turns : ℕ) → MayTake s r → r.interval ≡ s.now.interval + 1 → Turns s.own (cluster_size s.now) turns s.now t.now → t.own ≡ s.own → cluster_size t.now ≡ cluster_size s.now
    → r.count ≡ s.now.machine.count + turns → status_of (move_of t) ≡ Waiting → u.now ≡ delivered t.own t.now (received_of r) → Replayed s.own (cluster_size s.now) s.now (r ∷ []) u.now
delivered_again s t u r turns may next so_far own size count waits is =
    let stays = stays_turns s.own (cluster_size s.now) turns s.now t.now so_far in
    let counts : t.now.machine.count ≡ s.now.machine.count + turns = counts_turns s.own (cluster_size s.now) turns s.now t.now so_far in (
      turns,
      t.now,
      so_far,
      record {
        to = may.to;
        from = may.from;
        interval = next ∙ ap (λ (p : Process). p.interval + 1) (sym stays);
        number = may.number ∙ ap (λ (p : Process). get_or p.got r.from 0) (sym stays);
        count = omega arith;
        waits = waits_by_status s t own size waits;
      },
      is ∙ ap (λ o. delivered o t.now (received_of r)) own,
    )
