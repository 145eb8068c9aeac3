-- Whether a receipt fits where a machine comes.
use Rattle.std.proofs.Common.{◌≡◌, ℕ, zero, suc, ◌<◌, ◌≤◌, ◌∙◌, None, refl, sym, ap, subst, arith}
use Rattle.om_format.specs.Receipts.{ReceiptRecord}
use Rattle.om_machine.specs.State.{State}
use Rattle.om_process.specs.Core.{status_of}
use Rattle.om_process.specs.Process.{Move, Waits, Ends, Traps, Goes, Emits}
use Rattle.om_process.specs.declared.status.Status.{Status}
use Rattle.om_process.specs.declared.status.Status.TheVariants as statuses
use Rattle.om_process.proofs.Basics.{some_none}
use Rattle.om_timeline.specs.Alone.{HasTurns, TakesAlone, move_alone, or_stands, turn_alone, turns_alone}
use Rattle.om_stored_timeline.specs.Following.{FitsAlone, turns_to}

-- one who is told to wait waits
waits_told : (move : Move) → status_of move ≡ statuses.Waiting → move ≡ Waits
waits_told Waits told = refl
waits_told (Ends code) told = cc
waits_told (Traps cause) told = cc
waits_told (Goes next) told = cc
waits_told (Emits place body next) told = cc

-- no turn is there behind the last one
no_further : (own n j k : ℕ) (m : State) → j < k → turn_alone own n (turns_alone own n j m) ≡ None → TakesAlone own n k m → ⊥
no_further own n j zero m less none takes = absurd (omega arith)
no_further own n zero (suc k) m less none takes = some_none takes.0 (sym takes.1 ∙ none)
no_further own n (suc j) (suc k) m less none takes =
    let at : or_stands m (turn_alone own n m) ≡ takes.0 = ap (or_stands m) takes.1 in
    no_further own n j k takes.0 (omega arith) (ap (λ x. turn_alone own n (turns_alone own n j x)) (sym at) ∙ none) takes.2

pub fits_here : (own n : ℕ) (m here : State) (r : ReceiptRecord) (done : ℕ) → r.to ≡ own → r.from < n → m.count ≤ r.count → done ≡ turns_to m r
    → HasTurns own n done m → here ≡ turns_alone own n done m → status_of (move_alone own n here) ≡ statuses.Waiting → FitsAlone own n m r
fits_here own n m here r done to from order all has there told = record {
  to = to;
  from = from;
  order = order;
  turns = subst (λ k. HasTurns own n k m) all has;
  waits = ap (move_alone own n) (sym (there ∙ ap (λ k. turns_alone own n k m) all)) ∙ waits_told (move_alone own n here) told;
}

pub unfit_short : (own n : ℕ) (m here : State) (r : ReceiptRecord) (done : ℕ) → done < turns_to m r → here ≡ turns_alone own n done m → turn_alone own n here ≡ None → FitsAlone own n m r → ⊥
unfit_short own n m here r done less there none fits =
    no_further own n done (turns_to m r) m less (ap (turn_alone own n) (sym there) ∙ none) fits.turns.takes

pub unfit_there : (own n : ℕ) (m here : State) (r : ReceiptRecord) (done : ℕ) (status : Status) → done ≡ turns_to m r → here ≡ turns_alone own n done m → status_of (move_alone own n here) ≡ status
    → (status ≡ statuses.Waiting → ⊥) → FitsAlone own n m r → ⊥
unfit_there own n m here r done status all there told other fits =
    other (sym told ∙ ap status_of (ap (move_alone own n) (there ∙ ap (λ k. turns_alone own n k m) all) ∙ fits.waits))
