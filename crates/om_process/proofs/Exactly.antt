-- A content has one outcome: what is refused is not replayed.
use Rattle.std.proofs.Common.{◌≡◌, ◌⊎◌, inl, inr, ℕ, ◌+◌, ◌-◌, ◌<◌, ◌≤◌, List, [], ◌∷◌, length, refl, sym, ap, ◌∙◌, subst, arith}
use Rattle.std.specs.Prelude.{Option, Some, None, IsSome}
use Rattle.std.specs.FinMap.{get}
use Rattle.om_format.specs.Receipts.{ReceiptRecord, SpellsReceipt}
use Rattle.om_format.specs.Checkpoints.{CheckpointRecord, SpellsCheckpoint}
use Rattle.om_format.proofs.Receipts.{one_receipt}
use Rattle.om_format.proofs.Checkpoints.{one_checkpoint}
use Rattle.om_stable.specs.Content.{Content, IsEffective, Records}
use Rattle.om_process.specs.declared.replay.ReplayFault.{ReplayFault}
use Rattle.om_process.specs.declared.replay.ReplayFault.TheVariants.{NoCheckpoint, Damaged, MissingReceipt, Mismatch, Fault, Memory}
use Rattle.om_process.specs.Process.{Process, delivered}
use Rattle.om_process.specs.Turns.{Turns}
use Rattle.om_process.specs.Replays.{FitsReceipt, Replayed, process_of_checkpoint, received_of}
use Rattle.om_process.specs.Stored.{anyone, AreReceiptsAfter, BeginsWith, CanReplay, IsCheckpointAt, IsCheckpointOf, IsNoMatterOfContent, IsReceiptAt, Refuses}
use Rattle.om_process.proofs.Basics.{some_once}
use Rattle.om_process.proofs.Runs.{waits_once}

-- ---- one record at an interval
one_receipt_at : (held : Records) (y : ℕ) (a b : ReceiptRecord) → IsReceiptAt held y a → IsReceiptAt held y b → a ≡ b
one_receipt_at held y a b first second =
    let same : second.0 ≡ first.0 = some_once second.0 first.0 (sym second.1 ∙ first.1) in
    one_receipt first.0 a b first.2 (subst (SpellsReceipt b) same second.2)

one_checkpoint_at : (held : Records) (y : ℕ) (a b : CheckpointRecord) → IsCheckpointAt held y a → IsCheckpointAt held y b → a ≡ b
one_checkpoint_at held y a b first second =
    let same : second.0 ≡ first.0 = some_once second.0 first.0 (sym second.1 ∙ first.1) in
    (one_checkpoint first.0 first.2.0 second.2.0 a b first.2.1 (subst (SpellsCheckpoint second.2.0 b) same second.2.1)).1

one_effective : (held : Records) (x b c : ℕ) → IsEffective held x b → IsEffective held x c → b ≡ c
one_effective held x b c first second =
    let low : b ≤ c = second.greatest b first.within first.has in
    let high : c ≤ b = first.greatest c second.within second.has in
    omega arith

receipt_there : (held : Records) (after y : ℕ) (rs : List ReceiptRecord) → AreReceiptsAfter held after rs → after < y → y ≤ after + length rs → (r : ReceiptRecord) × IsReceiptAt held y r
receipt_there held after y [] stored low high = absurd (omega arith)
receipt_there held after y (r ∷ rs) stored low high = first (cases y (after + 1) (omega arith)) (λ above. receipt_there held (after + 1) y rs stored.1 above (omega arith))
  where
    cases : (a b : ℕ) → b ≤ a → (a ≡ b) ⊎ (b < a)
    cases a b le = grind arith

    first : (y ≡ after + 1) ⊎ (after + 1 < y) → (after + 1 < y → (q : ReceiptRecord) × IsReceiptAt held y q) → (q : ReceiptRecord) × IsReceiptAt held y q
    first (inl at) later = (r, subst (λ z. IsReceiptAt held z r) (sym at) stored.0)
    first (inr above) later = later above

-- the receipt fits nowhere that turns lead
abbrev FitsNowhere : ℕ → ℕ → Process → ReceiptRecord → Type 0
FitsNowhere own n s r = (k : ℕ) (w : Process) → Turns own n k s w → FitsReceipt own n w r → ⊥

-- a receipt that does not fit is not replayed, after the same receipts
not_replayed : (own n : ℕ) (held : Records) (after : ℕ) (before rs : List ReceiptRecord) (c s t : Process) (r : ReceiptRecord) → AreReceiptsAfter held after before → AreReceiptsAfter held after rs → length before < length rs
    → IsReceiptAt held (after + length before + 1) r → Replayed own n c before s → Replayed own n c rs t → FitsNowhere own n s r → ⊥
not_replayed own n held after before [] c s t r stored all shorter is first replayed not = absurd (omega arith)
not_replayed own n held after [] (q ∷ rs) c s t r stored all shorter is first replayed not =
    let here : after + 0 + 1 ≡ after + 1 = omega arith in
    let same : q ≡ r = one_receipt_at held (after + 1) q r all.0 (subst (λ y. IsReceiptAt held y r) here is) in
    let fits = subst (FitsReceipt own n replayed.1) same replayed.3 in
    not replayed.0 replayed.1 (subst (λ p. Turns own n replayed.0 p replayed.1) (sym first) replayed.2) fits
not_replayed own n held after (p ∷ before) (q ∷ rs) c s t r stored all shorter is first replayed not =
    let same : q ≡ p = one_receipt_at held (after + 1) q p all.0 stored.0 in
    let one : replayed.1 ≡ first.1 = waits_once own n replayed.0 first.0 c replayed.1 first.1 replayed.2 replayed.3.waits first.2 first.3.waits in
    let next : after + (length before + 1) + 1 ≡ after + 1 + length before + 1 = omega arith in
    let long : length (p ∷ before) ≡ length before + 1 = omega arith in
    let rest = subst (λ w. Replayed own n (delivered own w (received_of p)) rs t) one (subst (λ g. Replayed own n (delivered own replayed.1 (received_of g)) rs t) same replayed.4) in
    not_replayed own n held (after + 1) before rs (delivered own first.1 (received_of p)) s t r stored.1 all.1 (omega arith)
    (subst (λ y. IsReceiptAt held y r) next (subst (λ k. IsReceiptAt held (after + k + 1) r) long is)) first.4 rest not

-- where it can be replayed, a refusal is no matter of the content
pub only_refused : (whose : Option (ℕ × ℕ)) (held : Content) (x : ℕ) (fault : ReplayFault) → Refuses whose held x fault → CanReplay whose held x → IsNoMatterOfContent fault
only_refused whose held x NoCheckpoint why can =
    let effective = can.3.begins.effective in
    let within : can.3.checkpoint.head.interval ≤ x = effective.within in
    absurd (nothing (get held.checkpoints can.3.checkpoint.head.interval) effective.has (why can.3.checkpoint.head.interval (omega arith) (omega arith)))
  where
    nothing : (o : Option (List ℕ)) → IsSome o → o ≡ None → ⊥
    nothing None some none = cc
    nothing (Some bytes) some none = cc
only_refused whose held x (Damaged y) (inl why) can =
    let begins = can.3.begins in
    let same = one_effective held.checkpoints x can.3.checkpoint.head.interval y begins.effective why.effective in
    absurd (why.damaged can.3.checkpoint (subst (λ z. IsCheckpointAt held.checkpoints z can.3.checkpoint) same begins.stored) begins.meant)
only_refused whose held x (Damaged y) (inr why) can =
    let stands = can.3 in
    let before = why.3.2 in
    let same = one_effective held.checkpoints x before.checkpoint.head.interval stands.checkpoint.head.interval before.begins.effective stands.begins.effective in
    let at : y - 1 ≡ before.checkpoint.head.interval + length before.receipts = before.last in
    let some : 0 < y = why.3.0 in
    let within : y ≤ x = why.3.1 in
    let last : x ≡ stands.checkpoint.head.interval + length stands.receipts = stands.last in
    let there = receipt_there held.receipts stands.checkpoint.head.interval y stands.receipts stands.stored (omega arith) (omega arith) in
    absurd (why.4 there.0 there.1)
only_refused whose held x (MissingReceipt y) why can =
    let stands = can.3 in
    let same = one_effective held.checkpoints x why.checkpoint.head.interval stands.checkpoint.head.interval why.begins.effective stands.begins.effective in
    let above : why.checkpoint.head.interval < y = why.above in
    absurd (nothing (get held.receipts y) (stands.all_there y (omega arith) why.within) why.none)
  where
    nothing : (o : Option (List ℕ)) → IsSome o → o ≡ None → ⊥
    nothing None some none = cc
    nothing (Some bytes) some none = cc
only_refused whose held x (Mismatch y) why can =
    let stands = can.3 in
    let before = why.3.2 in
    let same = one_effective held.checkpoints x before.checkpoint.head.interval stands.checkpoint.head.interval before.begins.effective stands.begins.effective in
    let record_same : before.checkpoint ≡ stands.checkpoint = one_checkpoint_at held.checkpoints stands.checkpoint.head.interval before.checkpoint stands.checkpoint (subst (λ z. IsCheckpointAt held.checkpoints z before.checkpoint) same before.begins.stored) stands.begins.stored in
    let own : why.0 ≡ can.0 = sym before.pid ∙ ap (λ (c : CheckpointRecord). c.head.pid) record_same ∙ stands.pid in
    let size : why.1 ≡ can.1 = sym before.size ∙ ap (λ (c : CheckpointRecord). c.n) record_same ∙ stands.size in
    let at : y - 1 ≡ before.checkpoint.head.interval + length before.receipts = before.last in
    let some : 0 < y = why.3.0 in
    let within : y ≤ x = why.3.1 in
    let last : x ≡ stands.checkpoint.head.interval + length stands.receipts = stands.last in
    let here : y ≡ stands.checkpoint.head.interval + length before.receipts + 1 = omega arith in
    let first = subst (λ o. Replayed o can.1 (process_of_checkpoint stands.checkpoint) before.receipts why.2) own
    (subst (λ n. Replayed why.0 n (process_of_checkpoint stands.checkpoint) before.receipts why.2) size (subst (λ (c : CheckpointRecord). Replayed why.0 why.1 (process_of_checkpoint c) before.receipts why.2) record_same before.replayed)) in
    let not = subst (λ o. FitsNowhere o can.1 why.2 why.4) own (subst (λ n. FitsNowhere why.0 n why.2 why.4) size why.6) in
    absurd (not_replayed can.0 can.1 held.receipts stands.checkpoint.head.interval before.receipts stands.receipts (process_of_checkpoint stands.checkpoint) why.2 can.2 why.4
    (subst (λ z. AreReceiptsAfter held.receipts z before.receipts) same before.stored) stands.stored (omega arith) (subst (λ z. IsReceiptAt held.receipts z why.4) here why.5) first stands.replayed not)
only_refused whose held x Fault why can = inl refl
only_refused whose held x Memory why can = inr refl

-- the effective checkpoint is of a process that is not meant
pub another_process : (whose : Option (ℕ × ℕ)) (held : Content) (x : ℕ) (c : CheckpointRecord) → BeginsWith anyone held x c → (IsCheckpointOf whose c → ⊥) → Refuses whose held x (Damaged c.head.interval)
another_process whose held x c begins other = inl (record {
  effective = begins.effective;
  damaged = λ d is meant. let same = one_checkpoint_at held.checkpoints c.head.interval d c is begins.stored in other (subst (IsCheckpointOf whose) same meant);
})
