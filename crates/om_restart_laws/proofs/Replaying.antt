-- What is replayed from true records stands where the run leads.
use Rattle.std.proofs.Common.{◌≡◌, ℕ, suc, ◌+◌, ◌<◌, ◌≤◌, List, [], ◌∷◌, ◌++◌, length, take, sym, ap, ◌∙◌, subst, arith}
use Rattle.std.specs.Prelude.{slice_index}
use Rattle.std.proofs.lemmas.List.{append-nil}
use Rattle.std.proofs.Math.Seq.{append_snoc}
use Rattle.om_format.specs.Receipts.{ReceiptRecord}
use Rattle.om_process.specs.Claims.{AtInterval, CheckpointOf, RecordOf}
use Rattle.om_process.specs.Core.{CoreState, cluster_size}
use Rattle.om_process.specs.Process.{Program, Received}
use Rattle.om_process.specs.Replays.{Replayed, process_of_checkpoint, received_of}
use Rattle.om_process.specs.Stored.{AreReceiptsAfter, IsReceiptAt, IsReplay}
use Rattle.om_process.specs.steps.Pieces.{receipts_of}
use Rattle.om_process.proofs.Replays.{replayed_along}
use Rattle.om_stable.specs.Content.{Content, Records}
use Rattle.om_world.specs.Live.{cut_list, program_at, received}
use Rattle.om_world.specs.declared.entry.Entry.{Entry}
use Rattle.om_world.proofs.Legal.{cut_first}
use Rattle.om_world.specs.Disk.{AreTrue}
use Rattle.om_world.proofs.StoredRows.{front_of}

-- receipts that are stored one after another are those of the run behind an interval
receipts_along : (program : Program) (own n : ℕ) (h : List Received) (held : Records) (y : ℕ) (rs : List ReceiptRecord)
    → ((x : ℕ) (r : ReceiptRecord) → 1 ≤ x → IsReceiptAt held x r → AtInterval h x (RecordOf program own n r))
    → AreReceiptsAfter held y rs → take y h ++ receipts_of rs ≡ take (y + length rs) h
receipts_along program own n h held y [] facts a = append-nil (take y h) ∙ ap (λ k. take k h) (omega arith)
receipts_along program own n h held y (r ∷ rs) facts a =
    let at = facts (y + 1) r (omega arith) a.0 in
    let one : y + 1 ≡ suc y = omega arith in
    let is : take (suc y) h ≡ at.1.0 ++ received_of r ∷ [] = ap (λ k. take k h) (sym one) ∙ at.1.1 in
    let same : at.1.0 ≡ take y h = front_of y h at.1.0 (received_of r) (omega arith) is in
    let here : take y h ++ received_of r ∷ [] ≡ take (y + 1) h = ap (λ l. l ++ received_of r ∷ []) (sym same) ∙ sym at.1.1 in
    sym (append_snoc (take y h) (received_of r) (receipts_of rs))
    ∙ ap (λ l. l ++ receipts_of rs) here
    ∙ receipts_along program own n h held (y + 1) rs facts a.1
    ∙ ap (λ k. take k h) (omega arith)

pub replay_along : (programs : List Program) (live : List Entry) (held : ℕ → Content) (s : List ℕ) (p : ℕ) (core : CoreState)
    → AreTrue programs live held → p < length programs → core.own ≡ p → cluster_size core.now ≡ length programs → IsReplay (held p) (slice_index s p) core
    → CheckpointOf (program_at programs p) p (length programs) core.now (received p (cut_list s live))
replay_along programs live held s p core disk lt own size replay =
    let n : ℕ = length programs in
    let program : Program = program_at programs p in
    let h : List Received = received p live in
    let c = replay.checkpoint in
    let begun : CheckpointOf program p n (process_of_checkpoint c) (take c.head.interval h) = (disk.checkpoints p c.head.interval c lt replay.begins.stored).1 in
    let done : Replayed p n (process_of_checkpoint c) replay.receipts core.now = subst (λ m. Replayed p m (process_of_checkpoint c) replay.receipts core.now) size (subst (λ o. Replayed o (cluster_size core.now) (process_of_checkpoint c) replay.receipts core.now) own replay.replayed) in
    let ends = replayed_along program p n (process_of_checkpoint c) core.now (take c.head.interval h) replay.receipts begun done in
    let whole : take c.head.interval h ++ receipts_of replay.receipts ≡ take (slice_index s p) h =
    receipts_along program p n h (held p).receipts c.head.interval replay.receipts (λ x r begun at. disk.receipts p x r lt begun at) replay.stored ∙ ap (λ k. take k h) (sym replay.last) in
    subst (CheckpointOf program p n core.now) (whole ∙ sym (cut_first s live p)) ends
