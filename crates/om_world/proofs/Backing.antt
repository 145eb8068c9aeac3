-- Each row that is read from a store has its record there.
use Rattle.std.proofs.Common.{◌≡◌, ℕ, suc, ◌+◌, List, [], ◌∷◌, Some, None, Option, Bool, true, false, refl, sym, ap, ◌∙◌, subst}
use Rattle.std.specs.Prelude.{min, slice_get}
use Rattle.std.specs.FinMap.{get}
use Rattle.om_format.specs.Checkpoints.{CheckpointRecord}
use Rattle.om_look.specs.Rows.{AreRowsOf, AreSegments, FollowOn, base_row, interval_before, receipts_behind, rows_of_segments}
use Rattle.om_member.specs.Told.{row_for}
use Rattle.om_process.specs.declared.limits.TheConstants.{LAST_INTERVAL}
use Rattle.om_process.specs.declared.row.PendingRow.{PendingRow}
use Rattle.om_stable.specs.Content.{Content, Records}
use Rattle.om_stable.proofs.BetweenLemmas.{between-AreAllBetween}
use Rattle.om_world.specs.steps.Sound.{HasBytes}
use Rattle.om_world.proofs.StoredRows.{AreHeld, Each, each_append, each_at}

abbrev IsHeld : Records → ℕ → Type 0
IsHeld held x = (bytes : List ℕ) × (get held x ≡ Some bytes)

-- the record of a row stands in the store
record IsBacked (held : Content) (row : PendingRow) : Type 0 where
  pub checkpoint : row.ckpt ≡ true → IsHeld held.checkpoints row.x
  pub receipt : row.ckpt ≡ false → IsHeld held.receipts row.x

not_both : (b : Bool) → b ≡ true → b ≡ false → ⊥
not_both b e f = cc

follow_backed : (own n : ℕ) (held : Content) (before : PendingRow) (records : List (ℕ × List ℕ)) (rows : List PendingRow) → AreHeld held.receipts records → FollowOn own n before records rows → Each (IsBacked held) rows
follow_backed own n held before records [] there on = tt
follow_backed own n held before [] (row ∷ rows) there on = absurd on
follow_backed own n held before (e ∷ records) (row ∷ rows) there on =
    let at : row.x ≡ before.x + 1 = ap (λ (t : PendingRow). t.x) on.5 in
    let log : row.ckpt ≡ false = ap (λ (t : PendingRow). t.ckpt) on.5 in (
      record {
        checkpoint = λ is. absurd (not_both row.ckpt is log);
        receipt = λ is. (e.1, ap (get held.receipts) (at ∙ sym on.3) ∙ there 0 e refl);
      },
      follow_backed own n held row records rows (λ i r f. there (suc i) r f) on.6,
    )

segments_backed : (own n : ℕ) (held : Content) (o : Option ℕ) (segments : List (CheckpointRecord × List PendingRow)) → AreSegments own n held o segments → Each (IsBacked held) (rows_of_segments segments)
segments_backed own n held None [] a = tt
segments_backed own n held None (s ∷ more) a = absurd a
segments_backed own n held (Some to) [] a = tt
segments_backed own n held (Some to) (s ∷ more) a =
    let c = s.0 in
    let all = between-AreAllBetween held.receipts c.head.interval (min (to + 1) LAST_INTERVAL) in
    each_append (IsBacked held) (base_row c ∷ s.1) (rows_of_segments more)
    (record { checkpoint = λ is. (a.0.stored.0, a.0.stored.1); receipt = λ is. absurd (not_both true refl is) }, follow_backed own n held (base_row c) (receipts_behind held c.head.interval to) s.1 all.are_held a.0.follow)
    (segments_backed own n held (interval_before c.head.interval) more a.1)

pub row_backed : (own n : ℕ) (held : Content) (rows : List PendingRow) (i : ℕ) (row : PendingRow) → AreRowsOf own n held rows → slice_get rows i ≡ Some row → HasBytes held (row_for own row).kind (row_for own row).interval
row_backed own n held rows i row a at = by row.ckpt refl
  where
    backed : IsBacked held row
    backed = each_at (IsBacked held) rows i row (subst (Each (IsBacked held)) (sym a.2) (segments_backed own n held (Some LAST_INTERVAL) a.0 a.1)) at

    by : (b : Bool) → row.ckpt ≡ b → HasBytes held (row_for own row).kind (row_for own row).interval
    by true is = rw is (backed.checkpoint is)
    by false is = rw is (backed.receipt is)
