-- The content that the tables hold is what is read from them.
use Rattle.std.proofs.Common.{◌≡◌, map, refl, sym, ap, ap₂, ◌∙◌, subst}
use Rattle.std.specs.Ordering.{nat_cmp}
use Rattle.std.specs.FinMap.{entries, entries_sorted, from_sorted, entries-from_sorted, same_entries_map}
use Rattle.sqlite_keyed.proofs.ListLemmas.{map_back}
use Rattle.sqlite.specs.Effect.{Database}
use Rattle.sqlite.specs.State.{State}
use Rattle.om_stable.specs.Content.{Records, Content}
use Rattle.om_tables.specs.Tables.{stored_row}
use Rattle.om_tables.specs.Store.{records_in, rows_for, content_in, Holds, IsFormed}
use Rattle.om_tables.specs.steps.Statements.{entry_in}

read_back : (m : Records) → records_in (rows_for m) ≡ m
read_back m =
    let same : map entry_in (map stored_row (entries m)) ≡ entries m = map_back stored_row entry_in (λ e. refl) (entries m) in
    ap from_sorted same ∙ same_entries_map (from_sorted (entries m)) m (entries-from_sorted nat_cmp (entries m) (entries_sorted m))

pub content_is : (db : Database) (c : Content) → Holds db c → content_in db ≡ c
content_is db c h = ap₂ (λ (r k : Records). record { receipts = r; checkpoints = k }) (ap records_in h.receipts ∙ read_back c.receipts) (ap records_in h.checkpoints ∙ read_back c.checkpoints)

pub formed : (s : State) (c : Content) → Holds s.now c → s.now ≡ s.committed → IsFormed s
formed s c h settled = record { holds = subst (Holds s.now) (sym (content_is s.now c h)) h; settled = settled }

-- a call that changed nothing
pub still_formed : (old new : State) → IsFormed old → new.now ≡ old.now → new.committed ≡ old.committed → IsFormed new
still_formed old new h now committed = record { holds = subst (λ (d : Database). Holds d (content_in d)) (sym now) h.holds; settled = now ∙ h.settled ∙ sym committed }
