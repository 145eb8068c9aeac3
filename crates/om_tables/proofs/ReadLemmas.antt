-- What a query leaves.
use Rattle.std.proofs.Common.{◌≡◌, inl, inr, ℕ, List, map, Vec, Ok, Err, None, Some, Option, Result, IfOk, IfErr, IsTrue, refl, sym, ap, subst, ◌∙◌}
use Rattle.std.specs.declared.alloc.Global.{Global}
use Rattle.sqlite_schema.specs.declared.command.Returning.{Returning}
use Rattle.sqlite.specs.Order.{Row}
use Rattle.sqlite.specs.declared.error.Error.{Error}
use Rattle.om_tables.specs.declared.refusal.Refusal.{Refusal}
use Rattle.sqlite.specs.Listing.{understood}
use Rattle.sqlite.specs.State.{State, HasCleanDisk, Shown, ShowsRows, FailsToQuery, FailsToShow, IsNotRun}
use Rattle.sqlite.specs.Clock.{timed}
use Rattle.sqlite.proofs.Callers.{IsPlain}
use Rattle.sqlite_keyed.proofs.ListLemmas.{map_back}
use Rattle.om_stable.specs.Content.{rows_of}
use Rattle.om_tables.specs.Tables.{store_schema}
use Rattle.om_tables.specs.steps.Halfway.{shown}
use Rattle.om_tables.specs.Store.{IsFormed, content_in}
use Rattle.om_tables.specs.steps.Statements.{Same, shown_entry, Asks}
use Rattle.om_tables.proofs.HoldsLemmas.{still_formed}
use Rattle.om_tables.proofs.InsertLemmas.{unharmed}

module _ (sql : List ℕ) (params : Row) (old new : State) where
  shown_open : (rows : List Row) → Shown sql params old new rows → IsTrue old.is_open
  unfolding Shown
  shown_open rows h = go h.0.returning h.2
    where
      go : (o : Option Returning) → ShowsRows old new sql h.0 (timed params h.0.formats h.1.now) rows o → IsTrue old.is_open
      go None it = it.3.0.was_open
      go (Some what) it = it.1.shown.was_open

  fails_open : (e : Error) → FailsToQuery sql params old new e → IsTrue new.is_open → IsTrue old.is_open
  unfolding FailsToQuery IsNotRun
  fails_open e (inl (inl same)) here = same.1.0.was_open
  fails_open e (inl (inr fails)) here = fails.3.was_open here
  fails_open e (inr h) here = go h.0.returning h.2
    where
      go : (o : Option Returning) → FailsToShow old new sql h.0 (timed params h.0.formats h.1.now) e o → IsTrue old.is_open
      go None it = it.3.0.was_open
      go (Some what) (inl it) = it.1.0.was_open
      go (Some what) (inr it) = it.3.was_open here

  was_open : (r : Result (Vec Row Global) Refusal) → IfOk r (λ rows. Shown sql params old new rows.items) → IfErr r (λ e. FailsToQuery sql params old new e.error) → IsTrue new.is_open → IsTrue old.is_open
  was_open (Ok rows) ok err here = shown_open rows.items ok
  was_open (Err e) ok err here = fails_open e.error err here

  shown_same : (rows : List Row) → IsPlain (understood old.now.schema sql) → Shown sql params old new rows → (new.now ≡ old.now) × (new.committed ≡ old.committed)
  unfolding Shown
  shown_same rows plain h =
      let none = (subst IsPlain h.1.is plain).0 in
      let it = subst (ShowsRows old new sql h.0 (timed params h.0.formats h.1.now) rows) none h.2 in
      (it.3.0.now_is, it.3.0.committed_is)

  same_of : IsFormed old → (new.now ≡ old.now) × (new.committed ≡ old.committed) → Same old new
  same_of formed is = record { formed = still_formed old new formed is.0 is.1; content = ap content_in is.0 }

  left_same : IsPlain (understood store_schema sql) → (r : Result (Vec Row Global) Refusal) → IfOk r (λ rows. Shown sql params old new rows.items) → IfErr r (λ e. FailsToQuery sql params old new e.error)
      → IsTrue new.is_open → IsFormed old → Same old new
  left_same plain (Ok rows) ok err here formed = same_of formed (shown_same rows.items (subst (λ s. IsPlain (understood s sql)) (sym formed.holds.schema) plain) ok)
  left_same plain (Err e) ok err here formed = same_of formed (unharmed old new sql params e.error (subst (λ s. IsPlain (understood s sql)) (sym formed.holds.schema) plain) err here formed.settled)

  pub asks : IsPlain (understood store_schema sql) → (r : Result (Vec Row Global) Refusal) → (HasCleanDisk new → HasCleanDisk old)
      → (HasCleanDisk new → IfOk r (λ rows. Shown sql params old new rows.items)) → (HasCleanDisk new → IfErr r (λ e. FailsToQuery sql params old new e.error)) → Asks old new
  asks plain r clean ok err = record {
    same = λ h here formed. left_same plain r (ok h) (err h) here formed;
    follows = record { clean = clean; was_open = λ h here. was_open r (ok h) (err h) here };
  }

  pub found_by : {Q : List Row → Type 0} (r : Result (Vec Row Global) Refusal) → IfOk r (λ rows. Shown sql params old new rows.items) → ((rows : List Row) → Shown sql params old new rows → Q rows) → IfOk r (λ rows. Q rows.items)
  found_by (Ok rows) ok f = f rows.items ok
  found_by (Err e) ok f = tt

-- what rows of both columns read as
pub shown_back : (r : Result (Vec (ℕ × Vec ℕ Global) Global) Refusal) (read rows : List Row) (es : List (ℕ × List ℕ)) → IfOk r (λ found. rows_of found.items ≡ map shown_entry read) → read ≡ rows → rows ≡ map shown es → IfOk r (λ found. rows_of found.items ≡ es)
shown_back (Ok found) read rows es h same is = h ∙ ap (map shown_entry) (same ∙ is) ∙ map_back shown shown_entry (λ e. refl) es
shown_back (Err e) read rows es h same is = tt
