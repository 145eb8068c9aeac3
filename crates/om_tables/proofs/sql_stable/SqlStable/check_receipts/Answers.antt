use Rattle.sqlite.specs.Held.{state}
use Rattle.om_tables.proofs.SureLemmas.{clean_of, was_sure, still, if_true, if_false}
use Rattle.om_tables.proofs.sql_stable.SqlStable.check_receipts.Goals as goal

pub returns-in_err-told-clause-same : goal.returns-in_err-told-clause-same
returns-in_err-told-clause-same g c = rw (← c.self.view_is) (λ h formed.
    still (state g.S.Store c.self.inside.conn) (state g.S.Store c.has_any_receipt-found.new.conn) c.has_any_receipt-found.ensures.asks h formed)

pub returns-in_err-told-clause-clean : goal.returns-in_err-told-clause-clean
returns-in_err-told-clause-clean g c = rw (← c.self.view_is) (
    was_sure (state g.S.Store c.self.inside.conn) (state g.S.Store c.has_any_receipt-found.new.conn) c.has_any_receipt-found.ensures.asks.follows)

pub returns-then-branch-clause-same : goal.returns-then-branch-clause-same
returns-then-branch-clause-same g c = rw (← c.self.view_is) (λ h formed.
    still (state g.S.Store c.self.inside.conn) (state g.S.Store c.has_any_receipt-found.new.conn) c.has_any_receipt-found.ensures.asks h formed)

pub returns-then-branch-clause-clean : goal.returns-then-branch-clause-clean
returns-then-branch-clause-clean g c = rw (← c.self.view_is) (
    was_sure (state g.S.Store c.self.inside.conn) (state g.S.Store c.has_any_receipt-found.new.conn) c.has_any_receipt-found.ensures.asks.follows)

pub returns-then-branch-clause-present : goal.returns-then-branch-clause-present
returns-then-branch-clause-present g c = rw (← c.self.view_is) (λ h formed _.
    (if_true c.has_any_receipt-found.result c.in_ok-told.field-0
    (c.has_any_receipt-found.ensures.taken (clean_of (state g.S.Store c.has_any_receipt-found.new.conn) h) _ formed.holds) c.in_ok-told.ensures.ok c.if-branch.true))

pub returns-clause-same : goal.returns-clause-same
returns-clause-same g c = rw (← c.self.view_is) (λ h formed.
    still (state g.S.Store c.self.inside.conn) (state g.S.Store c.has_any_receipt-found.new.conn) c.has_any_receipt-found.ensures.asks h formed)

pub returns-clause-clean : goal.returns-clause-clean
returns-clause-clean g c = rw (← c.self.view_is) (
    was_sure (state g.S.Store c.self.inside.conn) (state g.S.Store c.has_any_receipt-found.new.conn) c.has_any_receipt-found.ensures.asks.follows)

pub returns-clause-free : goal.returns-clause-free
returns-clause-free g c = rw (← c.self.view_is) (λ h formed.
    (if_false c.has_any_receipt-found.result c.in_ok-told.field-0
    (c.has_any_receipt-found.ensures.free (clean_of (state g.S.Store c.has_any_receipt-found.new.conn) h) _ formed.holds) c.in_ok-told.ensures.ok c.if-branch.false))
