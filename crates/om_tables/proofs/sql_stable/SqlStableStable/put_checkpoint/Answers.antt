use Rattle.std.proofs.Common.{rules}
use Rattle.sqlite.specs.Held.{state}
use Rattle.om_stable.specs.Content.{with_checkpoint}
use Rattle.om_tables.specs.Store.{content_in}
use Rattle.om_tables.specs.steps.Statements.{Same}
use Rattle.om_tables.proofs.SureLemmas.{clean_of, was_sure, still, changed, then_changed, always_ok, always_err, if_true, if_false, taken_one, free_one}
use Rattle.om_tables.proofs.sql_stable.SqlStableStable.put_checkpoint.Goals as goal

pub returns-in_err-told-clause-refused : goal.returns-in_err-told-clause-refused
returns-in_err-told-clause-refused g c = rw (← c.self.view_is) (λ h.
    always_err c.from_residual.result (still (state g.S.Store c.self.inside.conn) (state g.S.Store c.has_checkpoint-found.new.conn) c.has_checkpoint-found.ensures.asks h.0 h.1).content)

pub returns-in_err-told-clause-call : goal.returns-in_err-told-clause-call
returns-in_err-told-clause-call g c = rw (← c.self.view_is) (
    let old = state g.S.Store c.self.inside.conn in
    let mid = state g.S.Store c.has_checkpoint-found.new.conn in
    record {
      fault = search rules;
      count = search rules;
      gives = (search rules, search rules);
      clean = was_sure old mid c.has_checkpoint-found.ensures.asks.follows;
      sound = λ h formed. (still old mid c.has_checkpoint-found.ensures.asks h formed).formed;
    })

pub returns-then-branch-clause-present : goal.returns-then-branch-clause-present
returns-then-branch-clause-present g c = rw (← c.self.view_is) (λ h _.
    taken_one (content_in (state g.S.Store c.self.inside.conn).now).checkpoints c.args.x (if_true c.has_checkpoint-found.result c.in_ok-told.field-0
    (c.has_checkpoint-found.ensures.taken (clean_of (state g.S.Store c.has_checkpoint-found.new.conn) h.0) _ h.1.holds) c.in_ok-told.ensures.ok c.if-branch.true))

pub returns-then-branch-clause-refused : goal.returns-then-branch-clause-refused
returns-then-branch-clause-refused g c = rw (← c.self.view_is) (λ h.
    (still (state g.S.Store c.self.inside.conn) (state g.S.Store c.has_checkpoint-found.new.conn) c.has_checkpoint-found.ensures.asks h.0 h.1).content)

pub returns-then-branch-clause-call : goal.returns-then-branch-clause-call
returns-then-branch-clause-call g c = rw (← c.self.view_is) (
    let old = state g.S.Store c.self.inside.conn in
    let mid = state g.S.Store c.has_checkpoint-found.new.conn in
    record {
      fault = search rules;
      count = search rules;
      gives = (search rules, search rules);
      clean = was_sure old mid c.has_checkpoint-found.ensures.asks.follows;
      sound = λ h formed. (still old mid c.has_checkpoint-found.ensures.asks h formed).formed;
    })

pub returns-clause-put : goal.returns-clause-put
returns-clause-put g c = rw (← c.self.view_is) (λ h.
    let old = state g.S.Store c.self.inside.conn in
    let mid = state g.S.Store c.has_checkpoint-found.new.conn in
    let new = state g.S.Store c.put_checkpoint-put.new.conn in
    let transacts = c.put_checkpoint-put.ensures.transacts in
    let same : Same old mid = still old mid c.has_checkpoint-found.ensures.asks (was_sure mid new transacts.follows h.0) h.1 in
    let change = changed _ mid new c.put_checkpoint-put.result transacts h.0 same.formed in
    (then_changed (λ k. with_checkpoint k c.args.x c.args.bytes.now) old mid new c.told-2.result c.put_checkpoint-put.result same change c.told-2.ensures.ok c.told-2.ensures.err).0)

pub returns-clause-free : goal.returns-clause-free
returns-clause-free g c = rw (← c.self.view_is) (λ h.
    let old = state g.S.Store c.self.inside.conn in
    let mid = state g.S.Store c.has_checkpoint-found.new.conn in
    let new = state g.S.Store c.put_checkpoint-put.new.conn in
    let sure = was_sure mid new c.put_checkpoint-put.ensures.transacts.follows h.0 in
    always_ok c.told-2.result (free_one (content_in old.now).checkpoints c.args.x (if_false c.has_checkpoint-found.result c.in_ok-told.field-0
    (c.has_checkpoint-found.ensures.free (clean_of mid sure) _ h.1.holds) c.in_ok-told.ensures.ok c.if-branch.false)))

pub returns-clause-refused : goal.returns-clause-refused
returns-clause-refused g c = rw (← c.self.view_is) (λ h.
    let old = state g.S.Store c.self.inside.conn in
    let mid = state g.S.Store c.has_checkpoint-found.new.conn in
    let new = state g.S.Store c.put_checkpoint-put.new.conn in
    let transacts = c.put_checkpoint-put.ensures.transacts in
    let same : Same old mid = still old mid c.has_checkpoint-found.ensures.asks (was_sure mid new transacts.follows h.0) h.1 in
    let change = changed _ mid new c.put_checkpoint-put.result transacts h.0 same.formed in
    (then_changed (λ k. with_checkpoint k c.args.x c.args.bytes.now) old mid new c.told-2.result c.put_checkpoint-put.result same change c.told-2.ensures.ok c.told-2.ensures.err).1)

pub returns-clause-call : goal.returns-clause-call
returns-clause-call g c = rw (← c.self.view_is) (
    let old = state g.S.Store c.self.inside.conn in
    let mid = state g.S.Store c.has_checkpoint-found.new.conn in
    let new = state g.S.Store c.put_checkpoint-put.new.conn in
    let asks = c.has_checkpoint-found.ensures.asks in
    let transacts = c.put_checkpoint-put.ensures.transacts in
    record {
      fault = search rules;
      count = search rules;
      gives = (search rules, search rules);
      clean = λ h. was_sure old mid asks.follows (was_sure mid new transacts.follows h);
      sound = λ h formed.
          let same : Same old mid = still old mid asks (was_sure mid new transacts.follows h) formed in
          (changed _ mid new c.put_checkpoint-put.result transacts h same.formed).formed;
    })
