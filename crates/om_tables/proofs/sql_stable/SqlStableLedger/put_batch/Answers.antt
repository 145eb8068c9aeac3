use Rattle.std.proofs.Common.{rules, ◌≡◌, ◌∙◌, subst}
use Rattle.std.specs.Prelude.{None, IfSome, OnOk, OnErr}
use Rattle.std.specs.FinMap.{get}
use Rattle.sqlite.specs.Held.{state}
use Rattle.om_stable.specs.Batches.{written}
use Rattle.om_stable.specs.Content.{Content}
use Rattle.om_tables.specs.Store.{content_in}
use Rattle.om_tables.specs.steps.Statements.{Same}
use Rattle.om_tables.proofs.SureLemmas.{always_ok}
use Rattle.om_tables.proofs.sql_stable.SqlStableLedger.put_batch.Goals as goal

pub returns-clause-put : goal.returns-clause-put
returns-clause-put g c = λ h.
    let s0 = state g.S.Store c.args.self.now.connection in
    let s1 = state g.S.Store c.check_receipts.new.self.connection in
    let s2 = state g.S.Store c.check_new.new.self.connection in
    let s3 = state g.S.Store c.write.new.self.connection in
    let sure2 = c.write.ensures.clean h.0 in
    let same1 : Same s0 s1 = c.in_ok-check_receipts.ensures.same (c.in_ok-check_new.ensures.clean sure2) h.1 in
    let same2 : Same s1 s2 = c.in_ok-check_new.ensures.same sure2 same1.formed in
    subst (λ (k : Content). OnOk c.write.result (content_in s3.now ≡ written c.args.batch.now k)) (same2.content ∙ same1.content)
    (c.write.ensures.put h.0 same2.formed)

pub returns-clause-refused : goal.returns-clause-refused
returns-clause-refused g c = λ h.
    let s0 = state g.S.Store c.args.self.now.connection in
    let s1 = state g.S.Store c.check_receipts.new.self.connection in
    let s2 = state g.S.Store c.check_new.new.self.connection in
    let s3 = state g.S.Store c.write.new.self.connection in
    let sure2 = c.write.ensures.clean h.0 in
    let same1 : Same s0 s1 = c.in_ok-check_receipts.ensures.same (c.in_ok-check_new.ensures.clean sure2) h.1 in
    let same2 : Same s1 s2 = c.in_ok-check_new.ensures.same sure2 same1.formed in
    subst (λ (k : Content). OnErr c.write.result (content_in s3.now ≡ k)) (same2.content ∙ same1.content)
    (c.write.ensures.refused h.0 same2.formed)

pub returns-clause-free : goal.returns-clause-free
returns-clause-free g c = λ h.
    let s0 = state g.S.Store c.args.self.now.connection in
    let s1 = state g.S.Store c.check_receipts.new.self.connection in
    let sure2 = c.write.ensures.clean h.0 in
    let sure1 = c.in_ok-check_new.ensures.clean sure2 in
    let same1 : Same s0 s1 = c.in_ok-check_receipts.ensures.same sure1 h.1 in
    always_ok c.write.result record {
      receipts = c.in_ok-check_receipts.ensures.free sure1 h.1;
      checkpoint = subst (λ (k : Content). IfSome c.args.batch.now.checkpoint (λ n. get k.checkpoints n.x ≡ None)) same1.content
          (c.in_ok-check_new.ensures.free sure2 same1.formed);
    }

pub returns-clause-call : goal.returns-clause-call
returns-clause-call g c =
    let s0 = state g.S.Store c.args.self.now.connection in
    let s1 = state g.S.Store c.check_receipts.new.self.connection in
    let s2 = state g.S.Store c.check_new.new.self.connection in
    record {
      fault = search rules;
      count = search rules;
      clean = λ h. c.in_ok-check_receipts.ensures.clean (c.in_ok-check_new.ensures.clean (c.write.ensures.clean h));
      sound = λ h formed.
          let sure2 = c.write.ensures.clean h in
          let same1 : Same s0 s1 = c.in_ok-check_receipts.ensures.same (c.in_ok-check_new.ensures.clean sure2) formed in
          let same2 : Same s1 s2 = c.in_ok-check_new.ensures.same sure2 same1.formed in
          c.write.ensures.formed h same2.formed;
    }
