use Rattle.std.proofs.Common.{rules, ◌≡◌, sym, subst, arith}
use Rattle.om_stable.specs.Content.{Content, between, rows_of}
use Rattle.om_tables.specs.Cached.{IsOf}
use Rattle.om_tables.proofs.caching_ledger.CachingLedgerStable.receipts.Goals as goal

pub returns-in-Some-clause-call : goal.returns-in-Some-clause-call
returns-in-Some-clause-call g c = record {
  fault = λ h. search rules;
  count = omega arith;
  gives = search rules;
  clean = λ h. h;
  sound = λ clean old. (old.0, λ known. c.take.ensures.kept _ (old.1 known));
}

pub returns-in_err-rows-clause-call : goal.returns-in_err-rows-clause-call
returns-in_err-rows-clause-call g c = record {
  fault = λ h. search rules;
  count = c.receipts.ensures.call.count;
  gives = search rules;
  clean = c.receipts.ensures.call.clean;
  sound = λ clean old.
      let kept = c.take.ensures.kept _ (old.1 (c.receipts.ensures.call.clean clean)) in (
        c.receipts.ensures.call.sound clean old.0,
        λ known. subst (λ (held : Content). IsOf held.receipts c.take.new.self) (sym (c.receipts.ensures.same (clean, old.0))) kept,
      );
}

pub returns-clause-call : goal.returns-clause-call
returns-clause-call g c = record {
  fault = λ h. search rules;
  count = c.receipts.ensures.call.count;
  gives = search rules;
  clean = c.receipts.ensures.call.clean;
  sound = λ clean old.
      let kept = c.take.ensures.kept _ (old.1 (c.receipts.ensures.call.clean clean)) in
      let found : rows_of c.deref.result.now ≡ between (g.S.Stable.content c.args.self.now.inner).receipts c.args.after c.args.to = search rules in (
        c.receipts.ensures.call.sound clean old.0,
        λ known. subst (λ (held : Content). IsOf held.receipts c.fill.new.self) (sym (c.receipts.ensures.same (clean, old.0))) (c.fill.ensures.kept _ kept found),
      );
}
