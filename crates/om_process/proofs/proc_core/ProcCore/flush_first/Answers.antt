use Rattle.std.proofs.Common.{◌≡◌, ◌+◌, ap, sym, ◌∙◌, subst, length, take, map, rules, arith}
use Rattle.std.proofs.lemmas.List.{length-take}
use Rattle.om_stable.specs.Content.{IsFree, IsTaken}
use Rattle.om_process.specs.Core.{AreLast, CoreState}
use Rattle.om_process.specs.Stores.{first_logged}
use Rattle.om_process.specs.steps.Views.{logged_record}
use Rattle.om_process.proofs.Logging.{first_are_logged, first_gained, first_long, first_placed, last_behind}
use Rattle.om_process.proofs.proc_core.ProcCore.flush_first.Goals as goal

pub put_receipts-requires : goal.put_receipts-requires
put_receipts-requires g c =
    let due = c.first_of-due.ensures ∙ ap (take c.args.k) c.deref.ensures.value in
    let here = first_placed c.args.self.now c.self.inside.interval c.self.inside.log.items c.first_of-due.result.now c.args.k c.in-Some.oldest.now (ap (λ s. s.now.interval) c.self.view_is) (ap (λ s. s.log) c.self.view_is) c.self.invariant.logged due (search rules) in
    let first : c.in-Some.oldest.now.receipt.interval ≡ first_logged c.args.self.now = here.0 in
    let end : first_logged c.args.self.now + length c.args.self.now.log ≡ c.args.self.now.now.interval + 1 = here.1 in
    let long = first_long c.args.self.now c.self.inside.log.items c.first_of-due.result.now c.args.k c.in_ok-bytes.bytes.items (ap (λ s. s.log) c.self.view_is) due c.in_ok-bytes.ensures in
    let put : length c.deref-2.result.now ≡ length (take c.args.k c.args.self.now.log) = ap length c.deref-2.ensures.value ∙ long in
    let some = length-take c.args.k c.args.self.now.log in
    let same : c.self.inside.interval ≡ c.args.self.now.now.interval = ap (λ s. s.now.interval) c.self.view_is in
    omega arith

pub returns-in_err-put_receipts-clause-present : goal.returns-in_err-put_receipts-clause-present
returns-in_err-put_receipts-clause-present g c =
    let due = c.first_of-due.ensures ∙ ap (take c.args.k) c.deref.ensures.value in
    let here = first_placed c.args.self.now c.self.inside.interval c.self.inside.log.items c.first_of-due.result.now c.args.k c.in-Some.oldest.now (ap (λ s. s.now.interval) c.self.view_is) (ap (λ s. s.log) c.self.view_is) c.self.invariant.logged due (search rules) in
    let long = first_long c.args.self.now c.self.inside.log.items c.first_of-due.result.now c.args.k c.in_ok-bytes.bytes.items (ap (λ s. s.log) c.self.view_is) due c.in_ok-bytes.ensures in
    let put : length c.deref-2.result.now ≡ length (take c.args.k c.args.self.now.log) = ap length c.deref-2.ensures.value ∙ long in
    let receipts = (g.S.Stable.content c.args.store.now).receipts in
    λ known present.
    subst (IsTaken receipts (first_logged c.args.self.now)) put
    (subst (λ x. IsTaken receipts x (length c.deref-2.result.now)) here.0 (c.in_err-put_receipts.ensures.present known (search rules)))

pub invariant_of-self-2 : goal.invariant_of-self-2
invariant_of-self-2 g c =
    let i = c.self.invariant in
    record {
      cluster = i.cluster;
      own = i.own;
      counted = i.counted;
      own_place = i.own_place;
      got = i.got;
      received = i.received;
      sent = i.sent;
      ends = i.ends;
      outputs_end = i.outputs_end;
      made = i.made;
      messages = i.messages;
      outputs = i.outputs;
      logged = subst (AreLast c.self.inside.interval) (sym c.move_rows.ensures.log) (last_behind c.self.inside.interval _ (map logged_record c.self.inside.log.items) i.logged);
      starts = i.starts;
    }

pub returns-clause-stored : goal.returns-clause-stored
returns-clause-stored g c =
    let due = c.first_of-due.ensures ∙ ap (take c.args.k) c.deref.ensures.value in
    let here = first_placed c.args.self.now c.self.inside.interval c.self.inside.log.items c.first_of-due.result.now c.args.k c.in-Some.oldest.now (ap (λ s. s.now.interval) c.self.view_is) (ap (λ s. s.log) c.self.view_is) c.self.invariant.logged due (search rules) in
    λ known.
    first_gained c.args.self.now _ _ c.self.inside.log.items c.first_of-due.result.now c.args.k c.in_ok-bytes.bytes.items c.deref-2.result.now c.in-Some.oldest.now.receipt.interval (ap (λ s. s.log) c.self.view_is) due c.in_ok-bytes.ensures c.deref-2.ensures.value here.0 (c.in_ok-put_receipts.ensures.put known)

pub returns-clause-each : goal.returns-clause-each
returns-clause-each g c =
    let due = c.first_of-due.ensures ∙ ap (take c.args.k) c.deref.ensures.value in
    let here = first_placed c.args.self.now c.self.inside.interval c.self.inside.log.items c.first_of-due.result.now c.args.k c.in-Some.oldest.now (ap (λ s. s.now.interval) c.self.view_is) (ap (λ s. s.log) c.self.view_is) c.self.invariant.logged due (search rules) in
    let last = subst (λ (s : CoreState). AreLast s.now.interval s.log) c.self.view_is c.self.invariant.logged in
    λ known.
    first_are_logged c.args.k c.args.self.now _ _ last
    (first_gained c.args.self.now _ _ c.self.inside.log.items c.first_of-due.result.now c.args.k c.in_ok-bytes.bytes.items c.deref-2.result.now c.in-Some.oldest.now.receipt.interval (ap (λ s. s.log) c.self.view_is) due c.in_ok-bytes.ensures c.deref-2.ensures.value here.0 (c.in_ok-put_receipts.ensures.put known))

pub returns-clause-free : goal.returns-clause-free
returns-clause-free g c =
    let due = c.first_of-due.ensures ∙ ap (take c.args.k) c.deref.ensures.value in
    let here = first_placed c.args.self.now c.self.inside.interval c.self.inside.log.items c.first_of-due.result.now c.args.k c.in-Some.oldest.now (ap (λ s. s.now.interval) c.self.view_is) (ap (λ s. s.log) c.self.view_is) c.self.invariant.logged due (search rules) in
    let long = first_long c.args.self.now c.self.inside.log.items c.first_of-due.result.now c.args.k c.in_ok-bytes.bytes.items (ap (λ s. s.log) c.self.view_is) due c.in_ok-bytes.ensures in
    let put : length c.deref-2.result.now ≡ length (take c.args.k c.args.self.now.log) = ap length c.deref-2.ensures.value ∙ long in
    let receipts = (g.S.Stable.content c.args.store.now).receipts in
    λ known.
    subst (IsFree receipts (first_logged c.args.self.now)) put
    (subst (λ x. IsFree receipts x (length c.deref-2.result.now)) here.0 (c.in_ok-put_receipts.ensures.free known))
