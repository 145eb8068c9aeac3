use Rattle.std.proofs.Common.{◌≡◌, ◌∙◌, ap, subst}
use Rattle.std.specs.Prelude.{None, string_bytes}
use Rattle.std.proofs.lemmas.Result.{IfOk-weaker}
use Rattle.om_stable.specs.Calls.{IsCleanCall}
use Rattle.om_stable.specs.Content.{Content, between, rows_of}
use Rattle.om_process.specs.declared.limits.TheConstants.{LAST_INTERVAL}
use Rattle.om_look.specs.steps.Found.{AreFound, IsTextOf}
use Rattle.om_look.proofs.ShowLemmas.{shown}
use Rattle.om_look.proofs.content.content_text.Goals as goal

pub returns-clause-text : goal.returns-clause-text
returns-clause-text g c known =
    let held = g.S.Stable.content c.args.store.now in
    let fs = c.in_ok-found.found.items in
    let receipts = c.in_ok-receipts.receipts.items in
    let first : IsCleanCall g.S.Stable.is_clean g.S.Stable.IsSound c.args.store.now c.gather.new.store = (c.receipts_of.ensures.reads.clean known.0, known.1) in
    let second : IsCleanCall g.S.Stable.is_clean g.S.Stable.IsSound c.gather.new.store c.receipts_of.new.store = (known.0, c.in_ok-found.ensures.reads.sound first.0 known.1) in
    let same : g.S.Stable.content c.gather.new.store ≡ held = c.in_ok-found.ensures.reads.same first in
    let all : AreFound held None fs = c.in_ok-found.ensures.all first in
    let read : rows_of receipts ≡ between held.receipts 0 LAST_INTERVAL = c.in_ok-receipts.ensures.found second ∙ ap (λ (h : Content). between h.receipts 0 LAST_INTERVAL) same in
    let found_is : c.deref.result.now ≡ fs = c.deref.ensures.value in
    let receipts_are : c.deref-2.result.now ≡ receipts = c.deref-2.ensures.value in
    IfOk-weaker c.text_of.result _ _ (λ text is. shown held fs (rows_of receipts) (string_bytes text) all read (subst (λ rs. IsTextOf fs (rows_of rs) (string_bytes text)) receipts_are (subst (λ gs. IsTextOf gs (rows_of c.deref-2.result.now) (string_bytes text)) found_is is))) c.text_of.ensures.text
