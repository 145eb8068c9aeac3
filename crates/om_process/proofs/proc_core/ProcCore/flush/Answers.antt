use Rattle.std.proofs.Common.{◌≡◌, ap, ◌∙◌, subst, length, map, arith}
use Rattle.std.specs.Prelude.{slice_get}
use Rattle.std.proofs.lemmas.List.{length-map}
use Rattle.std.proofs.lemmas.Result.{on_ok_weaker}
use Rattle.om_stable.specs.Content.{IsFree, IsTaken}
use Rattle.om_process.specs.Stores.{first_logged}
use Rattle.om_process.specs.steps.Views.{logged_record}
use Rattle.om_process.proofs.Logging.{all_flushed, all_gained, all_long}
use Rattle.om_process.proofs.proc_core.ProcCore.flush.Goals as goal

pub returns-clause-core : goal.returns-clause-core
returns-clause-core g c =
    let kept : length (map logged_record c.self.inside.log.items) ≡ length c.self.inside.log.items = length-map c.self.inside.log.items logged_record in
    let log : length (map logged_record c.self.inside.log.items) ≡ length c.args.self.now.log = ap (λ s. length s.log) c.self.view_is in
    let many : c.len-count.result ≡ length c.args.self.now.log = omega arith in
    on_ok_weaker c.flush_first.result (λ is. all_flushed c.args.self.now _ _ many is) c.flush_first.ensures.core

pub returns-clause-stored : goal.returns-clause-stored
returns-clause-stored g c =
    let kept : length (map logged_record c.self.inside.log.items) ≡ length c.self.inside.log.items = length-map c.self.inside.log.items logged_record in
    let log : length (map logged_record c.self.inside.log.items) ≡ length c.args.self.now.log = ap (λ s. length s.log) c.self.view_is in
    let many : c.len-count.result ≡ length c.args.self.now.log = omega arith in
    λ known. on_ok_weaker c.flush_first.result (λ gained. all_gained c.args.self.now _ _ _ many gained) (c.flush_first.ensures.stored known)

pub returns-clause-each : goal.returns-clause-each
returns-clause-each g c =
    let kept : length (map logged_record c.self.inside.log.items) ≡ length c.self.inside.log.items = length-map c.self.inside.log.items logged_record in
    let log : length (map logged_record c.self.inside.log.items) ≡ length c.args.self.now.log = ap (λ s. length s.log) c.self.view_is in
    let many : c.len-count.result ≡ length c.args.self.now.log = omega arith in
    λ known. on_ok_weaker c.flush_first.result (λ each i l at. each i l (ap (λ ls. slice_get ls i) (all_long c.args.self.now _ many) ∙ at)) (c.flush_first.ensures.each known)

pub returns-clause-free : goal.returns-clause-free
returns-clause-free g c =
    let kept : length (map logged_record c.self.inside.log.items) ≡ length c.self.inside.log.items = length-map c.self.inside.log.items logged_record in
    let log : length (map logged_record c.self.inside.log.items) ≡ length c.args.self.now.log = ap (λ s. length s.log) c.self.view_is in
    let many : c.len-count.result ≡ length c.args.self.now.log = omega arith in
    λ known. on_ok_weaker c.flush_first.result (subst (IsFree (g.S.Stable.content c.args.store.now).receipts (first_logged c.args.self.now)) (ap length (all_long c.args.self.now _ many))) (c.flush_first.ensures.free known)

pub returns-clause-present : goal.returns-clause-present
returns-clause-present g c =
    let kept : length (map logged_record c.self.inside.log.items) ≡ length c.self.inside.log.items = length-map c.self.inside.log.items logged_record in
    let log : length (map logged_record c.self.inside.log.items) ≡ length c.args.self.now.log = ap (λ s. length s.log) c.self.view_is in
    let many : c.len-count.result ≡ length c.args.self.now.log = omega arith in
    λ known present. subst (IsTaken (g.S.Stable.content c.args.store.now).receipts (first_logged c.args.self.now)) (ap length (all_long c.args.self.now _ many)) (c.flush_first.ensures.present known present)
