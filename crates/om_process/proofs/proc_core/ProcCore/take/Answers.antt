use Rattle.std.proofs.Common.{subst, sym, ap, map, refl, ◌≡◌, ◌∙◌, ◌+◌, List}
use Rattle.std.proofs.lemmas.List.{map-append}
use Rattle.om_process.specs.Core.{AreLast, CoreState, LoggedRecord}
use Rattle.om_process.specs.steps.Lawful.{CoreParts, IsCore}
use Rattle.om_process.specs.steps.Views.{logged_record}
use Rattle.om_process.proofs.CoreLemmas.{last_more}
use Rattle.om_process.proofs.proc_core.ProcCore.take.Goals as goal

-- another log of the last intervals
with_log : (c : CoreParts) (log : List LoggedRecord) → AreLast c.interval log → IsCore c → IsCore (record c { log = log })
with_log c log last is = record {
  cluster = is.cluster;
  own = is.own;
  counted = is.counted;
  own_place = is.own_place;
  got = is.got;
  received = is.received;
  sent = is.sent;
  ends = is.ends;
  outputs_end = is.outputs_end;
  made = is.made;
  messages = is.messages;
  outputs = is.outputs;
  logged = last;
  starts = is.starts;
}

pub invariant_of-self-3 : goal.invariant_of-self-3
invariant_of-self-3 c =
    let x = c.self.inside.interval in
    let log = c.replace-log.result.items in
    let next : c.self-2.inside.interval ≡ x + 1 = ap (λ (s : CoreState). s.now.interval) (c.self-2.view_is ∙ c.deliver.ensures) in
    let kept : log ≡ c.self.inside.log.items = ap (λ v. v.items) c.replace-log.ensures.value ∙ c.try_reserve.ensures.items in
    let last : AreLast x (map logged_record log) = subst (λ ls. AreLast x (map logged_record ls)) (sym kept) c.self.invariant.logged in
    let more = ap (map logged_record) c.push_reserved.ensures.items ∙ map-append logged_record log _ in
    with_log _ _ (subst (AreLast c.self-2.inside.interval) (sym more) (last_more x c.self-2.inside.interval (map logged_record log) _ next refl last)) c.self-2.invariant
