use Rattle.std.proofs.Common.{◌≡◌, ℕ, ◌+◌, ◌-◌, ◌++◌, ◌∷◌, [], rules, List, length, map, sym, ap, ◌∙◌, refl, arith}
use Rattle.std.proofs.lemmas.List.{append_assoc, append-nil, length-append, nil_from_length}
use Rattle.om_format.specs.declared.queue.QueueEntry.{QueueEntry}
use Rattle.om_format.specs.Queues.{QueueRecord}
use Rattle.om_process.specs.Kept.{sent_as}
use Rattle.om_process.specs.steps.Numbers.{sent_entry}
use Rattle.om_process.specs.declared.limits.TheConstants.{LAST_NUMBER}
use Rattle.om_process.proofs.Numbering.{are_numbered, numbered-push, numbered_entries}
use Rattle.om_process.proofs.queues.Messages.of.Goals as goal

pub loop-entry-preserved : goal.loop-entry-preserved
loop-entry-preserved c =
    let one : c.loop-entry.entry-iterator.rest.items ≡ c.in-Some.entry ∷ c.next.new.self.rest.items = c.in-Some.ensures.steps.0 in
    record {
      kept = c.in_ok-push.ensures.items ∙ ap (λ ks. ks ++ sent_as c.loop-entry.ssn c.in-Some.entry ∷ []) c.loop-entry.invariant.kept
          ∙ sym (numbered-push sent_as (c.args.stop - c.len.result) c.loop-entry.ssn c.loop-entry.yielded c.in-Some.entry c.loop-entry.invariant.ssn);
      ssn = simp length-append (omega arith);
      rest = c.loop-entry.invariant.rest ∙ ap (λ es. c.loop-entry.yielded ++ es) one ∙ sym (append_assoc c.loop-entry.yielded (c.in-Some.entry ∷ []) c.next.new.self.rest.items);
    }

pub invariant_of-result : goal.invariant_of-result
invariant_of-result c =
    let none : c.loop-entry.entry-iterator.rest.items ≡ [] = nil_from_length _ (sym c.loop-entry.entry-iterator.rest.ok.0 ∙ c.in-None.ensures.steps.0) in
    let all : c.args.queue.entries.items ≡ c.loop-entry.yielded = c.loop-entry.invariant.rest ∙ ap (λ es. c.loop-entry.yielded ++ es) none ∙ append-nil c.loop-entry.yielded in
    let long : length c.args.queue.entries.items ≡ length c.loop-entry.yielded = ap length all in
    let counted : c.len.result ≡ length c.args.queue.entries.items = search rules in
    are_numbered sent_as sent_entry LAST_NUMBER (c.args.stop - c.len.result) c.loop-entry.yielded c.of.result (λ k e. refl) (c.of.ensures ∙ c.loop-entry.invariant.kept) (omega arith)

pub returns : goal.returns
returns c =
    let none : c.loop-entry.entry-iterator.rest.items ≡ [] = nil_from_length _ (sym c.loop-entry.entry-iterator.rest.ok.0 ∙ c.in-None.ensures.steps.0) in
    let all : c.args.queue.entries.items ≡ c.loop-entry.yielded = c.loop-entry.invariant.rest ∙ ap (λ es. c.loop-entry.yielded ++ es) none ∙ append-nil c.loop-entry.yielded in
    let entries = ap (λ ks. map sent_entry ks) (c.of.ensures ∙ c.loop-entry.invariant.kept) ∙ numbered_entries sent_as sent_entry (c.args.stop - c.len.result) c.loop-entry.yielded (λ k e. refl) ∙ sym all in
    let counted : c.len.result ≡ length c.args.queue.entries.items = search rules in
    let first : c.args.stop - c.len.result ≡ c.args.queue.first = omega arith in
    ap (λ (es : List QueueEntry). let q : QueueRecord = record { first = c.args.stop - c.len.result; entries = es } in q) entries
    ∙ ap (λ (n : ℕ). let q : QueueRecord = record { first = n; entries = c.args.queue.entries.items } in q) first

pub overflow_add-ssn : goal.overflow_add-ssn
overflow_add-ssn c =
    let one : c.loop-entry.entry-iterator.rest.items ≡ c.in-Some.entry ∷ c.next.new.self.rest.items = c.in-Some.ensures.steps.0 in
    let all : c.args.queue.entries.items ≡ c.loop-entry.yielded ++ c.in-Some.entry ∷ c.next.new.self.rest.items = c.loop-entry.invariant.rest ∙ ap (λ es. c.loop-entry.yielded ++ es) one in
    let long : length c.args.queue.entries.items ≡ length c.loop-entry.yielded + length (c.in-Some.entry ∷ c.next.new.self.rest.items) = ap length all ∙ length-append c.loop-entry.yielded _ in
    omega arith
