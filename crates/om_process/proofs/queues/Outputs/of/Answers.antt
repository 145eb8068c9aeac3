use Rattle.std.proofs.Common.{◌≡◌, ◌+◌, ◌++◌, ◌∷◌, [], List, length, map, sym, ap, ◌∙◌, refl, arith}
use Rattle.std.proofs.lemmas.List.{append_assoc, append-nil, length-append, nil_from_length}
use Rattle.om_format.specs.declared.queue.QueueEntry.{QueueEntry}
use Rattle.om_format.specs.Queues.{QueueRecord}
use Rattle.om_process.specs.Kept.{made_as}
use Rattle.om_process.specs.steps.Numbers.{made_entry}
use Rattle.om_process.specs.declared.limits.TheConstants.{LAST_OUTPUT}
use Rattle.om_process.proofs.Numbering.{are_numbered, numbered-push, numbered_entries}
use Rattle.om_process.proofs.queues.Outputs.of.Goals as goal

pub loop-entry-preserved : goal.loop-entry-preserved
loop-entry-preserved c =
    let one : c.loop-entry.entry-iterator.rest.items ≡ c.in-Some.entry ∷ c.next.new.self.rest.items = c.in-Some.ensures.steps.0 in
    record {
      kept = c.in_ok-push.ensures.items ∙ ap (λ ks. ks ++ made_as c.loop-entry.seq c.in-Some.entry ∷ []) c.loop-entry.invariant.kept
          ∙ sym (numbered-push made_as c.args.queue.first c.loop-entry.seq c.loop-entry.yielded c.in-Some.entry c.loop-entry.invariant.seq);
      seq = simp length-append (omega arith);
      rest = c.loop-entry.invariant.rest ∙ ap (λ es. c.loop-entry.yielded ++ es) one ∙ sym (append_assoc c.loop-entry.yielded (c.in-Some.entry ∷ []) c.next.new.self.rest.items);
    }

pub invariant_of-result : goal.invariant_of-result
invariant_of-result c =
    let none : c.loop-entry.entry-iterator.rest.items ≡ [] = nil_from_length _ (sym c.loop-entry.entry-iterator.rest.ok.0 ∙ c.in-None.ensures.steps.0) in
    let all : c.args.queue.entries.items ≡ c.loop-entry.yielded = c.loop-entry.invariant.rest ∙ ap (λ es. c.loop-entry.yielded ++ es) none ∙ append-nil c.loop-entry.yielded in
    let long : length c.args.queue.entries.items ≡ length c.loop-entry.yielded = ap length all in
    are_numbered made_as made_entry LAST_OUTPUT c.args.queue.first c.loop-entry.yielded c.of.result (λ k e. refl) (c.of.ensures ∙ c.loop-entry.invariant.kept) (omega arith)

pub returns : goal.returns
returns c =
    let none : c.loop-entry.entry-iterator.rest.items ≡ [] = nil_from_length _ (sym c.loop-entry.entry-iterator.rest.ok.0 ∙ c.in-None.ensures.steps.0) in
    let all : c.args.queue.entries.items ≡ c.loop-entry.yielded = c.loop-entry.invariant.rest ∙ ap (λ es. c.loop-entry.yielded ++ es) none ∙ append-nil c.loop-entry.yielded in
    let entries = ap (λ ks. map made_entry ks) (c.of.ensures ∙ c.loop-entry.invariant.kept) ∙ numbered_entries made_as made_entry c.args.queue.first c.loop-entry.yielded (λ k e. refl) ∙ sym all in
    ap (λ (es : List QueueEntry). let q : QueueRecord = record { first = c.args.queue.first; entries = es } in q) entries

pub overflow_add-seq : goal.overflow_add-seq
overflow_add-seq c =
    let one : c.loop-entry.entry-iterator.rest.items ≡ c.in-Some.entry ∷ c.next.new.self.rest.items = c.in-Some.ensures.steps.0 in
    let all : c.args.queue.entries.items ≡ c.loop-entry.yielded ++ c.in-Some.entry ∷ c.next.new.self.rest.items = c.loop-entry.invariant.rest ∙ ap (λ es. c.loop-entry.yielded ++ es) one in
    let long : length c.args.queue.entries.items ≡ length c.loop-entry.yielded + length (c.in-Some.entry ∷ c.next.new.self.rest.items) = ap length all ∙ length-append c.loop-entry.yielded _ in
    omega arith
