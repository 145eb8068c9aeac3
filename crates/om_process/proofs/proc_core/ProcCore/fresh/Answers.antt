use Rattle.std.proofs.Common.{◌≡◌, ℕ, zero, suc, ◌<◌, ◌≤◌, true, List, [], ◌∷◌, length, map, replicate, get_or, refl, sym, ap, ◌∙◌, subst, arith, rules}
use Rattle.std.specs.Prelude.{sum}
use Rattle.std.proofs.lemmas.Bool.{le-leb}
use Rattle.std.proofs.lemmas.List.{length-replicate, get_or-replicate}
use Rattle.std.proofs.lemmas.List.Sums.{sum_by-cons}
use Rattle.om_interval.specs.declared.pid.TheConstants.{MAX_PROCESSES}
use Rattle.om_format.specs.Versions.{is_cluster_size}
use Rattle.om_format.specs.declared.version.Version.TheVariants.{V2}
use Rattle.om_format.specs.Queues.{QueueRecord, queue_end, are_entries, all_entries}
use Rattle.om_process.specs.Process.{empty_queue}
use Rattle.om_process.specs.Core.{AreLast, LoggedRecord}
use Rattle.om_process.specs.steps.Lawful.{IsCore}
use Rattle.om_process.specs.steps.Views.{logged_record}
use Rattle.om_process.proofs.proc_core.ProcCore.fresh.Goals as goal

no_sum : (n : ℕ) → sum (replicate n 0) ≡ 0
no_sum zero = refl
no_sum (suc n) = sum_by-cons (λ (x : ℕ). x) 0 (replicate n 0) ∙ (let e : sum (replicate n 0) ≡ 0 = no_sum n in omega arith)

no_ends : (n : ℕ) → map queue_end (replicate n empty_queue) ≡ replicate n 0
no_ends zero = refl
no_ends (suc n) = ap (λ es. 0 ∷ es) (no_ends n)

no_entries : (n : ℕ) → all_entries 0 (replicate n empty_queue) ≡ true
no_entries zero = refl
no_entries (suc n) = no_entries n

is_cluster : (n : ℕ) → 1 ≤ n → n ≤ MAX_PROCESSES → is_cluster_size V2 n ≡ true
is_cluster n some within = rw (le-leb 1 n some, le-leb n MAX_PROCESSES within) refl

core_fresh : (own n count : ℕ) (log : List LoggedRecord) (outputs : QueueRecord) (zeros : List ℕ) (outbox : List QueueRecord) (starts : List (List ℕ)) → own < n → n ≤ MAX_PROCESSES → zeros ≡ replicate n 0 → outbox ≡ replicate n empty_queue → length starts ≡ n → outputs ≡ empty_queue → log ≡ []
    → IsCore (record { own = own; count = count; interval = 0; vec = zeros; got = zeros; sent = zeros; made = 0; outbox = outbox; outputs = outputs; log = log; starts = starts })
core_fresh own n count log outputs zeros outbox starts place within zero_list boxes known empty none =
    let long : length zeros ≡ n = ap length zero_list ∙ length-replicate n 0 in
    record {
      cluster = subst (λ k. is_cluster_size V2 k ≡ true) (sym long) (is_cluster n (omega arith) within);
      own = omega arith;
      counted = omega arith;
      own_place = ap (λ v. get_or v own 0) zero_list ∙ get_or-replicate n own 0 0 place;
      got = refl;
      received = ap sum zero_list ∙ no_sum n;
      sent = refl;
      ends = ap (map queue_end) boxes ∙ no_ends n ∙ sym zero_list;
      outputs_end = ap queue_end empty;
      made = omega arith;
      messages = subst (λ qs. all_entries 0 qs ≡ true) (sym boxes) (no_entries n);
      outputs = ap (λ (q : QueueRecord). are_entries 0 0 q.entries) empty;
      logged = subst (AreLast 0) (sym none) (record { within = omega arith; intervals = refl });
      starts = known ∙ sym long;
    }

pub invariant_of-result : goal.invariant_of-result
invariant_of-result c =
    let known : length c.in_ok-new.field-0 ≡ c.args.n = ap length c.in_ok-new.ensures ∙ length-replicate c.args.n (0 ∷ []) in
    let zeros : c.in-Some.zeros ≡ replicate c.args.n 0 = search rules in
    let nothing_logged : c.new-2.result.items ≡ [] = search rules in
    core_fresh c.args.pid c.args.n c.args.machine.count _ _ c.in-Some.zeros _ c.in_ok-new.field-0 c.requires.place c.requires.size zeros c.in_ok-empty_outbox.ensures known c.new.ensures (ap (map logged_record) nothing_logged)
