use Rattle.std.proofs.Common.{rules, ℕ, length}
use Rattle.std.proofs.lemmas.List.Sorted.{IsNonDecreasingBy-from_sort_by_key}
use Rattle.om_restart.proofs.SenderLemmas.{received_sorted}
use Rattle.om_restart.proofs.receiving.received_in.Goals as goal

pub returns-clause-told : goal.returns-clause-told
returns-clause-told c = received_sorted (length c.args.rows.now) c.args.rows.now c.in_ok-received.received.items c.sort_unstable_by_key.new.self.items c.sort_unstable_by_key.ensures.permutation c.in_ok-received.ensures

pub returns-clause-ascending : goal.returns-clause-ascending
returns-clause-ascending c = IsNonDecreasingBy-from_sort_by_key (λ (e : ℕ × ℕ). e.0) c.sort_unstable_by_key.new.self.items c.sort_unstable_by_key.ensures.sorted (search rules)
