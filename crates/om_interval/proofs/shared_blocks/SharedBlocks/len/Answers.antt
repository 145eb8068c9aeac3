use Rattle.std.proofs.Common.{rules, ◌≡◌, ap, arith, length}
use Rattle.om_interval.proofs.LineLemmas.{counted}
use Rattle.om_interval.proofs.shared_blocks.SharedBlocks.len.Goals as goal

pub overflow_mul-result : goal.overflow_mul-result
overflow_mul-result c =
    let blocks : c.len.result ≡ length c.self.inside.shared.items = search rules in
    let many = counted c.self.inside.shared.items c.self.inside.own.items c.self.invariant in
    omega (arith, blocks, many, c.self.invariant.numbered)

pub overflow_add-result : goal.overflow_add-result
overflow_add-result c =
    let blocks : c.len.result ≡ length c.self.inside.shared.items = search rules in
    let others : c.len-2.result ≡ length c.self.inside.own.items = search rules in
    let many = counted c.self.inside.shared.items c.self.inside.own.items c.self.invariant in
    omega (arith, blocks, others, many, c.self.invariant.numbered)

pub returns-clause-starts : goal.returns-clause-starts
returns-clause-starts c =
    let blocks : c.len.result ≡ length c.self.inside.shared.items = search rules in
    let others : c.len-2.result ≡ length c.self.inside.own.items = search rules in
    let many = counted c.self.inside.shared.items c.self.inside.own.items c.self.invariant in
    omega (arith, blocks, others, many, ap length c.self.view_is)

pub returns-clause-numbered : goal.returns-clause-numbered
returns-clause-numbered c =
    let blocks : c.len.result ≡ length c.self.inside.shared.items = search rules in
    let others : c.len-2.result ≡ length c.self.inside.own.items = search rules in
    let many = counted c.self.inside.shared.items c.self.inside.own.items c.self.invariant in
    omega (arith, blocks, others, many, c.self.invariant.numbered)
