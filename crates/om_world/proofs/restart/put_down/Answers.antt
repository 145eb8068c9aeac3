use Rattle.std.proofs.Common.{◌≡◌, ◌<◌, ◌≤◌, ◌∙◌, ap, arith, get_or, length, set, subst, sym}
use Rattle.om_world.specs.steps.Members.{downed}
use Rattle.om_world.proofs.Downing.{by_all, by_long, by_next}
use Rattle.om_world.proofs.restart.put_down.Goals as goal

pub index_mut-member-requires : goal.index_mut-member-requires
index_mut-member-requires g c =
    let p = c.loop-p.p in let xs = c.args.members.now.items in
    let long : length c.loop-p.members.items ≡ length xs = ap length c.loop-p.invariant ∙ by_long downed p xs in
    let lt : p < c.len-p-end.result = c.loop-p-test.true in
    let end = c.len-p-end.ensures in
    subst (λ n. p < n) (sym c.loop-p.members.ok.0) (omega arith)

pub loop-p-preserved : goal.loop-p-preserved
loop-p-preserved g c =
    let p = c.loop-p.p in let xs = c.args.members.now.items in let x = c.index_mut-member.result.now in
    let lt : p < c.len-p-end.result = c.loop-p-test.true in
    let end = c.len-p-end.ensures in
    ap (λ l. set l p (downed x)) c.loop-p.invariant ∙ by_next downed p xs x (omega arith) (c.index_mut-member.ensures.value ∙ ap (λ l. get_or l p x) c.loop-p.invariant)

pub returns : goal.returns
returns g c =
    let p = c.loop-p.p in let xs = c.args.members.now.items in
    let le : c.len-p-end.result ≤ p = c.loop-p-test.false in
    let end = c.len-p-end.ensures in
    c.loop-p.invariant ∙ by_all downed p xs (omega arith)
