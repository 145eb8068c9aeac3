use Rattle.std.proofs.Common.{◌≡◌, List, ap, subst, arith, inl, inr, length}
use Rattle.std.proofs.lemmas.Bool.{eqb-true}
use Rattle.om_recover.specs.steps.Flat.{AreAlike}
use Rattle.om_recover.specs.declared.rows.trees.Vectors.{Vectors}
use Rattle.om_recover.proofs.FlatLemmas.{alike_of}
use Rattle.om_recover.proofs.rows.run_logs.RunLogs.takes.Goals as goal

pub returns-then-self-eq0 : goal.returns-then-self-eq0
returns-then-self-eq0 c = λ _.
    let inside = c.self.inside in
    let vec : length c.vec_numbers-n.result.now ≡ length c.args.vectors.now.vec = ap length c.vec_numbers-n.ensures.numbers in
    let got : length c.got_numbers.result.now ≡ length c.args.vectors.now.got = ap length c.got_numbers.ensures.numbers in
    subst (λ (logs : List Vectors). AreAlike logs c.args.vectors.now) c.self.view_is
    (alike_of inside.n inside.count inside.gone inside.numbers.items c.args.vectors.now c.self.invariant (omega (arith, vec, got, c.if-got_numbers-n.false)) (inl (omega (arith, c.if-self-eq0.true))))

pub returns : goal.returns
returns c = λ same.
    let inside = c.self.inside in
    let vec : length c.vec_numbers-n.result.now ≡ length c.args.vectors.now.vec = ap length c.vec_numbers-n.ensures.numbers in
    let got : length c.got_numbers.result.now ≡ length c.args.vectors.now.got = ap length c.got_numbers.ensures.numbers in
    let as_many : inside.n ≡ length c.vec_numbers-n.result.now = eqb-true inside.n (length c.vec_numbers-n.result.now) same in
    subst (λ (logs : List Vectors). AreAlike logs c.args.vectors.now) c.self.view_is
    (alike_of inside.n inside.count inside.gone inside.numbers.items c.args.vectors.now c.self.invariant (omega (arith, vec, got, c.if-got_numbers-n.false)) (inr (omega (arith, vec, as_many))))
