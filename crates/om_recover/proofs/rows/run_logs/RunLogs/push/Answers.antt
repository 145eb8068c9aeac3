use Rattle.std.proofs.Common.{◌≡◌, ◌∙◌, ◌++◌, ◌∷◌, [], List, ap, sym, subst, arith, drop, length}
use Rattle.om_recover.specs.steps.Flat.{AreFlat, AreAlike, vectors_in}
use Rattle.om_recover.specs.declared.rows.trees.Vectors.{Vectors}
use Rattle.om_recover.proofs.RunLemmas.{after_error}
use Rattle.om_recover.proofs.FlatLemmas.{pushed_flat, count_within}
use Rattle.om_recover.proofs.rows.run_logs.RunLogs.push.Goals as goal

-- where memory is refused, all lies as it lay
pub invariant_of-self : goal.invariant_of-self
invariant_of-self c = subst (AreFlat c.self.inside.n c.self.inside.count c.self.inside.gone) (sym c.in_err-append.ensures.err) c.self.invariant

pub returns-in_err-append-clause-err : goal.returns-in_err-append-clause-err
returns-in_err-append-clause-err c =
    let inside = c.self.inside in
    after_error c.from_residual.result _ (ap (λ (items : List _). vectors_in inside.n inside.count (drop inside.gone items)) c.in_err-append.ensures.err ∙ c.self.view_is)

pub overflow_add-self : goal.overflow_add-self
overflow_add-self c =
    let inside = c.self.inside in
    omega (arith, count_within inside.n inside.count inside.gone inside.numbers.items c.self.invariant, inside.numbers.ok.0, inside.numbers.ok.1, inside.numbers.small)

pub invariant_of-self-2 : goal.invariant_of-self-2
invariant_of-self-2 c =
    let inside = c.self.inside in
    let vectors = c.args.vectors.now in
    let places : length vectors.vec ≡ length c.vec_numbers-2.result.now = sym (ap length c.vec_numbers-2.ensures.numbers) in
    let more = rw (c.vec_numbers.ensures.numbers, c.got_numbers.ensures.numbers) at c.in_ok-append.ensures.ok in
    let alike = subst (λ (logs : List Vectors). AreAlike logs vectors) (sym c.self.view_is) c.requires in
    (pushed_flat inside.n (length c.vec_numbers-2.result.now) inside.count inside.gone inside.numbers.items c.append.new.numbers.items vectors c.self.invariant alike places
    (omega (arith, places, c.vec_numbers.ensures.some)) (omega (arith, places, c.vec_numbers.ensures.within)) more).0

pub returns-clause-ok : goal.returns-clause-ok
returns-clause-ok c =
    let inside = c.self.inside in
    let vectors = c.args.vectors.now in
    let places : length vectors.vec ≡ length c.vec_numbers-2.result.now = sym (ap length c.vec_numbers-2.ensures.numbers) in
    let more = rw (c.vec_numbers.ensures.numbers, c.got_numbers.ensures.numbers) at c.in_ok-append.ensures.ok in
    let alike = subst (λ (logs : List Vectors). AreAlike logs vectors) (sym c.self.view_is) c.requires in
    (pushed_flat inside.n (length c.vec_numbers-2.result.now) inside.count inside.gone inside.numbers.items c.append.new.numbers.items vectors c.self.invariant alike places
    (omega (arith, places, c.vec_numbers.ensures.some)) (omega (arith, places, c.vec_numbers.ensures.within)) more).1
    ∙ ap (λ (logs : List Vectors). logs ++ vectors ∷ []) c.self.view_is
