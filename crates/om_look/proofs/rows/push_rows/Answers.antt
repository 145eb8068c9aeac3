use Rattle.std.proofs.Common.{◌≡◌, ◌≢◌, ◌+◌, ◌<◌, ◌++◌, ◌∷◌, [], length, get_or, rules, sym, ap, ◌∙◌, subst, IsTrue, arith}
use Rattle.std.specs.Prelude.{IfErr, Err}
use Rattle.std.proofs.lemmas.List.{append_assoc}
use Rattle.om_stable.specs.Content.{rows_of}
use Rattle.om_look.specs.steps.Rowing.{RefusesFollowing}
use Rattle.om_look.proofs.RowsLemmas.{follow_all, follow_gap, follow_more, follow_refused, lead_more}
use Rattle.om_look.proofs.rows.push_rows.Goals as goal

pub returns-in_err-before-clause-refused : goal.returns-in_err-before-clause-refused
returns-in_err-before-clause-refused c =
    let found = c.args.found.now in
    let within : c.loop-y.y-index < length c.args.found.now = search rules in
    let here : c.loop-y-item.result ≡ get_or c.args.found.now c.loop-y.y-index c.loop-y-item.result = search rules in
    let next : c.loop-y-item.result.0 ≡ c.loop-y.before.x + 1 = search rules in
    let same : c.from_residual-in_err-before.result ≡ Err c.in_err-before.field-0.0 = search rules in
    subst (λ r. IfErr r (λ fault. RefusesFollowing c.args.own c.args.n c.args.base.now (rows_of found) fault)) (sym same)
    (follow_refused c.args.own c.args.n c.args.base.now c.loop-y.before found c.loop-y.y-index c.loop-y-item.result c.deref.result.now c.in_err-before.field-0.0 within here next c.deref.ensures.value c.loop-y.invariant.lead c.in_err-before.ensures.refused)

pub loop-y-preserved : goal.loop-y-preserved
loop-y-preserved c =
    let so_far = c.loop-y.invariant.follow in
    let row = c.in_ok-before.before in
    let within : c.loop-y.y-index < length c.args.found.now = search rules in
    let here : c.loop-y-item.result ≡ get_or c.args.found.now c.loop-y.y-index c.loop-y-item.result = search rules in
    let next : c.loop-y-item.result.0 ≡ c.loop-y.before.x + 1 = search rules in
    record {
      vec = c.in_ok-before.ensures.vec;
      got = c.in_ok-before.ensures.got;
      lead = lead_more c.args.own c.args.n c.args.base.now c.loop-y.before row c.args.found.now c.loop-y.y-index c.loop-y-item.result c.deref.result.now within here next c.deref.ensures.value c.in_ok-before.ensures.next c.loop-y.invariant.lead;
      follow = (
        so_far.0 ++ row ∷ [],
        c.in_ok-push-2.ensures.items ∙ ap (λ rows. rows ++ row ∷ []) so_far.1 ∙ append_assoc c.args.rows.now.items (c.args.base.now ∷ so_far.0) (row ∷ []),
        follow_more c.args.own c.args.n c.args.base.now c.loop-y.before row c.args.found.now c.loop-y.y-index c.loop-y-item.result c.deref.result.now so_far.0 within here next c.deref.ensures.value c.in_ok-before.ensures.next so_far.2,
      );
    }

pub returns-after-loop-y-clause-follow : goal.returns-after-loop-y-clause-follow
returns-after-loop-y-clause-follow c =
    let so_far = c.loop-y.invariant.follow in
    (so_far.0, follow_all c.args.own c.args.n c.args.base.now c.loop-y.before c.args.found.now c.loop-y.y-index so_far.0 (omega (arith, c.loop-y-test.false)) so_far.2, so_far.1)

pub returns-then-not-is_next-clause-follow : goal.returns-then-not-is_next-clause-follow
returns-then-not-is_next-clause-follow c =
    let so_far = c.loop-y.invariant.follow in
    let within : c.loop-y.y-index < length c.args.found.now = search rules in
    let here : c.loop-y-item.result ≡ get_or c.args.found.now c.loop-y.y-index c.loop-y-item.result = search rules in
    let gap : c.loop-y-item.result.0 ≢ c.loop-y.before.x + 1 = λ same. let yes : IsTrue c.is_next.result = c.is_next.ensures.1 same in search rules in
    (so_far.0, follow_gap c.args.own c.args.n c.args.base.now c.loop-y.before c.args.found.now c.loop-y.y-index c.loop-y-item.result so_far.0 within here gap so_far.2, so_far.1)
