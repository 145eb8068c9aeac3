use Rattle.std.proofs.Common.{◌≡◌, sym, ◌∙◌, ap, refl, Bool, true, false, not}
use Rattle.om_recover.specs.steps.Held.{row_of}
use Rattle.om_recover.specs.declared.row.Row.{Row}
use Rattle.om_recover.proofs.HeldLemmas.{one_of_a_kind}
use Rattle.om_recover.proofs.rows.answer.is_different.Goals as goal

not_false : (b : Bool) → not b ≡ false → b ≡ true
not_false true is = refl
not_false false is = sym is

pub returns-in-Some-clause-none : goal.returns-in-Some-clause-none
returns-in-Some-clause-none c = λ none other there kind_is same_pid same_interval.
    let known = row_of c.args.kind c.args.row.now.pid c.args.row.now.interval c.in-Some.vectors in
    let is : other ≡ known = one_of_a_kind c.args.trees.now known other c.requires c.in-Some.ensures there kind_is same_pid same_interval in
    let vectors = c.has_vectors.ensures.0 (not_false _ none) in
    record {
      vec = ap (λ (r : Row). r.vec) is ∙ ap (λ (r : Row). r.vec) vectors;
      got = ap (λ (r : Row). r.got) is ∙ ap (λ (r : Row). r.got) vectors;
    }
