use Rattle.std.proofs.Common.{rules, ◌≡◌, ◌<◌, ◌∷◌, [], length, get_or, ap, sym, ◌∙◌}
use Rattle.om_stable.specs.Content.{rows_of}
use Rattle.om_restart.proofs.TableLemmas.{one_item}
use Rattle.om_restart.proofs.finding.says.Goals as goal

pub returns-clause-said : goal.returns-clause-said
returns-clause-said c = λ said.
    let rows = c.args.rows.now in let y = c.index-rows-0.result in let x = c.index-rows-0-then-rows-lt2.result in
    let some : 0 < length rows = search rules in
    let few : length rows < 2 = search rules in
    let first : x ≡ get_or rows 0 x = search rules in
    let also : y ≡ get_or rows 0 y = search rules in
    let zero : y.0 ≡ 0 = search rules in
    let same : x.1.items ≡ c.args.about.now = search rules in
    let only : rows ≡ x ∷ [] = one_item rows x some few first in
    let is : y ≡ x = also ∙ ap (λ l. get_or l 0 y) only in
    ap rows_of only ∙ ap (λ k. (k, x.1.items) ∷ []) (sym (ap (λ (e : _). e.0) is) ∙ zero) ∙ ap (λ bs. (0, bs) ∷ []) same
