use Rattle.std.proofs.Common.{◌≡◌, ◌∙◌, [], ◌∷◌, ap₂, List, ℕ}
use Rattle.om_stable.specs.Content.{bytes_of}
use Rattle.om_tables.proofs.LoopLemmas.{four_of}
use Rattle.om_tables.proofs.InsertLemmas.{retold}
use Rattle.om_tables.proofs.inserting.insert_few.Goals as goal

pub returns-clause-performs : goal.returns-clause-performs
returns-clause-performs g c =
    let all = four_of c.args.recs.now c.a-item.result c.b-item.result c.c-item.result c.d-item.result c.in-len4.len_at_least c.in-len4.len_below c.a-item.is c.b-item.is c.c-item.is c.d-item.is in
    let front : c.deref.result.now ∷ c.deref-2.result.now ∷ c.deref-3.result.now ∷ c.deref-4.result.now ∷ [] ≡ c.a-item.result.items ∷ c.b-item.result.items ∷ c.c-item.result.items ∷ c.d-item.result.items ∷ [] =
    ap₂ (λ (u v : List ℕ). u ∷ v ∷ c.deref-3.result.now ∷ c.deref-4.result.now ∷ []) c.deref.ensures.value c.deref-2.ensures.value
    ∙ ap₂ (λ (u v : List ℕ). c.a-item.result.items ∷ c.b-item.result.items ∷ u ∷ v ∷ []) c.deref-3.ensures.value c.deref-4.ensures.value in
    retold _ _ c.args.first _ (bytes_of c.args.recs.now) _ _ (front ∙ all) c.in_ok-insert_four.ensures.performs
