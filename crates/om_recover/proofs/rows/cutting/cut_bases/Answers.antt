use Rattle.std.proofs.Common.{rules, ◌≡◌, ◌∙◌, ℕ, List, ap, slice_index, nat_le, min}
use Rattle.om_recover.specs.declared.rows.trees.Base.{Base}
use Rattle.om_recover.specs.declared.rows.trees.Bases.{Bases}
use Rattle.om_recover.specs.steps.Nearest.{at}
use Rattle.om_recover.proofs.PartLemmas.{changed, changed_pairs, at_changed}
use Rattle.om_recover.proofs.BaseStepLemmas.{bases_part}
use Rattle.om_recover.proofs.rows.cutting.cut_bases.Goals as goal

pub returns : goal.returns
returns c =
    let test = λ (place : ℕ × ℕ). nat_le place.1 (slice_index c.args.state.now place.0) in
    let change = λ (place : ℕ × ℕ) (base : Base). record base { last = min base.last (slice_index c.args.state.now place.0) } in
    let before = c.args.bases.now in
    let after : Bases = record { newest = c.cut_newest.new.newest; others = c.retain.new.self } in
    let others_are : after.others.entries ≡ changed test change before.others.entries = changed_pairs _ test change _ (λ k v b w f' t. search rules) _ _ c.retain.ensures.filtered in
    bases_part test change before after c.requires c.retain.ensures.ordered
    (λ p x. ap (λ (entries : List ((ℕ × ℕ) × Base)). at entries p x) others_are ∙ at_changed test change before.others.entries p x) c.cut_newest.ensures
