use Rattle.std.proofs.Common.{rules, ◌≡◌, ℕ, slice_index, nat_le}
use Rattle.om_recover.specs.declared.rows.trees.Logs.{Logs}
use Rattle.om_recover.proofs.PartLemmas.{changed, changed_pairs}
use Rattle.om_recover.proofs.RunPartLemmas.{others_part, part_of}
use Rattle.om_recover.proofs.rows.cutting.cut_logs.Goals as goal

pub returns : goal.returns
returns c =
    let test = λ (place : ℕ × ℕ). nat_le place.1 (slice_index c.args.state.now place.0) in
    let before = c.args.logs.now in
    let after : Logs = record { runs = c.cut_runs.new.runs; others = c.retain.new.self } in
    let others_are : after.others.entries ≡ changed test (λ _ vectors. vectors) before.others.entries = changed_pairs _ test (λ _ vectors. vectors) _ (λ k v b w f' t. search rules) _ _ c.retain.ensures.filtered in
    part_of test before after c.requires c.retain.ensures.ordered (λ p x. others_part test before.others.entries after.others.entries p x others_are) c.cut_runs.ensures
