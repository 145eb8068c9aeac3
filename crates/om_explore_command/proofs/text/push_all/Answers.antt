use Rattle.std.proofs.Common.{◌+◌, ◌++◌, ◌∙◌, ap, string_bytes, sym}
use Rattle.std.specs.Prelude.{slice_get}
use Rattle.om_commands.proofs.TextLemmas.{text_grows}
use Rattle.om_explore_command.specs.ExplorationText.{found_text}
use Rattle.om_explore_command.proofs.PlaceLemmas.{read_at}
use Rattle.om_explore_command.proofs.text.push_all.Goals as goal

pub loop-k-preserved : goal.loop-k-preserved
loop-k-preserved c =
    let before = string_bytes c.loop-k.text in
    text_grows (λ k. found_text c.args.programs.now (k + 1) (slice_get c.args.found.now k)) c.loop-k.k (string_bytes c.args.text.now)
    before (string_bytes c.push_found.new.text) c.loop-k.invariant
    (c.in_ok-push_found.ensures
    ∙ ap (λ found. before ++ found_text c.args.programs.now (c.loop-k.k + 1) found)
    (sym (read_at c.args.found.now c.loop-k.k c.index-found-k.result c.loop-k-test.true c.index-found-k.is)))
