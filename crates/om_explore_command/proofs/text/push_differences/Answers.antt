use Rattle.std.proofs.Common.{◌+◌, ◌++◌, ◌∙◌, ◌<◌, None, Some, ap, length, string_bytes, sym, arith}
use Rattle.std.specs.Prelude.{slice_get, slice_index_or}
use Rattle.std.proofs.lemmas.Option.{slice_get-get_or}
use Rattle.om_commands.proofs.TextLemmas.{text_grows}
use Rattle.om_explore_command.specs.ExplorationText.{difference_text}
use Rattle.om_explore_command.proofs.PlaceLemmas.{read_at}
use Rattle.om_explore_command.proofs.text.push_differences.Goals as goal

pub loop-k-preserved : goal.loop-k-preserved
loop-k-preserved c =
    let found = c.args.found.now in
    let places = c.args.places.now in
    let before = string_bytes c.loop-k.text in
    let n = c.loop-k.k + 1 in
    let place = slice_index_or places c.loop-k.k None in
    let low : c.loop-k.k < length places = omega (arith, c.requires, c.loop-k-test.true) in
    text_grows (λ k. difference_text c.args.form c.args.programs.now (k + 1) (slice_get found 0) (slice_get found k) (slice_get places k)) c.loop-k.k
    (string_bytes c.args.text.now) before (string_bytes c.push_first.new.text) c.loop-k.invariant
    (c.in_ok-push_first.ensures
    ∙ ap (λ one. before ++ difference_text c.args.form c.args.programs.now n one (Some c.index-found-k.result) (Some place))
    (sym (read_at found 0 c.index-found-0.result (omega arith) c.index-found-0.is))
    ∙ ap (λ other. before ++ difference_text c.args.form c.args.programs.now n (slice_get found 0) other (Some place))
    (sym (read_at found c.loop-k.k c.index-found-k.result c.loop-k-test.true c.index-found-k.is))
    ∙ ap (λ at. before ++ difference_text c.args.form c.args.programs.now n (slice_get found 0) (slice_get found c.loop-k.k) at)
    (sym (slice_get-get_or places c.loop-k.k None low)))
