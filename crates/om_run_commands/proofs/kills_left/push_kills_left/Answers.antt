use Rattle.std.proofs.Common.{ℕ, [], ◌++◌, ◌∙◌, ap, string_bytes, take}
use Rattle.std.specs.Prelude.{if◌then◌else◌, slice_index_or}
use Rattle.std.proofs.lemmas.List.{get_or_default}
use Rattle.om_commands.specs.SimText.{name_at}
use Rattle.om_commands.proofs.TextLemmas.{text_grows}
use Rattle.om_run_commands.specs.KillsLeft.{is_left, is_left_after, left_line}
use Rattle.om_run_commands.proofs.kills_left.push_kills_left.Goals as goal

pub loop-i-preserved : goal.loop-i-preserved
loop-i-preserved c =
    let cluster = c.args.programs.now in
    let kills = c.args.kills.now in
    let failures = c.args.failures.now in
    let before = string_bytes c.loop-i.text in
    let kill = c.index-kills-i.result in
    let left = c.is_left_after-is_left.result in
    text_grows (λ k. let at = slice_index_or kills k (0, 0) in if is_left kills failures k then left_line (name_at cluster at.0) at.1 else []) c.loop-i.i
    (string_bytes c.args.text.now) before (string_bytes c.push_left.new.text) c.loop-i.invariant
    (c.in_ok-push_left.ensures
    ∙ ap (λ name. before ++ (if left then left_line name kill.1 else [])) c.name_of.ensures
    ∙ ap (λ p. before ++ (if left then left_line (name_at cluster p) kill.1 else [])) c.index.ensures.place
    ∙ ap (λ l. before ++ (if l then left_line (name_at cluster kill.0) kill.1 else [])) c.is_left_after-is_left.ensures
    ∙ ap {A = ℕ × ℕ} (λ k. before ++ (if is_left_after (take c.loop-i.i kills) k failures then left_line (name_at cluster k.0) k.1 else []))
    (c.index-kills-i.is ∙ get_or_default kills c.loop-i.i kill (0, 0) c.loop-i-test.true))
