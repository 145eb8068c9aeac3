use Rattle.std.proofs.Common.{◌++◌, ◌∙◌, ap, string_bytes}
use Rattle.std.specs.Prelude.{slice_index_or}
use Rattle.std.proofs.lemmas.List.{get_or_default}
use Rattle.om_observers.specs.declared.sight.Sight.{Sight}
use Rattle.om_commands.specs.SimText.{name_at}
use Rattle.om_commands.proofs.TextLemmas.{text_grows}
use Rattle.om_run_commands.specs.RefusedSends.{refused_line}
use Rattle.om_run_commands.specs.Trapped.{unseen}
use Rattle.om_run_commands.proofs.refused_sends.push_refused_sends.Goals as goal

pub loop-p-preserved : goal.loop-p-preserved
loop-p-preserved c =
    let cluster = c.args.programs.now in
    let sights = c.args.sights.now in
    let p = c.loop-p.p in
    let before = string_bytes c.loop-p.text in
    let name = c.name_of.result.now in
    let seen = slice_index_or sights p unseen in
    text_grows (λ k. refused_line (name_at cluster k) (slice_index_or sights k unseen).refused) p
    (string_bytes c.args.text.now) before (string_bytes c.push_refused.new.text) c.loop-p.invariant
    (c.in_ok-push_refused.ensures
    ∙ ap {A = Sight} (λ s. before ++ refused_line name s.refused) (get_or_default sights p c.index-sights-p.result unseen c.loop-p-test.true)
    ∙ ap (λ n. before ++ refused_line n seen.refused) c.name_of.ensures)
