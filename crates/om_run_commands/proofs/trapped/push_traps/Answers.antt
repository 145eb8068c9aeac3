use Rattle.std.proofs.Common.{◌++◌, ◌∙◌, ap, string_bytes}
use Rattle.std.specs.Prelude.{slice_index_or}
use Rattle.std.proofs.lemmas.List.{get_or_default}
use Rattle.om_observers.specs.declared.sight.Sight.{Sight}
use Rattle.om_commands.specs.SimText.{name_at}
use Rattle.om_commands.proofs.TextLemmas.{text_grows}
use Rattle.om_run_commands.specs.Trapped.{trap_line, unseen}
use Rattle.om_run_commands.proofs.trapped.push_traps.Goals as goal

pub loop-p-preserved : goal.loop-p-preserved
loop-p-preserved c =
    let cluster = c.args.programs.now in
    let sights = c.args.sights.now in
    let p = c.loop-p.p in
    let before = string_bytes c.loop-p.text in
    let name = c.name_of.result.now in
    let for_doing = c.index-sights-p.result in
    let for_pc = c.index-sights-p-in-loop-p.result in
    let seen = slice_index_or sights p unseen in
    text_grows (λ k. let at = slice_index_or sights k unseen in trap_line (name_at cluster k) at.doing at.pc) p
    (string_bytes c.args.text.now) before (string_bytes c.push_trap.new.text) c.loop-p.invariant
    (c.in_ok-push_trap.ensures
    ∙ ap {A = Sight} (λ s. before ++ trap_line name s.doing (slice_index_or sights p for_pc).pc) (get_or_default sights p for_doing unseen c.loop-p-test.true)
    ∙ ap {A = Sight} (λ s. before ++ trap_line name seen.doing s.pc) (get_or_default sights p for_pc unseen c.loop-p-test.true)
    ∙ ap (λ n. before ++ trap_line n seen.doing seen.pc) c.name_of.ensures)
