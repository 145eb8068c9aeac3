use Rattle.std.proofs.Common.{◌≡◌, ◌∙◌, ℕ, List, ap, length, string_bytes, take}
use Rattle.om_manager.specs.State.{ManagerState, process_count}
use Rattle.om_picture.specs.Drawing.{sketch_of}
use Rattle.om_draw_command.proofs.DrawLemmas.{is_played_picture}
use Rattle.om_draw_command.proofs.draw.played_picture.Goals as goal

pub returns : goal.returns
returns c =
    let size : length c.recovery-recovery.result ≡ process_count c.args.world.now.manager =
    ap (λ (places : List ℕ). length places)
    (c.recovery-recovery.ensures.recovery ∙ ap (λ (m : ManagerState). m.recovery) c.manager.ensures) in
    is_played_picture string_bytes c.args.script.now c.programs-programs.result.now c.first_of-events.result.now c.args.lines.now
    c.args.from
    c.args.count (length c.recovery-recovery.result) c.args.world.now c.play.new.world (sketch_of c.play.new.picture) c.in_ok-drawn.drawn
    c.picture_text.result c.programs-programs.ensures c.requires.few (c.first_of-events.ensures ∙ ap (take c.args.count) c.events.ensures) size
    (c.in_ok-play.ensures.drawn _ _ c.in_ok-picture.ensures) c.play.ensures.known c.in_ok-drawn.ensures c.picture_text.ensures
