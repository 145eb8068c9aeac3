use Rattle.std.proofs.Common.{◌≤◌, arith, string_bytes, ◌∙◌}
use Rattle.om_commands.proofs.PartLemmas.{more_played}
use Rattle.om_commands.proofs.sim.play.Goals as goal

pub loop-done-preserved : goal.loop-done-preserved
loop-done-preserved c =
    let more = c.part_end-next.ensures.more in
    let up : c.loop-done.done ≤ c.part_end-next.result = omega (arith, more) in
    record {
      within = c.part_end-next.ensures.within;
      told = more_played c.args.world.now c.loop-done.world c.play_part.new.world c.args.events.now c.loop-done.done c.part_end-next.result
          (string_bytes c.args.text.now) (string_bytes c.loop-done.text) (string_bytes c.play_part.new.text) up c.loop-done.invariant.told c.in_ok-play_part.ensures.told;
      known = c.play_part.ensures.known;
      size = c.play_part.ensures.size ∙ c.loop-done.invariant.size;
    }
