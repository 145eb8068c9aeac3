use Rattle.om_timeline.proofs.Parting.{whole_played}
use Rattle.om_timeline.proofs.player.Player.whole.Goals as goal

pub returns : goal.returns
returns c = record {
  whole = whole_played c.self.inside.part c.self.inside.world c.play_one.new.world c.args.self.now c.args.event c.in_ok-answer.answer
      c.self.view_is c.requires c.in_ok-answer.ensures.played c.play_one.ensures.known;
}
