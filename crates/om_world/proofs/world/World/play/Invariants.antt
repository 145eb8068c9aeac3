use Rattle.std.proofs.Common.{◌≡◌, ◌≤◌, All, length}
use Rattle.std.specs.Vec.{vec_capacity}
use Rattle.om_world.proofs.Playing.{IsPlayed}
use Rattle.om_world.specs.Played.{IsCounted, IsFaultless}
use Rattle.om_world.specs.World.{IsKnown}
use Rattle.om_world.proofs.world.World.play.Given as goal

abbrev pub invariant-loop-k : goal.invariant-loop-k
invariant-loop-k g l = record {
  room : length l.events ≤ vec_capacity l.answers;
  counted : All (IsCounted l.fn.self l.self) l.answers.items;
  played : IsPlayed l.fn.self l.events l.k l.answers.items l.self;
  faultless : ((store : _) → g.S.Stable.failed store ≡ 0) → IsKnown l.self → All IsFaultless l.answers.items;
}
