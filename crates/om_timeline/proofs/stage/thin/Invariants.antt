use Rattle.std.proofs.Common.{◌≡◌, vec_len}
use Rattle.std.specs.Prelude.{All, Contains}
use Rattle.om_timeline.proofs.stage.thin.Given as goal

abbrev pub invariant-thinned : goal.invariant-thinned
invariant-thinned l = record {
  some : All (Contains l.fn.stages.items) l.stages.items;
  many : vec_len l.stages ≡ vec_len l.fn.stages;
}
