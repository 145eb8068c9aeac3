use Rattle.std.proofs.Common.{[], ◌∷◌, ◌++◌}
use Rattle.om_explore_command.proofs.exploration.draw_runs.Goals as goal
use Rattle.om_explore_command.proofs.exploration.draw_runs.Goals.{in-Some+in_ok-visit, in_default}

pub loop-preserved : goal.loop-preserved
loop-preserved g c =
    let before = c.loop.invariant in
    elim c.match-branch-3.branch [
      | in-Some+in_ok-visit w ↦ rw w.gathering-is
          (before.0 ++ w.in-Some.run'.world.live ∷ [], w.in_ok-visit.ensures.seen before.0 before.1)
      | in_default w ↦ rw w.gathering-is before
    ]
