use Rattle.std.proofs.Common.{◌≡◌, ◌≤◌, ◌*◌, ◌^◌, map, sum, take}
use Rattle.om_board.specs.Waits.{put_by}
use Rattle.om_board.proofs.waiting.put_in_all.Given as goal

abbrev pub invariant-loop-one : goal.invariant-loop-one
invariant-loop-one l = (l.total ≡ sum (map put_by (take l.one-index l.waiting))) × (l.total ≤ l.one-index * 2 ^ 64)
