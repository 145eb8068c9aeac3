use Rattle.std.proofs.Common.{◌≡◌, ◌≤◌, ◌*◌, ◌^◌, map, sum, take}
use Rattle.om_board.specs.Waits.{taken_by}
use Rattle.om_board.proofs.waiting.taken_in_all.Given as goal

abbrev pub invariant-loop-one : goal.invariant-loop-one
invariant-loop-one l = (l.total ≡ sum (map taken_by (take l.one-index l.waiting))) × (l.total ≤ l.one-index * 2 ^ 64)
