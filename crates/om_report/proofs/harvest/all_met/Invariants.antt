use Rattle.std.proofs.Common.{◌≡◌, ◌+◌, ◌≤◌, ◌++◌, ℕ, Some}
use Rattle.std.specs.Prelude.{slice_get, vec_capacity, vec_len}
use Rattle.std.specs.Vec.Iter.{into_iter_items, into_iter_len}
use Rattle.om_report.specs.Released.{AreAllMade, AreAllReleased}
use Rattle.om_report.specs.Harvests.{HarvestState, harvested}
use Rattle.om_report.proofs.harvest.all_met.Given as goal

abbrev pub invariant-loop-harvest : goal.invariant-loop-harvest
invariant-loop-harvest g l = record {
  many : vec_len l.all + into_iter_len l.harvest-iterator ≡ vec_len l.fn.harvests;
  room : vec_len l.fn.harvests ≤ vec_capacity l.all;
  board : l.board ≡ l.fn.board;
  outputs : l.all.items ++ harvested (into_iter_items l.harvest-iterator) ≡ harvested l.fn.harvests.items;
  own : (k : ℕ) (h : HarvestState) → slice_get (into_iter_items l.harvest-iterator) k ≡ Some h → h.own ≡ vec_len l.all + k;
  released : AreAllReleased l.fn.board.manager.recovery l.all.items;
  made : g.K.Naming.OverClean → AreAllMade g.K.Naming.programs g.K.Naming.cell.n l.all.items;
}
