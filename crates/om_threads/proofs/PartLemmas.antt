-- What workers brought back, and the room for it.
use Rattle.std.proofs.Common.{ℕ, ◌≤◌, arith}
use Rattle.om_threads.specs.declared.results.Parts.{Parts}
use Rattle.om_threads.specs.steps.Ends.{HasRoom}

-- where there is room for some, there is room for fewer
pub less_room : {K S : Type 0} (k n : ℕ) (parts : Parts K S) → n ≤ k → HasRoom k parts → HasRoom n parts
less_room k n parts le room = record {
  statuses = (let had = room.statuses in omega arith);
  harvests = (let had = room.harvests in omega arith);
  stores = (let had = room.stores in omega arith);
  puts = (let had = room.puts in omega arith);
  takes = (let had = room.takes in omega arith);
  witnesses = (let had = room.witnesses in omega arith);
}
