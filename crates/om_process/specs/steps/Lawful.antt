-- What holds of every core.
use Rattle.std.specs.Prelude.{◌≡◌, ℕ, ◌<◌, ◌≤◌, List, length, map, sum, slice_index, true}
use Rattle.om_format.specs.Versions.{is_cluster_size}
use Rattle.om_format.specs.declared.version.Version.TheVariants.{V2}
use Rattle.om_format.specs.Queues.{QueueRecord, queue_end, are_entries, all_entries}
use Rattle.om_process.specs.Core.{LoggedRecord, AreLast}

-- the parts of a core
pub record CoreParts : Type 0 where
  pub own : ℕ
  pub count : ℕ
  pub interval : ℕ
  pub vec : List ℕ
  pub got : List ℕ
  pub sent : List ℕ
  pub made : ℕ
  pub outbox : List QueueRecord
  pub outputs : QueueRecord
  pub log : List LoggedRecord
  pub starts : List (List ℕ)

-- what holds of every core: its parts fit each other, as a checkpoint asks for
pub record IsCore (c : CoreParts) : Type 0 where
  pub cluster : is_cluster_size V2 (length c.vec) ≡ true
  pub own : c.own < length c.vec
  pub counted : c.interval ≤ c.count
  pub own_place : slice_index c.vec c.own ≡ c.interval
  pub got : length c.got ≡ length c.vec
  pub received : sum c.got ≡ c.interval
  pub sent : length c.sent ≡ length c.vec
  pub ends : map queue_end c.outbox ≡ c.sent
  pub outputs_end : queue_end c.outputs ≡ c.made
  pub made : c.made ≤ c.count
  pub messages : all_entries c.interval c.outbox ≡ true
  pub outputs : are_entries c.interval 0 c.outputs.entries ≡ true
  pub logged : AreLast c.interval c.log
  pub starts : length c.starts ≡ length c.vec
