-- Checkpoints: what they are, their format, and what bytes spell one.
use Rattle.std.specs.Prelude.{◌≡◌, ℕ, ◌%◌, ◌<◌, ◌≤◌, ◌==◌, List, [], ◌∷◌, ◌++◌, length, map, sum, slice_index, Option, true, nat_lt, nat_le}
use Rattle.std.specs.List.{flat_map}
use Rattle.om_format.specs.declared.head.Head.{Head}
use Rattle.om_format.specs.declared.error.DecodeError.{DecodeError}
use Rattle.om_format.specs.declared.error.DecodeError.TheVariants.{Field}
use Rattle.om_isa.specs.Memory.{is_memory_size}
use Rattle.om_isa.specs.declared.registers.TheConstants.{WRITABLE_REGISTERS}
use Rattle.om_format.specs.declared.version.Version.{Version}
use Rattle.om_format.specs.declared.version.Version.TheVariants.{V2}
use Rattle.om_format.specs.Formats.{one, four, eight, Format, end, field, any, number, opening}
use Rattle.om_format.specs.Spelling.{Spells}
use Rattle.om_format.specs.FirstFault.{first_fault, AreRead}
use Rattle.om_format.specs.Queues.{QueueRecord, queue_end, queue, queues, queue_values, are_entries, all_entries}
use Rattle.om_format.specs.Versions.{kind_of, is_kind, version_number, is_version, version_of, is_cluster_size, memory_in, before_memory, memory_values}

-- a checkpoint without where it lies in memory: of n processes
pub record CheckpointRecord : Type 0 where
  pub n : ℕ
  pub head : Head
  pub memory : List ℕ
  pub kept : List QueueRecord
  pub outputs : QueueRecord

-- The fields of a checkpoint from the left, up to the size of its memory. What comes behind depends on the version, the
-- interval, the numbers of messages sent and of outputs made, and that size.
unfoldable pub front : (Version → ℕ → List ℕ → ℕ → ℕ → Format) → Format
front behind =
    opening is_kind is_version λ found.
    number one (is_cluster_size (version_of found)) λ n.
    number one (λ pid. nat_lt pid n) λ pid.
    number four any λ interval.
    number eight (λ count. nat_le interval count) λ count.
    number four (λ pc. pc % 4 == 0) λ _.
    field four WRITABLE_REGISTERS any Field λ _.
    field four n (λ vec. slice_index vec pid == interval) Field λ _.
    field four n (λ got. sum got == interval) Field λ _.
    field four n any Field λ sent.
    number eight (λ made. nat_le made count) λ made.
    number four is_memory_size λ size.
    behind (version_of found) interval sent made size

-- all fields of a checkpoint
unfoldable pub checkpoint_format : Format
checkpoint_format = front λ version interval sent made size.
    memory_in version size (
    queues interval sent (
    queue eight interval made end))

-- the values of these fields
abbrev pub checkpoint_values : Version → CheckpointRecord → List (List ℕ)
checkpoint_values version r =
    (kind_of r.head.ext ∷ []) ∷ (version_number version ∷ []) ∷ (r.n ∷ []) ∷ (r.head.pid ∷ []) ∷ (r.head.interval ∷ [])
    ∷ (r.head.count ∷ []) ∷ (r.head.pc ∷ []) ∷ r.head.regs ∷ r.head.vec ∷ r.head.got ∷ r.head.sent ∷ (r.head.made ∷ [])
    ∷ (length r.memory ∷ [])
    ∷ (memory_values version r.memory ++ (flat_map queue_values r.kept ++ queue_values r.outputs))

-- each queue ends at the number of messages sent, or of outputs made
pub record AreEnded (r : CheckpointRecord) : Type 0 where
  pub kept : map queue_end r.kept ≡ r.head.sent
  pub outputs : queue_end r.outputs ≡ r.head.made

-- in this version the bytes are the checkpoint's fields, one after the other, each within its bytes and allowed
pub record SpellsCheckpoint (version : Version) (r : CheckpointRecord) (bytes : List ℕ) : Type 0 where
  pub fields : Spells checkpoint_format (checkpoint_values version r) bytes
  pub ended : AreEnded r

-- the bytes spell the checkpoint in one of the versions
abbrev pub IsSpelled : CheckpointRecord → List ℕ → Type 0
IsSpelled r bytes = (version : Version) × SpellsCheckpoint version r bytes

-- the first fault of bytes that spell no checkpoint
abbrev pub checkpoint_fault : List ℕ → Option DecodeError
checkpoint_fault bytes = first_fault checkpoint_format 0 bytes

-- the fields before the bytes of the memory are whole and allowed
abbrev pub IsFrontRead : List ℕ → Type 0
IsFrontRead bytes = AreRead (front λ version interval sent made size. before_memory version size) bytes

-- what holds of every checkpoint, beside the ranges of its numbers
pub record IsCheckpoint (r : CheckpointRecord) : Type 0 where
  pub n : is_cluster_size V2 r.n ≡ true
  pub pid : r.head.pid < r.n
  pub count : r.head.interval ≤ r.head.count
  pub pc : r.head.pc % 4 ≡ 0
  pub regs : length r.head.regs ≡ WRITABLE_REGISTERS
  pub vec : length r.head.vec ≡ r.n
  pub own : slice_index r.head.vec r.head.pid ≡ r.head.interval
  pub got : length r.head.got ≡ r.n
  pub received : sum r.head.got ≡ r.head.interval
  pub sent : length r.head.sent ≡ r.n
  pub made : r.head.made ≤ r.head.count
  pub memory : is_memory_size (length r.memory) ≡ true
  pub kept : map queue_end r.kept ≡ r.head.sent
  pub outputs : queue_end r.outputs ≡ r.head.made
  pub messages : all_entries r.head.interval r.kept ≡ true
  pub out : are_entries r.head.interval 0 r.outputs.entries ≡ true
