-- The bytes of a checkpoint, part by part, as they are written.
use Rattle.std.specs.Prelude.{ℕ, ◌<◌, ◌^◌, List, [], ◌∷◌, ◌++◌, length, slice_index}
use Rattle.std.specs.List.{flat_map}
use Rattle.std.specs.Int.{w16, w32, w64, to_le_bytes}
use Rattle.om_format.specs.declared.version.Version.TheVariants.{V2}
use Rattle.om_format.specs.declared.head.Head.{Head}
use Rattle.om_format.specs.declared.queue.QueueEntry.{QueueEntry}
use Rattle.om_format.specs.Formats.{four}
use Rattle.om_format.specs.Spelling.{numbers}
use Rattle.om_format.specs.Queues.{QueueRecord}
use Rattle.om_pages.specs.Pages.{Page, kept_pages}
use Rattle.om_format.specs.Versions.{kind_of, version_number}
use Rattle.om_format.specs.Checkpoints.{CheckpointRecord}

-- the fields before the registers, of n processes
abbrev pub head_bytes : ℕ → Head → List ℕ
head_bytes n h =
    (kind_of h.ext ∷ version_number V2 ∷ n ∷ h.pid ∷ []) ++ to_le_bytes w32 h.interval
    ++ to_le_bytes w64 h.count ++ to_le_bytes w32 h.pc

-- the registers and the vectors
abbrev pub vector_bytes : Head → List ℕ
vector_bytes h = numbers four h.regs ++ numbers four h.vec ++ numbers four h.got ++ numbers four h.sent

-- a page that is kept
abbrev pub page_bytes : Page → List ℕ
page_bytes page = to_le_bytes w16 page.index ++ page.bytes

-- the outputs made, and the memory
abbrev pub memory_bytes : ℕ → List ℕ → List ℕ
memory_bytes made memory =
    to_le_bytes w64 made ++ to_le_bytes w32 (length memory) ++ to_le_bytes w16 (length (kept_pages memory))
    ++ flat_map page_bytes (kept_pages memory)

-- an entry
abbrev pub entry_bytes : QueueEntry → List ℕ
entry_bytes e = to_le_bytes w32 e.interval ++ to_le_bytes w16 (length e.body) ++ e.body

-- a queue of messages
abbrev pub message_bytes : QueueRecord → List ℕ
message_bytes q = to_le_bytes w32 q.first ++ flat_map entry_bytes q.entries

-- the queue of outputs
abbrev pub output_bytes : QueueRecord → List ℕ
output_bytes q = to_le_bytes w64 q.first ++ flat_map entry_bytes q.entries

-- numbers of 32 bits
abbrev pub AreWords : List ℕ → Type 0
AreWords numbers = (i : ℕ) → slice_index numbers i < 2 ^ 32

-- all of them
abbrev pub checkpoint_bytes : CheckpointRecord → List ℕ
checkpoint_bytes r =
    head_bytes r.n r.head ++ vector_bytes r.head ++ memory_bytes r.head.made r.memory ++ flat_map message_bytes r.kept
    ++ output_bytes r.outputs

-- the numbers of a checkpoint are within their types
pub record AreWithin (h : Head) : Type 0 where
  pub interval : h.interval < 2 ^ 32
  pub count : h.count < 2 ^ 64
  pub pc : h.pc < 2 ^ 32
  pub regs : AreWords h.regs
  pub vec : AreWords h.vec
  pub got : AreWords h.got
  pub sent : AreWords h.sent
  pub made : h.made < 2 ^ 64
