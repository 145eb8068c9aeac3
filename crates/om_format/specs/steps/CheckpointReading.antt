-- Reading a checkpoint from left to right.
use Rattle.std.specs.Prelude.{ℕ, zero, suc, ◌+◌, ◌-◌, ◌*◌, ◌%◌, ◌==◌, ◌&&◌, List, [], ◌∷◌, ◌++◌, length, replicate, sum, slice_index, Result, Ok, nat_lt, nat_le}
use Rattle.om_format.specs.declared.error.DecodeError.{DecodeError}
use Rattle.om_format.specs.declared.error.DecodeError.TheVariants.{Field}
use Rattle.om_pages.specs.declared.pages.TheConstants.{PAGE}
use Rattle.om_format.specs.declared.offsets.TheConstants.{CLUSTER, COUNT, OWN, PC, VECTOR}
use Rattle.om_isa.specs.declared.registers.TheConstants.{WRITABLE_REGISTERS}
use Rattle.om_format.specs.declared.version.Version.{Version}
use Rattle.om_format.specs.declared.version.Version.TheVariants.{V1, V2}
use Rattle.om_format.specs.declared.checkpoint_reading.Front.{Front}
use Rattle.om_format.specs.declared.queue.QueueEntry.{QueueEntry}
use Rattle.om_format.specs.Formats.{Size, one, two, four, eight, bytes_in}
use Rattle.om_format.specs.Queues.{QueueRecord, is_between}
use Rattle.om_pages.specs.Pages.{Page, page_count, page_size, is_kept}
use Rattle.om_format.specs.Versions.{is_kind, is_version, version_of, is_cluster_size}
use Rattle.om_format.specs.steps.Kinds.{ext_of}
use Rattle.om_format.specs.Checkpoints.{CheckpointRecord}
use Rattle.om_isa.specs.Memory.{is_memory_size}
use Rattle.om_format.specs.steps.Offsets.{got_offset, made_offset, memory_offset, size_offset}
use Rattle.om_format.specs.steps.Reading.{◌>>=◌, allow, number_at, numbers_at, bytes_at, opening_at, body_at, end_at}

-- how many processes there are, which one this is, and the bytes after that
unfoldable pub place_at : Version → List ℕ → Result (ℕ × ℕ × List ℕ) DecodeError
place_at version bytes = do
  n ← number_at one bytes
  is_cluster ← allow (is_cluster_size version n.0) (Field CLUSTER)
  pid ← number_at one n.1
  is_below ← allow (nat_lt pid.0 n.0) (Field OWN)
  Ok (n.0, pid.0, pid.1)

-- the interval, how many instructions were finished, the address of the next one, and the bytes after that
unfoldable pub progress_at : List ℕ → Result (ℕ × ℕ × ℕ × List ℕ) DecodeError
progress_at bytes = do
  interval ← number_at four bytes
  count ← number_at eight interval.1
  is_counted ← allow (nat_le interval.0 count.0) (Field COUNT)
  pc ← number_at four count.1
  is_aligned ← allow (pc.0 % 4 == 0) (Field PC)
  Ok (interval.0, count.0, pc.0, pc.1)

-- the dependency vector, the numbers got and the numbers sent, and the bytes after them
unfoldable pub vectors_at : ℕ → ℕ → ℕ → List ℕ → Result (List ℕ × List ℕ × List ℕ × List ℕ) DecodeError
vectors_at n pid interval bytes = do
  vec ← numbers_at four n bytes
  is_own ← allow (slice_index vec.0 pid == interval) (Field VECTOR)
  got ← numbers_at four n vec.1
  is_sum ← allow (sum got.0 == interval) (Field (got_offset n))
  sent ← numbers_at four n got.1
  Ok (vec.0, got.0, sent.0, sent.1)

-- how many outputs were made, the size of the memory, and the bytes after them
unfoldable pub made_at : ℕ → ℕ → List ℕ → Result (ℕ × ℕ × List ℕ) DecodeError
made_at n count bytes = do
  made ← number_at eight bytes
  is_made ← allow (nat_le made.0 count) (Field (made_offset n))
  size ← number_at four made.1
  is_size ← allow (is_memory_size size.0) (Field (size_offset n))
  Ok (made.0, size.0, size.1)

-- the fields before the memory
unfoldable pub front_at : List ℕ → Result (Front × List ℕ) DecodeError
front_at bytes = do
  opened ← opening_at is_kind is_version bytes
  place ← place_at (version_of opened.1) opened.2
  progress ← progress_at place.2
  regs ← numbers_at four WRITABLE_REGISTERS progress.3
  vectors ← vectors_at place.0 place.1 progress.0 regs.1
  made ← made_at place.0 progress.1 vectors.3
  Ok (
    record {
      version = version_of opened.1;
      n = place.0;
      head = record {
        ext = ext_of opened.0;
        pid = place.1;
        interval = progress.0;
        count = progress.1;
        pc = progress.2;
        regs = regs.0;
        vec = vectors.0;
        got = vectors.1;
        sent = vectors.2;
        made = made.0;
      };
      size = made.1;
    },
    made.2,
  )

-- a page of a memory of this size, and the bytes after it
unfoldable pub next_page_at : ℕ → ℕ → ℕ → List ℕ → Result (Page × List ℕ) DecodeError
next_page_at size low offset bytes = do
  index ← number_at two bytes
  fine ← allow (nat_le low index.0 && nat_lt index.0 (page_count size)) (Field offset)
  page ← bytes_at (page_size size index.0) index.1
  kept ← allow (is_kept page.0) (Field (offset + 2))
  Ok (record { index = index.0; bytes = page.0 }, page.1)

-- the memory from a page on, of which so many pages are kept, the offset after them, and the bytes after them
unfoldable pub pages_at : ℕ → ℕ → ℕ → ℕ → List ℕ → Result (List ℕ × ℕ × List ℕ) DecodeError
pages_at size low zero offset bytes = Ok (replicate (size - low * PAGE) 0, offset, bytes)
pages_at size low (suc count) offset bytes = do
  page ← next_page_at size low offset bytes
  more ← pages_at size (page.0.index + 1) count (offset + (2 + length page.0.bytes)) page.1
  Ok (replicate ((page.0.index - low) * PAGE) 0 ++ (page.0.bytes ++ more.0), more.1, more.2)

-- a memory of this size, likewise
unfoldable pub memory_at : Version → ℕ → ℕ → List ℕ → Result (List ℕ × ℕ × List ℕ) DecodeError
memory_at V1 size offset bytes = do
  all ← bytes_at size bytes
  Ok (all.0, offset + length all.0, all.1)
memory_at V2 size offset bytes = do
  count ← number_at two bytes
  fine ← allow (nat_le count.0 (page_count size)) (Field offset)
  pages_at size 0 count.0 (offset + 2) count.1

-- what stands before the bytes of the memory, and the bytes after that
unfoldable pub before_memory_at : Version → ℕ → ℕ → List ℕ → Result (ℕ × List ℕ) DecodeError
before_memory_at V1 size offset bytes = Ok (0, bytes)
before_memory_at V2 size offset bytes = do
  count ← number_at two bytes
  fine ← allow (nat_le count.0 (page_count size)) (Field offset)
  Ok count

-- an entry, the offset after it, and the bytes after it
unfoldable pub entry_at : ℕ → ℕ → ℕ → List ℕ → Result (QueueEntry × ℕ × List ℕ) DecodeError
entry_at newest low offset bytes = do
  interval ← number_at four bytes
  fine ← allow (is_between low newest interval.0) (Field offset)
  content ← body_at (offset + 4) interval.1
  Ok (record { interval = interval.0; body = content.0 }, offset + 4 + 2 + length content.0, content.1)

-- so many entries
unfoldable pub entries_at : ℕ → ℕ → ℕ → ℕ → List ℕ → Result (List QueueEntry × ℕ × List ℕ) DecodeError
entries_at newest low zero offset bytes = Ok ([], offset, bytes)
entries_at newest low (suc count) offset bytes = do
  e ← entry_at newest low offset bytes
  more ← entries_at newest e.0.interval count e.1 e.2
  Ok (e.0 ∷ more.0, more.1, more.2)

-- a queue that ends at this number
unfoldable pub queue_at : Size → ℕ → ℕ → ℕ → List ℕ → Result (QueueRecord × ℕ × List ℕ) DecodeError
queue_at size newest stop offset bytes = do
  first ← number_at size bytes
  fine ← allow (nat_le first.0 stop) (Field offset)
  kept ← entries_at newest 0 (stop - first.0) (offset + bytes_in size) first.1
  Ok (record { first = first.0; entries = kept.0 }, kept.1, kept.2)

-- a queue for each of these ends
unfoldable pub queues_at : ℕ → List ℕ → ℕ → List ℕ → Result (List QueueRecord × ℕ × List ℕ) DecodeError
queues_at newest [] offset bytes = Ok ([], offset, bytes)
queues_at newest (stop ∷ stops) offset bytes = do
  q ← queue_at four newest stop offset bytes
  more ← queues_at newest stops q.1 q.2
  Ok (q.0 ∷ more.0, more.1, more.2)

-- the memory and the queues behind these fields
unfoldable pub rest_at : Front → List ℕ → Result (List ℕ × List QueueRecord × QueueRecord) DecodeError
rest_at f bytes = do
  memory ← memory_at f.version f.size (memory_offset f.n) bytes
  kept ← queues_at f.head.interval f.head.sent memory.1 memory.2
  outputs ← queue_at eight f.head.interval f.head.made kept.1 kept.2
  ended ← end_at outputs.2
  Ok (memory.0, kept.0, outputs.0)

-- the checkpoint of these fields
abbrev pub checkpoint_of : Front → List ℕ → List QueueRecord → QueueRecord → CheckpointRecord
checkpoint_of f memory kept outputs = record { n = f.n; head = f.head; memory = memory; kept = kept; outputs = outputs }

-- a whole checkpoint, and its version
unfoldable pub checkpoint_at : List ℕ → Result (Version × CheckpointRecord) DecodeError
checkpoint_at bytes = do
  f ← front_at bytes
  r ← rest_at f.0 f.1
  Ok (f.0.version, checkpoint_of f.0 r.0 r.1 r.2)
