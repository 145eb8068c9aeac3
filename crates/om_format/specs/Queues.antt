-- Queues: the kept ends of numbered lists, and their format.
use Rattle.std.specs.Prelude.{ℕ, zero, suc, ◌+◌, ◌-◌, ◌&&◌, List, [], ◌∷◌, length, Bool, true, nat_le}
use Rattle.std.specs.List.{flat_map}
use Rattle.om_format.specs.declared.queue.QueueEntry.{QueueEntry}
use Rattle.om_format.specs.declared.queue.Queue.{Queue}
use Rattle.om_format.specs.Formats.{Size, four, Format, number, body, is_body_size}

-- a queue without where it lies in memory
pub record QueueRecord : Type 0 where
  pub first : ℕ
  pub entries : List QueueEntry

-- what is seen of a queue
abbrev pub queue_record : Queue → QueueRecord
queue_record q = record { first = q.first; entries = q.entries.items }

-- the number of the entry that comes next
abbrev pub queue_end : QueueRecord → ℕ
queue_end q = q.first + length q.entries

-- an interval from the one before in the queue to the checkpoint's
abbrev pub is_between : ℕ → ℕ → ℕ → Bool
is_between low newest interval = nat_le low interval && nat_le interval newest

-- so many entries, of which none is older than the one before or newer than the checkpoint's interval
unfoldable pub entries : ℕ → ℕ → ℕ → Format → Format
entries newest low zero behind = behind
entries newest low (suc count) behind =
    number four (is_between low newest) λ interval.
    body (entries newest interval count behind)

-- a queue that ends at this number: the number of its first entry, and the entries
unfoldable pub queue : Size → ℕ → ℕ → Format → Format
queue size newest stop behind =
    number size (λ first. nat_le first stop) λ first.
    entries newest 0 (stop - first) behind

-- a queue for each of the numbers at which they end
unfoldable pub queues : ℕ → List ℕ → Format → Format
queues newest [] behind = behind
queues newest (stop ∷ stops) behind = queue four newest stop (queues newest stops behind)

-- the values of an entry's fields
abbrev pub entry_values : QueueEntry → List (List ℕ)
entry_values e = (e.interval ∷ []) ∷ (length e.body ∷ []) ∷ e.body ∷ []

-- the values of a queue's fields
abbrev pub queue_values : QueueRecord → List (List ℕ)
queue_values q = (q.first ∷ []) ∷ flat_map entry_values q.entries

-- the intervals of the entries do not fall from this one on, and pass none that is newer
abbrev pub are_entries : ℕ → ℕ → List QueueEntry → Bool
are_entries newest low [] = true
are_entries newest low (e ∷ more) = is_between low newest e.interval && is_body_size (length e.body) && are_entries newest e.interval more

-- of each queue: the intervals of its entries do not fall, and pass none that is newer
abbrev pub all_entries : ℕ → List QueueRecord → Bool
all_entries newest [] = true
all_entries newest (q ∷ more) = are_entries newest 0 q.entries && all_entries newest more
