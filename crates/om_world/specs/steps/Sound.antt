-- What is kept of a world by each call that it makes.
use Rattle.std.specs.Prelude.{◌≡◌, ◌≢◌, ◌⊎◌, ℕ, ◌<◌, ◌≤◌, List, [], ◌∷◌, ◌++◌, length, take, slice_get, slice_index, Bool, true, false, Some, None, if◌then◌else◌}
use Rattle.std.specs.FinMap.{get}
use Rattle.std.specs.List.{AllByRecursion}
use Rattle.om_interval.specs.declared.pid.TheConstants.{MAX_PROCESSES}
use Rattle.om_interval.specs.Starts.{IsOrphan, is_named, newest_of}
use Rattle.om_format.specs.declared.message.Message.{Message}
use Rattle.om_format.specs.Queues.{QueueRecord}
use Rattle.om_format.specs.Receipts.{ReceiptRecord, SpellsReceipt}
use Rattle.om_format.specs.Checkpoints.{CheckpointRecord, IsSpelled}
use Rattle.om_stable.specs.Content.{Content}
use Rattle.om_process.specs.declared.row.PendingRow.{PendingRow}
use Rattle.om_process.specs.Process.{Program, Process, Received}
use Rattle.om_process.specs.Core.{CoreState, LoggedRecord, cluster_size}
use Rattle.om_process.specs.Turns.{Reaches}
use Rattle.om_process.specs.Replays.{FitsReceipt, received_of, process_of_checkpoint}
use Rattle.om_process.specs.Dependencies.{count_from}
use Rattle.om_process.specs.Claims.{AtInterval, Makes, RowOf, CheckpointOf, RecordOf}
use Rattle.om_process.specs.Stores.{first_logged}
use Rattle.om_recover.specs.Rows.{HasRow, Has}
use Rattle.om_recover.specs.declared.row.Row.{Row}
use Rattle.om_recover.specs.declared.row.RowKind.{RowKind}
use Rattle.om_recover.specs.declared.row.RowKind.TheVariants.{Checkpoint, Log}
use Rattle.om_manager.specs.Gatherings.{presence_of, presences_of}
use Rattle.om_manager.specs.Outputs.{HeldOutput}
use Rattle.om_manager.specs.Sound.{IsManager}
use Rattle.om_manager.specs.State.{ManagerState, held_by, process_count, released_by}
use Rattle.om_manager.specs.declared.presence.Presence.TheVariants.{Away, Failed, Joined}
use Rattle.om_world.specs.declared.process_state.ProcessState.{ProcessState}
use Rattle.om_world.specs.declared.entry.Entry.{Entry}
use Rattle.om_world.specs.Live.{program_at, received, Legal}
use Rattle.om_world.specs.World.{WorldState, recovered, output_entry, IsKnown}
use Rattle.om_world.specs.steps.Past.{Past, past_of, history}
use Rattle.om_world.specs.Failures.{HasNews}

-- something stands in the store at the interval of a row
abbrev pub HasBytes : Content → RowKind → ℕ → Type 0
HasBytes held Checkpoint x = (bytes : List ℕ) × (get held.checkpoints x ≡ Some bytes)
HasBytes held Log x = (bytes : List ℕ) × (get held.receipts x ≡ Some bytes)

-- the sender made the message in that interval, along what it had then received
abbrev pub Said : Past → Message → Type 0
Said w m = AtInterval (history w m.from) m.tag.interval
    (Makes (program_at w.programs m.from) m.from (length w.programs) m.to m.ssn (record { interval = m.tag.interval; body = m.body }))

-- the manager knows a frame's incarnation, and by its starts the frame is an orphan, or it was said
pub record IsFrame (w : Past) (m : Message) : Type 0 where
  pub from : m.from < length w.programs
  pub known : m.tag.inc ≤ newest_of w.manager.starts m.from
  pub said : IsOrphan w.manager.starts m.from m.tag.inc m.tag.interval ⊎ Said w m

-- nothing is dropped of these queues of p that a process may want again: what it had not received within the recovery state
abbrev pub KeptWithin : Past → ℕ → List QueueRecord → Type 0
KeptWithin w p qs = (q : ℕ) (queue : QueueRecord) → slice_get qs q ≡ Some queue
    → (q < length w.programs → queue.first ≤ count_from p (take (recovered w.manager q) (history w q)))
    × (q ≡ length w.programs → queue.first ≤ length (released_by w.manager p))

-- what a store has up to the process's interval is true
pub record IsStored (w : Past) (p : ℕ) (held : Content) : Type 0 where
  pub checkpoints : (x : ℕ) (bytes : List ℕ) → x ≤ length (history w p) → get held.checkpoints x ≡ Some bytes
      → (c : CheckpointRecord) × IsSpelled c bytes × (c.head.pid ≡ p) × (c.n ≡ length w.programs)
      × AtInterval (history w p) x (CheckpointOf (program_at w.programs p) p (length w.programs) (process_of_checkpoint c))
      × KeptWithin w p (process_of_checkpoint c).queues
  pub receipts : (x : ℕ) (bytes : List ℕ) → 1 ≤ x → x ≤ length (history w p) → get held.receipts x ≡ Some bytes
      → (r : ReceiptRecord) × SpellsReceipt r bytes
      × AtInterval (history w p) x (RecordOf (program_at w.programs p) p (length w.programs) r)

-- a store has no receipt of the core's log or of a later interval, and no checkpoint of a later interval
pub record NothingAbove (held : Content) (c : CoreState) (interval : ℕ) : Type 0 where
  pub receipts : (y : ℕ) → first_logged c ≤ y → get held.receipts y ≡ None
  pub checkpoints : (y : ℕ) → interval < y → get held.checkpoints y ≡ None

-- a store has no record of a later interval
pub record EndsAt (held : Content) (interval : ℕ) : Type 0 where
  pub receipts : (y : ℕ) → interval < y → get held.receipts y ≡ None
  pub checkpoints : (y : ℕ) → interval < y → get held.checkpoints y ≡ None

-- a row that no replay wants any longer: a noted checkpoint within the recovery state stands after it
abbrev pub IsBefore : RowKind → ℕ → ℕ → Type 0
IsBefore Checkpoint x c = x < c
IsBefore Log x c = x ≤ c

pub record IsOld (m : ManagerState) (p : ℕ) (kind : RowKind) (x : ℕ) : Type 0 where
  pub checkpoint : ℕ
  pub there : Has m.rows Checkpoint p checkpoint
  pub within : checkpoint ≤ recovered m p
  pub before : IsBefore kind x checkpoint

-- logged receipts that come after these, with their rows
abbrev pub LogAlong : Program → ℕ → ℕ → List Received → List LoggedRecord → Type 0
LogAlong program own n h [] = Unit {0}
LogAlong program own n h (l ∷ ls) =
    ((w : Process) × Reaches program own n h w × FitsReceipt own n w l.receipt)
    × RowOf own n l.vec l.got (h ++ received_of l.receipt ∷ [])
    × LogAlong program own n (h ++ received_of l.receipt ∷ []) ls

abbrev pub receipts_in : List LoggedRecord → List Received
receipts_in [] = []
receipts_in (l ∷ ls) = received_of l.receipt ∷ receipts_in ls

-- the log is that of the last receipts
abbrev pub LogOf : Program → ℕ → ℕ → List LoggedRecord → List Received → Type 0
LogOf program own n log h = (front : List Received) × (h ≡ front ++ receipts_in log) × LogAlong program own n front log

-- a pending row as the manager is told it
abbrev pub kind_of : PendingRow → RowKind
kind_of row = if row.ckpt then Checkpoint else Log

-- a pending row is true, and its record stands in the store or is not wanted
pub record IsPending (w : Past) (p : ℕ) (held : Content) (row : PendingRow) : Type 0 where
  pub row_of : AtInterval (history w p) row.x (RowOf p (length w.programs) row.vec row.got)
  pub begun : row.ckpt ≡ false → 0 < row.x
  pub backed : HasBytes held (kind_of row) row.x ⊎ IsOld w.manager p (kind_of row) row.x

-- a core is one of this cluster's
pub record IsCoreOf (n p : ℕ) (c : CoreState) : Type 0 where
  pub own : c.own ≡ p
  pub size : cluster_size c.now ≡ n

-- a process that runs
pub record IsRunning (w : Past) (p : ℕ) (held : Content) (c : CoreState) : Type 0 where
  pub state : CheckpointOf (program_at w.programs p) p (length w.programs) c.now (history w p)
  pub kept : KeptWithin w p c.now.queues
  pub log : LogOf (program_at w.programs p) p (length w.programs) c.log (history w p)
  pub pending : (i : ℕ) (row : PendingRow) → slice_get c.pending i ≡ Some row → IsPending w p held row
  pub above : NothingAbove held c (length (history w p))

-- a process that is up knows what the manager knows, and is in no gathering
pub record IsUpIn (m : ManagerState) (p : ℕ) (c : CoreState) : Type 0 where
  pub round : c.round ≡ m.round
  pub starts : c.starts ≡ m.starts
  pub inc : c.inc ≡ newest_of m.starts p
  pub away : presence_of (presences_of m.gathering) p ≡ Away

-- the process runs: it is up, or it is in and is not to be rolled back
abbrev pub Runs : WorldState → ℕ → Type 0
Runs w p = (slice_get w.places p ≡ Some ProcessState.Up)
    ⊎ ((slice_get w.places p ≡ Some ProcessState.In) × (HasNews w p → is_named w.manager.backs p ≡ false))

-- what holds whether or not the stores are clean
pub record HasShape (w : WorldState) : Type 0 where
  pub few : length w.programs ≤ MAX_PROCESSES
  pub stores : length w.contents ≡ length w.programs
  pub cores : length w.cores ≡ length w.programs
  pub places : length w.places ≡ length w.programs
  pub own : (p : ℕ) (c : CoreState) → slice_get w.cores p ≡ Some (Some c) → IsCoreOf (length w.programs) p c
  pub rounds : length w.rounds ≡ length w.programs
  pub there : (p : ℕ) → slice_get w.places p ≡ Some ProcessState.Up → (c : CoreState) × (slice_get w.cores p ≡ Some (Some c))
  pub inside : (p : ℕ) → slice_get w.places p ≡ Some ProcessState.In → (c : CoreState) × (slice_get w.cores p ≡ Some (Some c))
  pub manager : IsManager w.manager
  pub size : process_count w.manager ≡ length w.programs

-- what holds where they are, and held nothing before the start
pub record Sound (w : WorldState) : Type 0 where
  pub legal : Legal w.programs w.live
  pub frames : (i : ℕ) (m : Message) → slice_get w.frames i ≡ Some m → IsFrame (past_of w) m
  pub outputs : (p i : ℕ) (o : HeldOutput) → slice_get (held_by w.manager p) i ≡ Some o
      → AtInterval (history (past_of w) p) o.interval
      (Makes (program_at w.programs p) p (length w.programs) (length w.programs) i (output_entry o))
  pub rows : (row : Row) → HasRow w.manager.rows row
      → AtInterval (history (past_of w) row.pid) row.interval (RowOf row.pid (length w.programs) row.vec row.got)
  pub stored : (p : ℕ) (held : Content) → slice_get w.contents p ≡ Some held → IsStored (past_of w) p held
  pub backed : (row : Row) (held : Content) → HasRow w.manager.rows row → slice_get w.contents row.pid ≡ Some held
      → HasBytes held row.kind row.interval ⊎ IsOld w.manager row.pid row.kind row.interval
  pub running : (p : ℕ) (c : CoreState) (held : Content) → slice_get w.cores p ≡ Some (Some c)
      → slice_get w.contents p ≡ Some held → Runs w p → IsRunning (past_of w) p held c
  pub up : (p : ℕ) (c : CoreState) → slice_get w.cores p ≡ Some (Some c) → slice_get w.places p ≡ Some ProcessState.Up
      → IsUpIn w.manager p c
  pub joined : (p x : ℕ) → presence_of (presences_of w.manager.gathering) p ≡ Joined x → x ≡ length (history (past_of w) p)
  -- who failed is down; and who is in the gathering knows the last round, as does who is up, and nobody a later one
  pub failed : (p : ℕ) → presence_of (presences_of w.manager.gathering) p ≡ Failed → slice_get w.places p ≡ Some (ProcessState.Down true)
  pub gathered : (p : ℕ) → presence_of (presences_of w.manager.gathering) p ≢ Away → slice_index w.rounds p ≡ w.manager.round
  pub current : (p : ℕ) → slice_get w.places p ≡ Some ProcessState.Up → slice_index w.rounds p ≡ w.manager.round
  pub known : (p : ℕ) → slice_index w.rounds p ≤ w.manager.round
  -- a process that is down and knows the last round has no record of an interval that it had not reached
  pub ends : (p : ℕ) (declared : Bool) (held : Content) → slice_get w.places p ≡ Some (ProcessState.Down declared) → (HasNews w p → ⊥)
      → slice_get w.contents p ≡ Some held → EndsAt held (length (history (past_of w) p))
  -- whom the last round found: each stands where it was cut to, until it is up again; who is in and runs has the newest
  -- incarnation, and who is in and is to be rolled back was beyond
  pub behind : (p : ℕ) → p < length w.programs → HasNews w p → length (history (past_of w) p) ≡ slice_index w.manager.last p
  pub inside : (p : ℕ) (c : CoreState) → slice_get w.cores p ≡ Some (Some c) → slice_get w.places p ≡ Some ProcessState.In → Runs w p
      → c.inc ≡ newest_of w.manager.starts p
  pub beyond : (p : ℕ) (c : CoreState) → slice_get w.cores p ≡ Some (Some c) → slice_get w.places p ≡ Some ProcessState.In → HasNews w p
      → is_named w.manager.backs p ≡ true → slice_index w.manager.last p < c.now.interval

-- the world before its last finished round cut what was received
abbrev pub before_of : WorldState → Past
before_of w = record { programs = w.programs; live = w.since.before; manager = w.manager }

-- what had been received is a run without failures, of which the recovery state still leaves the same as of what is received now; and what
-- stands in the stores is true of it
pub record IsBetween (v : Past) (live : List Entry) (contents : List Content) : Type 0 where
  pub legal : Legal v.programs v.live
  pub same : (p : ℕ) → take (recovered v.manager p) (history v p) ≡ take (recovered v.manager p) (received p live)
  pub stored : (p : ℕ) (held : Content) → slice_get contents p ≡ Some held → IsStored v p held
  pub ends : (p : ℕ) (held : Content) → slice_get contents p ≡ Some held → EndsAt held (length (history v p))

-- what a world keeps, over its stores; the last while none has stored since the last finished round
pub record IsWorld {S : Type 0} (IsSound : S → Type 0) (stores : List S) (w : WorldState) : Type 0 where
  pub shape : HasShape w
  pub clean : IsKnown w → AllByRecursion IsSound stores × Sound w
  pub between : IsKnown w → w.since.stored ≡ false → IsBetween (before_of w) w.live w.contents
