use Rattle.std.specs.Prelude.{◌≡◌, ℕ, ◌<◌, ◌≤◌, List, length, slice_index, nat_le}
use Rattle.std.specs.FinSet as set
use Rattle.om_recover.specs.Rows.{Rows, HasRow, Has}
use Rattle.om_recover.specs.declared.row.RowKind.TheVariants.{Checkpoint}
use Rattle.om_recover.specs.declared.row.Row.{Row}

-- the checkpoint that is used for an interval of the process: the greatest at or below it
pub record IsEffective (rows : Rows) (p x checkpoint : ℕ) : Type 0 where
  pub there : Has rows Checkpoint p checkpoint
  pub below : checkpoint ≤ x
  pub greatest : (other : ℕ) → Has rows Checkpoint p other → other ≤ x → other ≤ checkpoint

-- by process, the checkpoint that is used for its place of the state
pub record AreEffective (rows : Rows) (state checkpoints : List ℕ) : Type 0 where
  pub places : length checkpoints ≡ length state
  pub each : (p : ℕ) → p < length state → IsEffective rows p (slice_index state p) (slice_index checkpoints p)

-- how many messages the process had got in an interval, by sender
pub record IsGotAt (rows : Rows) (p x : ℕ) (got : List ℕ) : Type 0 where
  pub row : Row
  pub there : HasRow rows row
  pub pid_is : row.pid ≡ p
  pub interval_is : row.interval ≡ x
  pub got_is : row.got ≡ got

-- how many messages from the sender the receiver had got in an interval
abbrev pub IsGotFrom : Rows → ℕ → ℕ → ℕ → ℕ → Type 0
IsGotFrom rows receiver x sender count = (got : List ℕ) × IsGotAt rows receiver x got × (count ≡ slice_index got sender)

-- the rows that are no later than the state
abbrev pub cut_to : Rows → List ℕ → Rows
cut_to rows state = set.retain rows (λ row. nat_le row.interval (slice_index state row.pid))

-- the rows that are no earlier than these checkpoints
abbrev pub pruned_to : Rows → List ℕ → Rows
pruned_to rows checkpoints = set.retain rows (λ row. nat_le (slice_index checkpoints row.pid) row.interval)

-- the rows after a prune to the checkpoints that are used for the state
abbrev pub IsPruned : Rows → List ℕ → Rows → Type 0
IsPruned old state new = (checkpoints : List ℕ) × AreEffective old state checkpoints × (new ≡ pruned_to old checkpoints)
