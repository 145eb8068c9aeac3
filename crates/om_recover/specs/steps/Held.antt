-- What the trees of an index hold, and what they say of its rows.
use Rattle.std.specs.Prelude.{◌≡◌, ℕ, ◌<◌, ◌≤◌, ◌+◌, ◌^◌, Some, map}
use Rattle.std.specs.FinSet as set
use Rattle.om_recover.specs.Rows.{Rows, HasRow, Has, HaveSameVectors, IsLawful}
use Rattle.om_recover.specs.Recoverable.{IsStable}
use Rattle.om_recover.specs.steps.Nearest.{at}
use Rattle.om_recover.specs.steps.Bases.{AreBases, base_entries}
use Rattle.om_recover.specs.steps.Logs.{AreLogs, log_entries}
use Rattle.om_recover.specs.declared.rows.trees.Vectors.{Vectors}
use Rattle.om_recover.specs.declared.rows.trees.Base.{Base}
use Rattle.om_recover.specs.declared.rows.trees.Trees.{Trees}
use Rattle.om_recover.specs.declared.row.RowKind.{RowKind}
use Rattle.om_recover.specs.declared.row.RowKind.TheVariants.{Checkpoint, Log}
use Rattle.om_recover.specs.declared.row.Row.{Row}

-- the record of an interval
abbrev pub row_of : RowKind → ℕ → ℕ → Vectors → Row
row_of kind p x vectors = record { kind = kind; pid = p; interval = x; vec = vectors.vec; got = vectors.got }

abbrev pub log_row : (ℕ × ℕ) × Vectors → Row
log_row entry = row_of Log entry.0.0 entry.0.1 entry.1

abbrev pub base_row : (ℕ × ℕ) × Base → Row
base_row entry = row_of Checkpoint entry.0.0 entry.0.1 entry.1.vectors

-- the rows of the trees
abbrev pub held : Trees → Rows
held trees = set.union (set.from_list (map log_row (log_entries trees.logs))) (set.from_list (map base_row (base_entries trees.bases)))

-- the logs and the checkpoints are in order
pub record AreTrees (trees : Trees) : Type 0 where
  pub logs : AreLogs trees.logs
  pub bases : AreBases trees.bases

-- from a checkpoint on, below the next, the intervals up to the last given are those that are stable
pub record Reaches (rows : Rows) (p x last : ℕ) : Type 0 where
  pub stable : (y : ℕ) → x ≤ y → y ≤ last → IsStable rows p y
  pub whole : (y : ℕ) → x ≤ y → IsStable rows p y → ((other : ℕ) → Has rows Checkpoint p other → other ≤ y → other ≤ x)
      → y ≤ last

-- the trees are in order, and each checkpoint tells how far it reaches
pub record AreIndexed (trees : Trees) : Type 0 where
  pub sorted : AreTrees trees
  pub reaches : (p x : ℕ) (base : Base) → at (base_entries trees.bases) p x ≡ Some base → Reaches (held trees) p x base.last

-- these are the rows of the trees
pub record Hold (trees : Trees) (rows : Rows) : Type 0 where
  pub indexed : AreIndexed trees
  pub are : held trees ≡ rows

-- no record of the row's kind stands at its interval
abbrev pub IsFree : Rows → Row → Type 0
IsFree rows row = Has rows row.kind row.pid row.interval → ⊥

-- of the process's records of a kind at or below the bound, this one is the nearest
pub record IsRecordTo (rows : Rows) (kind : RowKind) (p to : ℕ) (row : Row) : Type 0 where
  pub there : HasRow rows row
  pub pid_is : row.pid ≡ p
  pub within : row.interval ≤ to
  pub nearest : (x : ℕ) → Has rows kind p x → x ≤ to → x ≤ row.interval

-- of the process's records of a kind at or above the bound, this one is the nearest
pub record IsRecordFrom (rows : Rows) (kind : RowKind) (p from : ℕ) (row : Row) : Type 0 where
  pub there : HasRow rows row
  pub pid_is : row.pid ≡ p
  pub within : from ≤ row.interval
  pub nearest : (x : ℕ) → Has rows kind p x → from ≤ x → row.interval ≤ x

-- the interval behind the last is the next of its run: a log stands there, and no checkpoint
pub record IsNextOfRun (rows : Rows) (p last next : ℕ) : Type 0 where
  pub behind : next ≡ last + 1
  pub log : Has rows Log p next

-- no interval behind the last is
abbrev pub EndsRun : Rows → ℕ → ℕ → Type 0
EndsRun rows p last = Has rows Log p (last + 1) → last + 1 < 2 ^ 32 → Has rows Checkpoint p (last + 1)

-- from an interval on, logs follow one another up to the last given: behind it none follows, or a checkpoint stands there
pub record IsRun (rows : Rows) (p x last : ℕ) : Type 0 where
  pub above : x ≤ last
  pub logs : (y : ℕ) → x < y → y ≤ last → Has rows Log p y
  pub ends : EndsRun rows p last

-- a record of the row's interval has other vectors
pub record HasDifferent (rows : Rows) (row : Row) : Type 0 where
  pub other : Row
  pub there : HasRow rows other
  pub pid : other.pid ≡ row.pid
  pub interval : other.interval ≡ row.interval
  pub differs : HaveSameVectors other row → ⊥

-- the row agrees with each record of that kind of its interval
abbrev pub AgreesOfKind : Rows → RowKind → Row → Type 0
AgreesOfKind rows kind row =
    (other : Row) → HasRow rows other → other.kind ≡ kind → other.pid ≡ row.pid → other.interval ≡ row.interval → HaveSameVectors other row

-- the rows that the trees hold are those of a cluster of some size
abbrev pub AreLawful : Trees → Type 0
AreLawful trees = (n : ℕ) × IsLawful n (held trees)
