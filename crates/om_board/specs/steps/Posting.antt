-- The rule of a frontier's cell, over the words that stand in it.
use Rattle.std.specs.Prelude.{◌≡◌, ℕ, ◌^◌, ◌<◌, ◌≤◌, List, [], ◌∷◌, ◌++◌, All, AllPairs, length, take, drop, map, replicate, slice_index, true, false}
use mathlib.Core.Option.{some}
use mathlib.Core.List.{IsPrefix}
use lib.ListN.{get_elem?}
use Rattle.atomic_table.specs.Seated.{TableId}
use Rattle.om_interval.specs.Vectors.{IsBelow, padded_words}
use Rattle.om_board.specs.CellNames.{CellName}
use Rattle.om_board.specs.declared.cell.TheConstants.{WORDS}
use Rattle.om_board.specs.declared.cell.View.{View}
use Rattle.om_board.specs.declared.front.Front.{Front}

-- the words of a front: version, round, and an interval for each process that there can be
abbrev pub words_in : Front → List ℕ
words_in front = front.version ∷ front.round ∷ padded_words front.vec

-- the front of n processes that the words spell
abbrev pub front_in : ℕ → List ℕ → Front
front_in n words = record { version = slice_index words 0; round = slice_index words 1; vec = take n (drop 2 words) }

abbrev pub fronts_in : ℕ → List (List ℕ) → List Front
fronts_in n log = map (front_in n) log

-- all words but the version are numbers of 32 bits
pub record AreWords (words : List ℕ) : Type 0 where
  pub whole : length words ≡ WORDS
  pub fit : (place : ℕ) → 1 ≤ place → slice_index words place < 2 ^ 32

-- the version is higher, and no word lower
pub record Grows (low high : List ℕ) : Type 0 where
  pub version : slice_index low 0 < slice_index high 0
  pub below : IsBelow low high

-- the words of fronts that were posted
pub record IsLog (log : List (List ℕ)) : Type 0 where
  pub rising : AllPairs Grows log
  pub words : All AreWords log

-- the last words of the list
abbrev pub IsLastOf : List (List ℕ) → List ℕ → Type 0
IsLastOf log words = (before : List (List ℕ)) × (before ++ words ∷ [] ≡ log)

abbrev pub writer : List (List ℕ) → View
writer log = record { writes = true; seen = log; shown = [] }

abbrev pub reader : List (List ℕ) → View
reader log = record { writes = false; seen = log; shown = [] }

-- the words of every front at the start
abbrev pub zero_words : List ℕ
zero_words = replicate WORDS 0

-- one pass writes, and knows the whole list; what each pass has seen, or was shown, begins the list
abbrev pub FitsLog : ℕ → List (List ℕ) → ℕ → View → Type 0
FitsLog seat log by v = (v.writes ≡ true → (by ≡ seat) × (v.seen ≡ log)) × IsPrefix v.seen log × IsPrefix v.shown log

-- the words in the cell are the last of the list
abbrev pub Kept : List ℕ → List View → Type 0
Kept words views =
    (seat : ℕ) × (log : List (List ℕ))
    × IsLastOf log words × IsLog log
    × ((by : ℕ) (v : View) → get_elem? views by ≡ some v → FitsLog seat log by v)

-- a reader's load: it has seen the list whose last words were read
abbrev pub Loads : View → List ℕ → List ℕ → View → Type 0
Loads v before after w = (w.writes ≡ v.writes) × IsPrefix v.seen w.seen × IsLastOf w.seen after × IsLog w.seen

-- the writer's store: one more
abbrev pub Stores : View → List ℕ → List ℕ → View → Type 0
Stores v before after w = (w ≡ writer (v.seen ++ after ∷ [])) × IsLog w.seen

-- the writer may add words that grow on its last ones
pub record MayStore (v : View) (new : List ℕ) : Type 0 where
  pub writes : v ≡ writer v.seen
  pub log : IsLog v.seen
  pub last : List ℕ
  pub ends : IsLastOf v.seen last
  pub words : AreWords new
  pub grows : Grows last new

-- the writer's load: what it was shown begins its list
abbrev pub Meets : View → List ℕ → List ℕ → View → Type 0
Meets v before after w = (w ≡ writer v.seen) × IsPrefix v.shown v.seen

-- a reader of all that the writer has
abbrev pub opened : View → View
opened v = reader v.seen

-- the writer with a reader's list to compare
abbrev pub shown_to : View → View → View
shown_to v w = record { writes = v.writes; seen = v.seen; shown = w.seen }

-- a pass that reads the named cell
pub record IsReader (cell : CellName) (table : TableId) (view : View) : Type 0 where
  pub own : table ≡ cell.table
  pub reads : view.writes ≡ false
  pub log : IsLog view.seen

-- a pass that writes the named cell, where it posted a front of this version last
pub record IsWriter (cell : CellName) (table : TableId) (view : View) (version : ℕ) : Type 0 where
  pub own : table ≡ cell.table
  pub writes : view ≡ writer view.seen
  pub log : IsLog view.seen
  pub front : Front
  pub last : IsLastOf view.seen (words_in front)
  pub places : length front.vec ≡ cell.n
  pub version_is : version ≡ front.version

-- a pass is of the cell that another one is of
abbrev pub IsOfCell : TableId → TableId → Type 0
IsOfCell before after = after ≡ before
