-- The two tables of a store.
use Rattle.sqlite.specs.Collation.TheVariants.{Binary}
use Rattle.std.specs.Prelude.{true, false, [], ◌∷◌, Some, codes, List, ℕ, pos}
use Rattle.sqlite.specs.declared.types.Value.TheVariants.{Null, Int, Blob as Bytes}
use Rattle.sqlite.specs.Order.{Row}
use Rattle.sqlite.specs.Table.{Table}
use Rattle.sqlite.specs.Schema.{Schema}
use Rattle.sqlite.specs.Kind.TheVariants.{Integer, Any}

-- a table of this name in this tree
abbrev pub table_at : List ℕ → ℕ → Table
table_at name tree = record {
  name = name;
  tree = tree;
  columns = (record { name = codes "x"; kind = Integer; is_strict = false; not_null = false; default = Null; collation = Binary })
      ∷ (record { name = codes "body"; kind = Any; is_strict = false; not_null = true; default = Null; collation = Binary }) ∷ [];
  key = Some 0;
  primary = 0 ∷ [];
  uniques = [];
  orders = [];
  checks = [];
  references = [];
  computed = [];
  stamps = record { places = []; terms = []; formats = [] };
  is_counted = false;
}

abbrev pub receipts : Table
receipts = table_at (codes "receipts") 0

abbrev pub checkpoints : Table
checkpoints = table_at (codes "checkpoints") 1

abbrev pub no_schema : Schema
no_schema = record { tables = []; indexes = []; views = [] }

abbrev pub store_schema : Schema
store_schema = record { tables = receipts ∷ checkpoints ∷ []; indexes = []; views = [] }

-- the row as it is stored: the rowid stands for x
abbrev pub stored_row : ℕ × List ℕ → Row
stored_row e = Int (pos e.0) ∷ Null ∷ Bytes e.1 ∷ []
