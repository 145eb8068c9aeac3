-- The database between its two statements, and what its queries show.
use Rattle.std.specs.Prelude.{[], ◌∷◌, List, ℕ, pos}
use Rattle.sqlite.specs.declared.types.Value.TheVariants.{Int, Blob as Bytes}
use Rattle.sqlite.specs.Order.{Row}
use Rattle.sqlite.specs.Schema.{Schema}
use Rattle.om_tables.specs.Tables.{receipts}

abbrev pub half_schema : Schema
half_schema = record { tables = receipts ∷ []; indexes = []; views = [] }

-- as a SELECT of both columns shows it
abbrev pub shown : ℕ × List ℕ → Row
shown e = Int (pos e.0) ∷ Bytes e.1 ∷ []
