-- The result of a statement, as the database tells it.
use Rattle.std.specs.Prelude.{Result, Ok, Err}
use Rattle.sqlite.specs.declared.error.Error.{Error}
use Rattle.om_tables.specs.declared.refusal.Refusal.{Refusal}

abbrev pub answered : {A : Type 0} → Result A Refusal → Result A Error
answered (Ok a) = Ok a
answered (Err r) = Err r.error
