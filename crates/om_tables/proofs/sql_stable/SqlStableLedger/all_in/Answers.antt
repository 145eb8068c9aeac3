use Rattle.std.proofs.Common.{ap, sym, ◌∙◌}
use Rattle.std.specs.FinMap.{entries}
use Rattle.om_stable.specs.Content.{rows_of}
use Rattle.om_tables.proofs.BlankLemmas.{table_of_blank}
use Rattle.om_stable.proofs.TreeLemmas.{entries_of_empty}
use Rattle.om_tables.proofs.sql_stable.SqlStableLedger.all_in.Goals as goal

pub returns-clause-found : goal.returns-clause-found
returns-clause-found g c = λ clean. ap rows_of c.new.ensures.items ∙ sym (ap entries (table_of_blank c.args._table) ∙ entries_of_empty)
