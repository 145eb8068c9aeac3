use Rattle.std.proofs.Common.{ap, ◌∙◌, rules}
use Rattle.std.specs.Prelude.{nat_le}
use Rattle.std.proofs.lemmas.Fn.{filter_same}
use Rattle.om_stable.specs.Content.{rows_of}
use Rattle.om_tables.proofs.CachedLemmas.{shown-kept}
use Rattle.om_tables.proofs.caching_ledger.up_to.Goals as goal

pub returns : goal.returns
returns c = ap rows_of (filter_same _ (λ row. nat_le row.0 c.args.to) _ (λ x r f' k. search rules) _ _ c.retain.ensures.filtered) ∙ shown-kept c.args.to c.args.rows.items
