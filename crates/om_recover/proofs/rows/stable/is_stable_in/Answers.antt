use Rattle.std.proofs.Common.{sym, ◌∙◌, true≢false}
use Rattle.std.proofs.lemmas.Bool.{leb-true, le-leb}
use Rattle.om_recover.proofs.LookupLemmas.{some_nearest}
use Rattle.om_recover.proofs.ReachLemmas.{stable_within, reached_by}
use Rattle.om_recover.proofs.rows.stable.is_stable_in.Goals as goal

pub returns-in-None-clause-none : goal.returns-in-None-clause-none
returns-in-None-clause-none c = λ _ stable. some_nearest _ _ _ c.requires.sorted c.in-None.ensures stable

pub returns-in-Some-clause-yes : goal.returns-in-Some-clause-yes
returns-in-Some-clause-yes c = λ yes. stable_within _ _ _ _ c.in-Some.base.now c.requires c.in-Some.ensures (leb-true _ _ yes)

pub returns-in-Some-clause-none : goal.returns-in-Some-clause-none
returns-in-Some-clause-none c = λ none stable. true≢false (sym (le-leb _ _ (reached_by _ _ _ _ c.in-Some.base.now c.requires c.in-Some.ensures stable)) ∙ none)
