use Rattle.std.proofs.Common.{inl, subst, map, length}
use Rattle.std.specs.Prelude.{Ok}
use Rattle.om_threads.specs.steps.Ends.{AreBelow, IsLeastFault, IsWell}
use Rattle.om_threads.proofs.FaultLemmas.{not_all_well, stands_next}
use Rattle.om_threads.proofs.results.all_of.Goals as goal

pub returns-in-Some-clause-fault : goal.returns-in-Some-clause-fault
returns-in-Some-clause-fault g c = inl (subst (λ rs. IsLeastFault rs c.in-Some.fault) c.deref.ensures.value c.in-Some.ensures.least)

pub returns-in_err-result-clause-fault : goal.returns-in_err-result-clause-fault
returns-in_err-result-clause-fault g c =
    let results = c.args.results.items in
    let done = map Ok c.loop-result.all.items in
    let at = stands_next done c.in-Some-result.result _ _ results c.in-Some-result.ensures.steps.0 c.loop-result.invariant.2 in
    let all = subst (λ rs. AreBelow IsWell (length rs) rs) c.deref.ensures.value c.in_default.ensures.none in
    absurd (not_all_well results (length done) c.in-Some-result.result _ all at c.in_err-result.was)
