use Rattle.std.proofs.Common.{refl, ap, ◌∙◌, sym, subst, Some, ◌+◌}
use Rattle.std.proofs.lemmas.Option.{slice_get-get_or}
use Rattle.om_threads.specs.steps.Ends.{IsFirstOut, IsLeastFault, IsOut, IsWellOrOut}
use Rattle.om_threads.proofs.FaultLemmas.{below_more, first_least, out_more, well_more}
use Rattle.om_threads.proofs.results.fault_of.Goals as goal
use Rattle.om_threads.proofs.results.fault_of.Goals.{in-Ok, in-Err+else-not-is_out}

pub returns-then-not-is_out-clause-least : goal.returns-then-not-is_out-clause-least
returns-then-not-is_out-clause-least g c =
    let here = slice_get-get_or c.args.results.now c.loop-i.i c.index-results-i.result c.loop-i-test.true ∙ ap Some (sym c.index-results-i.is) in
    let at = here ∙ ap Some c.in-Err.is in
    IsLeastFault.other c.loop-i.i at c.loop-i.invariant.0 (λ out. let e = c.if-not-is_out.ensures.1 out in cc)

pub loop-i-preserved : goal.loop-i-preserved
loop-i-preserved g c =
    let results = c.args.results.now in
    let i = c.loop-i.i in
    let inv = c.loop-i.invariant in
    let here = slice_get-get_or results i c.index-results-i.result c.loop-i-test.true ∙ ap Some (sym c.index-results-i.is) in
    elim c.match-results-i.branch [
      | in-Ok w ↦
          let at = here ∙ ap Some w.in-Ok.is in (
            below_more IsWellOrOut i results _ inv.0 at tt,
            subst (IsFirstOut results (i + 1)) (sym w.last-is) (well_more results i c.loop-i.last _ at inv.1),
          )
      | in-Err+else-not-is_out w ↦
          let at = here ∙ ap Some w.in-Err.is in
          let out : IsOut w.in-Err.fault = w.if-not-is_out.ensures.0 refl in (
            below_more IsWellOrOut i results _ inv.0 at out,
            subst (IsFirstOut results (i + 1)) (sym (w.last-is ∙ w.or-last.ensures)) (out_more results i c.loop-i.last w.in-Err.fault at inv.1),
          )
    ]

pub returns-clause-least : goal.returns-clause-least
returns-clause-least g c = first_least c.args.results.now c.loop-i.i c.loop-i.last c.loop-i-test.false c.loop-i.invariant.0 c.loop-i.invariant.1
