use Rattle.std.proofs.Common.{◌∙◌, ap, subst, sym, arith}
use Rattle.std.specs.Prelude.{slice_get}
use Rattle.om_explore_command.specs.Differences.{DifferFirst}
use Rattle.om_explore_command.specs.declared.tally.Found.{Found}
use Rattle.om_explore_command.specs.ExplorationText.{DifferAt}
use Rattle.om_explore_command.proofs.PlaceLemmas.{places_more, read_at, read_two}
use Rattle.om_explore_command.proofs.text.places_of.Goals as goal

pub loop-k-preserved : goal.loop-k-preserved
loop-k-preserved c =
    let found = c.args.found.now in
    let at_first = read_at found 0 c.index-found-0.result (omega arith) c.index-found-0.is in
    let at_this = ap (slice_get found) c.loop-k.invariant.number ∙ read_at found c.loop-k.k c.index-found-k.result c.loop-k-test.true c.index-found-k.is in
    record {
      number = omega (arith, c.in_ok-push.ensures.len, c.loop-k.invariant.number);
      each = subst (DifferAt c.args.n found) (sym c.in_ok-push.ensures.items)
          (places_more c.args.n found c.loop-k.places.items c.index-found-0.result c.index-found-k.result c.first_difference.result at_first at_this
          (read_two (λ one other. DifferFirst c.args.n one other c.first_difference.result) (λ (f : Found). f.outcome.report) found 0 c.loop-k.k
          c.index-found-0.result c.index-found-k.result c.index-found-0.is c.index-found-k.is c.first_difference.ensures)
          c.loop-k.invariant.each);
    }
