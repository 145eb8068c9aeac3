use Rattle.std.proofs.Common.{◌+◌, arith, refl, subst, sym}
use Rattle.om_world.proofs.FailureCounts.{counts_stay, one_counted}
use Rattle.om_world.proofs.Keeping.{keeps_same}
use Rattle.om_world.proofs.Faultless.{one_faultless}
use Rattle.om_world.proofs.Playing.{IsPlayed, event_at, known_before, one_played}
use Rattle.om_world.proofs.world.World.play.Goals as goal

pub loop-k-preserved : goal.loop-k-preserved
loop-k-preserved g c =
    let room = c.loop-k.invariant.room in
    let same = c.push_reserved.ensures.capacity in
    record {
      room = omega arith;
      counted = one_counted c.args.self.now c.loop-k.self c.happen-answer.new.self c.loop-k.answers.items _ c.happen-answer.result c.push_reserved.ensures.items
          c.loop-k.invariant.played.counts c.happen-answer.ensures.keeps.counts c.loop-k.invariant.counted c.happen-answer.ensures.counted;
      faultless = λ never known. one_faultless c.loop-k.answers.items _ c.happen-answer.result c.push_reserved.ensures.items
          (c.loop-k.invariant.faultless never (known_before c.loop-k.self c.happen-answer.new.self c.happen-answer.ensures.keeps known))
          (c.happen-answer.ensures.faultless never known);
      played = subst (λ l. IsPlayed c.args.self.now c.args.events.now (c.loop-k.k + 1) l c.happen-answer.new.self) (sym c.push_reserved.ensures.items)
          (one_played c.args.self.now c.loop-k.self c.happen-answer.new.self c.args.events.now c.loop-k.k c.loop-k.answers.items _ c.happen-answer.result
          (event_at c.args.events.now c.loop-k.k _ c.loop-k-test.true) c.loop-k.invariant.played c.happen-answer.ensures.step c.happen-answer.ensures.keeps);
    }

pub returns-in_err-answers-clause-holds : goal.returns-in_err-answers-clause-holds
returns-in_err-answers-clause-holds g c = c.told.ensures.holds

pub returns-in_err-answers-clause-released : goal.returns-in_err-answers-clause-released
returns-in_err-answers-clause-released g c = keeps_same c.args.self.now.manager

pub returns-in_err-answers-clause-size : goal.returns-in_err-answers-clause-size
returns-in_err-answers-clause-size g c = refl

pub returns-in_err-answers-clause-clean : goal.returns-in_err-answers-clause-clean
returns-in_err-answers-clause-clean g c = λ all. all

pub returns-in_err-answers-clause-counts : goal.returns-in_err-answers-clause-counts
returns-in_err-answers-clause-counts g c = counts_stay c.args.self.now.health

pub returns-in_err-answers-clause-always : goal.returns-in_err-answers-clause-always
returns-in_err-answers-clause-always g c = c.told.ensures.always

pub returns-in_err-answers-clause-origins : goal.returns-in_err-answers-clause-origins
returns-in_err-answers-clause-origins g c = refl

pub returns-clause-holds : goal.returns-clause-holds
returns-clause-holds g c = c.told-2.ensures.holds

pub returns-clause-released : goal.returns-clause-released
returns-clause-released g c = c.loop-k.invariant.played.released

pub returns-clause-size : goal.returns-clause-size
returns-clause-size g c = c.loop-k.invariant.played.size

pub returns-clause-clean : goal.returns-clause-clean
returns-clause-clean g c = c.loop-k.invariant.played.clean

pub returns-clause-counts : goal.returns-clause-counts
returns-clause-counts g c = c.loop-k.invariant.played.counts

pub returns-clause-always : goal.returns-clause-always
returns-clause-always g c = c.told-2.ensures.always

pub returns-clause-origins : goal.returns-clause-origins
returns-clause-origins g c = c.loop-k.invariant.played.origins
