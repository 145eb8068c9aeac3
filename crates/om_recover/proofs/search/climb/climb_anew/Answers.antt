use Rattle.std.proofs.Common.{◌≡◌, ◌<◌, List, ℕ, ◌∙◌, refl, sym, subst, arith, length, slice_index}
use Rattle.om_recover.specs.Attempts.{Attempt}
use Rattle.om_recover.specs.declared.search.failed_climbs.FailedClimb.{FailedClimb}
use Rattle.om_recover.specs.steps.Climbing.{IsAttempted, IsClimbing, IsPassing, IsUnderWay, without_newest}
use Rattle.om_recover.proofs.PassingLemmas.{passing_start, passing_step}
use Rattle.om_recover.proofs.StableLemmas.{record_of_stable}
use Rattle.om_recover.proofs.ClimbLemmas.{climbing_anew, climbing_step, climb_ends, climb_fails, vec_places, forced_nothing, raised_here, raised_again, under_way_step, under_way_anew, older_of, attempted_by}
use Rattle.om_recover.proofs.MemoryLemmas.{all_with, part_remembered, remembered_failed}
use Rattle.om_recover.proofs.search.climb.climb_anew.Goals as goal

pub look-vec-requires-clause-there : goal.look-vec-requires-clause-there
look-vec-requires-clause-there g c = record_of_stable _ _ _ c.requires.start

pub forced-requires : goal.forced-requires
forced-requires g c =
    let begun = climbing_anew _ _ _ _ _ c.requires.state c.requires.process c.requires.start c.requires.above c.raised_to-begun.ensures in
    vec_places _ _ _ _ _ c.requires.lawful (record_of_stable _ _ _ c.requires.start) c.look-vec.ensures.vec ∙ sym begun.reached_places

pub returns-then-is_below-clause-climbed : goal.returns-then-is_below-clause-climbed
returns-then-is_below-clause-climbed g c =
    let begun = climbing_anew _ _ _ _ _ c.requires.state c.requires.process c.requires.start c.requires.above c.raised_to-begun.ensures in
    let here : c.args.x ≡ slice_index c.raised_to-begun.result c.args.pid = raised_here _ _ _ _ c.requires.process c.raised_to-begun.ensures in
    climb_ends _ _ _ _ _ _ _ (climbing_step _ _ _ _ _ _ _ _ _ _ _ c.requires.lawful begun c.requires.process here c.requires.above c.look-vec.ensures.vec
    (forced_nothing _ _ _ (c.is_below.ensures.0 c.if-is_below.true))) (sym c.raised_to-begun.ensures)

pub returns-then-is_below-clause-counted : goal.returns-then-is_below-clause-counted
returns-then-is_below-clause-counted g c =
    let begun = climbing_anew _ _ _ _ _ c.requires.state c.requires.process c.requires.start c.requires.above c.raised_to-begun.ensures in
    let here : c.args.x ≡ slice_index c.raised_to-begun.result c.args.pid = raised_here _ _ _ _ c.requires.process c.raised_to-begun.ensures in
    attempted_by _ _ _ _ _ _ _ (under_way_step _ _ _ _ _ _ _ _ _ _ _ _ begun c.requires.process here c.requires.above c.requires.attempted c.look-vec.ensures.counted)

pub returns-in-Err-clause-climbed : goal.returns-in-Err-clause-climbed
returns-in-Err-clause-climbed g c =
    let begun = climbing_anew _ _ _ _ _ c.requires.state c.requires.process c.requires.start c.requires.above c.raised_to-begun.ensures in
    let here : c.args.x ≡ slice_index c.raised_to-begun.result c.args.pid = raised_here _ _ _ _ c.requires.process c.raised_to-begun.ensures in
    climb_fails _ _ _ _ _ _ _ _ _ _ _ c.requires.lawful c.requires.state begun c.requires.process c.requires.process here c.look-vec.ensures.vec c.in-Err.ensures

pub returns-in-Err-clause-counted : goal.returns-in-Err-clause-counted
returns-in-Err-clause-counted g c =
    let begun = climbing_anew _ _ _ _ _ c.requires.state c.requires.process c.requires.start c.requires.above c.raised_to-begun.ensures in
    let here : c.args.x ≡ slice_index c.raised_to-begun.result c.args.pid = raised_here _ _ _ _ c.requires.process c.raised_to-begun.ensures in
    attempted_by _ _ _ _ _ _ _ (under_way_step _ _ _ _ _ _ _ _ _ _ _ _ begun c.requires.process here c.requires.above c.requires.attempted c.look-vec.ensures.counted)

pub returns-in-Err-clause-remembered : goal.returns-in-Err-clause-remembered
returns-in-Err-clause-remembered g c =
    let begun = climbing_anew _ _ _ _ _ c.requires.state c.requires.process c.requires.start c.requires.above c.raised_to-begun.ensures in
    let here : c.args.x ≡ slice_index c.raised_to-begun.result c.args.pid = raised_here _ _ _ _ c.requires.process c.raised_to-begun.ensures in
    let waits : c.in-Err.lacking < length c.args.state.now = omega (arith, c.in-Err.ensures.within, begun.reached_places) in
    let memory : FailedClimb = record { start = c.args.x; reached = c.raised_to-begun.result; passed = c.raised_to-begun.result; waits = c.in-Err.lacking; from = c.number_of.result } in
    all_with _ _ _ _ _ _ _ c.requires.remembered
    (record {
      whole = remembered_failed _ _ _ _ _ _ _ _ _ _ _ begun c.requires.process here c.requires.above c.look-vec.ensures.vec refl refl waits c.number_of.ensures;
      part = part_remembered _ _ _ _ c.raised_to-begun.result memory (passing_start _ _ _ _ _ _ _ begun) waits;
    }) c.keep.ensures

pub climb_on-requires-clause-climbing : goal.climb_on-requires-clause-climbing
climb_on-requires-clause-climbing g c =
    let begun = climbing_anew _ _ _ _ _ c.requires.state c.requires.process c.requires.start c.requires.above c.raised_to-begun.ensures in
    let here : c.args.x ≡ slice_index c.raised_to-begun.result c.args.pid = raised_here _ _ _ _ c.requires.process c.raised_to-begun.ensures in
    subst (λ (looked : List ℕ). IsClimbing (length c.args.state.now) (g.S.Shelf.rows c.args.shelf.now) c.args.state.now c.args.pid c.args.x c.in-Ok.higher looked) (sym c.raised_to-begun.ensures)
    (climbing_step _ _ _ _ _ _ _ _ _ _ _ c.requires.lawful begun c.requires.process here c.requires.above c.look-vec.ensures.vec c.in-Ok.ensures)

pub climb_on-requires-clause-passing : goal.climb_on-requires-clause-passing
climb_on-requires-clause-passing g c =
    let begun = climbing_anew _ _ _ _ _ c.requires.state c.requires.process c.requires.start c.requires.above c.raised_to-begun.ensures in
    let here : c.args.x ≡ slice_index c.raised_to-begun.result c.args.pid = raised_here _ _ _ _ c.requires.process c.raised_to-begun.ensures in
    subst (λ (passed : List ℕ). IsPassing (length c.args.state.now) (g.S.Shelf.rows c.args.shelf.now) c.args.state.now c.args.pid c.args.x c.in-Ok.higher passed) (raised_again _ _ _ _ c.requires.process c.raised_to-begun.ensures)
    (passing_step _ _ _ _ _ _ _ _ _ _ _ _ c.requires.lawful c.requires.process begun c.requires.process here c.requires.above c.look-vec.ensures.vec c.in-Ok.ensures (passing_start _ _ _ _ _ _ _ begun))

pub climb_on-requires-clause-attempted : goal.climb_on-requires-clause-attempted
climb_on-requires-clause-attempted g c =
    let begun = climbing_anew _ _ _ _ _ c.requires.state c.requires.process c.requires.start c.requires.above c.raised_to-begun.ensures in
    let here : c.args.x ≡ slice_index c.raised_to-begun.result c.args.pid = raised_here _ _ _ _ c.requires.process c.raised_to-begun.ensures in
    subst (λ (looked : List ℕ). IsUnderWay (g.S.Shelf.rows c.args.shelf.now) c.args.state.now c.args.pid c.args.x looked (without_newest c.look-vec.new.work.attempts) c.look-vec.new.work.attempts) (sym c.raised_to-begun.ensures)
    (under_way_anew _ _ _ _ _ _ _ (under_way_step _ _ _ _ _ _ _ _ _ _ _ _ begun c.requires.process here c.requires.above c.requires.attempted c.look-vec.ensures.counted))

pub returns-in-Ok-clause-counted : goal.returns-in-Ok-clause-counted
returns-in-Ok-clause-counted g c =
    let begun = climbing_anew _ _ _ _ _ c.requires.state c.requires.process c.requires.start c.requires.above c.raised_to-begun.ensures in
    let here : c.args.x ≡ slice_index c.raised_to-begun.result c.args.pid = raised_here _ _ _ _ c.requires.process c.raised_to-begun.ensures in
    subst (λ (older : List Attempt). IsAttempted (g.S.Shelf.rows c.args.shelf.now) c.args.state.now c.args.pid c.args.x older c.climb_on.new.work.attempts)
    (older_of _ _ _ _ _ _ _ (under_way_step _ _ _ _ _ _ _ _ _ _ _ _ begun c.requires.process here c.requires.above c.requires.attempted c.look-vec.ensures.counted)) c.climb_on.ensures.counted
