use Rattle.std.proofs.Common.{ℕ, ◌<◌, List, ◌∙◌, refl, sym, subst, arith, length, slice_index}
use Rattle.om_recover.specs.Rows.{Has}
use Rattle.om_recover.specs.declared.row.RowKind.{RowKind}
use Rattle.om_recover.specs.steps.Climbing.{IsClimbing, IsPassing, IsUnderWay, without_newest}
use Rattle.om_recover.proofs.PassingLemmas.{passing_step}
use Rattle.om_recover.proofs.ClimbLemmas.{left_to_look, row_of, vec_places, climbing_step, climb_fails, looks_fall, attempted_by, under_way_step}
use Rattle.om_recover.proofs.MemoryLemmas.{all_with, part_remembered, remembered_failed}
use Rattle.om_recover.specs.declared.search.failed_climbs.FailedClimb.{FailedClimb}
use Rattle.om_recover.proofs.search.climb.climb_on.Goals as goal

pub loop-q-init : goal.loop-q-init
loop-q-init g c = record {
  climbing = c.requires.climbing;
  passing = c.requires.passing;
  remembered = c.requires.remembered;
  under_way = c.requires.attempted;
}

pub look-vec-requires-clause-there : goal.look-vec-requires-clause-there
look-vec-requires-clause-there g c =
    let in_cluster : c.in-Some.q < length c.args.state.now = omega (arith, c.in-Some.ensures.0, c.loop-q.invariant.climbing.looked_places) in
    subst (λ (y : ℕ). (kind : RowKind) × Has (g.S.Shelf.rows c.args.shelf.now) kind c.in-Some.q y) (sym c.get-y.ensures)
    (row_of _ _ _ _ _ _ _ _ c.loop-q.invariant.climbing in_cluster)

pub forced-requires : goal.forced-requires
forced-requires g c =
    let in_cluster : c.in-Some.q < length c.args.state.now = omega (arith, c.in-Some.ensures.0, c.loop-q.invariant.climbing.looked_places) in
    let found : (kind : RowKind) × Has (g.S.Shelf.rows c.args.shelf.now) kind c.in-Some.q c.get-y.result =
    subst (λ (y : ℕ). (kind : RowKind) × Has (g.S.Shelf.rows c.args.shelf.now) kind c.in-Some.q y) (sym c.get-y.ensures) (row_of _ _ _ _ _ _ _ _ c.loop-q.invariant.climbing in_cluster) in
    vec_places _ _ _ _ _ c.requires.lawful found c.look-vec.ensures.vec ∙ sym c.loop-q.invariant.climbing.reached_places

pub returns-in-Err-clause-climbed : goal.returns-in-Err-clause-climbed
returns-in-Err-clause-climbed g c =
    let in_cluster : c.in-Some.q < length c.args.state.now = omega (arith, c.in-Some.ensures.0, c.loop-q.invariant.climbing.looked_places) in
    climb_fails _ _ _ _ _ _ _ _ _ _ _ c.requires.lawful c.requires.state c.loop-q.invariant.climbing c.requires.process in_cluster c.get-y.ensures c.look-vec.ensures.vec c.in-Err.ensures

pub returns-in-Err-clause-counted : goal.returns-in-Err-clause-counted
returns-in-Err-clause-counted g c =
    let in_cluster : c.in-Some.q < length c.args.state.now = omega (arith, c.in-Some.ensures.0, c.loop-q.invariant.climbing.looked_places) in
    let behind : slice_index c.loop-q.looked c.in-Some.q < c.get-y.result = omega (arith, c.in-Some.ensures.1, c.get-y.ensures) in
    attempted_by _ _ _ _ _ _ _ (under_way_step _ _ _ _ _ _ _ _ _ _ _ _ c.loop-q.invariant.climbing in_cluster c.get-y.ensures behind c.loop-q.invariant.under_way c.look-vec.ensures.counted)

pub loop-q-smaller : goal.loop-q-smaller
loop-q-smaller g c =
    let in_cluster : c.in-Some.q < length c.args.state.now = omega (arith, c.in-Some.ensures.0, c.loop-q.invariant.climbing.looked_places) in
    let behind : slice_index c.loop-q.looked c.in-Some.q < c.get-y.result = omega (arith, c.in-Some.ensures.1, c.get-y.ensures) in
    subst (λ (looked : List ℕ). left_to_look (length c.args.state.now) looked < left_to_look (length c.args.state.now) c.loop-q.looked) (sym c.set.ensures)
    (looks_fall _ _ _ _ _ _ _ _ _ c.requires.lawful c.loop-q.invariant.climbing in_cluster c.get-y.ensures behind)

pub loop-q-preserved : goal.loop-q-preserved
loop-q-preserved g c =
    let in_cluster : c.in-Some.q < length c.args.state.now = omega (arith, c.in-Some.ensures.0, c.loop-q.invariant.climbing.looked_places) in
    let behind : slice_index c.loop-q.looked c.in-Some.q < c.get-y.result = omega (arith, c.in-Some.ensures.1, c.get-y.ensures) in
    record {
      climbing = subst (λ (looked : List ℕ). IsClimbing (length c.args.state.now) (g.S.Shelf.rows c.args.shelf.now) c.args.state.now c.args.pid c.args.x c.in-Ok.higher looked) (sym c.set.ensures)
          (climbing_step _ _ _ _ _ _ _ _ _ _ _ c.requires.lawful c.loop-q.invariant.climbing in_cluster c.get-y.ensures behind c.look-vec.ensures.vec c.in-Ok.ensures);
      passing = subst (λ (passed : List ℕ). IsPassing (length c.args.state.now) (g.S.Shelf.rows c.args.shelf.now) c.args.state.now c.args.pid c.args.x c.in-Ok.higher passed) (sym c.set-in-Ok.ensures)
          (passing_step _ _ _ _ _ _ _ _ _ _ _ _ c.requires.lawful c.requires.process c.loop-q.invariant.climbing in_cluster c.get-y.ensures behind c.look-vec.ensures.vec c.in-Ok.ensures c.loop-q.invariant.passing);
      remembered = c.loop-q.invariant.remembered;
      under_way = subst (λ (looked : List ℕ). IsUnderWay (g.S.Shelf.rows c.args.shelf.now) c.args.state.now c.args.pid c.args.x looked (without_newest c.args.work.now.attempts) c.look-vec.new.work.attempts) (sym c.set.ensures)
          (under_way_step _ _ _ _ _ _ _ _ _ _ _ _ c.loop-q.invariant.climbing in_cluster c.get-y.ensures behind c.loop-q.invariant.under_way c.look-vec.ensures.counted);
    }

pub returns-clause-counted : goal.returns-clause-counted
returns-clause-counted g c = attempted_by _ _ _ _ _ _ _ c.loop-q.invariant.under_way

pub returns-in-Err-clause-remembered : goal.returns-in-Err-clause-remembered
returns-in-Err-clause-remembered g c =
    let in_cluster : c.in-Some.q < length c.args.state.now = omega (arith, c.in-Some.ensures.0, c.loop-q.invariant.climbing.looked_places) in
    let behind : slice_index c.loop-q.looked c.in-Some.q < c.get-y.result = omega (arith, c.in-Some.ensures.1, c.get-y.ensures) in
    let waits : c.in-Err.lacking < length c.args.state.now = omega (arith, c.in-Err.ensures.within, c.loop-q.invariant.climbing.reached_places) in
    let memory : FailedClimb = record { start = c.args.x; reached = c.loop-q.reached; passed = c.loop-q.passed; waits = c.in-Err.lacking; from = c.number_of.result } in
    all_with _ _ _ _ _ _ _ c.loop-q.invariant.remembered
    (record {
      whole = remembered_failed _ _ _ _ _ _ _ _ _ _ _ c.loop-q.invariant.climbing in_cluster c.get-y.ensures behind c.look-vec.ensures.vec refl refl waits c.number_of.ensures;
      part = part_remembered _ _ _ _ c.loop-q.reached memory c.loop-q.invariant.passing waits;
    }) c.keep.ensures
