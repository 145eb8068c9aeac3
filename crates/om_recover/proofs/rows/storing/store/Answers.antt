use Rattle.std.proofs.Common.{◌≡◌, ◌<◌, Some, refl, ap, arith, length, vec_len, slice_set}
use Rattle.std.proofs.lemmas.Option.{slice_get_within}
use Rattle.om_recover.specs.steps.Bases.{newest_of}
use Rattle.om_recover.specs.declared.rows.trees.Bases.{Bases}
use Rattle.om_recover.proofs.PlaceLemmas.{put_of}
use Rattle.om_recover.proofs.BaseStepLemmas.{stored_below, stored_on_top}
use Rattle.om_recover.proofs.rows.storing.store.Goals as goal

pub returns-then-not-is_top-clause-ok : goal.returns-then-not-is_top-clause-ok
returns-then-not-is_top-clause-ok c =
    let after : Bases = record { newest = c.args.bases.now.newest; others = c.insert.new.self } in
    let updates = c.in_ok-insert.ensures.updates in
    stored_below c.args.bases.now after c.args.pid c.args.x c.args.base c.requires.bases c.requires.free (λ y other own. c.if-not-is_top.ensures.none refl y other own c.requires.free) refl
    (put_of _ _ c.args.pid c.args.x c.args.base c.in_ok-insert.ensures.ordered updates.1 updates.2)

pub index_mut-requires : goal.index_mut-requires
index_mut-requires c =
    let top = c.if-not-is_top.ensures.yes refl in
    let within : c.args.pid < length c.args.bases.now.newest.items = slice_get_within c.args.bases.now.newest.items c.args.pid top.slot top.own in
    let count : vec_len c.shelve.new.bases.newest ≡ vec_len c.args.bases.now.newest = ap vec_len c.in_ok-shelve.ensures.ok.newest in
    omega (arith, within, count, c.index.ensures.place)

pub returns-clause-ok : goal.returns-clause-ok
returns-clause-ok c =
    let middle = c.shelve.new.bases in
    let newest = newest_of c.args.x c.args.base in
    stored_on_top c.args.bases.now middle _ c.args.pid c.args.x c.args.base c.requires.bases (c.if-not-is_top.ensures.yes refl) c.in_ok-shelve.ensures.ok
    (ap (λ i. slice_set middle.newest.items i (Some newest)) c.index.ensures.place) refl
