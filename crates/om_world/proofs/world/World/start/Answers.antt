use Rattle.std.proofs.Common.{◌≡◌, ◌∙◌, ap, length, map, subst, true}
use Rattle.std.specs.Prelude.{IsTrue}
use Rattle.om_world.specs.Holds.{Holds}
use Rattle.om_world.specs.Started.{HaveFirst, IsStarted}
use Rattle.om_world.specs.World.{WorldState, IsKnown, all_clean, program_of}
use Rattle.om_world.specs.steps.Members.{core_in, health_in, place_in, round_in, sound_in, store_in, health_of}
use Rattle.om_world.specs.steps.Sound.{IsWorld}
use Rattle.om_world.proofs.Beginning.{all_at, all_loadable, begun, begun_by, begun_is, clean_begun, clean_from, have_first, is_started, world_begun}
use Rattle.om_world.proofs.Holding.{world_holds}
use Rattle.om_world.proofs.Lists.{length-map}
use Rattle.om_world.proofs.Seating.{all_seated, seen_begun, world_seated}
use Rattle.om_world.proofs.world.World.start.Goals as goal

pub invariant_of-result : goal.invariant_of-result
invariant_of-result g c =
    let s = g.S.Stable in
    let programs = map program_of c.args.images.now in
    let n = length c.args.images.now in
    let size : length programs ≡ n = length-map program_of c.args.images.now in
    let ms = c.in_ok-members.members.items in
    let a = c.in_ok-members.ensures.started in
    let cores = map core_in ms in
    let xs = c.args.stores.items in
    let ys = map store_in ms in
    let m = c.in_ok-manager.manager in
    let b = begun_by s.content (health_of s.is_clean s.failed) s.IsSound programs n cores xs ys m size c.requires.few c.requires.stores (all_seated s.content s.is_clean s.IsSound programs n xs ms c.requires.stores a) c.in_ok-manager.ensures.fresh c.in_ok-manager.ensures.sound (λ i x at. all_at (λ store. IsTrue (s.is_clean store) → s.IsSound store) xs i x c.requires.sound at) in
    let is = begun_is s.content (health_of s.is_clean s.failed) programs (map program_of c.in_ok-copies.copies.items) n c.none.result.entries c.new.result.items cores (map place_in ms) (map round_in ms) xs c.of-origins.result.value.items ys m c.new-2.result size
    c.in_ok-copies.ensures c.none.ensures c.new.ensures.items a.places a.rounds (ap (λ v. v.items) c.of-origins.ensures) c.new-2.ensures ∙ seen_begun s.content (health_of s.is_clean s.failed) (map program_of c.in_ok-copies.copies.items) c.none.result.entries c.new.result.items ms m (record { origins = map s.content c.of-origins.result.value.items; since = c.new-2.result }) in
    subst (IsWorld (sound_in s.IsSound) ms) is (world_seated s.IsSound ms (begun s.content (health_of s.is_clean s.failed) programs cores xs ys m) (world_begun s.content (health_of s.is_clean s.failed) s.IsSound programs cores xs ys m b))

pub returns-clause-started : goal.returns-clause-started
returns-clause-started g c =
    let s = g.S.Stable in
    let programs = map program_of c.args.images.now in
    let n = length c.args.images.now in
    let size : length programs ≡ n = length-map program_of c.args.images.now in
    let ms = c.in_ok-members.members.items in
    let a = c.in_ok-members.ensures.started in
    let cores = map core_in ms in
    let xs = c.args.stores.items in
    let ys = map store_in ms in
    let m = c.in_ok-manager.manager in
    let b = begun_by s.content (health_of s.is_clean s.failed) s.IsSound programs n cores xs ys m size c.requires.few c.requires.stores (all_seated s.content s.is_clean s.IsSound programs n xs ms c.requires.stores a) c.in_ok-manager.ensures.fresh c.in_ok-manager.ensures.sound (λ i x at. all_at (λ store. IsTrue (s.is_clean store) → s.IsSound store) xs i x c.requires.sound at) in
    let is = begun_is s.content (health_of s.is_clean s.failed) programs (map program_of c.in_ok-copies.copies.items) n c.none.result.entries c.new.result.items cores (map place_in ms) (map round_in ms) xs c.of-origins.result.value.items ys m c.new-2.result size
    c.in_ok-copies.ensures c.none.ensures c.new.ensures.items a.places a.rounds (ap (λ v. v.items) c.of-origins.ensures) c.new-2.ensures ∙ seen_begun s.content (health_of s.is_clean s.failed) (map program_of c.in_ok-copies.copies.items) c.none.result.entries c.new.result.items ms m (record { origins = map s.content c.of-origins.result.value.items; since = c.new-2.result }) in
    subst (IsStarted programs) is (is_started s.content (health_of s.is_clean s.failed) s.IsSound programs cores xs ys m b)

pub returns-clause-stored : goal.returns-clause-stored
returns-clause-stored g c =
    let s = g.S.Stable in
    let programs = map program_of c.args.images.now in
    let n = length c.args.images.now in
    let size : length programs ≡ n = length-map program_of c.args.images.now in
    let ms = c.in_ok-members.members.items in
    let a = c.in_ok-members.ensures.started in
    let cores = map core_in ms in
    let xs = c.args.stores.items in
    let ys = map store_in ms in
    let m = c.in_ok-manager.manager in
    let b = begun_by s.content (health_of s.is_clean s.failed) s.IsSound programs n cores xs ys m size c.requires.few c.requires.stores (all_seated s.content s.is_clean s.IsSound programs n xs ms c.requires.stores a) c.in_ok-manager.ensures.fresh c.in_ok-manager.ensures.sound (λ i x at. all_at (λ store. IsTrue (s.is_clean store) → s.IsSound store) xs i x c.requires.sound at) in
    let is = begun_is s.content (health_of s.is_clean s.failed) programs (map program_of c.in_ok-copies.copies.items) n c.none.result.entries c.new.result.items cores (map place_in ms) (map round_in ms) xs c.of-origins.result.value.items ys m c.new-2.result size
    c.in_ok-copies.ensures c.none.ensures c.new.ensures.items a.places a.rounds (ap (λ v. v.items) c.of-origins.ensures) c.new-2.ensures ∙ seen_begun s.content (health_of s.is_clean s.failed) (map program_of c.in_ok-copies.copies.items) c.none.result.entries c.new.result.items ms m (record { origins = map s.content c.of-origins.result.value.items; since = c.new-2.result }) in
    subst (λ (w : WorldState). all_clean w.health ≡ true → HaveFirst w) is (have_first s.content (health_of s.is_clean s.failed) s.IsSound programs cores xs ys m b)

pub returns-clause-clean : goal.returns-clause-clean
returns-clause-clean g c =
    let s = g.S.Stable in
    let programs = map program_of c.args.images.now in
    let n = length c.args.images.now in
    let size : length programs ≡ n = length-map program_of c.args.images.now in
    let ms = c.in_ok-members.members.items in
    let a = c.in_ok-members.ensures.started in
    let cores = map core_in ms in
    let xs = c.args.stores.items in
    let ys = map store_in ms in
    let m = c.in_ok-manager.manager in
    let b = begun_by s.content (health_of s.is_clean s.failed) s.IsSound programs n cores xs ys m size c.requires.few c.requires.stores (all_seated s.content s.is_clean s.IsSound programs n xs ms c.requires.stores a) c.in_ok-manager.ensures.fresh c.in_ok-manager.ensures.sound (λ i x at. all_at (λ store. IsTrue (s.is_clean store) → s.IsSound store) xs i x c.requires.sound at) in
    let is = begun_is s.content (health_of s.is_clean s.failed) programs (map program_of c.in_ok-copies.copies.items) n c.none.result.entries c.new.result.items cores (map place_in ms) (map round_in ms) xs c.of-origins.result.value.items ys m c.new-2.result size
    c.in_ok-copies.ensures c.none.ensures c.new.ensures.items a.places a.rounds (ap (λ v. v.items) c.of-origins.ensures) c.new-2.ensures ∙ seen_begun s.content (health_of s.is_clean s.failed) (map program_of c.in_ok-copies.copies.items) c.none.result.entries c.new.result.items ms m (record { origins = map s.content c.of-origins.result.value.items; since = c.new-2.result }) in
    λ all. clean_begun s.content (health_of s.is_clean s.failed) s.IsSound programs cores xs ys m b (ap (λ (w : WorldState). all_clean w.health) is ∙ all)

pub returns-clause-always : goal.returns-clause-always
returns-clause-always g c = λ always. clean_from (health_in (health_of g.S.Stable.is_clean g.S.Stable.failed)) c.in_ok-members.members.items (λ i m at. always m.store)

pub returns-clause-holds : goal.returns-clause-holds
returns-clause-holds g c =
    let s = g.S.Stable in
    let programs = map program_of c.args.images.now in
    let n = length c.args.images.now in
    let size : length programs ≡ n = length-map program_of c.args.images.now in
    let ms = c.in_ok-members.members.items in
    let a = c.in_ok-members.ensures.started in
    let cores = map core_in ms in
    let xs = c.args.stores.items in
    let ys = map store_in ms in
    let m = c.in_ok-manager.manager in
    let b = begun_by s.content (health_of s.is_clean s.failed) s.IsSound programs n cores xs ys m size c.requires.few c.requires.stores (all_seated s.content s.is_clean s.IsSound programs n xs ms c.requires.stores a) c.in_ok-manager.ensures.fresh c.in_ok-manager.ensures.sound (λ i x at. all_at (λ store. IsTrue (s.is_clean store) → s.IsSound store) xs i x c.requires.sound at) in
    let is = begun_is s.content (health_of s.is_clean s.failed) programs (map program_of c.in_ok-copies.copies.items) n c.none.result.entries c.new.result.items cores (map place_in ms) (map round_in ms) xs c.of-origins.result.value.items ys m c.new-2.result size
    c.in_ok-copies.ensures c.none.ensures c.new.ensures.items a.places a.rounds (ap (λ v. v.items) c.of-origins.ensures) c.new-2.ensures ∙ seen_begun s.content (health_of s.is_clean s.failed) (map program_of c.in_ok-copies.copies.items) c.none.result.entries c.new.result.items ms m (record { origins = map s.content c.of-origins.result.value.items; since = c.new-2.result }) in
    subst (λ (w : WorldState). IsKnown w → Holds w) is (world_holds s.IsSound ys (begun s.content (health_of s.is_clean s.failed) programs cores xs ys m) (world_begun s.content (health_of s.is_clean s.failed) s.IsSound programs cores xs ys m b))

pub returns-clause-loadable : goal.returns-clause-loadable
returns-clause-loadable g c =
    let s = g.S.Stable in
    let programs = map program_of c.args.images.now in
    let n = length c.args.images.now in
    let size : length programs ≡ n = length-map program_of c.args.images.now in
    let ms = c.in_ok-members.members.items in
    let a = c.in_ok-members.ensures.started in
    let cores = map core_in ms in
    let xs = c.args.stores.items in
    let ys = map store_in ms in
    let m = c.in_ok-manager.manager in
    let b = begun_by s.content (health_of s.is_clean s.failed) s.IsSound programs n cores xs ys m size c.requires.few c.requires.stores (all_seated s.content s.is_clean s.IsSound programs n xs ms c.requires.stores a) c.in_ok-manager.ensures.fresh c.in_ok-manager.ensures.sound (λ i x at. all_at (λ store. IsTrue (s.is_clean store) → s.IsSound store) xs i x c.requires.sound at) in
    all_loadable s.content (health_of s.is_clean s.failed) s.IsSound programs cores xs ys m b
