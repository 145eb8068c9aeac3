use Rattle.std.proofs.Common.{◌≡◌, Some, length, rules, subst}
use Rattle.std.specs.Prelude.{slice_get}
use Rattle.om_world.specs.World.{program_of}
use Rattle.om_world.proofs.Lists.{lent_at}
use Rattle.om_world.proofs.Starting.{Says, is_start}
use Rattle.om_world.proofs.start.start_at.Goals as goal

pub returns : goal.returns
returns g c =
    let s = g.S.Stable in
    let image = c.index-images-p.result in
    let store = c.args.store.now in
    let n = length c.args.images.now in
    let e = c.start.ensures in
    let at : slice_get c.args.images.now c.args.p ≡ Some image = search (rules, lent_at) in
    let says : Says s.content s.failed s.is_clean s.IsSound (record { image = c.deref.result.now; size = image.size; ext = image.ext }) c.at.result n store c.start.new.store c.start.result = record {
      started = e.started;
      stored = e.stored;
      bad_place = e.bad_place;
      bad_size = e.bad_size;
      too_long = e.too_long;
      free = e.free;
      present = e.present;
      fault = e.used.fault;
      clean = e.used.clean;
      sound = e.used.sound;
    } in (
      image,
      at,
      is_start s.content s.failed s.is_clean s.IsSound (program_of image) c.args.p n store c.start.new.store c.start.result c.requires.place c.requires.few
          (subst (λ p. Says s.content s.failed s.is_clean s.IsSound (program_of image) p n store c.start.new.store c.start.result) c.at.ensures
          (subst (λ bytes. Says s.content s.failed s.is_clean s.IsSound (record { image = bytes; size = image.size; ext = image.ext }) c.at.result n store c.start.new.store c.start.result) c.deref.ensures.value says)),
    )
