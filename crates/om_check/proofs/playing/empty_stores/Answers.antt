use Rattle.std.proofs.Common.{◌≡◌, sym, subst, rules}
use Rattle.std.specs.Prelude.{All}
use Rattle.std.proofs.lemmas.List.Elements.{All-push}
use Rattle.om_world.specs.World.{IsEmpty}
use Rattle.om_check.proofs.playing.empty_stores.Goals as goal

pub loop-preserved : goal.loop-preserved
loop-preserved c = record {
  number = search rules;
  empty = subst (All IsEmpty) (sym c.in_ok-push.ensures.items) (All-push IsEmpty c.loop.stores.items c.new.result c.loop.invariant.empty (search rules));
}
