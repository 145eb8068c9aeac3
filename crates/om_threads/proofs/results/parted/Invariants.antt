use Rattle.std.specs.Prelude.{◌≡◌, ◌++◌, map}
use Rattle.std.specs.Vec.Iter.{into_iter_len, into_iter_items}
use Rattle.om_threads.specs.steps.Ends.{HasRoom}
use Rattle.om_threads.proofs.results.parted.Given as goal

abbrev pub invariant-loop-one : goal.invariant-loop-one
invariant-loop-one g l = record {
  room : HasRoom (into_iter_len l.one-iterator) l.parts;
  statuses : l.parts.statuses.items ++ map (λ f. f.status) (into_iter_items l.one-iterator) ≡ map (λ f. f.status) l.fn.all.items;
  stores : l.parts.stores.items ++ map (λ f. f.store) (into_iter_items l.one-iterator) ≡ map (λ f. f.store) l.fn.all.items;
  puts : l.parts.puts.items ++ map (λ f. f.ends.puts) (into_iter_items l.one-iterator) ≡ map (λ f. f.ends.puts) l.fn.all.items;
  takes : l.parts.takes.items ++ map (λ f. f.ends.takes) (into_iter_items l.one-iterator) ≡ map (λ f. f.ends.takes) l.fn.all.items;
  harvests : l.parts.harvests.items ++ map (λ f. f.harvest) (into_iter_items l.one-iterator) ≡ map (λ f. f.harvest) l.fn.all.items;
}
