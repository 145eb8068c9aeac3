use Rattle.std.proofs.Common.{◌≡◌, ◌<◌, rules, ap, vec_len, get_or}
use Rattle.om_threads.proofs.FaultLemmas.{image_in, kept_end}
use Rattle.om_threads.proofs.starting.fn.run_scoped.scope.Goals as goal

pub returns-in-Ok-join_promised : goal.returns-in-Ok-join_promised
returns-in-Ok-join_promised g c =
    let n = g.K.Naming.cell.n in
    let config = c.captures.cluster.now.config.now in
    let lines = c.captures.cluster.now.inboxes.now in
    let results = c.in-Ok-join_promised.results.items in
    let clean = g.O.Store.Stable.is_clean in
    let many : vec_len c.in-Some.handles ≡ n = c.in-Some.ensures.long in
    record {
      long = search rules;
      each = λ i image r lt.
          let less : i < vec_len c.in-Some.handles = search rules in
          let k = (c.in-Ok-join_promised.ensures.each i r less).1 in
          (kept_end clean config (get_or config.images.items i image) lines i n _ _ (get_or results i r) (ap (λ h. h.promise) k.handle_is)
          (c.in-Some.ensures.each i image k.handle less) k.kept).0;
      own = λ i r lt.
          let less : i < vec_len c.in-Some.handles = search rules in
          let k = (c.in-Ok-join_promised.ensures.each i r less).1 in
          let image = image_in config.images.items i (search rules) in
          (kept_end clean config (get_or config.images.items i image) lines i n _ _ (get_or results i r) (ap (λ h. h.promise) k.handle_is)
          (c.in-Some.ensures.each i image k.handle less) k.kept).1;
      beside = search rules;
      fault = tt;
    }
