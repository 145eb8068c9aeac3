use Rattle.std.proofs.Common.{◌≡◌, ◌<◌, ◌+◌, rules, arith, refl, sym, ap, ◌∙◌, subst, get_or, length, map, vec_len, Some}
use Rattle.std.specs.Prelude.{slice_get}
use Rattle.std.proofs.lemmas.Option.{slice_get_read}
use Rattle.om_process.specs.Images.{program_of}
use Rattle.om_board.proofs.ListLemmas.{map_get}
use Rattle.std.specs.Vec.Iter.{into_iter_items, into_iter_len}
use Rattle.om_links.specs.Wiring.{HasEnds}
use Rattle.om_threads.specs.steps.Ends.{IsPromised}
use Rattle.om_threads.proofs.ReportLemmas.{any_default, each_more, ends_at, next_of}
use Rattle.om_threads.proofs.starting.start_all.Goals as goal

pub loop-one-init : goal.loop-one-init
loop-one-init g c =
    let many = c.requires.ready.wired.many in (
      search rules,
      search rules,
      search rules,
      λ k e lt.
          let same : into_iter_items c.into_iter-one-iterator.result ≡ c.args.ends.items = search rules in
          let less : k < length c.args.ends.items = search rules in
          let at : k ≡ vec_len c.args.handles + k = (let z = c.requires.none in omega arith) in
          subst (λ i. HasEnds g.K.Naming.cell.n c.args.cluster.now.inboxes.now i (get_or (into_iter_items c.into_iter-one-iterator.result) k e)) at
          (subst (λ es. HasEnds g.K.Naming.cell.n c.args.cluster.now.inboxes.now k (get_or es k e)) (sym same) (ends_at _ _ _ c.requires.ready.wired k e less)),
      λ k a h lt. absurd (let z = c.requires.none in omega arith),
    )

pub links_of-links-requires-clause-ends : goal.links_of-links-requires-clause-ends
links_of-links-requires-clause-ends g c =
    let first : get_or (into_iter_items c.loop-one.one-iterator) 0 c.in-Some.one ≡ c.in-Some.one = search rules in
    let lt : 0 < into_iter_len c.loop-one.one-iterator = search rules in
    let have = subst (HasEnds g.K.Naming.cell.n c.args.cluster.now.inboxes.now (vec_len c.loop-one.handles + 0)) first (c.loop-one.invariant.3 0 c.in-Some.one lt) in
    subst (λ k. HasEnds g.K.Naming.cell.n c.args.cluster.now.inboxes.now k c.in-Some.one) (search rules) have

pub start_apart-requires-clause-program : goal.start_apart-requires-clause-program
start_apart-requires-clause-program g c = λ lifetimes outlive.
    let images = c.args.cluster.now.config.now.images.items in
    let own = c.len-own.result in
    let image = c.index-image.result.now in
    let within : own < length images = search rules in
    let at : slice_get images own ≡ Some image = slice_get_read images (length images) own image refl within c.index-image.ensures in
    let here : c.links_of-links.result.ends.own ≡ own = c.links_of-links.ensures.own in
    subst (λ ps. slice_get ps c.links_of-links.result.ends.own ≡ Some (program_of image)) (sym c.requires.named.run)
    (subst (λ i. slice_get (map program_of images) i ≡ Some (program_of image)) (sym here) (map_get program_of images own image at))

pub loop-one-preserved : goal.loop-one-preserved
loop-one-preserved g c =
    let was = c.loop-one.invariant in
    let done = vec_len c.loop-one.handles in
    let n = g.K.Naming.cell.n in
    let images = c.args.cluster.now.config.now.images.items in
    let lines = c.args.cluster.now.inboxes.now in
    let handle = c.in-Some-start_apart.handle in
    let started = c.in-Some-start_apart.ensures in
    let rest = into_iter_items c.next.new.self in
    let grown : vec_len c.push_reserved.new.self ≡ done + 1 = search rules in
    let own : c.len-own.result ≡ length c.loop-one.handles.items = search rules in
    let within : c.len-own.result < length images = search rules in (
      search rules,
      search rules,
      search rules,
      (λ k e lt.
          let less : k + 1 < into_iter_len c.loop-one.one-iterator = search rules in
          let same : get_or (into_iter_items c.loop-one.one-iterator) (k + 1) e ≡ get_or rest k e = ap (λ l. get_or l (k + 1) e) c.in-Some.ensures.steps.0 ∙ next_of c.in-Some.one rest k e in
          let at : done + (k + 1) ≡ vec_len c.push_reserved.new.self + k = omega (arith, grown) in
          subst (λ i. HasEnds n lines i (get_or rest k e)) at (subst (HasEnds n lines (done + (k + 1))) same (was.3 (k + 1) e less))),
      λ k a h lt.
          let here : IsPromised c.args.cluster.now.config.now (get_or images (length c.loop-one.handles.items) a) lines (length c.loop-one.handles.items) n handle.promise = record {
            plan_is = started.config;
            image_is = started.image ∙ c.index-image.ensures ∙ any_default images c.len-own.result c.index-image.result.now a within ∙ ap (λ i. get_or images i a) own;
            lines_are = started.inboxes ∙ c.links_of-links.ensures.lines;
            own_is = started.own ∙ c.links_of-links.ensures.own ∙ own;
            n_is = started.n;
          } in
          each_more (λ i x. IsPromised c.args.cluster.now.config.now (get_or images i a) lines i n x.promise) c.loop-one.handles.items c.push_reserved.new.self.items handle c.push_reserved.ensures.items
          (λ i x below. was.4 i a x (search rules)) here k h (search rules),
    )
