use Rattle.std.proofs.Common.{rules, ap, sym, ◌∙◌, subst, ◌<◌, get_or, length}
use Rattle.om_links.specs.Links.{EndsState, LinksState}
use Rattle.om_links.proofs.LinkLemmas.{line_to, put_at, put_line, put_links, row_long, frame_goes}
use Rattle.om_links.proofs.WireLemmas.{same_line}
use Rattle.om_links.proofs.links.Links.put_one.Goals as goal

pub index-inbox-requires : goal.index-inbox-requires
index-inbox-requires g c =
    let l : EndsState = record { own = c.self.inside.own; n = c.self.inside.n; lines = c.self.inside.inboxes.now } in
    let to : c.index-place.result < l.n = search rules in
    let long = row_long l _ _ _ c.index.result c.index-self-index.result c.self.invariant (search rules) in
    let row = get_or l.lines c.index.result c.index-self-index.result in
    let there : c.index-place.result < length row.items = subst (λ k. c.index-place.result < k) (sym long) to in
    search rules

pub put-requires-clause-own : goal.put-requires-clause-own
put-requires-clause-own g c =
    let l : EndsState = record { own = c.self.inside.own; n = c.self.inside.n; lines = c.self.inside.inboxes.now } in
    let to : c.index-place.result < l.n = search rules in
    let there = line_to l _ _ _ c.index.result c.index-place.result c.index-self-index.result c.index-inbox.result.now c.self.invariant (search rules) to c.index-inbox.ensures in
    same_line l.lines l.own c.index-place.result _ _ (put_at l _ _ _ c.index-place.result c.index_mut.result.now c.self.invariant to c.index_mut.ensures.value) there

pub put-requires-clause-pair : goal.put-requires-clause-pair
put-requires-clause-pair g c =
    let l : EndsState = record { own = c.self.inside.own; n = c.self.inside.n; lines = c.self.inside.inboxes.now } in
    let to : c.index-place.result < l.n = search rules in
    let there = line_to l _ _ _ c.index.result c.index-place.result c.index-self-index.result c.index-inbox.result.now c.self.invariant (search rules) to c.index-inbox.ensures in
    let from = c.self.invariant.network.from l.own c.index-place.result c.index-inbox.result.now there in
    let goes = c.self.invariant.network.to l.own c.index-place.result c.index-inbox.result.now there in
    let frame = frame_goes c.args.core.now c.args.to _ _ c.in-Some.message (sym c.in_ok-message.ensures.frame ∙ c.in-Some.is) in
    record {
      from = frame.0 ∙ c.requires.own ∙ ap (λ (s : LinksState). s.ends.own) (sym c.self.view_is) ∙ sym from;
      to = frame.1 ∙ sym c.index-place.ensures.place ∙ sym goes;
    }

pub invariant_of-self : goal.invariant_of-self
invariant_of-self g c =
    let l : EndsState = record { own = c.self.inside.own; n = c.self.inside.n; lines = c.self.inside.inboxes.now } in
    let to : c.index-place.result < l.n = search rules in
    put_links l _ _ _ c.index-place.result c.index_mut.result.now c.put.new.pass c.self.invariant to c.index_mut.ensures.value (put_line c.put.result c.in-Some.message _ _ c.put.ensures)

pub invariant_of-self-in_default-put : goal.invariant_of-self-in_default-put
invariant_of-self-in_default-put g c =
    let l : EndsState = record { own = c.self.inside.own; n = c.self.inside.n; lines = c.self.inside.inboxes.now } in
    let to : c.index-place.result < l.n = search rules in
    put_links l _ _ _ c.index-place.result c.index_mut.result.now c.put.new.pass c.self.invariant to c.index_mut.ensures.value (put_line c.put.result c.in-Some.message _ _ c.put.ensures)
