use Rattle.std.proofs.Common.{rules, ◌≡◌, ◌-◌, ◌*◌, ◌/◌, ◌%◌, ◌∙◌, ap, sym, arith, length, slice_get}
use Rattle.om_interval.proofs.LineLemmas.{some_at, own_at}
use Rattle.om_interval.proofs.shared_blocks.SharedBlocks.get.Goals as goal

pub returns-in-Some : goal.returns-in-Some
returns-in-Some c =
    let read = rw c.deref.ensures.value at c.in-Some.ensures.lookup in
    c.number_at.ensures
    ∙ ap (λ items. slice_get items (c.args.place % 1024)) (c.deref-in-Some-2.ensures.value ∙ ap (λ v. v.items) c.deref-in-Some.ensures)
    ∙ sym (some_at c.self.inside.shared.items c.self.inside.own.items c.args.place (c.args.place / 1024) (c.args.place % 1024) c.in-Some.block.now c.self.invariant (omega arith) (omega arith) (search rules) read.1)
    ∙ ap (λ starts. slice_get starts c.args.place) c.self.view_is

pub returns-in-None : goal.returns-in-None
returns-in-None c =
    let past = rw c.deref.ensures.value at c.in-None.ensures.lookup in
    let blocks : c.len.result ≡ length c.self.inside.shared.items = search rules in
    c.number_at-in-None.ensures
    ∙ ap (λ items. slice_get items (c.args.place - c.len.result * 1024)) c.deref-in-None.ensures.value
    ∙ ap (λ n. slice_get c.self.inside.own.items (c.args.place - n * 1024)) blocks
    ∙ sym (own_at c.self.inside.shared.items c.self.inside.own.items c.args.place c.self.invariant (omega (arith, past)))
    ∙ ap (λ starts. slice_get starts c.args.place) c.self.view_is
