use Rattle.std.proofs.Common.{◌≡◌, ◌∙◌, Some, inl, inr, refl, sym, ap, subst, slice_set}
use Rattle.std.specs.Vec.{with_item}
use Rattle.om_recover.specs.steps.Nearest.{at}
use Rattle.om_recover.specs.steps.Bases.{IsStored}
use Rattle.om_recover.specs.declared.rows.trees.Base.{Base}
use Rattle.om_recover.specs.declared.rows.trees.Bases.{Bases}
use Rattle.om_recover.proofs.BaseLemmas.{newest_at, no_newest_at, some_base_at}
use Rattle.om_recover.proofs.BaseStepLemmas.{set_in_newest, set_in_tree, slot_is}
use Rattle.om_recover.proofs.rows.storing.set_last.Goals as goal

pub set_other_last-requires : goal.set_other_last-requires
set_other_last-requires c =
    let none = rw c.deref.ensures.value at (c.if-is_newest.ensures.none refl) in
    elim (some_base_at c.args.bases.now c.args.pid c.args.x c.requires.there) [ inl newest ↦ absurd (none newest.0 newest.1) | inr some ↦ some ]

pub returns-then-is_newest : goal.returns-then-is_newest
returns-then-is_newest c = λ base is.
    let own = rw c.deref.ensures.value at (c.if-is_newest.ensures.yes refl) in
    let read : Some own.0 ≡ Some base = sym (newest_at c.args.bases.now c.args.pid c.args.x own.0 own.1) ∙ is in
    let same : own.0 ≡ base = cc in
    let value = λ (b : Base). record b { last = c.args.last } in
    let slot = slot_is c.args.bases.now.newest.items c.args.pid c.index.result c.args.x own.0 c.index_mut.result.now c.index.ensures.place own.1 c.index_mut.ensures.value in
    let after : Bases = record { newest = with_item c.args.bases.now.newest c.index.result c.set_newest_last.new.slot; others = c.args.bases.now.others } in
    subst (λ (b : Base). IsStored c.args.bases.now after c.args.pid c.args.x (value b)) same
    (set_in_newest c.args.bases.now after c.args.pid c.args.x own.0 (value own.0) c.requires.bases own.1
    (ap (λ i. slice_set c.args.bases.now.newest.items i c.set_newest_last.new.slot) c.index.ensures.place ∙ ap (slice_set c.args.bases.now.newest.items c.args.pid) (c.set_newest_last.ensures c.args.x own.0 slot)) refl)

pub returns-else-is_newest : goal.returns-else-is_newest
returns-else-is_newest c = λ base is.
    let none = rw c.deref.ensures.value at (c.if-is_newest.ensures.none refl) in
    let there : at c.args.bases.now.others.entries c.args.pid c.args.x ≡ Some base = sym (no_newest_at c.args.bases.now c.args.pid c.args.x none) ∙ is in
    let after : Bases = record { newest = c.args.bases.now.newest; others = c.set_other_last.new.others } in
    set_in_tree c.args.bases.now after c.args.pid c.args.x base (record base { last = c.args.last }) c.requires.bases none there refl (c.set_other_last.ensures base there)
