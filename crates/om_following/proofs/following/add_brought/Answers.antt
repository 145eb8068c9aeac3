use Rattle.std.proofs.Common.{◌≡◌, ◌≤◌, ◌∙◌, Some, ap, arith, length, map, refl, rules, subst, sym}
use Rattle.std.proofs.lemmas.Option.{slice_get_read, slice_get_within}
use Rattle.std.specs.Prelude.{slice_get}
use Rattle.om_manager.specs.Outputs.{AreNumbered, held_of}
use Rattle.om_following.proofs.FollowLemmas.{copied_next, lanes_more, lanes_none, not_reached}
use Rattle.om_following.specs.steps.Lanes.{IsMore, held_at, held_in}
use Rattle.om_following.proofs.following.add_brought.Goals as goal

pub loop-p-init : goal.loop-p-init
loop-p-init c = record {
  many = refl;
  more = lanes_none (held_in c.args.brought.now) c.args.lanes.now.items;
  later = λ q le. refl;
  all = λ q low lane lt here there. absurd (omega arith);
}

pub add_new-requires : goal.add_new-requires
add_new-requires c =
    let brought = c.args.brought.now in
    let p = c.loop-p.p in
    let from = c.index-brought-p.result in
    let there : slice_get brought p ≡ Some from = slice_get_read brought (length brought) p from refl (search rules) c.index-brought-p.is in
    subst AreNumbered (sym c.deref.ensures.value) (c.requires.numbered p from there)

pub returns-in_err-add_new-clause-more : goal.returns-in_err-add_new-clause-more
returns-in_err-add_new-clause-more c =
    let brought = c.args.brought.now in
    let first = c.args.lanes.now.items in
    let lanes = c.loop-p.lanes.items in
    let p = c.loop-p.p in
    let old = c.index_mut.result.now in
    let new = c.add_new.new.lane in
    let from = c.index-brought-p.result in
    let at : slice_get lanes p ≡ Some old = slice_get_read lanes (length lanes) p old refl (search rules) c.index_mut.ensures.value in
    let there : slice_get brought p ≡ Some from = slice_get_read brought (length brought) p from refl (search rules) c.index-brought-p.is in
    let begun : slice_get first p ≡ Some old = sym (c.loop-p.invariant.later p (omega arith)) ∙ at in
    let held : map held_of c.deref.result.now ≡ held_in brought p = ap (map held_of) c.deref.ensures.value ∙ ap held_at (sym there) in
    lanes_more (held_in brought) first lanes p old new at begun (subst (λ hs. IsMore hs old new) held c.add_new.ensures.more) c.loop-p.invariant.more

pub loop-p-preserved : goal.loop-p-preserved
loop-p-preserved c =
    let brought = c.args.brought.now in
    let first = c.args.lanes.now.items in
    let lanes = c.loop-p.lanes.items in
    let p = c.loop-p.p in
    let old = c.index_mut.result.now in
    let new = c.add_new.new.lane in
    let from = c.index-brought-p.result in
    let at : slice_get lanes p ≡ Some old = slice_get_read lanes (length lanes) p old refl (search rules) c.index_mut.ensures.value in
    let there : slice_get brought p ≡ Some from = slice_get_read brought (length brought) p from refl (search rules) c.index-brought-p.is in
    let begun : slice_get first p ≡ Some old = sym (c.loop-p.invariant.later p (omega arith)) ∙ at in
    let held : map held_of c.deref.result.now ≡ held_in brought p = ap (map held_of) c.deref.ensures.value ∙ ap held_at (sym there) in
    let more : length from.items ≤ new.copied = subst (λ os. length os ≤ new.copied) c.deref.ensures.value c.in_ok-add_new.ensures.all in
    record {
      many = search rules;
      more = lanes_more (held_in brought) first lanes p old new at begun (subst (λ hs. IsMore hs old new) held c.add_new.ensures.more) c.loop-p.invariant.more;
      later = not_reached first lanes p new c.loop-p.invariant.later;
      all = copied_next brought lanes p from old new there at more c.loop-p.invariant.all;
    }

pub returns-clause-all : goal.returns-clause-all
returns-clause-all c = λ q low lane here there.
    let within = slice_get_within c.args.brought.now q low here in
    c.loop-p.invariant.all q low lane (omega arith) here there
