use Rattle.std.proofs.Common.{◌≡◌, ◌+◌, ◌++◌, ◌∷◌, [], Some, ap, length, map, refl, rules, sym, ◌∙◌}
use Rattle.std.proofs.lemmas.Option.{get_or_from_slice_get, slice_get_read, slice_get_within}
use Rattle.std.specs.Prelude.{slice_get}
use Rattle.om_board.proofs.ListLemmas.{map_get}
use Rattle.om_manager.specs.Outputs.{held_of}
use Rattle.om_manager.specs.declared.output_log.Output.{Output}
use Rattle.om_following.proofs.FollowLemmas.{more_next, more_none, more_same}
use Rattle.om_following.proofs.following.add_new.Goals as goal

pub loop-i-init : goal.loop-i-init
loop-i-init c = record { at = refl; more = more_none (map held_of c.args.released.now) c.args.lane.now }

pub returns-in_err-push_back-clause-more : goal.returns-in_err-push_back-clause-more
returns-in_err-push_back-clause-more c =
    more_same (map held_of c.args.released.now) c.args.lane.now c.loop-i.lane _ c.loop-i.invariant.more (search rules) refl

pub loop-i-preserved : goal.loop-i-preserved
loop-i-preserved c =
    let released = c.args.released.now in
    let i = c.loop-i.i in
    let o = c.in_ok-copy_of.field-0 in
    let from = c.index-released-i.result in
    let at : slice_get released i ≡ Some from = slice_get_read released (length released) i from refl (search rules) c.index-released-i.is in
    let number : from.seq ≡ i = ap (λ (x : Output). x.seq) (sym (get_or_from_slice_get released i from from at)) ∙ c.requires i from (slice_get_within released i from at) in
    let here : i ≡ c.loop-i.lane.copied = sym c.loop-i.invariant.at in
    let held : slice_get (map held_of released) c.loop-i.lane.copied ≡ Some (held_of o) =
    ap (slice_get (map held_of released)) c.loop-i.invariant.at ∙ map_get held_of released i from at ∙ ap Some (sym c.in_ok-copy_of.ensures.held) in
    let pushed : c.push_back.new.self.items ≡ c.loop-i.lane.fresh.items ++ o ∷ [] = search rules in
    record {
      at = search rules;
      more = more_next (map held_of released) c.args.lane.now c.loop-i.lane _ o c.loop-i.invariant.more pushed (ap (λ k. k + 1) here) (c.in_ok-copy_of.ensures.seq ∙ number ∙ here) held;
    }
