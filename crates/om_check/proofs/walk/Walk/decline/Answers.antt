use Rattle.std.proofs.Common.{refl}
use Rattle.om_check.proofs.Excluding.{all_excluded_more, moved_lists}
use Rattle.om_check.proofs.walk.Walk.decline.Goals as goal

pub invariant_of-self : goal.invariant_of-self
invariant_of-self c = moved_lists _ _ _ _ c.in_err-try_reserve.ensures.items refl c.self.invariant

pub invariant_of-self-in_err-try_reserve-2 : goal.invariant_of-self-in_err-try_reserve-2
invariant_of-self-in_err-try_reserve-2 c =
    moved_lists _ _ _ _ c.in_ok-try_reserve.ensures.items c.in_err-try_reserve-2.ensures.items c.self.invariant

pub invariant_of-self-2 : goal.invariant_of-self-2
invariant_of-self-2 c =
    moved_lists _ _ _ _ c.push_reserved.ensures.items c.push_reserved-2.ensures.items
    (all_excluded_more _ _ c.args.from c.args.to (moved_lists _ _ _ _ c.in_ok-try_reserve.ensures.items c.in_ok-try_reserve-2.ensures.items c.self.invariant))
