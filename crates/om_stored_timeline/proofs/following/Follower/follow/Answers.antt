use Rattle.std.proofs.Common.{◌≡◌, ◌+◌, ◌<◌, false, true, length, get_or, rules, subst}
use Rattle.om_stored_timeline.specs.declared.following.Follower.{Follower}
use Rattle.om_stored_timeline.specs.steps.Walking.{IsTakenIn, IsUnfit}
use Rattle.om_stored_timeline.proofs.Going.{along_more, led_unfit}
use Rattle.om_stored_timeline.proofs.following.Follower.follow.Goals as goal

pub returns-then-not-branch : goal.returns-then-not-branch
returns-then-not-branch c =
    let f : Follower = c.loop-y.self in
    let item = c.loop-y-item.result in
    let within : c.loop-y.y-index < length c.args.rows.now.items = search rules in
    let is : item ≡ get_or c.args.rows.now.items c.loop-y.y-index item = search rules in
    let follows : item.0 ≡ f.interval + 1 = search rules in
    let no : c.in_ok-take.field-0 ≡ false = search rules in
    let unfit : IsUnfit f.alone.own f.alone.n f.alone.machine item.0 item.1.items =
    subst (IsUnfit f.alone.own f.alone.n f.alone.machine item.0) c.deref.ensures.value (c.in_ok-take.ensures.unfit no) in
    led_unfit c.args.self.now f c.take.new.self c.args.rows.now.items c.loop-y.y-index item c.loop-y.invariant.along c.loop-y.invariant.here within is follows unfit (c.in_ok-take.ensures.gone no)

pub loop-y-preserved : goal.loop-y-preserved
loop-y-preserved c =
    let f : Follower = c.loop-y.self in
    let item = c.loop-y-item.result in
    let within : c.loop-y.y-index < length c.args.rows.now.items = search rules in
    let is : item ≡ get_or c.args.rows.now.items c.loop-y.y-index item = search rules in
    let follows : item.0 ≡ f.interval + 1 = search rules in
    let yes : c.in_ok-take.field-0 ≡ true = search rules in
    let taken : IsTakenIn f item.0 item.1.items c.take.new.self = subst (λ bs. IsTakenIn f item.0 bs c.take.new.self) c.deref.ensures.value (c.in_ok-take.ensures.taken yes) in
    record {
      along = along_more c.args.self.now f c.take.new.self c.args.rows.now.items c.loop-y.y-index item c.loop-y.invariant.along c.loop-y.invariant.here within is follows taken;
      here = record { still = taken.done };
    }
