use Rattle.std.proofs.Common.{◌≡◌, ◌≤◌, ◌∙◌, ◌++◌, ◌∷◌, [], ap, arith}
use Rattle.std.specs.Prelude.{Vec}
use Rattle.std.specs.declared.alloc.Global.{Global}
use Rattle.std.proofs.lemmas.Result.{IfOk-weaker}
use Rattle.om_process.specs.declared.limits.TheConstants.{LAST_INTERVAL}
use Rattle.om_timeline.specs.declared.deed.Deed.{Deed}
use Rattle.om_timeline.specs.declared.deed.Deed.TheVariants.{Ran}
use Rattle.om_world.specs.declared.event.Event.{Event}
use Rattle.om_world.specs.declared.event.Event.TheVariants as events
use Rattle.om_stored_timeline.specs.declared.following.Follower.{Follower}
use Rattle.om_stored_timeline.proofs.Resting.{told_as, told_lengths}
use Rattle.om_stored_timeline.proofs.telling.told_of.Goals as goal

pub told-requires : goal.told-requires
told-requires c =
    let f : Follower = c.follow.new.self in
    let es : c.in_ok-events.events.items ≡ f.events.items ++ events.Run c.args.process c.go_on-rest.result ∷ [] =
    c.in_ok-events.ensures.events ∙ ap (λ (v : Vec Event Global). v.items ++ events.Run c.args.process c.go_on-rest.result ∷ []) c.go_on-rest.ensures.events in
    let ds : c.in_ok-events.deeds.items ≡ f.deeds.items ++ Ran c.go_on-rest.result ∷ [] =
    c.in_ok-events.ensures.deeds ∙ ap (λ (v : Vec Deed Global). v.items ++ Ran c.go_on-rest.result ∷ []) c.go_on-rest.ensures.deeds in
    told_lengths c.new-follower.result f c.args.rows.now.items c.in_ok-events.events.items c.in_ok-events.deeds.items (events.Run c.args.process c.go_on-rest.result) (Ran c.go_on-rest.result)
    c.in_ok-follow.ensures c.new-follower.ensures.events c.new-follower.ensures.deeds es ds

pub returns : goal.returns
returns c =
    let f : Follower = c.follow.new.self in
    let es : c.in_ok-events.events.items ≡ f.events.items ++ events.Run c.args.process c.go_on-rest.result ∷ [] =
    c.in_ok-events.ensures.events ∙ ap (λ (v : Vec Event Global). v.items ++ events.Run c.args.process c.go_on-rest.result ∷ []) c.go_on-rest.ensures.events in
    let ds : c.in_ok-events.deeds.items ≡ f.deeds.items ++ Ran c.go_on-rest.result ∷ [] =
    c.in_ok-events.ensures.deeds ∙ ap (λ (v : Vec Deed Global). v.items ++ Ran c.go_on-rest.result ∷ []) c.go_on-rest.ensures.deeds in
    let low : c.args.begin ≤ LAST_INTERVAL = omega arith in
    IfOk-weaker c.told.result _ _ (λ t made held is.
    told_as held c.args.process c.args.n c.args.begin c.args.machine c.in_ok-first.first c.new-follower.result f c.args.rows.now.items c.go_on-rest.result c.in_ok-events.events.items c.in_ok-events.deeds.items t
    c.in_ok-follow.ensures low is c.new-follower.ensures.own c.new-follower.ensures.n c.new-follower.ensures.interval c.new-follower.ensures.machine c.new-follower.ensures.events c.new-follower.ensures.deeds
    c.go_on-rest.ensures.rest es ds c.in_ok-first.ensures made) c.told.ensures
