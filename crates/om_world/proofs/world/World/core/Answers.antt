use Rattle.std.proofs.Common.{◌≡◌, Some, arith, refl, rules, subst}
use Rattle.std.specs.Prelude.{slice_get}
use Rattle.om_world.specs.steps.Members.{health_of}
use Rattle.om_world.proofs.Lists.{if_none, if_some, lent_at}
use Rattle.om_world.proofs.Seats.{core_at, core_here, no_core_at}
use Rattle.om_world.proofs.Standing.{core_of}
use Rattle.om_world.proofs.world.World.core.Goals as goal

pub get-requires : goal.get-requires
get-requires g c = λ k. (refl, tt)

pub returns-in-Some-clause-some : goal.returns-in-Some-clause-some
returns-in-Some-clause-some g c =
    let read = c.in-Some.ensures.lookup in
    let at = subst (λ q. slice_get c.self.inside.members.items q ≡ Some c.in-Some.member.now) c.index.ensures.place (subst (λ l. slice_get l c.index.result ≡ Some c.in-Some.member.now) c.deref.ensures.value (lent_at c.deref.result.now c.index.result c.in-Some.member.now read.3.0 read.1)) in
    if_some c.core.result _ _ (λ core is. core_at g.S.Stable.content (health_of g.S.Stable.is_clean g.S.Stable.failed) g.S.Stable.IsSound _ _ _ _ _ _ c.args.pid _ at _ core.now c.self.view_is is) c.core.ensures.some

pub returns-in-Some-clause-own : goal.returns-in-Some-clause-own
returns-in-Some-clause-own g c =
    let read = c.in-Some.ensures.lookup in
    let at = subst (λ q. slice_get c.self.inside.members.items q ≡ Some c.in-Some.member.now) c.index.ensures.place (subst (λ l. slice_get l c.index.result ≡ Some c.in-Some.member.now) c.deref.ensures.value (lent_at c.deref.result.now c.index.result c.in-Some.member.now read.3.0 read.1)) in
    if_some c.core.result _ _ (λ core is. (core_of _ _ _ _ c.args.pid core.now c.self.invariant c.self.view_is (core_at g.S.Stable.content (health_of g.S.Stable.is_clean g.S.Stable.failed) g.S.Stable.IsSound _ _ _ _ _ _ c.args.pid _ at _ core.now c.self.view_is is)).own) c.core.ensures.some

pub returns-in-Some-clause-size : goal.returns-in-Some-clause-size
returns-in-Some-clause-size g c =
    let read = c.in-Some.ensures.lookup in
    let at = subst (λ q. slice_get c.self.inside.members.items q ≡ Some c.in-Some.member.now) c.index.ensures.place (subst (λ l. slice_get l c.index.result ≡ Some c.in-Some.member.now) c.deref.ensures.value (lent_at c.deref.result.now c.index.result c.in-Some.member.now read.3.0 read.1)) in
    if_some c.core.result _ _ (λ core is. (core_of _ _ _ _ c.args.pid core.now c.self.invariant c.self.view_is (core_at g.S.Stable.content (health_of g.S.Stable.is_clean g.S.Stable.failed) g.S.Stable.IsSound _ _ _ _ _ _ c.args.pid _ at _ core.now c.self.view_is is)).size) c.core.ensures.some

pub returns-in-Some-clause-none : goal.returns-in-Some-clause-none
returns-in-Some-clause-none g c =
    let read = c.in-Some.ensures.lookup in
    let at = subst (λ q. slice_get c.self.inside.members.items q ≡ Some c.in-Some.member.now) c.index.ensures.place (subst (λ l. slice_get l c.index.result ≡ Some c.in-Some.member.now) c.deref.ensures.value (lent_at c.deref.result.now c.index.result c.in-Some.member.now read.3.0 read.1)) in
    if_none c.core.result _ _ (λ is core there. no_core_at g.S.Stable.content (health_of g.S.Stable.is_clean g.S.Stable.failed) g.S.Stable.IsSound _ _ _ _ _ _ c.args.pid _ at _ core c.self.view_is is there) c.core.ensures.none

pub returns-in-None-clause-none : goal.returns-in-None-clause-none
returns-in-None-clause-none g c = λ core there.
    let lt = core_here g.S.Stable.content (health_of g.S.Stable.is_clean g.S.Stable.failed) g.S.Stable.IsSound _ _ _ _ _ _ c.args.pid _ _ c.self.view_is there in
    search (rules, arith)
