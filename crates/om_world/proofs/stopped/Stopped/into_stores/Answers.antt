use Rattle.std.proofs.Common.{◌≡◌, IfOk, Result, Ok, Err, List, [], ◌∷◌, map, refl, ap, ◌∙◌}
use Rattle.om_member.specs.declared.member.Member.{Member}
use Rattle.om_stable.specs.Content.{Content}
use Rattle.om_world.specs.World.{WorldState}
use Rattle.om_world.specs.steps.Members.{content_in, store_in}
use Rattle.om_world.proofs.stopped.Stopped.into_stores.Goals as goal

if_ok : {T E : Type 0} (r : Result T E) (P Q : T → Type 0) → ((x : T) → P x → Q x) → IfOk r P → IfOk r Q
if_ok (Ok x) P Q more p = more x p
if_ok (Err e) P Q more p = tt

same_contents : {S : Type 0} (content : S → Content) (members : List (Member S)) → map content (map store_in members) ≡ map (content_in content) members
same_contents content [] = refl
same_contents content (m ∷ members) = ap (λ cs. content m.store ∷ cs) (same_contents content members)

pub returns : goal.returns
returns g c =
    if_ok c.stores_of.result _ _
    (λ stores all. ap (map g.S.Stable.content) all ∙ same_contents g.S.Stable.content c.self.inside.members.items ∙ ap (λ (w : WorldState). w.contents) c.self.view_is) c.stores_of.ensures
