use Rattle.std.proofs.Common.{◌≡◌, ap, ◌∙◌, subst, rules}
use Rattle.std.specs.Prelude.{nat_le, filter}
use Rattle.om_stable.specs.Content.{between}
use Rattle.om_tables.specs.Cached.{Covers, IsOf}
use Rattle.om_tables.specs.declared.caching_ledger.Cache.TheVariants.{Holds}
use Rattle.om_tables.proofs.CachedLemmas.{Row, narrowed}
use Rattle.om_tables.proofs.caching_ledger.Cache.take.Goals as goal

pub returns-in-Holds-clause-found : goal.returns-in-Holds-clause-found
returns-in-Holds-clause-found c = λ held kept.
    let cached = c.in-Holds.cached in
    let is : c.args.self.now ≡ Holds cached = search rules in
    let of_it : IsOf held (Holds cached) = subst (λ cache. IsOf held cache) is kept in
    let covers : Covers (Holds cached) c.args.after c.args.to = subst (λ cache. Covers cache c.args.after c.args.to) is (search rules) in
    c.up_to.ensures
    ∙ ap (λ rows. filter (λ (e : Row). nat_le e.0 c.args.to) rows) of_it
    ∙ narrowed held cached.after c.args.to cached.to covers.1
    ∙ ap (λ after. between held after c.args.to) covers.0
