use Rattle.std.proofs.Common.{◌*◌, ◌<◌, rules, refl, sym, subst, length, arith, ◌∙◌}
use Rattle.std.specs.Prelude.{All, Contains}
use Rattle.std.proofs.lemmas.List.Elements.{All-contains_itself, All-take}
use Rattle.om_timeline.proofs.Thinning.{All-swap}
use Rattle.om_timeline.proofs.stage.thin.Goals as goal

pub thinned-init : goal.thinned-init
thinned-init c = record { some = All-contains_itself c.args.stages.now.items; many = refl }

pub thinned-preserved : goal.thinned-preserved
thinned-preserved c =
    let second : 2 * c.thinned.place < length c.thinned.stages.items = search rules in
    let first : c.thinned.place < length c.thinned.stages.items = omega (arith, second) in
    record {
      some = subst (All (Contains c.args.stages.now.items)) (sym c.swap.ensures.items)
          (All-swap (Contains c.args.stages.now.items) c.thinned.stages.items c.thinned.place (2 * c.thinned.place) first second c.thinned.invariant.some);
      many = c.swap.ensures.len ∙ c.thinned.invariant.many;
    }

pub returns : goal.returns
returns c =
    subst (All (Contains c.args.stages.now.items)) (sym c.truncate.ensures.items)
    (All-take (Contains c.args.stages.now.items) c.div_ceil-left.result c.thinned.stages.items c.thinned.invariant.some)
