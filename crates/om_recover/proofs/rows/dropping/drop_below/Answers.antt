use Rattle.std.proofs.Common.{◌≡◌, ◌∙◌, refl, ap, arith, is_some, true}
use Rattle.om_recover.proofs.PlaceLemmas.{apart_places}
use Rattle.om_recover.proofs.DroppingLemmas.{none_of}
use Rattle.om_recover.proofs.rows.dropping.drop_below.Goals as goal

pub loop-x-init : goal.loop-x-init
loop-x-init g c = record { left = record { sorted = c.requires; kept = λ q y _. refl } }

pub loop-x-preserved-in-Some : goal.loop-x-preserved-in-Some
loop-x-preserved-in-Some g c =
    let updates = c.remove.ensures.updates in
    let below = c.in-Some.ensures.below in
    record {
      left = record {
        sorted = c.remove.ensures.ordered;
        kept = λ q y beside.
            updates.2 (q, y) (apart_places c.args.pid c.in-Some.x q y (λ own here. beside own (omega (arith, here, below)))) ∙ c.loop-x.invariant.left.kept q y beside;
      };
    }

pub loop-x-smaller : goal.loop-x-smaller
loop-x-smaller g c =
    let gone : is_some c.remove.result ≡ true = ap is_some c.remove.ensures.value ∙ c.in-Some.ensures.there in
    omega (arith, rw gone at c.remove.ensures.len)

pub returns : goal.returns
returns g c = record {
  sorted = c.loop-x.invariant.left.sorted;
  dropped = λ y below. none_of _ (λ some. c.in_default.ensures y some below);
  kept = c.loop-x.invariant.left.kept;
}
