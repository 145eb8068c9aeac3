use Rattle.std.proofs.Common.{refl, arith}
use Rattle.om_recover.proofs.MemoryLemmas.{maximum_step, maximum_whole}
use Rattle.om_recover.proofs.search.climb.maximum.Goals as goal

pub loop-p-init : goal.loop-p-init
loop-p-init c = record { places = refl; before = λ k less. absurd (omega (arith, less)); behind = λ k past. refl }

pub join_tag-requires : goal.join_tag-requires
join_tag-requires c = omega (arith, c.at-q.ensures, c.loop-p-test.true, c.n-p-end.ensures.places, c.loop-p.invariant.places)

pub loop-p-preserved : goal.loop-p-preserved
loop-p-preserved c = maximum_step _ _ _ _ _ _ _ (omega (arith, c.loop-p-test.true, c.n-p-end.ensures.places)) c.at-q.ensures c.get.ensures c.join_tag.ensures c.loop-p.invariant

pub returns : goal.returns
returns c = maximum_whole _ _ _ _ c.requires (omega (arith, c.loop-p-test.false, c.n-p-end.ensures.places)) c.loop-p.invariant
