use Rattle.std.proofs.Common.{◌≡◌, ◌∷◌, [], ◌++◌, ap, sym, subst, arith, length, refl}
use Rattle.std.proofs.lemmas.List.{length_push}
use Rattle.std.proofs.lemmas.Slice.{pushed}
use Rattle.om_picture.specs.steps.Adding.{AreNew}
use Rattle.om_picture.proofs.DrawLemmas.{new_more}
use Rattle.om_picture.proofs.picture.new_histories.Goals as goal

pub loop-preserved : goal.loop-preserved
loop-preserved c =
    let now : c.push.new.self.items ≡ c.loop.histories.items ++ c.new.result ∷ [] =
    pushed (c.new.result ∷ []) refl c.in_ok-push.was c.push.ensures.items in
    let long = length_push c.loop.histories.items c.new.result in
    let same = ap (λ (l : _). length l) now in
    record {
      new = subst AreNew (sym now) (new_more c.loop.histories.items c.new.result c.loop.invariant.new c.new.ensures);
      count = omega arith;
    }
