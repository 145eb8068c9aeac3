use Rattle.std.proofs.Common.{◌≡◌, ◌≤◌, ◌∙◌, arith, length, refl}
use Rattle.om_interval.specs.declared.pid.TheConstants.{MAX_PROCESSES}
use Rattle.om_picture.proofs.DrawLemmas.{new_sketch}
use Rattle.om_picture.proofs.picture.Picture.new.Goals as goal

pub returns : goal.returns
returns c =
    let count : c.n.result ≡ length c.args.recovery = c.n.ensures.places in
    let few : c.n.result ≤ MAX_PROCESSES = c.n.ensures.within in
    let most : length c.args.recovery ≤ MAX_PROCESSES = omega arith in
    let x : c.new.result.x ≡ c.left_side-left.result = c.new.ensures.x in
    let right : c.new.result.right ≡ c.left_side-left.result = c.new.ensures.right in
    new_sketch _ _ _ _ _ c.new-3.ensures.items (c.in_ok-histories.ensures.lanes ∙ c.n.ensures.places) c.in_ok-histories.ensures.new most
    refl (let same : c.new.result.x ≤ c.new.result.right = omega arith in same)
    (let near : c.new.result.right ≤ 248 = (let h = c.left_side-left.ensures.most in omega arith) in near)
