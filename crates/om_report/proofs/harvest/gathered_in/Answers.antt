use Rattle.std.proofs.Common.{◌≡◌, ◌∙◌, ap, refl, subst, sym}
use Rattle.om_board.specs.Boards.{BoardState}
use Rattle.om_board.specs.Fronts.{front_of}
use Rattle.om_board.specs.declared.front.Front.{Front}
use Rattle.om_report.specs.Released.{AreAllReleased}
use Rattle.om_report.proofs.harvest.gathered_in.Goals as goal

pub returns-clause-released : goal.returns-clause-released
returns-clause-released g c =
    let same : c.pass-pass.new.self ≡ c.deref_mut-board.result.now = c.pass-pass.ensures.same ∙ c.all_met.ensures.same in
    let front : c.meet-front.result.0 ≡ front_of c.deref_mut-board.result.now.manager =
    c.meet-front.ensures.manager ∙ ap (λ (b : BoardState). front_of b.manager) same in
    subst (λ (f : Front). AreAllReleased f.vec c.in_ok-released.released.items) (sym front) c.in_ok-released.ensures.released

pub returns-clause-last : goal.returns-clause-last
returns-clause-last g c =
    let same : c.pass-pass.new.self ≡ c.deref_mut-board.result.now = c.pass-pass.ensures.same ∙ c.all_met.ensures.same in
    (_, _, c.manager.ensures.sound, (c.meet-front.ensures.manager ∙ ap (λ (b : BoardState). front_of b.manager) same, refl))
