use Rattle.std.proofs.Common.{◌≡◌, ◌∙◌, ap, length, refl, subst, sym}
use Rattle.std.proofs.lemmas.List.{length-map}
use Rattle.om_manager.specs.Outputs.{held_of}
use Rattle.om_manager.specs.State.{ManagerState, released_by}
use Rattle.om_worker_parts.proofs.manager_link.ManagerLink.released.Goals as goal

pub returns : goal.returns
returns g c =
    let p = c.args.self.now.pid in
    let many = ap length c.released-outputs.ensures.outputs in
    let mapped = length-map c.released-outputs.result.now held_of in
    let count : length c.released-outputs.result.now ≡ length (released_by c.manager-manager.result.now p) = sym mapped ∙ many in (
      _,
      _,
      c.manager-manager.ensures.sound,
      (subst (λ (m : ManagerState). length c.released-outputs.result.now ≡ length (released_by m p)) c.manager-manager.ensures.manager count, refl),
    )
