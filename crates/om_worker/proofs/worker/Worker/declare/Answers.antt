use Rattle.std.proofs.Common.{ℕ, ◌∙◌, refl, subst, sym}
use Rattle.om_worker_parts.specs.Acts.{HasDeclared}
use Rattle.om_report.specs.Locks.{UnderLock}
use Rattle.om_worker.proofs.worker.Worker.declare.Goals as goal

pub returns-clause-turned : goal.returns-clause-turned
returns-clause-turned g c =
    let w = c.args.self.now in (
      refl,
      subst (λ (p : ℕ). UnderLock g.K.Naming.cell.n (λ before after. HasDeclared before.manager p w.manager_link.round after.manager)) (sym (c.requires ∙ w.linked)) c.in_ok-pass.ensures.declared,
    )
