use Rattle.std.proofs.Common.{ap, ◌∙◌, subst, take}
use Rattle.om_stable.specs.Content.{bytes_of}
use Rattle.om_process.specs.steps.Pieces.{SpellLog}
use Rattle.om_process.proofs.Logging.{first_carried, recorded}
use Rattle.om_process.proofs.proc_core.ProcCore.hand_over.Goals as goal

pub returns-clause-carries : goal.returns-clause-carries
returns-clause-carries c =
    let due = c.first_of.ensures ∙ ap (take c.args.k) c.deref.ensures.value in
    let spell = subst (λ ls. SpellLog ls (bytes_of c.in_ok-receipts.receipts.items)) (recorded c.args.self.now c.self.inside.log.items c.first_of.result.now c.args.k (ap (λ s. s.log) c.self.view_is) due) c.in_ok-receipts.ensures in
    record {
      spelled = spell;
      first = first_carried c.args.k c.args.self.now (bytes_of c.in_ok-receipts.receipts.items) c.first_logged-first.result spell c.first_logged-first.ensures;
      checkpoint = c.in_ok-checkpoint.ensures;
    }
