use Rattle.std.proofs.Common.{◌≡◌, ◌<◌, ◌∙◌, inr, ap, arith}
use Rattle.std.proofs.lemmas.Bool.Decides.{nat_tests}
use Rattle.om_process.specs.Core.{cluster_size}
use Rattle.om_process.proofs.Fitting.{passed}
use Rattle.om_process.proofs.proc_core.ProcCore.may_take.Goals as goal

pub returns-then-receipt-get-clause-no : goal.returns-then-receipt-get-clause-no
returns-then-receipt-get-clause-no c =
    let count : c.count.result ≡ c.args.self.now.now.machine.count = c.count.ensures ∙ ap (λ s. s.now.machine.count) c.self.view_is in
    λ late.
    let below : c.args.receipt.now.count < c.count.result = grind (arith, nat_tests) in
    inr (inr (inr (passed c.args.self.now.own (cluster_size c.args.self.now.now) c.args.receipt.now.count c.args.self.now.now (omega arith))))
