use Rattle.std.proofs.Common.{rules, ◌≡◌, ◌-◌, length, drop, max, ap, ◌∙◌, arith}
use Rattle.std.specs.Prelude.{min}
use Rattle.std.proofs.lemmas.List.{length-drop, take_all}
use Rattle.om_format.specs.Queues.{QueueRecord}
use Rattle.om_process.specs.Kept.{made_as, numbered}
use Rattle.om_process.proofs.Numbering.{numbered_from}
use Rattle.om_process.proofs.queues.Outputs.above.Goals as goal

pub returns : goal.returns
returns c =
    let before = c.min-before.result in
    let is : before ≡ min (c.args.seq - c.self.inside.first) (length c.self.inside.kept) = search rules in
    let all = c.as_slice.result.now in
    let same : all ≡ c.self.inside.kept = c.as_slice.ensures in
    let left : length (drop before all) ≡ length all - before = length-drop before all in
    take_all (length all - before) (drop before all) (omega arith)
    ∙ ap (drop before) same
    ∙ numbered_from made_as c.self.inside.first c.args.seq before c.self.inside.kept _ c.self.invariant.numbers is
    ∙ ap (λ (q : QueueRecord). numbered made_as (max q.first c.args.seq) (drop (c.args.seq - q.first) q.entries)) c.self.view_is
