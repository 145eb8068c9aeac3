use Rattle.std.proofs.Common.{rules, ℕ, ◌≡◌, ◌≤◌, sym, ap, ◌∙◌, subst}
use Rattle.om_timeline.specs.declared.deed.Deed.{Deed}
use Rattle.om_timeline.specs.declared.deed.Deed.TheVariants.{Ran}
use Rattle.om_timeline.specs.Deeds.{after_deed, turns_in}
use Rattle.om_timeline.proofs.Turning.{rest_of}
use Rattle.om_timeline.proofs.alone.Alone.finish.Goals as goal

pub returns-in-Ran-clause-finished : goal.returns-in-Ran-clause-finished
returns-in-Ran-clause-finished c = λ m gone.
    let own : ℕ = c.args.self.now.own in
    let n : ℕ = c.args.self.now.n in
    let turns : ℕ = c.in-Ran.turns in
    let is : c.args.deed.now ≡ Ran turns = search rules in
    let within : c.args.done ≤ turns = subst (λ (d : Deed). c.args.done ≤ turns_in d) is c.requires in
    rest_of own n c.args.done turns m c.args.self.now.machine c.go.new.self.machine within gone c.go.ensures.turns ∙ ap (after_deed own n m) (sym is)
