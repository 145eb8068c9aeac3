use Rattle.std.proofs.Common.{◌≡◌, ◌∙◌, ap, sym}
use Rattle.std.specs.Prelude.{None}
use Rattle.om_isa.specs.derived.Decoded.{decoded}
use Rattle.om_machine.specs.State.{word_at}
use Rattle.om_look.proofs.TurnLemmas.{traps_illegal, traps_outside}
use Rattle.om_look.proofs.tracing.about_to_do.Goals as goal

pub returns-in_err-word-clause-none : goal.returns-in_err-word-clause-none
returns-in_err-word-clause-none c =
    rw c.from_residual.ensures (traps_outside c.args.machine.now c.in_err-word.ensures.outside)

pub returns-in_err-inst-clause-none : goal.returns-in_err-inst-clause-none
returns-in_err-inst-clause-none c =
    let m = c.args.machine.now in
    let word : c.in_ok-word.word ≡ word_at m.memory m.pc = c.in_ok-word.ensures.word in
    let ext : c.ext.result ≡ m.ext = c.ext.ensures in
    let none : decoded m.ext (word_at m.memory m.pc) ≡ None = sym (ap (λ w. decoded m.ext w) word) ∙ sym (ap (λ e. decoded e c.in_ok-word.word) ext) ∙ sym c.decode.ensures.function ∙ c.in_err-inst.was in
    rw c.from_residual-in_err-inst.ensures (traps_illegal m none)
