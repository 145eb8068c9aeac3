use Rattle.std.proofs.Common.{◌<◌, length, sym, ◌∙◌, arith}
use Rattle.std.proofs.lemmas.List.{get_or_default, get_or-take}
use Rattle.om_machine.proofs.machine.Machine.number.Goals as goal

pub returns-clause-number : goal.returns-clause-number
returns-clause-number c =
    let regs = c.self.inside.regs.items in
    let within : c.args.r < length regs = omega (arith, c.self.invariant.registers, c.requires) in
    rw (← c.self.view_is) (c.index.ensures ∙ get_or_default regs c.args.r c.index.result.now 0 within ∙ sym (get_or-take 32 regs c.args.r 0 c.requires))
