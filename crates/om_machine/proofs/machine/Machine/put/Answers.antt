use Rattle.std.proofs.Common.{◌≡◌, false, refl, arith, ◌∙◌}
use Rattle.std.specs.Prelude.{nat_eq}
use Rattle.std.proofs.lemmas.List.{length-set}
use Rattle.om_machine.proofs.Storing.{not_zero, stored_put, put_written}
use Rattle.om_machine.proofs.machine.Machine.put.Goals as goal

pub invariant_of-self : goal.invariant_of-self
invariant_of-self c =
    let m = c.self.inside in
    let other : nat_eq c.args.rd 0 ≡ false = not_zero c.args.rd c.if-rd-ne0.true (nat_eq c.args.rd 0) refl in
    record {
      machine = stored_put m.regs.items m.memory.items m.pc m.count m.ext c.args.rd c.args.value c.requires other c.self.invariant.machine (omega arith);
      registers = length-set m.regs.items c.args.rd c.args.value ∙ c.self.invariant.registers;
      table = c.self.invariant.table;
      knows = c.self.invariant.knows;
      touches = c.self.invariant.touches;
    }

pub returns-then-rd-ne0-clause-state : goal.returns-then-rd-ne0-clause-state
returns-then-rd-ne0-clause-state c =
    let m = c.self.inside in
    let other : nat_eq c.args.rd 0 ≡ false = not_zero c.args.rd c.if-rd-ne0.true (nat_eq c.args.rd 0) refl in
    rw (← c.self.view_is) (put_written m.regs.items m.memory.items m.pc m.count m.ext c.args.rd c.args.value c.requires other)
