use Rattle.std.proofs.Common.{◌+◌, ◌/◌, ◌≤◌, length, subst, sym, arith}
use Rattle.om_machine.specs.State.{State, written}
use Rattle.om_machine.proofs.Keeping.{each_fits, keeps_written}
use Rattle.om_machine.proofs.Knowing.{knows_written, table_written, touches_written}
use Rattle.om_machine.proofs.machine.Machine.write_all.Goals as goal

pub mark-requires : goal.mark-requires
mark-requires c =
    let inside : c.args.address + length c.args.bytes.now ≤ length c.self.inside.memory.items = subst (λ (s : State). c.args.address + length c.args.bytes.now ≤ length s.memory) (sym c.self.view_is) c.requires in
    record { ordered = omega arith; inside = omega (arith, c.self.invariant.touches.pages) }

pub invariant_of-self : goal.invariant_of-self
unfolding written
invariant_of-self c =
    let address = c.args.address in
    let bytes = c.args.bytes.now in
    let inside : address + length bytes ≤ length c.self.inside.memory.items = subst (λ (s : State). address + length bytes ≤ length s.memory) (sym c.self.view_is) c.requires in
    let fit = each_fits 256 bytes (λ i. (c.type_inv.bytes i).fits) in
    rw c.overwrite.ensures (record {
      machine = keeps_written _ address bytes c.self.invariant.machine inside fit;
      registers = c.self.invariant.registers;
      table = table_written c.self.inside.memory.items address bytes _ (c.forget.ensures.table (length c.self.inside.memory.items) c.self.invariant.table) inside;
      knows = knows_written _ _ address bytes c.self.inside.table.items _ (address / 4) ((address + length bytes + 3) / 4) c.self.invariant.knows c.forget.ensures.forgets inside (omega arith) (omega arith);
      touches = touches_written c.self.inside.memory.items address bytes c.self.inside.table.items _ c.self.inside.touched.items _ (address / 4) ((address + length bytes + 3) / 4) _ _ c.self.invariant.touches c.forget.ensures.forgets c.mark.ensures inside
          (λ k from below. (omega arith, omega (arith, c.page_count.ensures)))
          (λ k from below. (omega arith, omega (arith, c.page_count.ensures)));
    })
