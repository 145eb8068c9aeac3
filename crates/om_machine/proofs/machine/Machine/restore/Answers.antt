use Rattle.std.proofs.Common.{◌≡◌, ◌<◌, ◌^◌, ◌*◌, ◌+◌, ◌/◌, ◌++◌, ◌∷◌, [], List, Bool, ℕ, length, replicate, refl, sym, ap, subst, ◌∙◌, rules, arith}
use Rattle.std.specs.Prelude.{All, vec_len}
use Rattle.om_pages.specs.Marks.{AreZerosOutside, kept_marks}
use Rattle.om_pages.proofs.Marking.{kept_marks_length, zeros_outside_kept}
use Rattle.om_machine.specs.State.{IsMachine, restored}
use Rattle.om_machine.specs.steps.Known.{fresh_entry, machine_registers}
use Rattle.om_machine.proofs.Keeping.{each_fits}
use Rattle.om_machine.proofs.Knowing.{table_of_nothing, knows_nothing, touches_nothing}
use Rattle.om_machine.proofs.Storing.{all_long, resized, restored_registers, restored_machine}
use Rattle.om_machine.proofs.machine.Machine.restore.Goals as goal

pub invariant_of-result : goal.invariant_of-result
invariant_of-result c =
    let regs = c.args.regs.now in
    let bytes = c.args.bytes.now in
    let long : length regs ≡ 31 = search rules in
    let first : c.in_ok-all.all.items ≡ replicate 1 0 = search rules in
    let front : c.extend_from_slice.new.self.items ≡ 0 ∷ regs = c.in_ok-extend_from_slice.ensures.items ∙ ap (λ (xs : List ℕ). xs ++ regs) first in
    let count : vec_len c.extend_from_slice.new.self ≡ length c.extend_from_slice.new.self.items = omega (arith, c.extend_from_slice.new.self.ok.0) in
    let items : c.resize.new.self.items ≡ 0 ∷ regs ++ 0 ∷ [] = c.in_ok-resize.ensures.items ∙ resized regs c.extend_from_slice.new.self.items (vec_len c.extend_from_slice.new.self) front long count in
    let ours : machine_registers c.resize.new.self.items ≡ 0 ∷ regs = ap machine_registers items ∙ restored_registers regs long in
    let kept : c.in_ok-memory.memory.items ≡ bytes = c.in_ok-memory.ensures.items in
    let unknown : c.in_ok-table.table.items ≡ replicate (length bytes / 4 + 1) fresh_entry = search rules in
    let marked : c.in_ok-touched.touched.items ≡ kept_marks bytes = search rules in
    let words : All (λ r. r < 2 ^ 32) regs = each_fits (2 ^ 32) regs c.fits-regs in
    let machine : IsMachine (restored regs c.args.pc c.args.count bytes c.args.ext) = restored_machine regs c.args.pc c.args.count bytes c.args.ext long words c.requires.size (each_fits 256 bytes (λ i. (c.type_inv.bytes i).fits)) c.requires.aligned in
    let size : 4 * (length bytes / 4 + 1) ≡ length bytes + 4 = omega (arith, c.requires.size.in_words) in
    rw (ours, kept) (record {
      machine = machine;
      registers = ap (length {A = ℕ}) items ∙ all_long regs long;
      table = table_of_nothing (length bytes) c.in_ok-table.table.items (length bytes / 4 + 1) unknown size;
      knows = knows_nothing c.args.ext bytes c.in_ok-table.table.items (length bytes / 4 + 1) unknown;
      touches = touches_nothing bytes c.in_ok-table.table.items (length bytes / 4 + 1) c.in_ok-touched.touched.items unknown (ap (length {A = Bool}) marked ∙ kept_marks_length bytes) (subst (λ (marks : List Bool). AreZerosOutside marks bytes) (sym marked) (zeros_outside_kept bytes));
    })

pub returns-clause-restored : goal.returns-clause-restored
returns-clause-restored c =
    let regs = c.args.regs.now in
    let long : length regs ≡ 31 = search rules in
    let first : c.in_ok-all.all.items ≡ replicate 1 0 = search rules in
    let front : c.extend_from_slice.new.self.items ≡ 0 ∷ regs = c.in_ok-extend_from_slice.ensures.items ∙ ap (λ (xs : List ℕ). xs ++ regs) first in
    let count : vec_len c.extend_from_slice.new.self ≡ length c.extend_from_slice.new.self.items = omega (arith, c.extend_from_slice.new.self.ok.0) in
    let items : c.resize.new.self.items ≡ 0 ∷ regs ++ 0 ∷ [] = c.in_ok-resize.ensures.items ∙ resized regs c.extend_from_slice.new.self.items (vec_len c.extend_from_slice.new.self) front long count in
    let ours : machine_registers c.resize.new.self.items ≡ 0 ∷ regs = ap machine_registers items ∙ restored_registers regs long in
    let kept : c.in_ok-memory.memory.items ≡ c.args.bytes.now = c.in_ok-memory.ensures.items in
    rw (ours, kept) refl
