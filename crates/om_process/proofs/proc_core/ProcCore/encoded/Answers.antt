use Rattle.std.proofs.Common.{◌≡◌, true, length, map, ap, ◌∙◌, rules}
use Rattle.om_isa.specs.Memory.{is_memory_size}
use Rattle.om_format.specs.Queues.{queue_record}
use Rattle.om_process.proofs.CoreLemmas.{core_lawful}
use Rattle.om_process.proofs.proc_core.ProcCore.encoded.Goals as goal

pub encode_parts-requires : goal.encode_parts-requires
encode_parts-requires c =
    let long : length c.regs.result ≡ 31 = search rules in
    let size : is_memory_size (length c.memory.result.now) ≡ true = search rules in
    let same = ap (map queue_record) c.deref-2.ensures.value ∙ c.in_ok-kept.ensures in
    record {
      lawful = rw c.count.ensures (core_lawful _ _ c.pc.result c.regs.result c.memory.result.now _ _ c.self.invariant c.pc.ensures.aligned long size same c.in_ok-outputs.ensures);
      pages = rw (c.deref.ensures.value, c.memory.ensures.bytes) c.in_ok-pages.ensures.kept;
      within = rw (c.deref.ensures.value, c.memory.ensures.bytes) c.in_ok-pages.ensures.within;
      few = rw (c.deref.ensures.value, c.memory.ensures.bytes) c.in_ok-pages.ensures.few;
    }
