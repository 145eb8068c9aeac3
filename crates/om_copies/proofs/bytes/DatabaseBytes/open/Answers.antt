use Rattle.std.proofs.Common.{◌∙◌}
use Rattle.om_copies.proofs.CleanLemmas.{held_in_bytes, memory_is_clean}
use Rattle.om_copies.proofs.bytes.DatabaseBytes.open.Goals as goal

pub returns-in-Ok-clause-is_open : goal.returns-in-Ok-clause-is_open
returns-in-Ok-clause-is_open c = (c.in-Ok.ensures.opened (memory_is_clean c.in-Ok.conn)).0.is_open

pub returns-in-Ok-clause-settled : goal.returns-in-Ok-clause-settled
returns-in-Ok-clause-settled c = (c.in-Ok.ensures.opened (memory_is_clean c.in-Ok.conn)).0.clean

pub returns-in-Ok-clause-held : goal.returns-in-Ok-clause-held
returns-in-Ok-clause-held c = held_in_bytes c.args.self.now.file.items c.args.self.now.log.items
    record { log = c.in_ok-memory_of.field-0; db = c.in_ok-memory_of-2.field-0 } c.in-Ok.conn
    (c.in_ok-memory_of-2.ensures.bytes ∙ c.deref-2.ensures.value) (c.in_ok-memory_of.ensures.bytes ∙ c.deref.ensures.value)
    (c.in-Ok.ensures.opened (memory_is_clean c.in-Ok.conn)) (c.in-Ok.ensures.found (memory_is_clean c.in-Ok.conn))
