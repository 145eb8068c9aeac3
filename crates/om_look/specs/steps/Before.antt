-- An instruction before it is carried out.
use Rattle.std.specs.Prelude.{◌≡◌}
use Rattle.om_isa.specs.Rows.{Decodes}
use Rattle.om_machine.specs.State.{State, word_at}
use Rattle.om_machine.specs.derived.NextStep.{next_of}
use Rattle.om_look.specs.steps.Writes.{address_in, writes_of}
use Rattle.om_look.specs.declared.tracing.Before.{Before}

-- the machine is about to carry it out, or stands at it
pub record IsBefore (m : State) (b : Before) : Type 0 where
  pub count : b.count ≡ m.count
  pub pc : b.pc ≡ m.pc
  pub word : b.word ≡ word_at m.memory m.pc
  pub decodes : Decodes m.ext b.word b.inst
  pub address : b.address ≡ address_in m (writes_of b.inst)
  pub event : b.event ≡ (next_of m).0
