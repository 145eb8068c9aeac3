use Rattle.std.proofs.Common.{refl}
use Rattle.om_machine.specs.declared.event.Event.TheVariants.{Went}
use Rattle.om_machine.proofs.Stepping.{steps-next}
use Rattle.om_machine.proofs.Stops.{counts_step, stays_step}
use Rattle.om_machine.proofs.laws.step_counts_or_stays.Goals as goal

pub returns : goal.returns
returns c = record {
  counts = λ m n steps. counts_step m Went n (steps-next m Went n steps) refl;
  stays = λ m e n steps other. stays_step m e n (steps-next m e n steps) other;
}
