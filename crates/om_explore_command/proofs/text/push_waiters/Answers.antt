use Rattle.std.proofs.Common.{string_bytes}
use Rattle.std.specs.Prelude.{slice_index_or}
use Rattle.om_process.specs.declared.status.Status.TheVariants.{Ready}
use Rattle.om_commands.proofs.TextLemmas.{text_grows}
use Rattle.om_explore_command.specs.ExplorationText.{waiter_text}
use Rattle.om_explore_command.proofs.text.push_waiters.Goals as goal

pub loop-p-preserved : goal.loop-p-preserved
loop-p-preserved c =
    text_grows (λ p. waiter_text c.args.programs.now p (slice_index_or c.args.statuses.now p Ready)) c.loop-p.p (string_bytes c.args.text.now)
    (string_bytes c.loop-p.text) (string_bytes c.push_waiter.new.text) c.loop-p.invariant c.in_ok-push_waiter.ensures
