use Rattle.om_run_commands.proofs.CheckLemmas.{few_images}
use Rattle.om_run_commands.proofs.checked.checked_events.Goals as goal

pub play_and_keep_events-requires-clause-few : goal.play_and_keep_events-requires-clause-few
play_and_keep_events-requires-clause-few c =
    few_images c.in_ok-images.images.items c.deref.result.now c.args.programs.now c.n-n.result c.in_ok-images.ensures.programs
    c.deref.ensures.value c.n-n.ensures.number c.n-n.ensures.few
