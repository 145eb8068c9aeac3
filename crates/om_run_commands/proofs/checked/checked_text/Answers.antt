use Rattle.om_run_commands.proofs.CheckLemmas.{few_images}
use Rattle.om_run_commands.proofs.checked.checked_text.Goals as goal

pub play-requires-clause-few : goal.play-requires-clause-few
play-requires-clause-few c =
    few_images c.in_ok-images.images.items c.deref.result.now c.args.programs.now c.n-n.result c.in_ok-images.ensures.programs
    c.deref.ensures.value c.n-n.ensures.number c.n-n.ensures.few
