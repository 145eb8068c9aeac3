use Rattle.std.specs.Prelude.{map}
use Rattle.om_process.specs.Images.{program_of}
use Rattle.om_node.specs.Nodes.{AreAlwaysClean}
use Rattle.om_threads.proofs.cluster.run_and_keep_witnesses.Given as goal

abbrev pub ghosts-run_named : goal.ghosts-run_named
ghosts-run_named g a = record {
  cell = a.blank;
  programs = map program_of a.config.now.images.items;
  OverClean = AreAlwaysClean g.O.Store.Stable.is_clean;
}
