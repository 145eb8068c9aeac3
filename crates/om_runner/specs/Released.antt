-- What is released of the outputs of a cluster, and what it is to the programs of its processes.
pub use Rattle.om_report.specs.Released.{AreAllMade, AreAllReleased, AreMade, AreReleased, AreReleasedBy}
