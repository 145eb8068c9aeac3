-- What is told of outputs as they are released.
pub use Rattle.om_report.specs.Telling.{AreInOrder, AreToldMade, AreToldWithin, Told, of_process, told_of}
