-- How a process comes to its end.
pub use Rattle.om_process.specs.Ends.{IsWholeRun, outputs_made}
