-- What a run of a cluster ends with, by its stores.
pub use Rattle.om_stable.specs.Content.{nothing}
pub use Rattle.om_threads.specs.Reports.{AreWholeOver}
