-- A checkpoint that was put and goes again.
use Rattle.std.specs.Prelude.{Option, None, Some}
use Rattle.std.specs.FinMap.{remove}
use Rattle.om_stable.specs.Content.{Records}
use Rattle.om_stable.specs.declared.batch.NewCheckpoint.{NewCheckpoint}

-- the records without that at the checkpoint's interval, where there is one
abbrev pub without_new : Records → Option NewCheckpoint → Records
without_new held None = held
without_new held (Some c) = remove held c.x
