-- What is read of the kind of a checkpoint.
use Rattle.std.specs.Prelude.{ℕ, ◌==◌, if◌then◌else◌}
use Rattle.om_isa.specs.declared.ext.Ext.{Ext}
use Rattle.om_isa.specs.declared.ext.Ext.TheVariants.{I, Im}
use Rattle.om_format.specs.Versions.{kind_of}

-- which instructions a program may use whose checkpoint is of this kind
abbrev pub ext_of : ℕ → Ext
ext_of kind = if kind == kind_of I then I else Im
