use Rattle.std.proofs.Common.{◌≤◌, vec_len}
use Rattle.std.specs.Io.KnownBytes.{Consumes}
use Rattle.om_text.specs.declared.text.TheConstants.{MAX_BYTES}
use Rattle.om_text.proofs.text.read_text.Given as goal

abbrev pub invariant-loop : goal.invariant-loop
invariant-loop g l = record {
  within : vec_len l.text ≤ MAX_BYTES;
  taken : Consumes (g.R.Read.remaining l.initial.reader) (g.R.Read.remaining l.reader) l.text.items;
}
