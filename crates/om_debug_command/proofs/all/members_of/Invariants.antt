use Rattle.std.proofs.Common.{◌≡◌, length}
use Rattle.om_debug_command.specs.Debug.{AreBegun}
use Rattle.om_debug_command.proofs.all.members_of.Given as goal

abbrev pub invariant-loop-place : goal.invariant-loop-place
invariant-loop-place l = record {
  count : length l.members.items ≡ l.place;
  members : AreBegun l.script l.symbols l.members.items;
}
