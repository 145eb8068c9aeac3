use Rattle.std.proofs.Common.{◌≡◌, ◌++◌, take, string_bytes}
use Rattle.std.specs.List.{flat_map}
use Rattle.om_commands.specs.Quoted.{quoted_byte}
use Rattle.om_commands.proofs.bytes_text.push_quoted.Given as goal

-- the bytes so far
abbrev pub invariant-loop-byte : goal.invariant-loop-byte
invariant-loop-byte l = string_bytes l.text ≡ string_bytes l.initial.text ++ flat_map quoted_byte (take l.byte-index l.bytes)
