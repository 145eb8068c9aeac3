use Rattle.std.proofs.Common.{◌≡◌, take}
use Rattle.std.specs.Prelude.{All, map}
use Rattle.om_process.specs.Images.{program_of}
use Rattle.om_scripts.specs.Programs.{IsProgram, programs_of}
use Rattle.om_scripts.proofs.programs.Programs.images.Given as goal

abbrev pub invariant-loop-process : goal.invariant-loop-process
invariant-loop-process l = record {
  programs : map program_of l.images.items ≡ take l.process (programs_of l.self);
  sizes : All IsProgram (map program_of l.images.items);
}
