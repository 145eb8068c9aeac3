use Rattle.std.proofs.Common.{◌≡◌, ◌*◌, ◌<◌, ◌^◌, All, take}
use Rattle.std.specs.Prelude.{flat_map}
use Rattle.std.specs.Int.{to_le_bytes, w32}
use Rattle.om_image.proofs.words.whole_words.Given as goal

abbrev pub invariant-loop-i : goal.invariant-loop-i
invariant-loop-i l = record {
  bytes : flat_map (to_le_bytes w32) l.words.items ≡ take (l.i * 4) l.bytes;
  range : All (λ word. word < 2 ^ 32) l.words.items;
}
