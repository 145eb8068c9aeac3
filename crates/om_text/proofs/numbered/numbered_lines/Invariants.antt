use Rattle.std.proofs.Common.{◌≡◌, ◌+◌, ◌≤◌, ◌++◌, length, map}
use Rattle.std.specs.Str.Lines.{lines}
use Rattle.om_text.specs.Script.{numbered}
use Rattle.om_text.specs.Words.{words_of}
use Rattle.om_text.proofs.numbered.numbered_lines.Given as goal

abbrev pub decreases-loop-line : goal.decreases-loop-line
decreases-loop-line l = length l.rest

abbrev pub invariant-loop-line : goal.invariant-loop-line
invariant-loop-line l = record {
  counted : l.number + length l.rest ≤ length l.text;
  so_far : l.numbers.items ++ map (λ line. line.0) (numbered (l.number + 1) (map words_of (lines l.rest))) ≡ map (λ line. line.0) (numbered 1 (map words_of (lines l.text)));
}
