use Rattle.std.proofs.Common.{◌≡◌, ◌+◌, ◌≤◌, length, map}
use Rattle.std.specs.Str.Lines.{lines}
use Rattle.om_text.specs.Words.{words_of}
use Rattle.om_text.specs.Script.{numbered, script_from}
use Rattle.om_text.proofs.script.read_script.Given as goal

abbrev pub decreases-loop-line : goal.decreases-loop-line
decreases-loop-line g l = length l.rest

abbrev pub invariant-loop-line : goal.invariant-loop-line
invariant-loop-line g l = record {
  counted : l.number + length l.rest ≤ length l.text;
  goes_on : script_from g.B.Builder.meaning (g.B.Builder.state l.builder) (numbered (l.number + 1) (map words_of (lines l.rest))) ≡ script_from g.B.Builder.meaning (g.B.Builder.state l.initial.builder) (numbered 1 (map words_of (lines l.text)));
}
