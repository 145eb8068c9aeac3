use Rattle.std.proofs.Common.{◌≡◌, ◌+◌, ◌-◌, ◌∷◌, length, take, drop, rules, arith, ap, sym, ◌∙◌, take_all, length-drop}
use Rattle.std.specs.Str.Lines.{lines, strip_carriage_return}
use Rattle.om_text.proofs.Parts.{lines_none, lines_some}
use Rattle.om_text.proofs.lines.split_line.Goals as goal

pub returns-in-None-clause-first : goal.returns-in-None-clause-first
returns-in-None-clause-first c = lines_none c.args.text.now (search rules) (cc)

pub returns-in-Some-clause-first : goal.returns-in-Some-clause-first
returns-in-Some-clause-first c =
    let text = c.args.text.now in
    let end = c.in-Some.end in
    let rest = drop (end + 1) text in
    let whole : take (length text - (end + 1)) rest ≡ rest = take_all (length text - (end + 1)) rest (omega (arith, length-drop (end + 1) text)) in
    let cut : c.without_return.result.now ≡ strip_carriage_return (take end text) = c.without_return.ensures in
    lines_some text end (cc) ∙ ap (λ line. line ∷ lines rest) (sym cut) ∙ ap (λ more. c.without_return.result.now ∷ lines more) (sym whole)
