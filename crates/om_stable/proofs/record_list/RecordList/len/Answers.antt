use Rattle.std.proofs.Common.{◌∙◌, ap, drop, length, sym, arith}
use Rattle.std.proofs.lemmas.List.{length-drop}
use Rattle.om_stable.proofs.PieceLemmas.{length-pieces}
use Rattle.om_stable.proofs.record_list.RecordList.len.Goals as goal

pub returns : goal.returns
returns c =
    let lens = drop c.self.inside.gone c.self.inside.lens.items in
    let long = length-pieces lens (drop c.self.inside.past c.self.inside.bytes.items) in
    let left = length-drop c.self.inside.gone c.self.inside.lens.items in
    omega (arith, c.len.ensures, left) ∙ sym long ∙ ap length c.self.view_is
