use Rattle.std.proofs.Common.{arith, ap, ◌∙◌}
use Rattle.om_board.specs.CellNames.{CellName}
use Rattle.om_board.proofs.FrontLemmas.{first_writer, first_fronts}
use Rattle.om_board.proofs.frontier.Blank.open.Goals as goal

pub invariant_of-writer : goal.invariant_of-writer
invariant_of-writer g c =
    let i = c.self.invariant in
    let named = c.self.view_is ∙ c.requires in
    let n_is = ap (λ (cell : CellName). cell.n) named in
    first_writer g.K.Naming.cell _ _ (i.2 ∙ ap (λ (cell : CellName). cell.table) named) (omega (arith, i.1, n_is)) i.3

pub returns : goal.returns
returns g c =
    let i = c.self.invariant in
    let n_is = ap (λ (cell : CellName). cell.n) (c.self.view_is ∙ c.requires) in
    first_fronts g.K.Naming.cell.n _ (omega (arith, i.1, n_is)) i.3
