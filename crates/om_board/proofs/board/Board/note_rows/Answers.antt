use Rattle.std.proofs.Common.{rules, subst, sym}
use Rattle.om_manager.specs.Sound.{KeepsReleased}
use Rattle.om_board.specs.steps.Posts.{MayFollow}
use Rattle.om_board.specs.Boards.{BoardState}
use Rattle.om_board.proofs.FrontLemmas.{goes_on}
use Rattle.om_board.proofs.MadeLemmas.{rows_made}
use Rattle.om_board.proofs.board.Board.note_rows.Goals as goal

pub post-requires-clause-may : goal.post-requires-clause-may
post-requires-clause-may g c = subst (MayFollow c.self.inside.writer) (sym c.of.ensures.front) (goes_on _ _ _ c.self.invariant.0.last c.note_rows-told.ensures.front)

pub returns-clause-released : goal.returns-clause-released
returns-clause-released g c = subst (λ (b : BoardState). KeepsReleased b.manager c.note_rows-told.new.self) c.self.view_is c.note_rows-told.ensures.released

pub invariant_of-self : goal.invariant_of-self
invariant_of-self g c = (
  search rules,
  λ clean. rows_made g.K.Naming.programs g.K.Naming.cell.n _ _ _ _ _ _ c.note_rows-told.ensures.answer (c.self.invariant.1 clean),
)
