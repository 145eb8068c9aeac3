use Rattle.std.proofs.Common.{◌≡◌, ap, rules, subst}
use Rattle.std.specs.Prelude.{OnErr}
use Rattle.std.proofs.lemmas.Result.{on_err_weaker}
use Rattle.om_manager.specs.Sound.{KeepsReleased}
use Rattle.om_manager.specs.State.{ManagerState}
use Rattle.om_board.specs.Boards.{BoardState}
use Rattle.om_board.proofs.BoardLemmas.{refused_output}
use Rattle.om_board.proofs.MadeLemmas.{offered_made}
use Rattle.om_board.proofs.board.Board.note_output.Goals as goal

pub returns-clause-released : goal.returns-clause-released
returns-clause-released g c = subst (λ (b : BoardState). KeepsReleased b.manager c.note_output.new.self) c.self.view_is c.note_output.ensures.released

pub returns-clause-refused : goal.returns-clause-refused
returns-clause-refused g c =
    let board : ManagerState → BoardState = λ m. record { manager = m; posted = c.self.inside.writer; quiet = c.self.inside.quiet; waiting = c.self.inside.waiting } in
    let told = c.note_output.result in
    subst (λ (b : BoardState). OnErr told (board c.note_output.new.self ≡ b)) c.self.view_is
    (on_err_weaker told (λ same. ap board same) (refused_output told _ _ _ c.note_output.ensures.answer))

pub invariant_of-self : goal.invariant_of-self
invariant_of-self g c = (
  search rules,
  λ clean. offered_made g.K.Naming.programs g.K.Naming.cell.n c.note_output.result _ _ _ c.self.invariant.0.manager c.note_output.ensures.answer
      (c.requires.made clean) (c.self.invariant.1 clean),
)
