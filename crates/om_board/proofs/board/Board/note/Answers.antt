use Rattle.std.proofs.Common.{◌≡◌, refl, sym, subst}
use Rattle.std.specs.Prelude.{OnErr}
use Rattle.om_manager.specs.Sound.{KeepsReleased}
use Rattle.om_board.specs.Fronts.{Follows}
use Rattle.om_board.specs.steps.Posts.{MayFollow}
use Rattle.om_board.specs.Boards.{BoardState}
use Rattle.om_board.proofs.BoardLemmas.{refused_row}
use Rattle.om_board.proofs.FrontLemmas.{goes_on}
use Rattle.om_board.proofs.board.Board.note.Goals as goal

pub post-requires-clause-may : goal.post-requires-clause-may
post-requires-clause-may g c = subst (MayFollow c.self.inside.writer) (sym c.of.ensures.front) (goes_on _ _ _ c.self.invariant.0.last c.note-told.ensures.front)

pub returns-clause-released : goal.returns-clause-released
returns-clause-released g c = subst (λ (b : BoardState). KeepsReleased b.manager c.note-told.new.self) c.self.view_is c.note-told.ensures.released

pub returns-clause-refused : goal.returns-clause-refused
returns-clause-refused g c =
    let old : BoardState = record { manager = c.self.inside.manager; posted = c.self.inside.writer; quiet = c.self.inside.quiet; waiting = c.self.inside.waiting } in
    let new : BoardState = record { manager = c.note-told.new.self; posted = c.post.new.self; quiet = c.self.inside.quiet; waiting = c.self.inside.waiting } in
    let follows = subst (λ f. Follows c.self.inside.writer f c.post.new.self) c.of.ensures.front c.post.ensures.follows in
    subst (λ (b : BoardState). OnErr c.note-told.result (new ≡ b)) c.self.view_is (refused_row c.note-told.result old new _ _ c.note-told.ensures.answer c.self.invariant.0.last follows refl refl)
