use Rattle.std.proofs.Common.{◌∙◌, refl, rules, sym, ap, subst}
use Rattle.om_interval.specs.Vectors.{IsBelow}
use Rattle.om_recover.proofs.RunLemmas.{after_error}
use Rattle.om_manager.specs.Sound.{KeepsReleased}
use Rattle.om_manager.specs.State.{ManagerState}
use Rattle.om_board.specs.Fronts.{EndsWith, Follows, front_of}
use Rattle.om_board.specs.steps.Posts.{MayFollow}
use Rattle.om_board.specs.Boards.{BoardState, IsBoard}
use Rattle.om_board.specs.Made.{HoldsMade}
use Rattle.om_board.proofs.BoardLemmas.{refused_join}
use Rattle.om_board.proofs.FrontLemmas.{goes_on}
use Rattle.om_board.proofs.MadeLemmas.{joined_made}
use Rattle.om_board.proofs.board.Board.join.Goals as goal

pub post-requires-clause-may : goal.post-requires-clause-may
post-requires-clause-may g c = subst (MayFollow c.self.inside.writer) (sym c.of.ensures.front) (goes_on _ _ _ c.self.invariant.0.last c.join.ensures.front)

pub returns-clause-released : goal.returns-clause-released
returns-clause-released g c = subst (λ (b : BoardState). KeepsReleased b.manager c.join.new.self) c.self.view_is c.join.ensures.released

pub invariant_of-self : goal.invariant_of-self
invariant_of-self g c =
    let same = refused_join _ _ _ _ _ _ c.in_err-gathered.ensures.answer in
    subst (λ (m : ManagerState). IsBoard g.K.Naming.cell.n (record { manager = m; posted = c.self.inside.writer; quiet = c.self.inside.quiet; waiting = c.self.inside.waiting })
    × (g.K.Naming.OverClean → HoldsMade g.K.Naming.programs g.K.Naming.cell.n m)) (sym same) c.self.invariant

pub returns-in_err-gathered-clause-posted : goal.returns-in_err-gathered-clause-posted
returns-in_err-gathered-clause-posted g c =
    let same = refused_join _ _ _ _ _ _ c.in_err-gathered.ensures.answer in
    let ends = subst (λ (m : ManagerState). EndsWith c.self.inside.writer (front_of m)) (sym same) c.self.invariant.0.last in
    subst (λ (b : BoardState). Follows b.posted (front_of c.join.new.self) c.self.inside.writer) c.self.view_is (Follows.again ends refl)

pub returns-in_err-gathered-clause-sound : goal.returns-in_err-gathered-clause-sound
returns-in_err-gathered-clause-sound g c =
    let same = refused_join _ _ _ _ _ _ c.in_err-gathered.ensures.answer in
    subst (λ (m : ManagerState). IsBoard g.K.Naming.cell.n (record { manager = m; posted = c.self.inside.writer; quiet = c.self.inside.quiet; waiting = c.self.inside.waiting })) (sym same) c.self.invariant.0

pub returns-in_err-gathered-clause-not_lowered : goal.returns-in_err-gathered-clause-not_lowered
returns-in_err-gathered-clause-not_lowered g c = subst (λ (b : BoardState). IsBelow b.manager.recovery c.join.new.self.recovery) c.self.view_is c.join.ensures.not_lowered

pub returns-in_err-gathered-clause-released : goal.returns-in_err-gathered-clause-released
returns-in_err-gathered-clause-released g c = subst (λ (b : BoardState). KeepsReleased b.manager c.join.new.self) c.self.view_is c.join.ensures.released

pub returns-in_err-gathered-clause-refused : goal.returns-in_err-gathered-clause-refused
returns-in_err-gathered-clause-refused g c =
    let same = refused_join _ _ _ _ _ _ c.in_err-gathered.ensures.answer in
    after_error _ _ (ap (λ (m : ManagerState). record { manager = m; posted = c.self.inside.writer; quiet = c.self.inside.quiet; waiting = c.self.inside.waiting }) same ∙ c.self.view_is)

pub invariant_of-self-2 : goal.invariant_of-self-2
invariant_of-self-2 g c = (
  search rules,
  λ clean. joined_made g.K.Naming.programs g.K.Naming.cell.n _ _ _ _ _ _ c.self.invariant.0.manager c.join.ensures.answer (c.self.invariant.1 clean),
)
