use Rattle.std.proofs.Common.{◌≢◌, ◌≤◌, ◌∷◌, [], ◌++◌, length, sym, ap, ◌∙◌, subst, arith}
use Rattle.crossbeam_utils.specs.Seq.{cell_view}
use Rattle.om_board.specs.Fronts.{Rises, EndsWith, IsPosted}
use Rattle.om_board.specs.steps.Posts.{MayFollow}
use Rattle.om_board.specs.Fronts.Follows.{above}
use Rattle.om_board.specs.declared.cell.View.{View}
use Rattle.om_board.specs.steps.Posting.{Grows, words_in, fronts_in}
use Rattle.om_board.proofs.FrontLemmas.{ends_with, rises_above, words_grow, added_in, posted_in}
use Rattle.om_board.proofs.frontier.Writer.post.Goals as goal

pub write_words-requires-clause-own : goal.write_words-requires-clause-own
write_words-requires-clause-own g c = c.self.invariant.own ∙ sym c.args.frontier.now.named

pub write_words-requires-clause-may : goal.write_words-requires-clause-may
write_words-requires-clause-may g c =
    let w = c.self.invariant in
    let n = g.K.Naming.cell.n in
    let front = c.args.front.now in
    let ends = ends_with n (cell_view c.self.inside.ticket).seen w.front w.places w.last in
    let may = subst (λ l. MayFollow l front) (sym c.self.view_is) c.requires.may in
    let apart : w.front.version ≢ front.version = λ e. c.if-front-self.true (sym e ∙ sym w.version_is) in
    let up : Rises w.front front = rises_above _ w.front front ends apart may in
    let few : length w.front.vec ≤ 16 = omega (arith, w.places, c.args.frontier.now.sized, c.args.frontier.now.within) in
    let grows = subst (Grows (words_in w.front)) (sym c.to_words.ensures.words) (words_grow w.front front few up) in
    record { writes = w.writes; log = w.log; last = words_in w.front; ends = w.last; words = c.to_words.ensures.spelled; grows = grows }

pub returns-then-front-self-clause-follows : goal.returns-then-front-self-clause-follows
returns-then-front-self-clause-follows g c =
    let w = c.self.invariant in
    let n = g.K.Naming.cell.n in
    let front = c.args.front.now in
    let seen = (cell_view c.self.inside.ticket).seen in
    let ends = ends_with n seen w.front w.places w.last in
    let may = subst (λ l. MayFollow l front) (sym c.self.view_is) c.requires.may in
    let apart : w.front.version ≢ front.version = λ e. c.if-front-self.true (sym e ∙ sym w.version_is) in
    let up : Rises w.front front = rises_above _ w.front front ends apart may in
    let view_is = c.write_words.ensures.view in
    let added = ap (λ (v : View). fronts_in n v.seen) view_is ∙ added_in n seen c.to_words.result front c.to_words.ensures.words c.requires.places in
    above w.front (subst (λ l. EndsWith l w.front) c.self.view_is ends) up (added ∙ ap (λ l. l ++ front ∷ []) c.self.view_is)

pub returns-then-front-self-clause-posted : goal.returns-then-front-self-clause-posted
returns-then-front-self-clause-posted g c = posted_in g.K.Naming.cell.n _ c.write_words.ensures.log

pub returns-else-front-self-clause-posted : goal.returns-else-front-self-clause-posted
returns-else-front-self-clause-posted g c = subst IsPosted c.self.view_is (posted_in g.K.Naming.cell.n _ c.self.invariant.log)
