use Rattle.std.proofs.Common.{All, sym, subst, ap, ◌∙◌}
use mathlib.Core.List.{IsPrefix}
use Rattle.crossbeam_utils.specs.Seq.{cell_view}
use Rattle.om_board.specs.Fronts.{EndsWith, IsAtMost}
use Rattle.om_board.specs.steps.Posting.{fronts_in, front_in}
use Rattle.om_board.proofs.FrontLemmas.{prefix_in, last_in, posted_in, none_behind}
use Rattle.om_board.proofs.frontier.Frontier.read.Goals as goal

pub read_words-words-requires-clause-own : goal.read_words-words-requires-clause-own
read_words-words-requires-clause-own g c = c.pass.invariant.own ∙ sym c.args.self.now.named

pub read_words-words-requires-clause-reads : goal.read_words-words-requires-clause-reads
read_words-words-requires-clause-reads g c = c.pass.invariant.reads

pub returns-clause-later : goal.returns-clause-later
returns-clause-later g c =
    let n = g.K.Naming.cell.n in
    let rule = c.read_words-words.ensures.loads in
    subst (λ seen. IsPrefix seen (fronts_in n (cell_view c.read_words-words.new.ticket).seen)) c.pass.view_is (prefix_in n _ _ rule.1)

pub returns-clause-posted : goal.returns-clause-posted
returns-clause-posted g c = posted_in g.K.Naming.cell.n _ c.read_words-words.ensures.loads.3

pub returns-clause-not_behind : goal.returns-clause-not_behind
returns-clause-not_behind g c =
    let n = g.K.Naming.cell.n in
    let rule = c.read_words-words.ensures.loads in
    let is = ap (λ k. front_in k c.read_words-words.result) (sym c.args.self.now.sized) ∙ sym c.from_words.ensures in
    let ends = subst (EndsWith (fronts_in n _)) is (last_in n _ _ rule.2) in
    subst (All (λ seen. IsAtMost seen c.from_words.result)) c.pass.view_is (none_behind _ _ _ (prefix_in n _ _ rule.1) ends (posted_in n _ rule.3))
