use Rattle.std.proofs.Common.{◌∙◌, Bool, ap, is_some, subst, sym}
use Rattle.om_picture.specs.Drawing.{sketch_of}
use Rattle.om_picture.specs.Fates.{step_row}
use Rattle.om_picture.specs.steps.Adding.{Learning}
use Rattle.om_picture.proofs.HeldLemmas.{some_or}
use Rattle.om_picture.proofs.LaneLemmas.{kept_fewer, learn_first, learn_freed, learn_kept, learn_none}
use Rattle.om_picture.proofs.picture.Picture.keep_lane.Goals as goal

pub loop-mark-init : goal.loop-mark-init
loop-mark-init c =
    learn_first (step_row c.args.step.now c.args.at) (sketch_of c.args.self.now) (sketch_of c.learn.new.self) c.args.p _ c.place_of.ensures
    c.learn.ensures

pub loop-mark-preserved : goal.loop-mark-preserved
loop-mark-preserved c =
    subst (λ (found : Bool). Learning (step_row c.args.step.now c.args.at) found (sketch_of c.args.self.now)
    (sketch_of c.keep_mark.new.self) c.args.p)
    (sym (ap is_some c.or-held.ensures ∙ some_or c.loop-mark.held c.in_ok-found.found))
    (learn_kept (step_row c.args.step.now c.args.at) _ _ (sketch_of c.args.self.now) (sketch_of c.loop-mark.self)
    (sketch_of c.next_covered.new.self) (sketch_of c.keep_mark.new.self) c.args.p c.in-Some.mark c.loop-mark.invariant c.in-Some.ensures
    c.in_ok-found.ensures.settles c.in_ok-found.ensures.found)

pub loop-mark-smaller : goal.loop-mark-smaller
loop-mark-smaller c =
    kept_fewer (sketch_of c.loop-mark.self) (sketch_of c.next_covered.new.self) (sketch_of c.keep_mark.new.self) c.args.p c.in-Some.mark _
    c.in-Some.ensures c.in_ok-found.ensures.settles

pub returns-clause-learns : goal.returns-clause-learns
returns-clause-learns c =
    learn_none (step_row c.args.step.now c.args.at) _ (sketch_of c.args.self.now) (sketch_of c.loop-mark.self)
    (sketch_of c.next_covered.new.self) c.args.p c.loop-mark.invariant c.in_default.ensures

pub returns-clause-freed : goal.returns-clause-freed
returns-clause-freed c =
    learn_freed (step_row c.args.step.now c.args.at) _ (sketch_of c.args.self.now) (sketch_of c.loop-mark.self)
    (sketch_of c.next_covered.new.self) c.args.p c.loop-mark.invariant c.in_default.ensures
