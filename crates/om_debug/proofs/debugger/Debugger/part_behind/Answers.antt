use Rattle.std.proofs.Common.{◌≡◌, ap, subst, ◌∙◌}
use Rattle.om_debug.specs.declared.moving.Part.TheVariants as parts
use Rattle.om_debug.specs.Stops.{DebugState, standing}
use Rattle.om_debug.specs.steps.Scanning.{IsPart}
use Rattle.om_debug.proofs.Backwards.{again_at, back_breaks, back_meets}
use Rattle.om_debug.proofs.debugger.Debugger.part_behind.Goals as goal

pub returns-in_ok-stand_at-in-Breaks-clause-back : goal.returns-in_ok-stand_at-in-Breaks-clause-back
returns-in_ok-stand_at-in-Breaks-clause-back g c =
    let old : DebugState = c.args.self.now in
    let begun : DebugState = c.stand_kept.new.self in
    let new : DebugState = c.stand_at-in-Breaks.new.self in
    let end = c.position-end in
    let at = c.in-Breaks.at in
    let there : new ≡ standing begun at.event at.turns =
    again_at begun c.last_stop.new.self new at.event at.turns c.last_stop.ensures.stands c.in_ok-stand_at-in-Breaks.ensures.there in
    back_breaks old begun new end.result at
    (end.ensures.event ∙ ap (λ (d : DebugState). d.timeline.event) c.self.view_is) (end.ensures.turns ∙ ap (λ (d : DebugState). d.timeline.turns) c.self.view_is)
    there (subst (IsPart begun end.result.event end.result.turns end.result.event end.result.turns) c.in-Breaks.is c.in_ok-last_stop.ensures.part)

pub returns-in_ok-stand_at-in-Meets-clause-back : goal.returns-in_ok-stand_at-in-Meets-clause-back
returns-in_ok-stand_at-in-Meets-clause-back g c =
    let old : DebugState = c.args.self.now in
    let begun : DebugState = c.stand_kept.new.self in
    let new : DebugState = c.stand_at-in-Meets.new.self in
    let end = c.position-end in
    let at = c.in-Meets.at in
    let there : new ≡ standing begun at.event at.turns =
    again_at begun c.last_stop.new.self new at.event at.turns c.last_stop.ensures.stands c.in_ok-stand_at-in-Meets.ensures.there in
    back_meets old begun new end.result at c.in-Meets.watch
    (end.ensures.event ∙ ap (λ (d : DebugState). d.timeline.event) c.self.view_is) (end.ensures.turns ∙ ap (λ (d : DebugState). d.timeline.turns) c.self.view_is)
    there (subst (IsPart begun end.result.event end.result.turns end.result.event end.result.turns) c.in-Meets.is c.in_ok-last_stop.ensures.part)
