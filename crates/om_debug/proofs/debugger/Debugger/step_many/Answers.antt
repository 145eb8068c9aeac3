use Rattle.std.proofs.Common.{◌+◌, ◌≤◌, refl, sym, subst, string_bytes}
use Rattle.om_timeline.specs.Deeds.{turns_at}
use Rattle.om_debug.specs.Stops.{DebugState, IsPassed, IsQuietRest, with_timeline}
use Rattle.om_debug.proofs.Quiet.{passed_some}
use Rattle.om_debug.proofs.debugger.Debugger.step_many.Goals as goal

pub step_many-requires : goal.step_many-requires
step_many-requires c =
    subst (λ (d : DebugState). d.timeline.turns + c.args.turns ≤ turns_at d.timeline.deeds d.timeline.event) (sym c.self.view_is) c.requires.left

pub returns-clause-passed : goal.returns-clause-passed
returns-clause-passed c =
    let here : DebugState = record { timeline = c.self.inside.timeline; breaks = c.self.inside.breaks.items; watches = c.self.inside.watches.items; name = string_bytes c.self.inside.name; threads = string_bytes c.self.inside.threads } in
    let there : DebugState = with_timeline here c.step_many.new.self in
    subst (λ (d : DebugState). IsPassed d there) c.self.view_is
    (passed_some here there (here.timeline.turns + c.args.turns) refl c.step_many.ensures (subst IsQuietRest (sym c.self.view_is) c.requires.quiet))
