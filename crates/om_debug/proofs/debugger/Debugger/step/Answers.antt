use Rattle.std.proofs.Common.{◌≡◌, None, refl, sym, subst, string_bytes}
use Rattle.om_debug.specs.Stops.{DebugState, IsPassed, stop_here, with_timeline}
use Rattle.om_debug.proofs.Quiet.{one_if}
use Rattle.om_debug.proofs.debugger.Debugger.step.Goals as goal

pub returns-clause-passed : goal.returns-clause-passed
returns-clause-passed c =
    let here : DebugState = record { timeline = c.self.inside.timeline; breaks = c.self.inside.breaks.items; watches = c.self.inside.watches.items; name = string_bytes c.self.inside.name; threads = string_bytes c.self.inside.threads } in
    let there : DebugState = with_timeline here c.step_one.new.self in
    let none : stop_here here ≡ None = subst (λ (d : DebugState). stop_here d ≡ None) (sym c.self.view_is) c.requires.quiet in
    subst (λ (d : DebugState). IsPassed d there) c.self.view_is
    (one_if here there c.step_one.result refl c.step_one.ensures.went c.step_one.ensures.at_end none)
