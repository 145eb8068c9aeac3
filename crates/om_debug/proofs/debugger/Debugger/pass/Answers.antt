use Rattle.std.proofs.Common.{refl, sym, subst, string_bytes}
use Rattle.om_debug.specs.Stops.{DebugState, IsPassed, IsQuietRest, with_timeline}
use Rattle.om_debug.proofs.Quiet.{event_if}
use Rattle.om_debug.proofs.debugger.Debugger.pass.Goals as goal

pub returns-clause-passed : goal.returns-clause-passed
returns-clause-passed c =
    let here : DebugState = record { timeline = c.self.inside.timeline; breaks = c.self.inside.breaks.items; watches = c.self.inside.watches.items; name = string_bytes c.self.inside.name; threads = string_bytes c.self.inside.threads } in
    let there : DebugState = with_timeline here c.pass.new.self in
    subst (λ (d : DebugState). IsPassed d there) c.self.view_is
    (event_if here there c.in_ok-pass.field-0 refl c.in_ok-pass.ensures.passed c.in_ok-pass.ensures.at_end (subst IsQuietRest (sym c.self.view_is) c.requires.quiet))
