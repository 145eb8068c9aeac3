use Rattle.std.proofs.Common.{◌≡◌, ℕ, not, ◌==◌, filter, ap, subst, string_bytes, rules}
use Rattle.std.proofs.lemmas.Fn.{filter_same}
use Rattle.om_debug.specs.Stops.{DebugState}
use Rattle.om_debug.specs.Told.{clear_break, with_breaks}
use Rattle.om_debug.proofs.debugger.Debugger.clear_break.Goals as goal

pub returns : goal.returns
returns c =
    let here : DebugState = record { timeline = c.self.inside.timeline; breaks = c.self.inside.breaks.items; watches = c.self.inside.watches.items; name = string_bytes c.self.inside.name; threads = string_bytes c.self.inside.threads } in
    let kept : c.retain.new.self.items ≡ filter (λ (other : ℕ). not (other == c.args.address)) c.self.inside.breaks.items =
    filter_same _ (λ (other : ℕ). not (other == c.args.address)) _ (λ x r f' k. search rules) _ _ c.retain.ensures.filtered in
    subst (λ (d : DebugState). with_breaks here c.retain.new.self.items ≡ with_breaks d (clear_break c.args.address d.breaks)) c.self.view_is
    (ap (with_breaks here) kept)
