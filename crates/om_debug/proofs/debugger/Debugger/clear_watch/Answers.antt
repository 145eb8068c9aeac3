use Rattle.std.proofs.Common.{◌≡◌, not, filter, ap, subst, string_bytes, rules}
use Rattle.std.proofs.lemmas.Fn.{filter_same}
use Rattle.om_requests.specs.declared.request.Watch.{Watch}
use Rattle.om_debug.specs.Stops.{DebugState}
use Rattle.om_debug.specs.Told.{clear_watch, is_watch, with_watches}
use Rattle.om_debug.proofs.debugger.Debugger.clear_watch.Goals as goal

pub returns : goal.returns
returns c =
    let here : DebugState = record { timeline = c.self.inside.timeline; breaks = c.self.inside.breaks.items; watches = c.self.inside.watches.items; name = string_bytes c.self.inside.name; threads = string_bytes c.self.inside.threads } in
    let kept : c.retain.new.self.items ≡ filter (λ (other : Watch). not (is_watch other c.args.watch)) c.self.inside.watches.items =
    filter_same _ (λ (other : Watch). not (is_watch other c.args.watch)) _ (λ x r f' k. search rules) _ _ c.retain.ensures.filtered in
    subst (λ (d : DebugState). with_watches here c.retain.new.self.items ≡ with_watches d (clear_watch c.args.watch d.watches)) c.self.view_is
    (ap (with_watches here) kept)
