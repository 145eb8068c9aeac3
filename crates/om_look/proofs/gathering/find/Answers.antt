use Rattle.std.proofs.Common.{◌≡◌, ◌++◌, ◌∷◌, [], inr, sym, subst, string_bytes}
use Rattle.std.specs.Prelude.{Some}
use Rattle.std.specs.FinMap.{get}
use Rattle.om_stable.specs.Calls.{IsCleanCall}
use Rattle.om_stable.specs.Content.{Content, IsEffective}
use Rattle.om_look.specs.Lines.{IsCheckpointLine}
use Rattle.om_look.specs.steps.Stops.{StopsAt}
use Rattle.om_look.specs.steps.Found.{before}
use Rattle.om_look.proofs.gathering.find.Goals as goal

pub returns-clause-finds : goal.returns-clause-finds
returns-clause-finds g c known =
    let held = g.S.Stable.content c.args.store.now in
    let x = c.in-Some.x in
    let f = c.in_ok-found_at.field-0 in
    let first : IsCleanCall g.S.Stable.is_clean g.S.Stable.IsSound c.args.store.now c.effective_of.new.store = (c.found_at.ensures.reads.clean known.0, known.1) in
    let second : IsCleanCall g.S.Stable.is_clean g.S.Stable.IsSound c.effective_of.new.store c.found_at.new.store = (known.0, c.in_ok-x.ensures.reads.sound first.0 known.1) in
    let same : g.S.Stable.content c.effective_of.new.store ≡ held = c.in_ok-x.ensures.reads.same first in
    let effective : IsEffective held.checkpoints c.args.to x = rw c.in-Some.is at (c.in_ok-x.ensures.effective first) in
    let stands : get held.checkpoints x ≡ Some c.in-Some.bytes.items = rw c.in-Some.is at (c.in_ok-x.ensures.bytes first) in
    let line : IsCheckpointLine (x, c.in-Some.bytes.items) (string_bytes f.line) = subst (λ bs. IsCheckpointLine (x, bs) (string_bytes f.line)) c.deref.ensures.value c.in_ok-found_at.ensures.line in
    let there : IsEffective (g.S.Stable.content c.effective_of.new.store).checkpoints c.args.to x = subst (λ (h : Content). IsEffective h.checkpoints c.args.to x) (sym same) effective in
    let stops : StopsAt held x c.args.to f.stop = subst (λ h. StopsAt h x c.args.to f.stop) same (c.in_ok-found_at.ensures.stops second x there) in
    let next : c.below.result ≡ before x = c.below.ensures.before effective.within in
    let pushed : c.push.new.self.items ≡ c.args.found.now.items ++ f ∷ [] = c.in_ok-push.ensures.items in
    inr ((x, c.in-Some.bytes.items), f, record { effective = effective; stands = stands; interval = c.in_ok-found_at.ensures.interval; line = line; stops = stops }, next, pushed)
