-- What was released once stands in all that comes after.
use Rattle.std.proofs.Common.{◌≡◌, ℕ, ◌<◌, List, [], ◌∷◌, ◌++◌, length, sym, ap, ◌∙◌, subst, arith}
use Rattle.om_manager.specs.Outputs.{HeldOutput}
use Rattle.om_process.specs.Claims.{AtInterval, Makes}
use Rattle.om_process.specs.Process.{Program, Received}
use Rattle.om_world.specs.Live.{program_at, received}
use Rattle.om_world.specs.World.{WorldState, output_entry}
use Rattle.om_world.proofs.Legal.{at_more, received-append}
use Rattle.om_restart_laws.specs.Chains.{GoesOnFrom, IsChain, IsSaid, Start}
use Rattle.om_restart_laws.specs.Worlds.{IsTakenUpAt, left_of}
use Rattle.om_restart_laws.proofs.Cutting.{cut_fact}
use Rattle.om_restart_laws.proofs.Worlds.{taken_up}

-- how a number is made along some receipts, by the programs
abbrev MadeBy : List Program → ℕ → ℕ → HeldOutput → List Received → Type 0
MadeBy programs p number o = Makes (program_at programs p) p (length programs) (length programs) number (output_entry o)

-- one start
said_next : (old new : WorldState) (start : Start) (p number : ℕ) (o : HeldOutput) → p < length old.programs → IsTakenUpAt old start.state → length old.manager.recovery ≡ length old.programs
    → GoesOnFrom old start.state new → IsSaid old p number o → IsSaid new p number o
said_next old new start p number o lt t size on said =
    let low = t.kept.each p (omega arith) in
    let same = t.kept.same_places in
    let high = on.recovered.each p (omega arith) in
    let was = said.0 in
    let cut = cut_fact start.state old.live p o.interval (MadeBy old.programs p number o) (omega arith) said.1 in
    let more = at_more (received p (left_of old start.state)) (received p on.more) o.interval (MadeBy old.programs p number o) cut in
    let here : received p (left_of old start.state) ++ received p on.more ≡ received p new.live = sym (received-append p (left_of old start.state) on.more) ∙ ap (received p) (sym on.live) in
    let long : AtInterval (received p new.live) o.interval (MadeBy old.programs p number o) = subst (λ h. AtInterval h o.interval (MadeBy old.programs p number o)) here more in (
      omega arith,
      subst (λ programs. AtInterval (received p new.live) o.interval (MadeBy programs p number o)) (sym on.same) long,
    )

pub said_on : (first : WorldState) (starts : List Start) (last : WorldState) (p number : ℕ) (o : HeldOutput) → p < length first.programs → IsChain first starts last → IsSaid first p number o → IsSaid last p number o
said_on first [] last p number o lt chain said = subst (λ w. IsSaid w p number o) (sym chain) said
said_on first (start ∷ starts) last p number o lt chain said =
    let t = taken_up first start.rows start.state chain.0 chain.1 chain.2 in
    let next = said_next first chain.3 start p number o lt t chain.0.places chain.4 said in
    said_on chain.3 starts last p number o (subst (λ (programs : List Program). p < length programs) (sym chain.4.same) lt) chain.5 next
