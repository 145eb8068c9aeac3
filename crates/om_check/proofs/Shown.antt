-- A run at its end, as it is shown.
use Rattle.std.proofs.Common.{◌≡◌, ℕ, ◌<◌, List, [], length, refl, sym, ap, subst, ◌∙◌, Option, Some, None, Result, Ok, Err}
use Rattle.std.specs.Prelude.{Vec, IfOk, IfSome}
use Rattle.om_world.specs.Started.{IsStarted}
use Rattle.om_check.specs.declared.fault.PlayFault.{PlayFault}
use Rattle.std.specs.declared.alloc.Global.{Global}
use Rattle.om_process.specs.Process.{Program}
use Rattle.om_world.specs.World.{WorldState}
use Rattle.om_world.specs.declared.event.Event.{Event}
use Rattle.om_check.specs.Explored.{EndsIn, IsExplored, LeadTo}
use Rattle.om_check.specs.Whole.{IsUnderWay}
use Rattle.om_check.specs.declared.exploring.Explored.{Explored}
use Rattle.om_check.specs.declared.exploring.End.{End}
use Rattle.om_check.specs.declared.exploring.End.TheVariants.{Whole, Stuck}
use Rattle.om_check.specs.steps.Playing.{StandsIn}

ends_in : (programs : List Program) (w : WorldState) (end : End) (n : ℕ) → IsUnderWay programs w → n ≡ length programs → StandsIn w end n → EndsIn programs w end
ends_in programs w Whole n way all stands = record { way = way; done = λ p lt. stands p (subst (λ k. p < k) (sym all) lt) }
ends_in programs w Stuck n way all stands = record { way = way; each = λ p lt. stands p (subst (λ k. p < k) (sym all) lt) }

pub explored_so : (programs : List Program) (events : Vec Event Global) (w : WorldState) (run : Explored) (n : ℕ) → IsUnderWay programs w
    → LeadTo programs events.items w → n ≡ length w.programs → run.world ≡ w → run.events ≡ events → StandsIn w run.end n → IsExplored programs run
explored_so programs events w run n way led all world same stands = record {
  led = subst (λ (es : Vec Event Global). LeadTo programs es.items run.world) (sym same) (subst (λ v. LeadTo programs events.items v) (sym world) led);
  ends = subst (λ v. EndsIn programs v run.end) (sym world) (ends_in programs w run.end n way (all ∙ ap length way.these) stands);
}

-- nothing has happened yet
pub begins_so : (programs : List Program) (w : WorldState) (events : List Event) → events ≡ [] → IsStarted programs w → IsUnderWay programs w
    → LeadTo programs events w
begins_so programs w events none started way =
    subst (λ es. LeadTo programs es w) (sym none) (record { begun = w; started = started; known = way.known; answers = []; played = refl })

-- whatever is told of a run at its end
pub explored_all : (programs : List Program) (events : Vec Event Global) (w : WorldState) (n : ℕ) (told : Result (Option Explored) PlayFault)
    → IsUnderWay programs w → LeadTo programs events.items w → n ≡ length w.programs
    → IfOk told (λ run. IfSome run (λ r. r.world ≡ w)) → IfOk told (λ run. IfSome run (λ r. r.events ≡ events))
    → IfOk told (λ run. IfSome run (λ r. StandsIn w r.end n)) → IfOk told (λ run. IfSome run (IsExplored programs))
explored_all programs events w n (Ok (Some run)) way led all world same stands = explored_so programs events w run n way led all world same stands
explored_all programs events w n (Ok None) way led all world same stands = tt
explored_all programs events w n (Err fault) way led all world same stands = tt
