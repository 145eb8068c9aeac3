-- What was received stays, and who is up.
use Rattle.std.proofs.Common.{◌≡◌, ap, ◌∙◌}
use Rattle.om_world.specs.World.{WorldState}

pub all_stay : (w z : WorldState) → z.programs ≡ w.programs → z.live ≡ w.live → z.places ≡ w.places → z.rounds ≡ w.rounds → z.origins ≡ w.origins
    → z ≡ record z { programs = w.programs; live = w.live; places = w.places; rounds = w.rounds; origins = w.origins }
all_stay w z programs live places rounds origins =
    ap (λ a. record z { programs = a }) programs
    ∙ ap (λ a. record z { programs = w.programs; live = a }) live
    ∙ ap (λ a. record z { programs = w.programs; live = w.live; places = a }) places
    ∙ ap (λ a. record z { programs = w.programs; live = w.live; places = w.places; rounds = a }) rounds
    ∙ ap (λ a. record z { programs = w.programs; live = w.live; places = w.places; rounds = w.rounds; origins = a }) origins
