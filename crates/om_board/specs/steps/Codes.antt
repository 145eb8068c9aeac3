-- Codes, by which a proof tells values apart.
use Rattle.std.specs.Prelude.{◌≡◌, ℕ, List, Bool, Option, None, Some}
use Rattle.std.proofs.Common.{refl}
use Rattle.std.specs.Coded.{Coded, code_by, coded×, coded_ℕ, coded_list, coded_bool, coded_option}
use Rattle.om_manager.specs.State.{ManagerState}
use Rattle.om_manager.specs.steps.Codes.{coded_manager}
use Rattle.om_board.specs.Boards.{BoardState}
use Rattle.om_board.specs.declared.front.Front.{Front}
use Rattle.om_board.specs.declared.waiting.Waiting.{Waiting}
use Rattle.om_board.specs.declared.waiting.Waiting.TheVariants.{Owes, Offers, Waits}

coded_front : Coded Front
coded_front =
    code_by (ℕ × (ℕ × List ℕ)) (coded× coded_ℕ (coded× coded_ℕ (coded_list coded_ℕ)))
    (λ f. (f.version, (f.round, f.vec)))
    (λ parts. record { version = parts.0; round = parts.1.0; vec = parts.1.1 })
    (λ f. refl)

parts_of : Waiting → Option (Option (ℕ × ℕ))
parts_of Owes = None
parts_of Offers = Some None
parts_of (Waits put taken) = Some (Some (put, taken))

waiting_from : Option (Option (ℕ × ℕ)) → Waiting
waiting_from None = Owes
waiting_from (Some None) = Offers
waiting_from (Some (Some counts)) = Waits counts.0 counts.1

waiting_from-parts_of : (waiting : Waiting) → waiting_from (parts_of waiting) ≡ waiting
unfolding parts_of waiting_from
waiting_from-parts_of Owes = refl
waiting_from-parts_of Offers = refl
waiting_from-parts_of (Waits put taken) = refl

coded_waiting : Coded Waiting
coded_waiting = code_by (Option (Option (ℕ × ℕ))) (coded_option (coded_option (coded× coded_ℕ coded_ℕ))) parts_of waiting_from waiting_from-parts_of

pub coded_board : Coded BoardState
coded_board =
    code_by (ManagerState × (List Front × (List Bool × List Waiting)))
    (coded× coded_manager (coded× (coded_list coded_front) (coded× (coded_list coded_bool) (coded_list coded_waiting))))
    (λ b. (b.manager, (b.posted, (b.quiet, b.waiting))))
    (λ parts. record { manager = parts.0; posted = parts.1.0; quiet = parts.1.1.0; waiting = parts.1.1.1 })
    (λ b. refl)
