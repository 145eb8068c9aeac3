-- Outputs as they are handed in.
use Rattle.std.specs.Prelude.{ℕ}
use Rattle.om_process.specs.declared.queues.Made.{Made}
use Rattle.om_manager.specs.steps.Offers.{Offer}
use Rattle.om_member.specs.Handed.{held_as}

-- an output as it is handed in
abbrev pub offer_of : ℕ → ℕ → Made → Offer
offer_of round p m = record { pid = p; round = round; seq = m.seq; output = held_as m }
