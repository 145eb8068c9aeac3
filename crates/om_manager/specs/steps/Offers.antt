-- An output as it is handed in.
use Rattle.std.specs.Prelude.{ℕ}
use Rattle.om_manager.specs.Outputs.{HeldOutput}

-- an output that is handed in: of this process, in this round, with this number
pub record Offer : Type 0 where
  pub pid : ℕ
  pub round : ℕ
  pub seq : ℕ
  pub output : HeldOutput
