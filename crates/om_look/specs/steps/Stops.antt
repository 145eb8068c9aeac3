-- To where the content of a store can be replayed.
use Rattle.std.specs.Prelude.{ℕ, ◌+◌, ◌<◌, ◌≤◌}
use Rattle.om_stable.specs.Content.{Content}
use Rattle.om_process.specs.Stored.{anyone, CanReplay}

-- of the intervals from c to x those below the stop can be replayed, and no other
pub record StopsAt (held : Content) (c x stop : ℕ) : Type 0 where
  pub above : c ≤ stop
  pub within : stop ≤ x + 1
  pub replayed : (y : ℕ) → c ≤ y → y < stop → CanReplay anyone held y
  pub no_more : (y : ℕ) → stop ≤ y → y ≤ x → CanReplay anyone held y → ⊥
