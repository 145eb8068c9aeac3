-- What the claims on processes speak of.
use Rattle.std.specs.Prelude.{ℕ, List}
use Rattle.om_process.specs.Process.{Program, Received}
use Rattle.om_manager.specs.State.{ManagerState}
use Rattle.om_world.specs.declared.entry.Entry.{Entry}
use Rattle.om_world.specs.Live.{received}
use Rattle.om_world.specs.World.{WorldState}

-- of a world, what is not a matter of where its processes stand
pub record Past : Type 0 where
  pub programs : List Program
  pub live : List Entry
  pub manager : ManagerState

abbrev pub past_of : WorldState → Past
past_of w = record { programs = w.programs; live = w.live; manager = w.manager }

-- what a process received, but for what was cut
abbrev pub history : Past → ℕ → List Received
history w p = received p w.live
