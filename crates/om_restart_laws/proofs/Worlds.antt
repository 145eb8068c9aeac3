-- A world that ended is taken up.
use Rattle.std.proofs.Common.{ℕ, ◌≤◌, List, length, arith}
use Rattle.std.specs.Prelude.{slice_index}
use Rattle.om_interval.specs.Vectors.{IsBelow}
use Rattle.om_process.specs.Claims.{Makes}
use Rattle.om_recover.specs.Recoverable.{IsGreatest}
use Rattle.om_recover.specs.Rows.{Rows}
use Rattle.om_world.specs.Disk.{IsOnDisk, held_in}
use Rattle.om_world.specs.Live.{program_at}
use Rattle.om_world.specs.World.{WorldState, output_entry, recovered}
use Rattle.om_take_up.specs.StoreRows.{HasRowsOf}
use Rattle.om_restart_laws.specs.Worlds.{IsTakenUpAt}
use Rattle.om_restart_laws.proofs.Closing.{cut_legal}
use Rattle.om_restart_laws.proofs.Cutting.{cut_fact, cut_true}
use Rattle.om_world.proofs.Losing.{not_lost}
use Rattle.om_restart_laws.proofs.Replaying.{replay_along}

pub taken_up : (w : WorldState) (rows : Rows) (state : List ℕ) → IsOnDisk w → HasRowsOf (length w.programs) (held_in w) rows
    → IsGreatest (length w.programs) rows state → IsTakenUpAt w state
taken_up w rows state disk has greatest = record {
  legal = cut_legal w.programs w.live (held_in w) rows state disk.legal disk.held has greatest.recoverable;
  kept = kept;
  released = λ p i o lt at.
      let size = disk.places in
      let made = disk.released p i o lt at in
      let le = made.0 in
      let more : recovered w.manager p ≤ slice_index state p = kept.each p (omega arith) in
      cut_fact state w.live p o.interval (Makes (program_at w.programs p) p (length w.programs) (length w.programs) i (output_entry o)) (omega arith) made.1;
  stands = λ p core lt own many replay. replay_along w.programs w.live (held_in w) state p core disk.held lt own many replay;
  disk = cut_true w.programs w.live (held_in w) state disk.held;
}
  where
    kept : IsBelow w.manager.recovery state
    kept = not_lost w.programs w.live (held_in w) rows w.manager.recovery state disk.held has greatest disk.places disk.last disk.served disk.within
