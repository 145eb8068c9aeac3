-- The event of a restart is a start over what the world left.
use Rattle.std.proofs.Common.{◌≡◌, ℕ, ◌<◌, ◌≤◌, List, [], ◌∷◌, ◌++◌, refl, sym, ap, ◌∙◌, subst, arith}
use Rattle.std.proofs.lemmas.List.{append-nil}
use Rattle.om_interval.specs.Vectors.{IsBelow}
use Rattle.om_world.specs.Disk.{IsOnDisk}
use Rattle.om_world.specs.Restarted.{HasRestarted}
use Rattle.om_world.specs.Stopped.{AreCurrent, IsLeft, along}
use Rattle.om_world.specs.World.{WorldState}
use Rattle.om_restart_laws.specs.Chains.{GoesOnFrom}
use Rattle.om_restart_laws.specs.Worlds.{IsTakenUpAt, left_of}
use Rattle.om_restart_laws.proofs.Worlds.{taken_up}

pub taken_up_at : (old new : WorldState) (r : HasRestarted old new) → IsOnDisk (along old r.run) → IsTakenUpAt (along old r.run) new.manager.recovery
taken_up_at old new r disk = subst (IsTakenUpAt (along old r.run)) (sym r.recovery) (taken_up (along old r.run) r.told.rows r.told.recovery disk r.rows r.greatest)

same_below : (state : List ℕ) → IsBelow state state
same_below state = record { same_places = refl; each = λ place lt. omega arith }

pub goes_on : (old new : WorldState) (r : HasRestarted old new) → GoesOnFrom (along old r.run) new.manager.recovery new
goes_on old new r = record {
  same = ap (λ (w : WorldState). w.programs) r.others;
  more = [];
  live = ap (λ (w : WorldState). w.live) r.others ∙ sym (append-nil (left_of (along old r.run) new.manager.recovery));
  recovered = same_below new.manager.recovery;
}

-- where each process knows the last finished round, the run is all that was received
pub whole_run : (old new : WorldState) (r : HasRestarted old new) → AreCurrent old → r.run ≡ old.live
whole_run old new r none = by r.left
  where
    by : IsLeft old r.run → r.run ≡ old.live
    by (IsLeft.current known is) = is
    by (IsLeft.between p lt news free is) = absurd (none p lt news)
