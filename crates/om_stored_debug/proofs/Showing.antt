-- What is shown and served of a store, and why it is not.
use Rattle.std.proofs.Common.{◌≡◌, ℕ, List, Option, None, Some, Result, Ok, Err, Bool, false, OnOk}
use Rattle.std.specs.Io.KnownBytes.{Appends, Consumes, IsAtEnd}
use Rattle.om_commands.specs.declared.error.CommandError.{CommandError}
use Rattle.om_commands.specs.declared.error.CommandError.TheVariants as errors
use Rattle.om_commands.specs.steps.Errors.{error_of_replay}
use Rattle.om_debug.specs.Stops.{DebugState}
use Rattle.om_debug_command.specs.Debug.{IsBefore, IsServed}
use Rattle.om_inferiors.specs.Serving.{SessionState, Takes, session}
use Rattle.om_inferiors.specs.declared.shown.Shown.TheVariants.{One}
use Rattle.om_process.specs.declared.replay.ReplayFault.{ReplayFault}
use Rattle.om_process.specs.declared.replay.ReplayFault.TheVariants as faults
use Rattle.om_process.specs.Stored.{anyone, Refuses}
use Rattle.om_commands.specs.Replay.{IsReplayError}
use Rattle.om_stable.specs.Content.{Content}
use Rattle.om_stored_timeline.specs.Stored.{RefusesStored}
use Rattle.om_stored_debug.specs.Shown.{IsErrorOfShownStore, IsErrorOfStore, IsShown}
use Rattle.om_stored_debug.specs.steps.Errors.{IsErrorOfServing}

-- ---- why a store is not shown
refused_to : (held : Content) (x : ℕ) (fault : ReplayFault) → Refuses anyone held x fault → IsReplayError held x (error_of_replay fault)
refused_to held x faults.NoCheckpoint why = why
refused_to held x (faults.Damaged y) why = why
refused_to held x (faults.MissingReceipt y) why = why
refused_to held x (faults.Mismatch y) why = why
refused_to held x faults.Fault why = tt
refused_to held x faults.Memory why = tt

pub refused_store : (held : Content) (interval : Option ℕ) (fault : ReplayFault) → RefusesStored held interval fault → IsErrorOfStore held interval (error_of_replay fault)
refused_store held (Some x) fault why = refused_to held x fault why
refused_store held None fault why = (why.0, refused_to held why.0 fault why.1)

pub no_memory : (held : Content) (interval : Option ℕ) → IsErrorOfStore held interval errors.NoMemory
no_memory held (Some x) = tt
no_memory held None = (0, tt)

-- these errors are among those of packets too
pub store_shown : (held : Content) (interval : Option ℕ) (error : CommandError) → IsErrorOfStore held interval error → IsErrorOfShownStore held interval error
store_shown held interval errors.CannotRead why = tt
store_shown held interval errors.CannotWrite why = tt
store_shown held interval error why = why

-- ---- what is served
pub serving_shown : (held : Content) (interval : Option ℕ) (error : CommandError) → IsErrorOfServing error → IsErrorOfShownStore held interval error
serving_shown held interval errors.CannotRead why = tt
serving_shown held interval errors.CannotWrite why = tt
serving_shown held interval errors.NoMemory why = no_memory held interval
serving_shown held interval error why = absurd why

pub serving_before : (kept : Type 0) (error : CommandError) → IsErrorOfServing error → IsBefore error kept
serving_before kept errors.CannotRead why = tt
serving_before kept errors.CannotWrite why = tt
serving_before kept errors.NoMemory why = tt
serving_before kept error why = absurd why

pub served_of : (d : DebugState) (had left before after : Option (List ℕ))
    → ((bytes : List ℕ) × (written : List ℕ) × (over : Bool) × (last : SessionState) × Takes (session (One d)) bytes written over last
    × Appends before after written × Consumes had left bytes × (over ≡ false → IsAtEnd left)) → IsServed (One d) had left before after
served_of d had left before after s = record { bytes = s.0; written = s.1; over = s.2; last = s.3; takes = s.4; consumes = s.6; appends = s.5; ended = s.7 }

-- what is served is about what is shown
pub served_store : {A : Type 0} (r : Result A CommandError) (held : Content) (interval : Option ℕ) (d : DebugState) (had left before after : Option (List ℕ)) → IsShown held interval d
    → OnOk r (IsServed (One d) had left before after)
    → OnOk r ((e : DebugState) × IsShown held interval e × IsServed (One e) had left before after)
served_store (Ok x) held interval d had left before after shown served = (d, shown, served)
served_store (Err e) held interval d had left before after shown served = tt
