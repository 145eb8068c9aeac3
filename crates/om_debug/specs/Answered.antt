-- What packets are told of one process, and what they leave.
use Rattle.std.specs.Prelude.{◌≡◌, ℕ, List, codes}
use Rattle.om_requests.specs.declared.request.Request.{Request}
use Rattle.om_requests.specs.declared.request.Request.TheVariants as requests
use Rattle.om_debug.specs.declared.debugger.Reply.{Reply}
use Rattle.om_debug.specs.declared.stop.Stop.{Stop}
use Rattle.om_debug.specs.Monitor.{IsCommanded}
use Rattle.om_debug.specs.Stops.{DebugState, IsPassed, IsRunBack, IsStepBack, StandsFor, stop_text, ChangesTimelineAlone}
use Rattle.om_debug.specs.Told.{asked, clear_break, clear_watch, set_break, set_watch, text_of, with_breaks, with_watches}

-- the process has gone on: nothing stops it at any position that it passed, and it stands where it does for this, which is told
pub record IsResumed (old : DebugState) (told : Reply) (new : DebugState) : Type 0 where
  pub stop : Stop
  pub text : text_of told ≡ stop_text stop
  pub same : ChangesTimelineAlone old new
  pub passed : IsPassed old new
  pub stands : StandsFor new stop

-- the process has gone back by a step, and why it stands there is told
pub record IsSteppedBack (old : DebugState) (told : Reply) (new : DebugState) : Type 0 where
  pub stop : Stop
  pub text : text_of told ≡ stop_text stop
  pub same : ChangesTimelineAlone old new
  pub back : IsStepBack old new stop

-- the process has gone back to a stop, which is told
pub record IsGoneBack (old : DebugState) (told : Reply) (new : DebugState) : Type 0 where
  pub stop : Stop
  pub text : text_of told ≡ stop_text stop
  pub same : ChangesTimelineAlone old new
  pub back : IsRunBack old new stop

-- what a packet is told, and what it leaves
abbrev pub IsAnswered : Request → DebugState → Reply → DebugState → Type 0
IsAnswered (requests.Resume how) old told new = IsResumed old told new
IsAnswered requests.BackStep old told new = IsSteppedBack old told new
IsAnswered requests.BackContinue old told new = IsGoneBack old told new
IsAnswered (requests.SetBreak address) old told new = (text_of told ≡ codes "OK") × (new ≡ with_breaks old (set_break address old.breaks))
IsAnswered (requests.ClearBreak address) old told new = (text_of told ≡ codes "OK") × (new ≡ with_breaks old (clear_break address old.breaks))
IsAnswered (requests.SetWatch watch) old told new = (text_of told ≡ codes "OK") × (new ≡ with_watches old (set_watch watch old.watches))
IsAnswered (requests.ClearWatch watch) old told new = (text_of told ≡ codes "OK") × (new ≡ with_watches old (clear_watch watch old.watches))
IsAnswered (requests.Monitor command) old told new = IsCommanded command old told new
IsAnswered requests.Detach old told new = (text_of told ≡ codes "OK") × (new ≡ old)
IsAnswered requests.Kill old told new = (text_of told ≡ codes "OK") × (new ≡ old)
IsAnswered request old told new = (text_of told ≡ asked old request) × (new ≡ old)
