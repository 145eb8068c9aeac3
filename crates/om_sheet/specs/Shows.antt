-- What an event shows, by its answer.
use Rattle.std.specs.Prelude.{◌==◌, Bool, true, false, ◌&&◌, ◌||◌, if◌then◌else◌, is_none, Option, None, Some}
use Rattle.om_manager.specs.declared.answers.Gathered.TheVariants.{Finished}
use Rattle.om_process.specs.declared.accept.Accept.TheVariants as accepts
use Rattle.om_process.specs.declared.status.Status.{Status}
use Rattle.om_process.specs.declared.status.Status.TheVariants as statuses
pub use Rattle.om_world.specs.Events.{process_of}
use Rattle.om_world.specs.declared.event.Answer.{Answer}
use Rattle.om_world.specs.declared.event.Answer.TheVariants as answers
use Rattle.om_world.specs.declared.event.Event.{Event}
use Rattle.om_world.specs.declared.event.Event.TheVariants as events
use Rattle.om_world.specs.declared.event.Refusal.TheVariants as refusals
use Rattle.om_sheet.specs.declared.shown.Shown.{Shown}
use Rattle.om_sheet.specs.declared.shown.Shown.TheVariants as shows

-- the end of a program
abbrev pub end_of : Status → Option Status
end_of statuses.Ready = None
end_of statuses.Waiting = None
end_of status = Some status

-- what an event shows with this answer; ended: it is known already that the program came to its end. A run that sent nothing, made
-- nothing and did not come to its end shows nothing. A receipt is shown where the frame was taken, and there alone; nothing, where
-- there is no such frame or process
abbrev pub shown : Bool → Event → Answer → Shown
shown ended (events.Run process fuel) (answers.Ran steps status sent made) =
    let ends = if ended then None else end_of status in
    if (sent == 0) && ((made == 0) && is_none ends) then shows.Nothing else shows.Run sent made ends
shown ended (events.Give process frame) (answers.Given (accepts.Taken interval)) = shows.Receipt frame interval
shown ended (events.Give process frame) (answers.Refused refusals.NoFrame) = shows.Nothing
shown ended (events.Give process frame) (answers.Refused refusals.NoProcess) = shows.Nothing
shown ended (events.Give process frame) answer = shows.Refused frame
shown ended (events.Flush process) (answers.Noted count) = if count == 0 then shows.Nothing else shows.Flush
shown ended (events.FlushFirst process many) (answers.Noted count) =
    if (count == 0) || (many == 0) then shows.Nothing else shows.FlushFirst many
shown ended (events.Checkpoint process) (answers.Noted count) = shows.Checkpoint
shown ended (events.Spell process) (answers.Noted count) = shows.Checkpoint
shown ended (events.Resend process) (answers.Resent sent) = if sent == 0 then shows.Nothing else shows.Resend sent
shown ended (events.Fail process) (answers.Gathered gathered) = shows.Failure true
shown ended (events.Fail process) answers.Down = shows.Failure false
shown ended (events.Join process) (answers.Gathered gathered) = shows.Join
shown ended (events.Resume process) (answers.Back interval inc) = shows.Back interval inc
shown ended (events.Resume process) answers.GoesOn = shows.GoesOn
shown ended event answer = shows.Nothing

-- a round is finished with this answer
abbrev pub is_finished : Answer → Bool
is_finished (answers.Gathered Finished) = true
is_finished answers.Restarted = true
is_finished _ = false
