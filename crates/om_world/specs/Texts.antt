-- The words of events and of what is answered to them, wherever these are written.
use Rattle.std.specs.Prelude.{ℕ, List, [], ◌∷◌, ◌++◌, codes, decimal}
use Rattle.om_machine.specs.Causes.{cause_number}
use Rattle.om_manager.specs.declared.answers.Gathered.TheVariants.{Waiting, Finished}
use Rattle.om_process.specs.declared.accept.Accept.{Accept}
use Rattle.om_process.specs.declared.accept.Accept.TheVariants as accepts
use Rattle.om_process.specs.declared.status.Status.{Status}
use Rattle.om_process.specs.declared.status.Status.TheVariants as statuses
use Rattle.om_world.specs.declared.event.Answer.{Answer}
use Rattle.om_world.specs.declared.event.Answer.TheVariants.{Ran, Given, Noted, Resent, Trimmed, Pruned, Down, Back, GoesOn, Restarted, Refused}
use Rattle.om_world.specs.declared.event.Answer.TheVariants as answers
use Rattle.om_world.specs.declared.event.Event.{Event}
use Rattle.om_world.specs.declared.event.Event.TheVariants.{Run, Give, Flush, FlushFirst, Checkpoint, Spell, Fail, Join, Resume, Resend, Trim, Prune, Restart}
use Rattle.om_world.specs.declared.event.Refusal.{Refusal}
use Rattle.om_world.specs.declared.event.Refusal.TheVariants as refusals

-- the line of a script, with one space between words
abbrev pub event_text : Event → List ℕ
event_text (Run process fuel) = codes "run " ++ decimal process ++ 32 ∷ decimal fuel
event_text (Give process frame) = codes "give " ++ decimal process ++ 32 ∷ decimal frame
event_text (Flush process) = codes "flush " ++ decimal process
event_text (FlushFirst process count) = codes "flush " ++ decimal process ++ 32 ∷ decimal count
event_text (Checkpoint process) = codes "checkpoint " ++ decimal process
event_text (Spell process) = codes "spell " ++ decimal process
event_text (Resend process) = codes "resend " ++ decimal process
event_text (Trim process) = codes "trim " ++ decimal process
event_text (Fail process) = codes "fail " ++ decimal process
event_text (Join process) = codes "join " ++ decimal process
event_text (Resume process) = codes "resume " ++ decimal process
event_text Prune = codes "prune"
event_text Restart = codes "restart"

-- what a process is about to do
abbrev pub status_text : Status → List ℕ
status_text statuses.Ready = codes "ready"
status_text statuses.Waiting = codes "waiting"
status_text (statuses.Ended code) = codes "ended " ++ decimal code
status_text (statuses.Trapped cause) = codes "trapped " ++ decimal (cause_number cause)

-- why a frame was not taken; of one that was, nothing
abbrev pub accept_word : Accept → List ℕ
accept_word (accepts.Taken x) = []
accept_word accepts.Repeat = codes "repeat"
accept_word accepts.Ahead = codes "ahead"
accept_word accepts.Orphan = codes "orphan"
accept_word accepts.NotWaiting = codes "not-waiting"
accept_word accepts.Stranger = codes "stranger"
accept_word accepts.Full = codes "full"
accept_word accepts.Memory = codes "memory"

abbrev pub refusal_word : Refusal → List ℕ
refusal_word refusals.NoProcess = codes "no-process"
refusal_word refusals.NotUp = codes "not-up"
refusal_word refusals.NoFrame = codes "no-frame"
refusal_word refusals.NotIn = codes "not-in"
refusal_word refusals.NoRound = codes "no-round"
refusal_word refusals.Spent = codes "spent"
refusal_word refusals.Present = codes "present"
refusal_word refusals.Fault = codes "fault"
refusal_word refusals.Damaged = codes "damaged"
refusal_word refusals.Memory = codes "memory"
refusal_word refusals.Unsettled = codes "unsettled"

-- what is answered to an event
abbrev pub answer_text : Answer → List ℕ
answer_text (Ran steps status sent made) =
    codes "ran " ++ decimal steps ++ 32 ∷ status_text status ++ codes " sent " ++ decimal sent ++ codes " made " ++ decimal made
answer_text (Given (accepts.Taken x)) = codes "taken " ++ decimal x
answer_text (Given accept) = accept_word accept
answer_text (Noted count) = codes "noted " ++ decimal count
answer_text (Resent count) = codes "sent " ++ decimal count
answer_text Trimmed = codes "trimmed"
answer_text Pruned = codes "pruned"
answer_text (answers.Gathered Waiting) = codes "waiting"
answer_text (answers.Gathered Finished) = codes "finished"
answer_text Down = codes "down"
answer_text (Back interval inc) = codes "back " ++ decimal interval ++ codes " inc " ++ decimal inc
answer_text GoesOn = codes "goes-on"
answer_text Restarted = codes "restarted"
answer_text (Refused why) = refusal_word why
