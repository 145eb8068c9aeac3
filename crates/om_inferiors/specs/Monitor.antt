-- What commands of the user are told of several processes, and where they lead.
use Rattle.std.specs.Prelude.{◌≡◌, ℕ, Bool, List, [], ◌∷◌, ◌++◌, Option, None, Some, slice_get, position, nat_lt, codes, decimal}
use Rattle.std.specs.List.{AllZip, flat_map}
use Rattle.om_requests.specs.declared.request.Command.{Command}
use Rattle.om_requests.specs.declared.request.Command.TheVariants as commands
use Rattle.om_debug.specs.declared.debugger.Reply.{Reply}
use Rattle.om_debug.specs.Monitor.{IsAtEvent, IsSaid, events_text, help_text, process_line, time_line}
use Rattle.om_inferiors.specs.declared.inferior.Inferior.{Inferior}
use Rattle.om_inferiors.specs.declared.inferiors.Inferiors.{Inferiors}
use Rattle.om_inferiors.specs.Moving.{IsMovedOne}

-- ---- texts
-- some instructions of the next event are done
abbrev pub is_under_way : Inferior → Bool
is_under_way m = nat_lt 0 m.debugger.timeline.turns

abbrev pub or_first : Option ℕ → ℕ
or_first None = 0
or_first (Some place) = place

-- where the process stands that is in the middle of an event, or else the first
abbrev pub lead_place : List Inferior → ℕ
lead_place members = or_first (position is_under_way members)

abbrev pub time_of : Option Inferior → List ℕ
time_of None = []
time_of (Some m) = time_line m.debugger.timeline

abbrev pub events_of : Option Inferior → List ℕ
events_of None = []
events_of (Some m) = events_text m.debugger.timeline

abbrev pub number_text : ℕ → List ℕ
number_text number = decimal number ++ codes " "

-- the line of a process, with its number
abbrev pub member_line : Inferior → List ℕ
member_line m = number_text m.number ++ process_line m.debugger

-- where time and the processes stand
abbrev pub group_where_text : List Inferior → List ℕ
group_where_text members = time_of (slice_get members (lead_place members)) ++ flat_map member_line members

-- the events around here
abbrev pub group_events_text : List Inferior → List ℕ
group_events_text members = events_of (slice_get members 0)

-- ---- commands
-- a process has gone to before the event of a number, or to the end
pub record IsSentTo (number : ℕ) (old new : Inferior) : Type 0 where
  pub moved : IsMovedOne old new
  pub there : IsAtEvent number new.debugger.timeline

abbrev pub AreSentTo : ℕ → List Inferior → List Inferior → Type 0
AreSentTo number olds news = AllZip (IsSentTo number) olds news

-- all have, and nothing else has changed
pub record IsGroupSentTo (number : ℕ) (old new : Inferiors) : Type 0 where
  pub members : AreSentTo number old.members.items new.members.items
  pub selected : new.selected ≡ old.selected
  pub going : new.going ≡ old.going
  pub focus : new.focus ≡ old.focus

-- what a command is told, and where it leads: all but one lead nowhere
abbrev pub IsGroupCommanded : Command → Inferiors → Reply → Inferiors → Type 0
IsGroupCommanded commands.Where old told new = (new ≡ old) × IsSaid (group_where_text old.members.items) told
IsGroupCommanded commands.Events old told new = (new ≡ old) × IsSaid (group_events_text old.members.items) told
IsGroupCommanded (commands.Goto number) old told new = IsGroupSentTo number old new × IsSaid (group_where_text new.members.items) told
IsGroupCommanded commands.Help old told new = (new ≡ old) × IsSaid help_text told
