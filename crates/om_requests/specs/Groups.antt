-- What the bytes of a packet ask of a group of processes, of which each has one thread.
use Rattle.std.specs.Prelude.{ℕ, ◌+◌, ◌||◌, ◌&&◌, ◌==◌, List, [], ◌∷◌, take, drop, nat_le, position, Option, Some, None, if◌then◌else◌, codes}
use Rattle.std.specs.Str.{bytes_eq}
use Rattle.om_requests.specs.Numbers.{hex_number}
use Rattle.om_requests.specs.Requests.{request_by, resume_request, thread_of, packet_words}
use Rattle.om_requests.specs.declared.group.GroupRequest.{GroupRequest}
use Rattle.om_requests.specs.declared.group.GroupRequest.TheVariants as groups
use Rattle.om_requests.specs.declared.group.Whom.{Whom}
use Rattle.om_requests.specs.declared.group.Whom.TheVariants as whoms
use Rattle.om_requests.specs.declared.request.Request.{Request}
use Rattle.om_requests.specs.declared.request.Request.TheVariants as requests
use Rattle.om_requests.specs.declared.request.Thread.{Thread}
use Rattle.om_requests.specs.declared.request.Thread.TheVariants.{Any, Numbered}

-- ---- who is meant
-- a process, where its number is one: 0 is any
abbrev pub any_or : Option ℕ → (ℕ → Option Whom) → Option Whom
any_or None ask = None
any_or (Some n) ask = if n == 0 then Some whoms.Any else ask n

-- a thread of a process: 0 and 1 are its one thread, and there is no other
abbrev pub one_thread : ℕ → Option ℕ → Option Whom
one_thread n None = None
one_thread n (Some thread) = if nat_le thread 1 then Some (whoms.One n) else None

-- all threads of a process, or one
abbrev pub thread_in : List ℕ → ℕ → Option Whom
thread_in word n = if bytes_eq word (codes "-1") then Some (whoms.Whole n) else one_thread n (hex_number word)

-- a process alone means all its threads
abbrev pub whole : ℕ → Option Whom
whole n = Some (whoms.Whole n)

-- PROCESS.THREAD, by where the point stands, or PROCESS
abbrev pub parted_whom : List ℕ → Option ℕ → Option Whom
parted_whom word None = any_or (hex_number word) whole
parted_whom word (Some at) =
    if bytes_eq (take at word) (codes "-1") then Some whoms.Any else any_or (hex_number (take at word)) (thread_in (drop (at + 1) word))

abbrev pub process_whom : List ℕ → Option Whom
process_whom word = if bytes_eq word (codes "-1") then Some whoms.Any else parted_whom word (position (λ byte. byte == 46) word)

-- without a p a number is that of a process
abbrev pub thread_whom : Option Thread → Option Whom
thread_whom None = None
thread_whom (Some Any) = Some whoms.Any
thread_whom (Some (Numbered n)) = Some (whoms.One n)

abbrev pub whom_of : List ℕ → Option Whom
whom_of [] = None
whom_of (first ∷ word) = if first == 112 then process_whom word else thread_whom (thread_of (first ∷ word))

-- ---- what is asked
-- what is asked of one, and otherwise it is malformed
abbrev pub of_whom : (Whom → GroupRequest) → Option Whom → GroupRequest
of_whom ask (Some whom) = ask whom
of_whom ask None = groups.Other requests.Malformed

abbrev pub of_number : (ℕ → GroupRequest) → Option ℕ → GroupRequest
of_number ask (Some n) = ask n
of_number ask None = groups.Other requests.Malformed

-- who is meant from now on: g for what is read of it, c for what goes on
abbrev pub group_selection : List ℕ → GroupRequest
group_selection [] = groups.Other requests.Malformed
group_selection (letter ∷ word) =
    if letter == 103 then of_whom groups.Select (whom_of word)
    else (if letter == 99 then of_whom groups.SelectGoing (whom_of word) else groups.Other requests.Malformed)

-- the words behind the first action of those by which to go on: a range has two
abbrev pub behind_action : List (List ℕ) → List (List ℕ)
behind_action [] = []
behind_action ([] ∷ more) = more
behind_action ((letter ∷ word) ∷ more) = if letter == 114 then drop 1 more else more

-- who is to take an action: the thread that is named behind it, or any
abbrev pub named_first : List (List ℕ) → Option Whom
named_first [] = Some whoms.Any
named_first ([] ∷ more) = Some whoms.Any
named_first ((letter ∷ word) ∷ more) = if letter == 112 then process_whom word else Some whoms.Any

abbrev pub resumed : Request → Option Whom → GroupRequest
resumed (requests.Resume how) (Some whom) = groups.Resume how whom
resumed request whom = groups.Other requests.Malformed

-- how to go on, by the first action, and who is to take it
abbrev pub group_resume : List (List ℕ) → GroupRequest
group_resume rest = resumed (resume_request rest) (named_first (behind_action rest))

-- a process is left
abbrev pub leaving : List (List ℕ) → Option GroupRequest
leaving [] = None
leaving (word ∷ more) = Some (of_number groups.Leave (hex_number word))

-- a piece of the name of a process's file
abbrev pub file_of : Option ℕ → Option ℕ → Option ℕ → GroupRequest
file_of (Some process) (Some offset) (Some length) = groups.File process offset length
file_of process offset length = groups.Other requests.Malformed

abbrev pub file_request : List (List ℕ) → Option GroupRequest
file_request (object ∷ action ∷ annex ∷ offset ∷ length ∷ []) =
    if bytes_eq object (codes "exec-file") && bytes_eq action (codes "read")
    then Some (file_of (hex_number annex) (hex_number offset) (hex_number length)) else None
file_request _ = None

-- a request by the letter that begins its first word: H, T
abbrev pub by_group_letter : List ℕ → Option GroupRequest
by_group_letter [] = None
by_group_letter (letter ∷ word) =
    if letter == 72 then Some (group_selection word)
    else (if letter == 84 then Some (of_whom groups.IsAlive (whom_of word)) else None)

-- what is asked of a group alone, if it is
abbrev pub group_by_word : List ℕ → List (List ℕ) → Option GroupRequest
group_by_word first rest =
    if bytes_eq first (codes "vCont") then Some (group_resume rest)
    else (if bytes_eq first (codes "qXfer") then file_request rest
    else (if bytes_eq first (codes "D") || bytes_eq first (codes "vKill") then leaving rest
    else by_group_letter first))

abbrev pub group_by : List (List ℕ) → Option GroupRequest
group_by [] = None
group_by (first ∷ rest) = group_by_word first rest

-- what one process is asked too
abbrev pub or_other : Option GroupRequest → Request → GroupRequest
or_other (Some request) other = request
or_other None other = groups.Other other

abbrev pub group_request_of : List ℕ → GroupRequest
group_request_of packet = or_other (group_by (packet_words packet)) (request_by (packet_words packet))
