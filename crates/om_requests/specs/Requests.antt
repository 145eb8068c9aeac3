-- What the bytes of a packet ask.
use Rattle.std.specs.Prelude.{ℕ, Bool, true, false, ◌||◌, ◌==◌, List, [], ◌∷◌, take, drop, Option, Some, None, Result, Ok, Err, if◌then◌else◌, codes}
use Rattle.std.specs.List.{slice_split}
use Rattle.std.specs.Str.{bytes_eq}
use Rattle.hex.specs.Hex.{decode_of}
use Rattle.hex.specs.declared.error.FromHexError.{FromHexError}
use Rattle.om_text.specs.Numbers.{number_of}
use Rattle.om_requests.specs.Numbers.{hex_number}
use Rattle.om_requests.specs.declared.request.Command.{Command}
use Rattle.om_requests.specs.declared.request.Command.TheVariants.{Where, Events, Goto, Help}
use Rattle.om_requests.specs.declared.request.Request.{Request}
use Rattle.om_requests.specs.declared.request.Request.TheVariants as requests
use Rattle.om_requests.specs.declared.request.Resume.TheVariants.{Step, Range, Continue}
use Rattle.om_requests.specs.declared.request.Thread.{Thread}
use Rattle.om_requests.specs.declared.request.Thread.TheVariants.{Any, Numbered}
use Rattle.om_requests.specs.declared.request.Watch.{Watch}
use Rattle.om_requests.specs.declared.request.Watched.{Watched}
use Rattle.om_requests.specs.declared.request.Watched.TheVariants.{Writes, Reads, Both}

-- a comma, a colon or a semicolon: what parts the words of a packet, and nothing else does
abbrev pub is_mark : ℕ → Bool
is_mark byte = (byte == 44) || (byte == 58) || (byte == 59)

-- the words of a packet, of which some are empty
abbrev pub packet_words : List ℕ → List (List ℕ)
packet_words packet = slice_split is_mark packet

-- what is asked with two numbers
abbrev pub with_two : (ℕ → ℕ → Request) → Option ℕ → Option ℕ → Request
with_two ask (Some n) (Some k) = ask n k
with_two ask (Some n) None = requests.Malformed
with_two ask None other = requests.Malformed

-- the memory from an address on, by the address and the words behind it, of which the one is the length
abbrev pub memory_request : List ℕ → List (List ℕ) → Request
memory_request address (length ∷ []) = with_two requests.Memory (hex_number address) (hex_number length)
memory_request address _ = requests.Malformed

-- a thread: any, for 0 and -1, or the one of a number
abbrev pub numbered_thread : Option ℕ → Option Thread
numbered_thread None = None
numbered_thread (Some n) = Some (if n == 0 then Any else Numbered n)

abbrev pub thread_of : List ℕ → Option Thread
thread_of word = if bytes_eq word (codes "-1") then Some Any else numbered_thread (hex_number word)

-- what is asked of a thread
abbrev pub of_thread : (Thread → Request) → Option Thread → Request
of_thread ask (Some thread) = ask thread
of_thread ask None = requests.Malformed

-- which thread is meant from now on: g for what is read of it, c for what goes on
abbrev pub selection : List ℕ → Request
selection [] = requests.Malformed
selection (letter ∷ word) =
    if letter == 103 then of_thread requests.Select (thread_of word)
    else (if letter == 99 then of_thread requests.SelectGoing (thread_of word) else requests.Malformed)

-- a breakpoint is set or taken away, by its address
abbrev pub break_at : Bool → Option ℕ → Request
break_at sets None = requests.Malformed
break_at sets (Some address) = if sets then requests.SetBreak address else requests.ClearBreak address

-- whether what is to be set is a breakpoint, by its kind: 0 and 1
abbrev pub is_break : List ℕ → Bool
is_break kind = bytes_eq kind (codes "0") || bytes_eq kind (codes "1")

-- the watchpoint of a kind: 2 to 4
abbrev pub watched_of : List ℕ → Option Watched
watched_of kind =
    if bytes_eq kind (codes "2") then Some Writes
    else (if bytes_eq kind (codes "3") then Some Reads
    else (if bytes_eq kind (codes "4") then Some Both else None))

abbrev pub watch_at : Bool → Watch → Request
watch_at sets watch = if sets then requests.SetWatch watch else requests.ClearWatch watch

-- a watchpoint is set or taken away, by its address and the words behind it, of which the first is its length
abbrev pub watch_of : Bool → Watched → Option ℕ → Option ℕ → Request
watch_of sets kind (Some address) (Some length) = watch_at sets (record { kind = kind; address = address; length = length })
watch_of sets kind (Some address) None = requests.Malformed
watch_of sets kind None other = requests.Malformed

abbrev pub watch_request : Bool → Watched → Option ℕ → List (List ℕ) → Request
watch_request sets kind address [] = requests.Malformed
watch_request sets kind address (length ∷ more) = watch_of sets kind address (hex_number length)

abbrev pub watched_request : Bool → Option Watched → Option ℕ → List (List ℕ) → Request
watched_request sets None address rest = requests.Unknown
watched_request sets (Some kind) address rest = watch_request sets kind address rest

abbrev pub break_request : Bool → List ℕ → List (List ℕ) → Request
break_request sets kind [] = requests.Malformed
break_request sets kind (address ∷ more) =
    if is_break kind then break_at sets (hex_number address) else watched_request sets (watched_of kind) (hex_number address) more

-- a request by the letter that begins its first word: m, H, T, Z, z, and those that would change something, M X G P
abbrev pub letter_request : ℕ → List ℕ → List (List ℕ) → Request
letter_request letter word rest =
    if letter == 109 then memory_request word rest
    else (if letter == 72 then selection word
    else (if letter == 84 then of_thread requests.IsAlive (thread_of word)
    else (if letter == 90 then break_request true word rest
    else (if letter == 122 then break_request false word rest
    else (if (letter == 77) || (letter == 88) || (letter == 71) || (letter == 80) then requests.Write
    else requests.Unknown)))))

abbrev pub by_letter : List ℕ → List (List ℕ) → Request
by_letter [] rest = requests.Unknown
by_letter (letter ∷ word) rest = letter_request letter word rest

-- a piece of a text: from where on, and how many bytes of it
abbrev pub transfer_of : List ℕ → List ℕ → List ℕ → List ℕ → Request
transfer_of object annex offset length =
    if bytes_eq object (codes "features")
    then (if bytes_eq annex (codes "target.xml") then with_two requests.Target (hex_number offset) (hex_number length) else requests.Malformed)
    else (if bytes_eq object (codes "threads") then with_two requests.Threads (hex_number offset) (hex_number length)
    else requests.Unknown)

abbrev pub transfer : List (List ℕ) → Request
transfer (object ∷ action ∷ annex ∷ offset ∷ length ∷ []) =
    if bytes_eq action (codes "read") then transfer_of object annex offset length else requests.Unknown
transfer _ = requests.Unknown

-- the request to go on as long as pc is at the one address or above, and below the other
abbrev pub range_request : List ℕ → List (List ℕ) → Request
range_request from [] = requests.Malformed
range_request from (to ∷ more) = with_two (λ a b. requests.Resume (Range a b)) (hex_number from) (hex_number to)

-- how to go on, by the first action: s and S for one instruction, r for all within a range, c and C for as many as there are
abbrev pub going : ℕ → List ℕ → List (List ℕ) → Request
going letter word rest =
    if (letter == 115) || (letter == 83) then requests.Resume Step
    else (if (letter == 99) || (letter == 67) then requests.Resume Continue
    else (if letter == 114 then range_request word rest else requests.Malformed))

abbrev pub resume_request : List (List ℕ) → Request
resume_request [] = requests.Malformed
resume_request ([] ∷ rest) = requests.Malformed
resume_request ((letter ∷ word) ∷ rest) = going letter word rest

-- a command of the user: help for all that is none
abbrev pub goto_command : Option ℕ → Command
goto_command None = Help
goto_command (Some event) = Goto event

abbrev pub command_of : List ℕ → Command
command_of text =
    if bytes_eq text (codes "where") then Where
    else (if bytes_eq text (codes "events") then Events
    else (if bytes_eq (take 5 text) (codes "goto ") then goto_command (number_of (drop 5 text)) else Help))

-- which is written in hexadecimal digits
abbrev pub decoded_command : Result (List ℕ) FromHexError → Command
decoded_command (Ok text) = command_of text
decoded_command (Err error) = Help

abbrev pub monitor_request : List (List ℕ) → Request
monitor_request (word ∷ []) = requests.Monitor (decoded_command (decode_of word))
monitor_request _ = requests.Monitor Help

-- a request by its whole first word, where that is no command of the user
abbrev pub by_word : List ℕ → List (List ℕ) → Request
by_word first rest =
    if bytes_eq first (codes "qSupported") then requests.Supported
    else (if bytes_eq first (codes "QStartNoAckMode") then requests.StartNoAckMode
    else (if bytes_eq first (codes "?") then requests.Why
    else (if bytes_eq first (codes "g") then requests.Registers
    else (if bytes_eq first (codes "qAttached") then requests.Attached
    else (if bytes_eq first (codes "qXfer") then transfer rest
    else (if bytes_eq first (codes "vCont?") then requests.Actions
    else (if bytes_eq first (codes "vCont") then resume_request rest
    else (if bytes_eq first (codes "bs") then requests.BackStep
    else (if bytes_eq first (codes "bc") then requests.BackContinue
    else (if bytes_eq first (codes "D") then requests.Detach
    else (if bytes_eq first (codes "k") || bytes_eq first (codes "vKill") then requests.Kill
    else by_letter first rest)))))))))))

-- what a packet asks, by its words
abbrev pub request_by : List (List ℕ) → Request
request_by [] = requests.Unknown
request_by (first ∷ rest) = if bytes_eq first (codes "qRcmd") then monitor_request rest else by_word first rest

abbrev pub request_of : List ℕ → Request
request_of packet = request_by (packet_words packet)
