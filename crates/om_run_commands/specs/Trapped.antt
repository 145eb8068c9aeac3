-- What is told of processes that trapped.
use Rattle.std.specs.Prelude.{ℕ, List, [], ◌∷◌, ◌++◌, Bool, true, false, length, slice_index_or, codes, decimal, None}
use Rattle.std.specs.List.{flat_map, range_with_len}
use Rattle.om_look.specs.Trace.{word_text}
use Rattle.om_machine.specs.Causes.{cause_number}
use Rattle.om_machine.specs.declared.event.Cause.{Cause}
use Rattle.om_machine.specs.declared.event.Cause.TheVariants.{Illegal, Break, FetchOutside, TargetMisaligned, DataMisaligned, DataOutside, UnknownCall, BufferOutside, CountFull}
use Rattle.om_process.specs.declared.status.Status.{Status}
use Rattle.om_process.specs.declared.status.Status.TheVariants.{Trapped}
use Rattle.om_observers.specs.declared.sight.Doing.{Doing}
use Rattle.om_observers.specs.declared.sight.Doing.TheVariants.{Up, Begins}
use Rattle.om_observers.specs.declared.sight.Sight.{Sight}
use Rattle.om_scripts.specs.Programs.{Cluster}
use Rattle.om_commands.specs.SimText.{name_at}

-- whether a process with this status trapped
abbrev pub is_trap : Status → Bool
is_trap (Trapped cause) = true
is_trap _ = false

-- what a cause is
abbrev pub cause_words : Cause → List ℕ
cause_words Illegal = codes "no instruction has the word at pc"
cause_words Break = codes "ebreak"
cause_words FetchOutside = codes "pc lies outside memory"
cause_words TargetMisaligned = codes "a jump or a branch to no multiple of 4"
cause_words DataMisaligned = codes "2 or 4 bytes at no multiple of their number"
cause_words DataOutside = codes "a load or a store outside memory"
cause_words UnknownCall = codes "no call has the number in x17"
cause_words BufferOutside = codes "the buffer of a call lies outside memory"
cause_words CountFull = codes "2^64 - 1 instructions"

-- the line of a process that trapped at this pc
abbrev pub cause_line : List ℕ → Cause → ℕ → List ℕ
cause_line name cause pc =
    name ++ codes ": trapped " ++ decimal (cause_number cause) ++ codes ", " ++ cause_words cause ++ codes ", at " ++ word_text pc ++ 10 ∷ []

-- the line of a process with a status that trapped at this pc, and nothing of another
abbrev pub status_line : List ℕ → Status → ℕ → List ℕ
status_line name (Trapped cause) pc = cause_line name cause pc
status_line name _ pc = []

-- the line of a process that does this, where it trapped at this pc, and nothing else
abbrev pub trap_line : List ℕ → Doing → ℕ → List ℕ
trap_line name (Up status) pc = status_line name status pc
trap_line name _ pc = []

-- a process of which nothing was seen
abbrev pub unseen : Sight
unseen = record { doing = Begins; interval = 0; count = 0; pc = 0; refused = 0; put = 0; taken = 0; front = None }

-- by what was seen of each process, a line for each that trapped, in their order
abbrev pub traps_text : Cluster → List Sight → List ℕ
traps_text cluster sights =
    flat_map (λ p. let seen = slice_index_or sights p unseen in trap_line (name_at cluster p) seen.doing seen.pc) (range_with_len 0 (length sights))
