-- What is told of faults, for people.
use Rattle.std.specs.Prelude.{ℕ, List, Option, Some, None, codes}
use Rattle.om_commands.specs.declared.error.CommandError.{CommandError}
use Rattle.om_commands.specs.declared.error.CommandError.TheVariants as errors
use Rattle.om_text.specs.declared.error.LineError.{LineError}
use Rattle.om_text.specs.declared.error.LineError.TheVariants as lines

-- the rule that a faulty line breaks
abbrev pub rule_text : LineError → List ℕ
rule_text lines.UnknownLine = codes "no line begins with this word"
rule_text lines.WrongCount = codes "a line of this kind has another count of words"
rule_text lines.BadNumber = codes "a number is digits alone, and within what its line takes"
rule_text lines.BadWord = codes "a word is eight hexadecimal digits"
rule_text lines.BadName = codes "a name is 1 to 32 letters, digits and _"
rule_text lines.NameTaken = codes "a line above gave this name"
rule_text lines.NoSuchName = codes "no line above gave a name that stands here"
rule_text lines.OutOfPlace = codes "programs and processes stand above all other lines, and procs, once, above all notes"
rule_text lines.TooMany = codes "there are more of these than the 16 processes or 64 kills that may be"
rule_text lines.BadSize = codes "a size is 4 to 65536, a multiple of 4"
rule_text lines.ImageTooLong = codes "the words take more bytes than the size"

-- what may be done about a fault: of a line of an input, and of a store that was refused as it was looked at, other lines tell
abbrev pub advice_text : CommandError → Option (List ℕ)
advice_text errors.TooLong = Some (codes "an input has at most 16777216 bytes")
advice_text errors.EmptyScript = Some (codes "the input names no process")
advice_text errors.NoCheckpoint = Some (codes "omlog show FILE says which intervals can be replayed")
advice_text (errors.MissingReceipt y) = Some (codes "omlog show FILE says which intervals can be replayed")
advice_text (errors.Damaged y) = Some (codes "the store was changed behind its run, or is of another process")
advice_text (errors.Mismatch y) = Some (codes "the store was changed behind its run, or is of another process")
advice_text errors.OutOfTurns = Some (codes "waits: a message that it needs never comes; runs: it needs more turns (--turns) or more instructions in each (the line fuel)")
advice_text errors.NoThread = Some (codes "each process runs in a thread of its own")
advice_text errors.NoMemory = Some (codes "the program may have no more memory: another limit (ulimit -v), or fewer and smaller processes")
advice_text errors.CannotWrite = Some (codes "standard output cannot be written: is its disk full, or is it closed?")
advice_text errors.CannotRead = Some (codes "standard input cannot be read")
advice_text errors.Unlike = Some (codes "the threads did not do what their programs say: a fault of the machine, or of omlog; the run can be tried again, with --record to see what they did")
advice_text errors.NoSuchProcess = Some (codes "the name behind --raw or --process stands in no line proc of the input")
advice_text errors.StoreFault = Some (codes "a store failed as it was used (is its disk full?), or no process could be replayed from it: omlog show FILE says what of it is damaged")
advice_text (errors.StoreInUse p) = None
advice_text (errors.AnotherCluster p) = None
advice_text (errors.StoreMissing p) = None
advice_text (errors.Script e) = None
advice_text errors.GateShut = None
