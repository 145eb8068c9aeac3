-- Traces: a line for each turn of a process, and one for each message and output.
use Rattle.std.specs.Prelude.{◌≡◌, ℕ, zero, suc, ◌+◌, List, [], ◌∷◌, ◌++◌, length, take, drop, codes, decimal, slice_get, Some, if◌then◌else◌, nat_eq, nat_lt}
use Rattle.std.specs.Option.{option_map_or}
use Rattle.std.specs.Int.{to_be_bytes, w32}
use Rattle.hex.specs.Hex.{encode_lower}
use Rattle.om_isa.specs.Rows.{Decodes}
use Rattle.om_isa.specs.Text.{text_of}
use Rattle.om_isa.specs.declared.inst.Inst.{Inst}
use Rattle.om_machine.specs.State.{State, reg, word_at}
use Rattle.om_machine.specs.Effects.{Effect, Put, Jump, Store, effect_of}
use Rattle.om_machine.specs.derived.NextStep.{next_of}
use Rattle.om_machine.specs.declared.event.Event.{Event}
use Rattle.om_machine.specs.declared.event.Event.TheVariants.{Call}
use Rattle.om_machine.specs.declared.event.EnvCall.TheVariants.{Send, Output, Who}
use Rattle.om_format.specs.Queues.{QueueRecord}
use Rattle.om_process.specs.Kept.{queue_at}
use Rattle.om_process.specs.Process.{Process}
use Rattle.om_process.specs.Turns.{next_turn}

-- a number of 32 bits in eight hexadecimal digits, the highest first
abbrev pub word_text : ℕ → List ℕ
word_text word = encode_lower (to_be_bytes w32 word)

-- what stands in a register afterwards
abbrev pub register_text : ℕ → State → List ℕ
register_text r after = codes "; x" ++ decimal r ++ codes " = " ++ word_text (reg after r)

-- what an effect wrote: a register, but for x0, or bytes of memory
abbrev pub effect_text : Effect → State → List ℕ
effect_text (Put rd value) after = if nat_eq rd 0 then [] else register_text rd after
effect_text (Jump rd target) after = if nat_eq rd 0 then [] else register_text rd after
effect_text (Store address bytes) after =
    codes "; " ++ word_text address ++ 32 ∷ encode_lower (take (length bytes) (drop address after.memory))
effect_text _ after = []

-- what the answer to an environment call wrote
abbrev pub answer_text : Event → State → List ℕ
answer_text (Call (Send to addr len)) after = register_text 10 after
answer_text (Call (Output addr len)) after = register_text 10 after
answer_text (Call Who) after = register_text 10 after ++ register_text 11 after
answer_text event after = []

-- the line of an instruction: the count and pc before it, its word, its text, and what it wrote
unfoldable pub instruction_text : State → Inst → State → List ℕ
instruction_text m i after =
    decimal m.count ++ 32 ∷ word_text m.pc ++ 32 ∷ word_text (word_at m.memory m.pc) ++ 32 ∷ text_of i
    ++ effect_text (effect_of m i) after ++ answer_text (next_of m).0 after ++ 10 ∷ []

-- the bytes of a message or an output in hexadecimal, or `-` where there are none
abbrev pub body_text : List ℕ → List ℕ
body_text [] = codes "-"
body_text (byte ∷ bytes) = encode_lower (byte ∷ bytes)

-- the line of the entry that a queue has gained behind so many, with its number, if it has
abbrev pub gained_text : List ℕ → ℕ → QueueRecord → List ℕ
gained_text words kept after = option_map_or (λ e. words ++ 32 ∷ decimal (after.first + kept) ++ 32 ∷ body_text e.body ++ 10 ∷ [])
    (slice_get after.entries kept) []

-- the line of the message or the output that a call of a process of n made, if it made one
abbrev pub emission_text : ℕ → Event → List QueueRecord → List QueueRecord → List ℕ
emission_text n (Call (Send to addr len)) before after =
    if nat_lt to n then gained_text (codes "send " ++ decimal to) (length (queue_at before to).entries) (queue_at after to) else []
emission_text n (Call (Output addr len)) before after = gained_text (codes "out") (length (queue_at before n).entries) (queue_at after n)
emission_text n event before after = []

-- the lines of one turn of a process of n: the instruction is the one that the word at pc decodes to
abbrev pub IsTurnText : ℕ → Process → Process → List ℕ → Type 0
IsTurnText n p q text =
    (i : Inst) × Decodes p.machine.ext (word_at p.machine.memory p.machine.pc) i
    × (text ≡ instruction_text p.machine i q.machine ++ emission_text n (next_of p.machine).0 p.queues q.queues)

-- so many turns lead from one state to another, and these are their lines
abbrev pub IsTrace : ℕ → ℕ → ℕ → Process → Process → List ℕ → Type 0
IsTrace own n zero s t text = (t ≡ s) × (text ≡ [])
IsTrace own n (suc k) s t text =
    (m : Process) × (next_turn own n s ≡ Some m) × (lines : List ℕ) × IsTurnText n s m lines
    × (rest : List ℕ) × IsTrace own n k m t rest × (text ≡ lines ++ rest)
