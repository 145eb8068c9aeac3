-- The texts of answers.
use Rattle.std.specs.Prelude.{ℕ, ◌+◌, List, ◌++◌, length, take, drop, nat_le, nat_lt, if◌then◌else◌, codes}
use Rattle.std.specs.Int.{to_le_bytes, w32}
use Rattle.std.specs.List.{flat_map}
use Rattle.hex.specs.Hex.{encode_lower}
use Rattle.om_machine.specs.State.{State}

-- words as their bytes, each with the lowest first
abbrev pub word_bytes : List ℕ → List ℕ
word_bytes words = flat_map (to_le_bytes w32) words

-- x0 to x31 and pc
abbrev pub registers_text : State → List ℕ
registers_text m = encode_lower (word_bytes m.regs ++ to_le_bytes w32 m.pc)

-- what is asked and is not there, or is refused
abbrev pub error_text : List ℕ
error_text = codes "E01"

-- bytes of memory from an address on, fewer at the end of memory, and an error behind it
abbrev pub memory_text : State → ℕ → ℕ → List ℕ
memory_text m address count =
    if nat_le (length m.memory) address then error_text else encode_lower (take count (drop address m.memory))

-- a piece of a text: m, where more comes behind it, and l where none does
abbrev pub piece_text : List ℕ → ℕ → ℕ → List ℕ
piece_text whole offset count =
    (if nat_lt (offset + count) (length whole) then codes "m" else codes "l") ++ take count (drop offset whole)

-- the description of the machine: RV32 with no system below the program, x0 to x31 by the names of its calling convention, and pc
abbrev pub target_text : List ℕ
target_text = codes "<?xml version=\"1.0\"?><!DOCTYPE target SYSTEM \"gdb-target.dtd\"><target version=\"1.0\"><architecture>riscv:rv32</architecture><osabi>none</osabi><feature name=\"org.gnu.gdb.riscv.cpu\"><reg name=\"zero\" bitsize=\"32\" regnum=\"0\" type=\"int\"/><reg name=\"ra\" bitsize=\"32\" regnum=\"1\" type=\"code_ptr\"/><reg name=\"sp\" bitsize=\"32\" regnum=\"2\" type=\"data_ptr\"/><reg name=\"gp\" bitsize=\"32\" regnum=\"3\" type=\"data_ptr\"/><reg name=\"tp\" bitsize=\"32\" regnum=\"4\" type=\"data_ptr\"/><reg name=\"t0\" bitsize=\"32\" regnum=\"5\" type=\"int\"/><reg name=\"t1\" bitsize=\"32\" regnum=\"6\" type=\"int\"/><reg name=\"t2\" bitsize=\"32\" regnum=\"7\" type=\"int\"/><reg name=\"fp\" bitsize=\"32\" regnum=\"8\" type=\"data_ptr\"/><reg name=\"s1\" bitsize=\"32\" regnum=\"9\" type=\"int\"/><reg name=\"a0\" bitsize=\"32\" regnum=\"10\" type=\"int\"/><reg name=\"a1\" bitsize=\"32\" regnum=\"11\" type=\"int\"/><reg name=\"a2\" bitsize=\"32\" regnum=\"12\" type=\"int\"/><reg name=\"a3\" bitsize=\"32\" regnum=\"13\" type=\"int\"/><reg name=\"a4\" bitsize=\"32\" regnum=\"14\" type=\"int\"/><reg name=\"a5\" bitsize=\"32\" regnum=\"15\" type=\"int\"/><reg name=\"a6\" bitsize=\"32\" regnum=\"16\" type=\"int\"/><reg name=\"a7\" bitsize=\"32\" regnum=\"17\" type=\"int\"/><reg name=\"s2\" bitsize=\"32\" regnum=\"18\" type=\"int\"/><reg name=\"s3\" bitsize=\"32\" regnum=\"19\" type=\"int\"/><reg name=\"s4\" bitsize=\"32\" regnum=\"20\" type=\"int\"/><reg name=\"s5\" bitsize=\"32\" regnum=\"21\" type=\"int\"/><reg name=\"s6\" bitsize=\"32\" regnum=\"22\" type=\"int\"/><reg name=\"s7\" bitsize=\"32\" regnum=\"23\" type=\"int\"/><reg name=\"s8\" bitsize=\"32\" regnum=\"24\" type=\"int\"/><reg name=\"s9\" bitsize=\"32\" regnum=\"25\" type=\"int\"/><reg name=\"s10\" bitsize=\"32\" regnum=\"26\" type=\"int\"/><reg name=\"s11\" bitsize=\"32\" regnum=\"27\" type=\"int\"/><reg name=\"t3\" bitsize=\"32\" regnum=\"28\" type=\"int\"/><reg name=\"t4\" bitsize=\"32\" regnum=\"29\" type=\"int\"/><reg name=\"t5\" bitsize=\"32\" regnum=\"30\" type=\"int\"/><reg name=\"t6\" bitsize=\"32\" regnum=\"31\" type=\"int\"/><reg name=\"pc\" bitsize=\"32\" regnum=\"32\" type=\"code_ptr\"/></feature></target>"
