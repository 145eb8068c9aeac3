-- What instructions write beside pc, told by their rows: the tracer knows no effects.
use Rattle.std.specs.Prelude.{ℕ, List, [], ◌∷◌, ◌++◌, take, drop, codes, decimal, if◌then◌else◌, nat_eq}
use Rattle.hex.specs.Hex.{encode_lower}
use Rattle.om_isa.specs.Text.{text_of}
use Rattle.om_isa.specs.declared.inst.Inst.{Inst}
use Rattle.om_isa.specs.declared.inst.Inst.TheVariants.{Lui, Auipc, Jal, Jalr, Beq, Bne, Blt, Bge, Bltu, Bgeu, Lb, Lh, Lw, Lbu, Lhu, Sb, Sh, Sw, Addi, Slti, Sltiu, Xori, Ori, Andi, Slli, Srli, Srai, Add, Sub, Sll, Slt, Sltu, Xor, Srl, Sra, Or, And, Fence, Ecall, Ebreak, Mul, Mulh, Mulhsu, Mulhu, Div, Divu, Rem, Remu}
use Rattle.om_machine.specs.Effects.{address_of}
use Rattle.om_machine.specs.State.{State}
use Rattle.om_machine.specs.declared.event.Event.{Event}
use Rattle.om_look.specs.Trace.{answer_text, register_text, word_text}
use Rattle.om_look.specs.declared.writes.Width.{Width}
use Rattle.om_look.specs.declared.writes.Width.TheVariants as widths
use Rattle.om_look.specs.declared.writes.Written.{Written}
use Rattle.om_look.specs.declared.writes.Written.TheVariants.{Nothing, Register, Bytes}

-- how many bytes a store writes
abbrev pub width_in : Width → ℕ
width_in widths.Byte = 1
width_in widths.Half = 2
width_in widths.Word = 4

-- a register, or bytes at the sum of a register and an immediate
abbrev pub writes_of : Inst → Written
writes_of (Sb rs1 rs2 imm) = Bytes rs1 imm widths.Byte
writes_of (Sh rs1 rs2 imm) = Bytes rs1 imm widths.Half
writes_of (Sw rs1 rs2 imm) = Bytes rs1 imm widths.Word
writes_of (Beq rs1 rs2 offset) = Nothing
writes_of (Bne rs1 rs2 offset) = Nothing
writes_of (Blt rs1 rs2 offset) = Nothing
writes_of (Bge rs1 rs2 offset) = Nothing
writes_of (Bltu rs1 rs2 offset) = Nothing
writes_of (Bgeu rs1 rs2 offset) = Nothing
writes_of (Fence rd rs1 bits) = Nothing
writes_of Ecall = Nothing
writes_of Ebreak = Nothing
writes_of (Lui rd upper) = Register rd
writes_of (Auipc rd upper) = Register rd
writes_of (Jal rd offset) = Register rd
writes_of (Jalr rd rs1 imm) = Register rd
writes_of (Lb rd rs1 imm) = Register rd
writes_of (Lh rd rs1 imm) = Register rd
writes_of (Lw rd rs1 imm) = Register rd
writes_of (Lbu rd rs1 imm) = Register rd
writes_of (Lhu rd rs1 imm) = Register rd
writes_of (Addi rd rs1 imm) = Register rd
writes_of (Slti rd rs1 imm) = Register rd
writes_of (Sltiu rd rs1 imm) = Register rd
writes_of (Xori rd rs1 imm) = Register rd
writes_of (Ori rd rs1 imm) = Register rd
writes_of (Andi rd rs1 imm) = Register rd
writes_of (Slli rd rs1 shamt) = Register rd
writes_of (Srli rd rs1 shamt) = Register rd
writes_of (Srai rd rs1 shamt) = Register rd
writes_of (Add rd rs1 rs2) = Register rd
writes_of (Sub rd rs1 rs2) = Register rd
writes_of (Sll rd rs1 rs2) = Register rd
writes_of (Slt rd rs1 rs2) = Register rd
writes_of (Sltu rd rs1 rs2) = Register rd
writes_of (Xor rd rs1 rs2) = Register rd
writes_of (Srl rd rs1 rs2) = Register rd
writes_of (Sra rd rs1 rs2) = Register rd
writes_of (Or rd rs1 rs2) = Register rd
writes_of (And rd rs1 rs2) = Register rd
writes_of (Mul rd rs1 rs2) = Register rd
writes_of (Mulh rd rs1 rs2) = Register rd
writes_of (Mulhsu rd rs1 rs2) = Register rd
writes_of (Mulhu rd rs1 rs2) = Register rd
writes_of (Div rd rs1 rs2) = Register rd
writes_of (Divu rd rs1 rs2) = Register rd
writes_of (Rem rd rs1 rs2) = Register rd
writes_of (Remu rd rs1 rs2) = Register rd

-- where bytes are written
abbrev pub address_in : State → Written → ℕ
address_in m (Bytes base imm width) = address_of m base imm
address_in m (Register rd) = 0
address_in m Nothing = 0

-- what an instruction wrote: the register, but for x0, or the address and the bytes
abbrev pub written_text : Written → ℕ → State → List ℕ
written_text Nothing address after = []
written_text (Register rd) address after = if nat_eq rd 0 then [] else register_text rd after
written_text (Bytes base imm width) address after =
    codes "; " ++ word_text address ++ 32 ∷ encode_lower (take (width_in width) (drop address after.memory))

-- the line of an instruction: the count and pc before it, its word, its text, and what it wrote
unfoldable pub line_text : ℕ → ℕ → ℕ → Inst → ℕ → Event → State → List ℕ
line_text count pc word i address event after =
    decimal count ++ 32 ∷ word_text pc ++ 32 ∷ word_text word ++ 32 ∷ text_of i
    ++ written_text (writes_of i) address after ++ answer_text event after ++ 10 ∷ []
