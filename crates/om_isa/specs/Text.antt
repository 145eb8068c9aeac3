-- The text of an instruction: its name, one space, and its operands, parted by a comma and a space.
use Rattle.std.specs.Prelude.{ℕ, ℤ, pos, List, ◌++◌, false, codes}
use Rattle.std.specs.Fmt.{decimal, signed_decimal, digits}
use Rattle.om_isa.specs.declared.inst.Inst.{Inst}
use Rattle.om_isa.specs.declared.inst.Inst.TheVariants.{Lui, Auipc, Jal, Jalr, Beq, Bne, Blt, Bge, Bltu, Bgeu, Lb, Lh, Lw, Lbu, Lhu, Sb, Sh, Sw, Addi, Slti, Sltiu, Xori, Ori, Andi, Slli, Srli, Srai, Add, Sub, Sll, Slt, Sltu, Xor, Srl, Sra, Or, And, Fence, Ecall, Ebreak, Mul, Mulh, Mulhsu, Mulhu, Div, Divu, Rem, Remu}

-- x0 to x31
abbrev pub register : ℕ → List ℕ
register r = codes "x" ++ decimal r

-- plain hexadecimal: 0x12345
abbrev pub hexadecimal : ℕ → List ℕ
hexadecimal n = codes "0x" ++ digits 16 false n

-- lui x5, 0x12345
unfoldable pub upper_text : List ℕ → ℕ → ℕ → List ℕ
upper_text name rd upper = name ++ codes " " ++ register rd ++ codes ", " ++ hexadecimal upper

-- jal x1, 16
unfoldable pub jump_text : List ℕ → ℕ → ℤ → List ℕ
jump_text name rd offset = name ++ codes " " ++ register rd ++ codes ", " ++ signed_decimal offset

-- lw x1, 8(x2)
unfoldable pub address_text : List ℕ → ℕ → ℤ → ℕ → List ℕ
address_text name a imm base = name ++ codes " " ++ register a ++ codes ", " ++ signed_decimal imm ++ codes "(" ++ register base ++ codes ")"

-- addi x1, x0, 5
unfoldable pub number_text : List ℕ → ℕ → ℕ → ℤ → List ℕ
number_text name a b number = name ++ codes " " ++ register a ++ codes ", " ++ register b ++ codes ", " ++ signed_decimal number

-- add x1, x2, x3
unfoldable pub registers_text : List ℕ → ℕ → ℕ → ℕ → List ℕ
registers_text name a b c = name ++ codes " " ++ register a ++ codes ", " ++ register b ++ codes ", " ++ register c

-- fence x0, x0, 0xff
unfoldable pub fence_text : List ℕ → ℕ → ℕ → ℕ → List ℕ
fence_text name rd rs1 bits = name ++ codes " " ++ register rd ++ codes ", " ++ register rs1 ++ codes ", " ++ hexadecimal bits

-- the text of an instruction
abbrev pub text_of : Inst → List ℕ
text_of (Lui rd upper) = upper_text (codes "lui") rd upper
text_of (Auipc rd upper) = upper_text (codes "auipc") rd upper
text_of (Jal rd offset) = jump_text (codes "jal") rd offset
text_of (Jalr rd rs1 imm) = address_text (codes "jalr") rd imm rs1
text_of (Beq rs1 rs2 offset) = number_text (codes "beq") rs1 rs2 offset
text_of (Bne rs1 rs2 offset) = number_text (codes "bne") rs1 rs2 offset
text_of (Blt rs1 rs2 offset) = number_text (codes "blt") rs1 rs2 offset
text_of (Bge rs1 rs2 offset) = number_text (codes "bge") rs1 rs2 offset
text_of (Bltu rs1 rs2 offset) = number_text (codes "bltu") rs1 rs2 offset
text_of (Bgeu rs1 rs2 offset) = number_text (codes "bgeu") rs1 rs2 offset
text_of (Lb rd rs1 imm) = address_text (codes "lb") rd imm rs1
text_of (Lh rd rs1 imm) = address_text (codes "lh") rd imm rs1
text_of (Lw rd rs1 imm) = address_text (codes "lw") rd imm rs1
text_of (Lbu rd rs1 imm) = address_text (codes "lbu") rd imm rs1
text_of (Lhu rd rs1 imm) = address_text (codes "lhu") rd imm rs1
text_of (Sb rs1 rs2 imm) = address_text (codes "sb") rs2 imm rs1
text_of (Sh rs1 rs2 imm) = address_text (codes "sh") rs2 imm rs1
text_of (Sw rs1 rs2 imm) = address_text (codes "sw") rs2 imm rs1
text_of (Addi rd rs1 imm) = number_text (codes "addi") rd rs1 imm
text_of (Slti rd rs1 imm) = number_text (codes "slti") rd rs1 imm
text_of (Sltiu rd rs1 imm) = number_text (codes "sltiu") rd rs1 imm
text_of (Xori rd rs1 imm) = number_text (codes "xori") rd rs1 imm
text_of (Ori rd rs1 imm) = number_text (codes "ori") rd rs1 imm
text_of (Andi rd rs1 imm) = number_text (codes "andi") rd rs1 imm
text_of (Slli rd rs1 shamt) = number_text (codes "slli") rd rs1 (pos shamt)
text_of (Srli rd rs1 shamt) = number_text (codes "srli") rd rs1 (pos shamt)
text_of (Srai rd rs1 shamt) = number_text (codes "srai") rd rs1 (pos shamt)
text_of (Add rd rs1 rs2) = registers_text (codes "add") rd rs1 rs2
text_of (Sub rd rs1 rs2) = registers_text (codes "sub") rd rs1 rs2
text_of (Sll rd rs1 rs2) = registers_text (codes "sll") rd rs1 rs2
text_of (Slt rd rs1 rs2) = registers_text (codes "slt") rd rs1 rs2
text_of (Sltu rd rs1 rs2) = registers_text (codes "sltu") rd rs1 rs2
text_of (Xor rd rs1 rs2) = registers_text (codes "xor") rd rs1 rs2
text_of (Srl rd rs1 rs2) = registers_text (codes "srl") rd rs1 rs2
text_of (Sra rd rs1 rs2) = registers_text (codes "sra") rd rs1 rs2
text_of (Or rd rs1 rs2) = registers_text (codes "or") rd rs1 rs2
text_of (And rd rs1 rs2) = registers_text (codes "and") rd rs1 rs2
text_of (Fence rd rs1 bits) = fence_text (codes "fence") rd rs1 bits
text_of Ecall = codes "ecall"
text_of Ebreak = codes "ebreak"
text_of (Mul rd rs1 rs2) = registers_text (codes "mul") rd rs1 rs2
text_of (Mulh rd rs1 rs2) = registers_text (codes "mulh") rd rs1 rs2
text_of (Mulhsu rd rs1 rs2) = registers_text (codes "mulhsu") rd rs1 rs2
text_of (Mulhu rd rs1 rs2) = registers_text (codes "mulhu") rd rs1 rs2
text_of (Div rd rs1 rs2) = registers_text (codes "div") rd rs1 rs2
text_of (Divu rd rs1 rs2) = registers_text (codes "divu") rd rs1 rs2
text_of (Rem rd rs1 rs2) = registers_text (codes "rem") rd rs1 rs2
text_of (Remu rd rs1 rs2) = registers_text (codes "remu") rd rs1 rs2
