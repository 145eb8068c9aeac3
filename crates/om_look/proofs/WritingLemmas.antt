-- What the tracer says that an instruction writes is what its effect writes, unless the instruction traps.
use Rattle.std.proofs.Common.{◌≡◌, ◌≢◌, ℕ, ◌+◌, Bool, true, false, Option, Some, None, Result, Ok, Err, List, [], ◌∷◌, ◌++◌, refl, sym, ap, ◌∙◌, subst}
use Rattle.std.specs.Prelude.{decimal, if◌then◌else◌, nat_eq, ℤ}
use Rattle.std.specs.Option.{option_map_or}
use Rattle.std.specs.Int.{bytes_low_first}
use Rattle.om_isa.specs.Rows.{Decodes}
use Rattle.om_isa.specs.Text.{text_of}
use Rattle.om_isa.specs.declared.inst.Inst.{Inst}
use Rattle.om_isa.specs.declared.inst.Inst.TheVariants.{Jal, Jalr, Beq, Bne, Blt, Bge, Bltu, Bgeu, Lb, Lh, Lw, Lbu, Lhu, Sb, Sh, Sw, Ecall, Ebreak}
use Rattle.om_isa.specs.derived.Decoded.{decoded}
use Rattle.om_isa.proofs.DecodedLemmas.{decodes-decoded}
use Rattle.om_machine.specs.State.{State, reg, word_at}
use Rattle.om_machine.specs.Effects.{Effect, Put, Go, Jump, Store, Nothing, Stop, branch_effect, jump_effect, access_effect, call_effect, address_of, effect_of, applied}
use Rattle.om_machine.specs.derived.NextStep.{fetched, next_of}
use Rattle.om_machine.specs.declared.event.Event.{Event}
use Rattle.om_machine.specs.declared.event.Event.TheVariants.{Went, Call, Trap}
use Rattle.om_machine.specs.declared.event.EnvCall.{EnvCall}
use Rattle.om_machine.specs.declared.event.EnvCall.TheVariants.{Exit, Send, Receive, Output, Who}
use Rattle.om_machine.specs.declared.event.Cause.{Cause}
use Rattle.om_machine.specs.declared.event.Cause.TheVariants.{TargetMisaligned, UnknownCall}
use Rattle.om_machine.specs.declared.limits.TheConstants.{A0, A1, A2, A7}
use Rattle.om_machine.proofs.Stepping.{fetched_decodes, next_fetched}
use Rattle.om_process.proofs.Basics.{some_once}
use Rattle.om_look.specs.Trace.{answer_text, effect_text, instruction_text, word_text}
use Rattle.om_look.specs.declared.writes.Written.TheVariants.{Register}
use Rattle.om_look.specs.steps.Writes.{address_in, line_text, writes_of, written_text}

-- the effect writes this text, unless it is a trap
Agrees : List ℕ → State → Effect → Type 0
Agrees text after (Stop (Trap cause)) = Unit {0}
Agrees text after effect = effect_text effect after ≡ text

agrees_if : (text : List ℕ) (after : State) (test : Bool) (x y : Effect) → Agrees text after x → Agrees text after y → Agrees text after (if test then x else y)
agrees_if text after true x y first second = first
agrees_if text after false x y first second = second

agrees_trap : (text : List ℕ) (after : State) (cause : Cause) → Agrees text after (Stop (Trap cause))
unfolding Agrees
agrees_trap text after cause = tt

agrees_call : (after : State) (call : EnvCall) → Agrees [] after (Stop (Call call))
unfolding Agrees
agrees_call after call = refl

agrees_branch : (m after : State) (holds : Bool) (offset : ℤ) → Agrees [] after (branch_effect m holds offset)
unfolding branch_effect Agrees
agrees_branch m after holds offset =
    agrees_if [] after holds _ Nothing (agrees_if [] after _ (Go _) (Stop (Trap TargetMisaligned)) refl tt) refl

agrees_jump : (after : State) (rd target : ℕ) → Agrees (written_text (Register rd) 0 after) after (jump_effect rd target)
unfolding jump_effect Agrees
agrees_jump after rd target = agrees_if (written_text (Register rd) 0 after) after _ (Jump rd target) (Stop (Trap TargetMisaligned)) refl tt

agrees_unless : (text : List ℕ) (after : State) (fault : Option Cause) (effect : Effect) → Agrees text after effect → Agrees text after (option_map_or (λ cause. Stop (Trap cause)) fault effect)
agrees_unless text after None effect agrees = agrees
agrees_unless text after (Some cause) effect agrees = agrees_trap text after cause

agrees_access : (text : List ℕ) (m after : State) (width address : ℕ) (effect : Effect) → Agrees text after effect → Agrees text after (access_effect m width address effect)
unfolding access_effect
agrees_access text m after width address effect agrees = agrees_unless text after _ effect agrees

agrees_load : (m after : State) (rd width address value : ℕ) → Agrees (written_text (Register rd) 0 after) after (access_effect m width address (Put rd value))
unfolding Agrees
agrees_load m after rd width address value = agrees_access (written_text (Register rd) 0 after) m after width address (Put rd value) refl

agrees_calls : (m after : State) → Agrees [] after (call_effect m)
unfolding call_effect
agrees_calls m after =
    let number = reg m A7 in
    agrees_if [] after (nat_eq number 0) _ _ (agrees_call after (Exit (reg m A0)))
    (agrees_if [] after (nat_eq number 1) _ _ (agrees_call after (Send (reg m A0) (reg m A1) (reg m A2)))
    (agrees_if [] after (nat_eq number 2) _ _ (agrees_call after (Receive (reg m A0) (reg m A1)))
    (agrees_if [] after (nat_eq number 3) _ _ (agrees_call after (Output (reg m A0) (reg m A1)))
    (agrees_if [] after (nat_eq number 4) _ _ (agrees_call after Who) (agrees_trap [] after UnknownCall)))))

-- each instruction
agrees : (m after : State) (i : Inst) → Agrees (written_text (writes_of i) (address_in m (writes_of i)) after) after (effect_of m i)
unfolding Agrees
agrees m after (Jal rd offset) = agrees_jump after rd _
agrees m after (Jalr rd rs1 imm) = agrees_jump after rd _
agrees m after (Beq rs1 rs2 offset) = agrees_branch m after _ offset
agrees m after (Bne rs1 rs2 offset) = agrees_branch m after _ offset
agrees m after (Blt rs1 rs2 offset) = agrees_branch m after _ offset
agrees m after (Bge rs1 rs2 offset) = agrees_branch m after _ offset
agrees m after (Bltu rs1 rs2 offset) = agrees_branch m after _ offset
agrees m after (Bgeu rs1 rs2 offset) = agrees_branch m after _ offset
agrees m after (Lb rd rs1 imm) = agrees_load m after rd 1 _ _
agrees m after (Lh rd rs1 imm) = agrees_load m after rd 2 _ _
agrees m after (Lw rd rs1 imm) = agrees_load m after rd 4 _ _
agrees m after (Lbu rd rs1 imm) = agrees_load m after rd 1 _ _
agrees m after (Lhu rd rs1 imm) = agrees_load m after rd 2 _ _
agrees m after (Sb rs1 rs2 imm) = agrees_access _ m after 1 _ (Store (address_of m rs1 imm) (bytes_low_first 0 1 (reg m rs2))) refl
agrees m after (Sh rs1 rs2 imm) = agrees_access _ m after 2 _ (Store (address_of m rs1 imm) (bytes_low_first 0 2 (reg m rs2))) refl
agrees m after (Sw rs1 rs2 imm) = agrees_access _ m after 4 _ (Store (address_of m rs1 imm) (bytes_low_first 0 4 (reg m rs2))) refl
agrees m after Ecall = agrees_calls m after
agrees m after Ebreak = tt
agrees m after _ = refl

-- an effect that agrees and is no trap
agreed : (text : List ℕ) (m after : State) (effect : Effect) → Agrees text after effect → ((cause : Cause) → (applied m effect).0 ≢ Trap cause) → effect_text effect after ≡ text
unfolding Agrees
agreed text m after (Stop (Trap cause)) same none = absurd (none cause refl)
agreed text m after (Stop (Call call)) same none = same
agreed text m after (Stop Went) same none = same
agreed text m after (Put rd value) same none = same
agreed text m after (Go target) same none = same
agreed text m after (Jump rd target) same none = same
agreed text m after (Store address bytes) same none = same
agreed text m after Nothing same none = same

-- ---- the instruction that is carried out
one_instruction : (m : State) (i j : Inst) → Decodes m.ext (word_at m.memory m.pc) i → Decodes m.ext (word_at m.memory m.pc) j → j ≡ i
one_instruction m i j one other =
    some_once j i (sym (decodes-decoded m.ext (word_at m.memory m.pc) j other) ∙ decodes-decoded m.ext (word_at m.memory m.pc) i one)

carried : (m : State) (i : Inst) (fetch : Result Inst Cause) → fetch ≡ fetched m → Decodes m.ext (word_at m.memory m.pc) i → ((cause : Cause) → (next_of m).0 ≢ Trap cause)
    → next_of m ≡ applied m (effect_of m i)
carried m i (Err cause) is decodes none = absurd (none cause (ap (λ (r : Event × State). r.0) (next_fetched m (Err cause) is)))
carried m i (Ok j) is decodes none =
    next_fetched m (Ok j) is ∙ ap (λ (k : Inst). applied m (effect_of m k)) (one_instruction m i j decodes (fetched_decodes m j is))

-- the line of an instruction that does not trap is the tracer's
pub line_is : (m after : State) (i : Inst) → Decodes m.ext (word_at m.memory m.pc) i → ((cause : Cause) → (next_of m).0 ≢ Trap cause)
    → line_text m.count m.pc (word_at m.memory m.pc) i (address_in m (writes_of i)) (next_of m).0 after ≡ instruction_text m i after
unfolding line_text instruction_text
line_is m after i decodes none =
    let goes : next_of m ≡ applied m (effect_of m i) = carried m i (fetched m) refl decodes none in
    let no_trap : (cause : Cause) → (applied m (effect_of m i)).0 ≢ Trap cause = subst (λ (r : Event × State). (cause : Cause) → r.0 ≢ Trap cause) goes none in
    let same = agreed (written_text (writes_of i) (address_in m (writes_of i)) after) m after (effect_of m i) (agrees m after i) no_trap in
    ap (λ wrote. decimal m.count ++ 32 ∷ word_text m.pc ++ 32 ∷ word_text (word_at m.memory m.pc) ++ 32 ∷ text_of i
    ++ wrote ++ answer_text (next_of m).0 after ++ 10 ∷ []) (sym same)
