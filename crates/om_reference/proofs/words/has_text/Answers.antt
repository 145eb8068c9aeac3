use Rattle.om_reference.proofs.words.has_text.Goals as goal

-- the word has an instruction
pub returns-in-Ok-clause-none : goal.returns-in-Ok-clause-none
returns-in-Ok-clause-none c no_instruction = absurd (no_instruction c.in-Some.instruction ((c.decode.ensures.exact c.in-Some.instruction).1 c.in-Some.is))
