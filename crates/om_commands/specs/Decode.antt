-- What the command `decode` answers to the bytes of its input.
use Rattle.std.specs.Prelude.{◌≡◌, ℕ, List, [], ◌∷◌, ◌++◌, codes, ◌⊎◌}
use Rattle.om_isa.specs.Rows.{Decodes}
use Rattle.om_isa.specs.Text.{text_of}
use Rattle.om_isa.specs.declared.ext.Ext.{Ext}
use Rattle.om_isa.specs.declared.inst.Inst.{Inst}
use Rattle.om_commands.specs.Command.{AnswersScript}
use Rattle.om_commands.specs.WordScript.{word_script_line}

-- the text of a word: that of the instruction that it decodes to, with these extensions, or `none` where there is none
abbrev pub IsTextOf : Ext → ℕ → List ℕ → Type 0
IsTextOf ext word text =
    ((i : Inst) × Decodes ext word i × (text ≡ text_of i)) ⊎ (((i : Inst) → Decodes ext word i → ⊥) × (text ≡ codes "none"))

-- the text of each word in order, an LF after each
abbrev pub IsListing : Ext → List ℕ → List ℕ → Type 0
IsListing ext [] text = text ≡ []
IsListing ext (word ∷ words) text =
    (line : List ℕ) × (rest : List ℕ) × IsTextOf ext word line × IsListing ext words rest × (text ≡ line ++ 10 ∷ rest)

-- the listing of the words that these bytes are
abbrev pub IsDecoded : Ext → List ℕ → List ℕ → Type 0
IsDecoded ext bytes text = AnswersScript word_script_line [] (IsListing ext) bytes text
