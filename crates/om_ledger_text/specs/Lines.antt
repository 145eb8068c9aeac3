-- The lines of what a store keeps beside its records: what a row says, or that it is none.
use Rattle.std.specs.Prelude.{◌≡◌, ◌⊎◌, ℕ, ◌+◌, ◌<◌, List, [], ◌∷◌, ◌++◌, length, codes, decimal}
use Rattle.om_format.specs.declared.limits.TheConstants.{MAX_BODY}
use Rattle.om_isa.specs.declared.ext.Ext.{Ext}
use Rattle.om_isa.specs.declared.ext.Ext.TheVariants.{I, Im}
use Rattle.om_look.specs.About.{about}
use Rattle.om_look.specs.Trace.{body_text}
use Rattle.om_process.specs.Process.{Program}
use Rattle.om_process.specs.declared.queues.Made.{Made}
use Rattle.om_restart.specs.Outputs.{IsRowOfOutput}
use Rattle.om_restart.specs.declared.output.TheConstants.{OUTPUT_HEAD}
use Rattle.om_stable.specs.declared.ledger.LedgerTable.{LedgerTable}
use Rattle.om_stable.specs.declared.ledger.LedgerTable.TheVariants.{Outputs, Senders, About}

-- instructions that a program may use
abbrev pub extension_text : Ext → List ℕ
extension_text I = codes "rv32i"
extension_text Im = codes "rv32im"

-- process own of n, of this program
abbrev pub about_text : ℕ → ℕ → Program → List ℕ
about_text own n program =
    codes " process " ++ decimal own ++ codes " of " ++ decimal n ++ codes " program " ++ extension_text program.ext
    ++ codes " memory " ++ decimal program.size ++ codes " image " ++ decimal (length program.image)

-- the bytes say what a store is of
abbrev pub IsAbout : List ℕ → Type 0
IsAbout bytes = (own : ℕ) × (n : ℕ) × (program : Program) × (bytes ≡ about own n program)

-- what bytes say that a store is of
abbrev pub SaysAbout : List ℕ → List ℕ → Type 0
SaysAbout bytes said =
    ((own : ℕ) × (n : ℕ) × (program : Program) × (bytes ≡ about own n program) × (said ≡ about_text own n program))
    ⊎ ((IsAbout bytes → ⊥) × (said ≡ codes " damaged"))

-- an output: the interval that made it, and its bytes in hexadecimal
abbrev pub output_text : Made → List ℕ
output_text made = codes " interval " ++ decimal made.interval ++ 32 ∷ body_text made.bytes

-- what a row says as an output: one that is none is too short to tell its interval, or longer than that of any
abbrev pub SaysOutput : ℕ × List ℕ → List ℕ → Type 0
SaysOutput row said =
    ((made : Made) × IsRowOfOutput row made × (said ≡ output_text made))
    ⊎ (((length row.1 < OUTPUT_HEAD) × (said ≡ codes " damaged short"))
    ⊎ ((OUTPUT_HEAD + MAX_BODY < length row.1) × (said ≡ codes " damaged trailing")))

-- what a row of a table says; of senders their numbers, two digits each
abbrev pub SaysIn : LedgerTable → ℕ × List ℕ → List ℕ → Type 0
SaysIn Outputs row said = SaysOutput row said
SaysIn Senders row said = said ≡ 32 ∷ body_text row.1
SaysIn About row said = SaysAbout row.1 said

-- the word of a table
abbrev pub table_text : LedgerTable → List ℕ
table_text Outputs = codes "output"
table_text Senders = codes "senders"
table_text About = codes "about"

-- the line of a row: its table, its number, and what it says
abbrev pub IsLineIn : LedgerTable → ℕ × List ℕ → List ℕ → Type 0
IsLineIn table row line =
    (said : List ℕ) × SaysIn table row said × (line ≡ table_text table ++ 32 ∷ decimal row.0 ++ said ++ 10 ∷ [])
