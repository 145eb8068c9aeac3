-- How the bytes of an output are written.
use Rattle.std.specs.Prelude.{ℕ, ◌+◌, ◌/◌, ◌%◌, List, [], ◌∷◌, ◌++◌, ◌==◌, ◌&&◌, nat_le, if◌then◌else◌}
use Rattle.std.specs.List.{flat_map}
use Rattle.om_look.specs.Trace.{body_text}
use Rattle.om_commands.specs.declared.bytes_text.BytesForm.{BytesForm}
use Rattle.om_commands.specs.declared.bytes_text.BytesForm.TheVariants.{Hex, Text}

-- a backslash, and a byte in three octal digits
abbrev pub octal_text : ℕ → List ℕ
octal_text byte = 92 ∷ (48 + byte / 64) ∷ (48 + byte / 8 % 8) ∷ (48 + byte % 8) ∷ []

-- A byte between quotation marks, as C writes it: `\"`, `\\`, `\n`, `\t`, `\r`; other printable ASCII as it is; and any other byte in octal,
-- always in three digits, so that a digit behind it does not run into it.
abbrev pub quoted_byte : ℕ → List ℕ
quoted_byte byte =
    if byte == 34 then 92 ∷ 34 ∷ []
    else (if byte == 92 then 92 ∷ 92 ∷ []
    else (if byte == 10 then 92 ∷ 110 ∷ []
    else (if byte == 9 then 92 ∷ 116 ∷ []
    else (if byte == 13 then 92 ∷ 114 ∷ []
    else (if nat_le 32 byte && nat_le byte 126 then byte ∷ []
    else octal_text byte)))))

-- bytes between quotation marks
abbrev pub quoted : List ℕ → List ℕ
quoted bytes = 34 ∷ flat_map quoted_byte bytes ++ 34 ∷ []

-- bytes in a form
abbrev pub bytes_text : BytesForm → List ℕ → List ℕ
bytes_text Hex bytes = body_text bytes
bytes_text Text bytes = quoted bytes
