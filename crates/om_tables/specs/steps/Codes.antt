-- Codes, by which a proof tells stores apart.
use Rattle.std.specs.Prelude.{ℕ, Option, refl}
use Rattle.std.specs.Coded.{Coded, code_by, coded×, coded_ℕ, coded_option}
use Rattle.sqlite.specs.Held.{Held, held_code}
use Rattle.om_tables.specs.declared.refusal.Refusal.{Refusal}
use Rattle.om_tables.specs.contracts.refusal.Refusal as refusal
use Rattle.om_tables.specs.Store.{Tables}

abbrev pub tables_code : {S : Type 0} → Coded S → Coded (Tables S)
tables_code {S} store =
    code_by (Held S × (ℕ × Option Refusal)) (coded× (held_code store) (coded× coded_ℕ (coded_option refusal.the_row.coded)))
    (λ t. (t.connection, (t.failures, t.last)))
    (λ p. record { connection = p.0; failures = p.1.0; last = p.1.1 }) (λ _. refl)
