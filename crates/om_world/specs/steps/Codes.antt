-- Codes, by which a proof tells values apart.
use Rattle.std.specs.Prelude.{ℕ, List, Bool, refl}
use Rattle.std.specs.Coded.{Coded, code_by, coded×, coded_ℕ, coded_bool, coded_list}
use Rattle.om_world.specs.World.{Health, SinceState}
use Rattle.om_world.specs.declared.entry.Entry.{Entry}

pub coded_health : Coded Health
coded_health =
    code_by (Bool × ℕ)
    (coded× coded_bool coded_ℕ)
    (λ h. (h.clean, h.failed))
    (λ parts. record { clean = parts.0; failed = parts.1 })
    (λ h. refl)

pub coded_entry : Coded Entry
coded_entry =
    code_by (ℕ × (ℕ × (ℕ × (ℕ × List ℕ))))
    (coded× coded_ℕ (coded× coded_ℕ (coded× coded_ℕ (coded× coded_ℕ (coded_list coded_ℕ)))))
    (λ e. (e.to, (e.from, (e.ssn, (e.interval, e.body)))))
    (λ parts. record { to = parts.0; from = parts.1.0; ssn = parts.1.1.0; interval = parts.1.1.1.0; body = parts.1.1.1.1 })
    (λ e. refl)

pub coded_since : Coded SinceState
coded_since =
    code_by (List Entry × Bool)
    (coded× (coded_list coded_entry) coded_bool)
    (λ s. (s.before, s.stored))
    (λ parts. record { before = parts.0; stored = parts.1 })
    (λ s. refl)
