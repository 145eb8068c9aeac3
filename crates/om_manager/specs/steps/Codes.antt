-- Codes, by which a proof tells values apart.
use Rattle.std.specs.Prelude.{◌≡◌, ℕ, List, Bool, Option, None, Some}
use Rattle.std.proofs.Common.{refl}
use Rattle.std.specs.Coded.{Coded, code_by, coded×, coded_ℕ, coded_list, coded_bool, coded_option}
use Rattle.std.specs.FinSet as set
use Rattle.om_recover.specs.Rows.{Rows}
use Rattle.om_recover.specs.steps.RowCode.{coded_row}
use Rattle.om_manager.specs.Outputs.{HeldOutput}
use Rattle.om_manager.specs.State.{ManagerState}
use Rattle.om_manager.specs.steps.OutputLog.{LogState}
use Rattle.om_manager.specs.declared.presence.Presence.{Presence}
use Rattle.om_manager.specs.declared.presence.Presence.TheVariants.{Away, Failed, Joined}

pub coded_held : Coded HeldOutput
coded_held =
    code_by (ℕ × List ℕ)
    (coded× coded_ℕ (coded_list coded_ℕ))
    (λ h. (h.interval, h.bytes))
    (λ parts. record { interval = parts.0; bytes = parts.1 })
    (λ h. refl)

pub coded_log : Coded LogState
coded_log =
    code_by (List HeldOutput × ℕ)
    (coded× (coded_list coded_held) coded_ℕ)
    (λ l. (l.held, l.limit))
    (λ parts. record { held = parts.0; limit = parts.1 })
    (λ l. refl)

parts_of : Presence → Option (Option ℕ)
parts_of Away = None
parts_of Failed = Some None
parts_of (Joined current) = Some (Some current)

presence_from : Option (Option ℕ) → Presence
presence_from None = Away
presence_from (Some None) = Failed
presence_from (Some (Some current)) = Joined current

presence_from-parts_of : (presence : Presence) → presence_from (parts_of presence) ≡ presence
unfolding parts_of presence_from
presence_from-parts_of Away = refl
presence_from-parts_of Failed = refl
presence_from-parts_of (Joined current) = refl

pub coded_presence : Coded Presence
coded_presence = code_by (Option (Option ℕ)) (coded_option (coded_option coded_ℕ)) parts_of presence_from presence_from-parts_of

pub coded_manager : Coded ManagerState
coded_manager =
    code_by (Rows × (List ℕ × (List (List HeldOutput) × (List (List ℕ) ×
    (ℕ × (Option (List Presence) × (List ℕ × (List Bool × ℕ))))))))
    (coded× (set.code coded_row)
    (coded× (coded_list coded_ℕ)
    (coded× (coded_list (coded_list coded_held))
    (coded× (coded_list (coded_list coded_ℕ))
    (coded× coded_ℕ
    (coded× (coded_option (coded_list coded_presence))
    (coded× (coded_list coded_ℕ)
    (coded× (coded_list coded_bool) coded_ℕ))))))))
    (λ m. (m.rows, (m.recovery, (m.outputs, (m.starts, (m.round, (m.gathering, (m.last, (m.backs, m.version)))))))))
    (λ p. record {
      rows = p.0;
      recovery = p.1.0;
      outputs = p.1.1.0;
      starts = p.1.1.1.0;
      round = p.1.1.1.1.0;
      gathering = p.1.1.1.1.1.0;
      last = p.1.1.1.1.1.1.0;
      backs = p.1.1.1.1.1.1.1.0;
      version = p.1.1.1.1.1.1.1.1;
    })
    (λ m. refl)
