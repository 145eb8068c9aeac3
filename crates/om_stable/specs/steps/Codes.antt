-- Codes, by which a proof tells contents apart.
use Rattle.std.specs.Prelude.{refl}
use Rattle.std.specs.FinMap.{code}
use Rattle.std.specs.Coded.{Coded, code_by, coded×, coded_ℕ, coded_list}
use Rattle.om_stable.specs.Content.{Records, Content}
use Rattle.om_stable.specs.Ledger.{LedgerContent, LedgerStore}

-- the code of a content, as of the pair of its parts
abbrev pub content_code : Coded Content
content_code =
    code_by (Records × Records) (coded× (code coded_ℕ (coded_list coded_ℕ)) (code coded_ℕ (coded_list coded_ℕ)))
    (λ c. (c.receipts, c.checkpoints)) (λ p. record { receipts = p.0; checkpoints = p.1 }) (λ _. refl)

-- the code of records of one kind
abbrev pub records_code : Coded Records
records_code = code coded_ℕ (coded_list coded_ℕ)

-- the code of a store with its ledger, as of its content and its three tables
abbrev pub ledger_code : Coded LedgerStore
ledger_code =
    code_by (Content × (Records × (Records × Records))) (coded× content_code (coded× records_code (coded× records_code records_code)))
    (λ s. (s.content, (s.ledger.outputs, (s.ledger.senders, s.ledger.about))))
    (λ p. record { content = p.0; ledger = record { outputs = p.1.0; senders = p.1.1.0; about = p.1.1.1 } }) (λ _. refl)
