use Rattle.std.proofs.Common.{rules, ◌≡◌, [], ◌∷◌, codes, IsTrue}
use Rattle.om_tables.proofs.NameLemmas.{two_of, both_named}
use Rattle.om_tables.proofs.sql_stable.are_receipts_and_checkpoints.Goals as goal

pub returns : goal.returns
returns c =
    let two : c.args.tables.now ≡ c.receipts-item.result ∷ c.checkpoints-item.result ∷ [] =
    two_of c.args.tables.now c.receipts-item.result c.checkpoints-item.result c.in-len2.len_at_least c.in-len2.len_below c.receipts-item.is c.checkpoints-item.is in
    let first : c.receipts-item.result.name ≡ codes "receipts" = search rules in
    let second : IsTrue c.eq.result → c.checkpoints-item.result.name ≡ codes "checkpoints" = search rules in
    let back : c.checkpoints-item.result.name ≡ codes "checkpoints" → IsTrue c.eq.result = search rules in
    both_named c.args.tables.now c.receipts-item.result c.checkpoints-item.result (codes "receipts") (codes "checkpoints") two first second back
