use Rattle.std.proofs.Common.{rules, ◌≡◌, sym, [], length, IsTrue}
use Rattle.om_tables.proofs.sql_ledger.has_five_tables.Goals as goal

pub returns : goal.returns
returns c =
    let same : c.as_slice-tables.result.now ≡ c.args.schema.now.tables = search rules in
    let count : length c.args.schema.now.tables ≡ 5 = search rules in
    let indexes : c.args.schema.now.indexes ≡ [] = search rules in
    let views : c.args.schema.now.views ≡ [] = search rules in
    let records : IsTrue c.has_records.result = search rules in
    let two = c.has_records.ensures.0 records in (
      λ h. let three = c.has_further.ensures.0 h in record {
        count = count;
        receipts = rw (sym same) two.0;
        checkpoints = rw (sym same) two.1;
        outputs = rw (sym same) three.0;
        senders = rw (sym same) three.1;
        about = rw (sym same) three.2;
        indexes = indexes;
        views = views;
      },
      λ five. c.has_further.ensures.1 (rw same (five.outputs, five.senders, five.about)),
    )
