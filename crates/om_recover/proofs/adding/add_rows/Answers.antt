use Rattle.std.proofs.Common.{◌≡◌, refl, sym, subst, arith, length, take, Err, Ok}
use Rattle.std.specs.Prelude.{MatchResult}
use Rattle.om_recover.specs.Rows.{Rows}
use Rattle.om_recover.specs.Offered.{AreOffered, offered}
use Rattle.om_recover.specs.steps.Fresh.{AreAdded}
use Rattle.om_recover.specs.declared.note.Note.{Note}
use Rattle.om_recover.proofs.FreshLemmas.{added_nothing, offered_next, process_at, refused_leaves}
use Rattle.om_recover.proofs.adding.add_rows.Goals as goal

pub loop-count-init : goal.loop-count-init
loop-count-init g c = record {
  answer = refl;
  added = added_nothing _ _ _ _ c.requires.lawful c.requires.state;
}

pub add_row-requires : goal.add_row-requires
add_row-requires g c = (
  c.args.index.now,
  subst (λ p. AreAdded (length c.args.state.now) c.args.index.now c.loop-count.index p c.args.state.now c.loop-count.fresh)
      (sym (process_at (g.L.RowList.rows c.args.rows.now) c.args._pid c.loop-count.count c.row-row.result c.requires.of_one c.row-row.ensures)) c.loop-count.invariant.added,
)

pub loop-count-preserved : goal.loop-count-preserved
loop-count-preserved g c =
    let n = length c.args.state.now in let row = c.row-row.result in let after = c.add_row.new.index in
    let of : row.pid ≡ c.args._pid = process_at (g.L.RowList.rows c.args.rows.now) c.args._pid c.loop-count.count row c.requires.of_one c.row-row.ensures in
    let answer = subst (λ r. MatchResult r (λ _. (note : Note) × offered n c.loop-count.index row (Ok note) after) (λ fault. offered n c.loop-count.index row (Err fault) after)) c.in_default.is c.add_row.ensures.answer in
    record {
      answer = offered_next n c.args.index.now c.loop-count.index after (g.L.RowList.rows c.args.rows.now) c.loop-count.count row answer.0 c.row-row.ensures c.loop-count.invariant.answer answer.1;
      added = subst (λ p. AreAdded n c.args.index.now c.loop-count.index p c.args.state.now c.loop-count.fresh → AreAdded n c.args.index.now after p c.args.state.now c.add_row.new.fresh) of
          (c.add_row.ensures.added c.args.index.now) c.loop-count.invariant.added;
    }

pub returns-in-Err-clause-answer : goal.returns-in-Err-clause-answer
returns-in-Err-clause-answer g c =
    let n = length c.args.state.now in let row = c.row-row.result in let after = c.add_row.new.index in let before = c.loop-count.index in
    let answer : offered n before row (Err c.in-Err.fault) after =
    subst (λ r. MatchResult r (λ _. (note : Note) × offered n before row (Ok note) after) (λ fault. offered n before row (Err fault) after)) c.in-Err.is c.add_row.ensures.answer in
    let same : after ≡ before = refused_leaves n before after row c.in-Err.fault answer in
    record {
      within = omega (arith, c.loop-count-test.true, c.len-many.ensures);
      taken = subst (λ (rows : Rows). AreOffered n c.args.index.now (take c.loop-count.count (g.L.RowList.rows c.args.rows.now)) rows) (sym same) c.loop-count.invariant.answer;
      all = tt;
      refused = (row, c.row-row.ensures, subst (λ (rows : Rows). offered n rows row (Err c.in-Err.fault) after) (sym same) answer);
    }

pub returns-in-Err-clause-added : goal.returns-in-Err-clause-added
returns-in-Err-clause-added g c =
    let n = length c.args.state.now in let row = c.row-row.result in
    subst (λ p. AreAdded n c.args.index.now c.loop-count.index p c.args.state.now c.loop-count.fresh → AreAdded n c.args.index.now c.add_row.new.index p c.args.state.now c.add_row.new.fresh)
    (process_at (g.L.RowList.rows c.args.rows.now) c.args._pid c.loop-count.count row c.requires.of_one c.row-row.ensures)
    (c.add_row.ensures.added c.args.index.now) c.loop-count.invariant.added

pub returns-clause-answer : goal.returns-clause-answer
returns-clause-answer g c =
    let rows = g.L.RowList.rows c.args.rows.now in
    let at_end : c.loop-count.count ≡ c.len-many.result = omega (arith, c.loop-count-test.false, c.loop-count.auto.count-end) in
    record {
      within = omega (arith, c.len-many.ensures);
      taken = subst (λ k. AreOffered (length c.args.state.now) c.args.index.now (take k rows) c.loop-count.index) at_end c.loop-count.invariant.answer;
      all = c.len-many.ensures;
      refused = tt;
    }

pub returns-clause-added : goal.returns-clause-added
returns-clause-added g c = c.loop-count.invariant.added
