use Rattle.std.proofs.Common.{◌≡◌, refl, sym, subst, length, take, slice_get, Some, Err}
use Rattle.std.proofs.lemmas.Option.{slice_get_read}
use Rattle.om_manager.specs.Notes.{Notes}
use Rattle.om_manager.specs.State.{ManagerState}
use Rattle.om_member.specs.Told.{AreTold, IsTold, row_for}
use Rattle.om_member.proofs.Lists.{take_next}
use Rattle.om_member.proofs.RowLemmas.{told_more, refused_same}
use Rattle.om_member.proofs.telling.tell_all.Goals as goal

pub loop-count-preserved : goal.loop-count-preserved
loop-count-preserved g c =
    let state = g.O.ManagerAccess.state in
    let rows = c.args.rows.now in let i = c.loop-count.count in let row = c.index-rows-count.result in
    subst (λ l. AreTold (state c.args.access.now) c.args.round c.args.pid l (state c.tell.new.access)) (take_next rows i row c.loop-count-test.true c.index-rows-count.is)
    (told_more (state c.args.access.now) (state c.loop-count.access) (state c.tell.new.access) c.args.round c.args.pid (take i rows) row c.in_default.field-0 c.loop-count.invariant
    (subst (λ a. IsTold (state c.loop-count.access) c.args.round c.args.pid row a (state c.tell.new.access)) c.in_default.is c.tell.ensures))

pub returns-in-Err : goal.returns-in-Err
returns-in-Err g c =
    let state = g.O.ManagerAccess.state in
    let rows = c.args.rows.now in let i = c.loop-count.count in let row = c.index-rows-count.result in
    let at : slice_get rows i ≡ Some row = slice_get_read rows (length rows) i row refl c.loop-count-test.true c.index-rows-count.is in
    let answers = subst (λ a. Notes (state c.loop-count.access) c.args.round (row_for c.args.pid row) a (state c.tell.new.access)) c.in-Err.is c.tell.ensures.answers in
    let same = refused_same (state c.loop-count.access) (state c.tell.new.access) c.args.round (row_for c.args.pid row) c.in-Err.fault answers in
    record {
      within = c.loop-count.auto.count-end;
      done = subst (λ (m : ManagerState). AreTold (state c.args.access.now) c.args.round c.args.pid (take i rows) m) (sym same) c.loop-count.invariant;
      all = tt;
      refused = (row, at, subst (λ (m : ManagerState). Notes m c.args.round (row_for c.args.pid row) (Err c.in-Err.fault) (state c.tell.new.access)) (sym same) answers);
    }
