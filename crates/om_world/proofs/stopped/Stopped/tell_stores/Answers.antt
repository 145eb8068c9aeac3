use Rattle.std.proofs.Common.{◌≡◌, ◌<◌, ◌∙◌, ap, arith, length, map, subst, sym, Err, rules}
use Rattle.std.specs.Prelude.{IfErr}
use Rattle.std.proofs.lemmas.List.{length-replicate}
use Rattle.om_manager.specs.Outputs.{held_of}
use Rattle.om_manager.specs.State.{process_count, released_by}
use Rattle.om_member.specs.Handed.{made_of}
use Rattle.om_take_up.specs.TakenUp.{HasTakenUp, IsTakenUp}
use Rattle.om_world.specs.World.{WorldState}
use Rattle.om_world.specs.steps.Restarting.{IsRefusal, refusal_of_rows, refusal_of_take_up}
use Rattle.om_world.proofs.Lists.{once_err}
use Rattle.om_world.proofs.Reading.{failed_read, none_told, one_told, read_then, rows_fault, whole_after, taking_refusal}
use Rattle.om_world.proofs.Undamaged.{taken_stand}
use Rattle.om_world.proofs.stopped.Stopped.tell_stores.Goals as goal

pub loop-p-init : goal.loop-p-init
loop-p-init g c = none_told c.args.self.now c.args.manager.now c.requires.sound c.requires.fresh

pub at-pid-requires : goal.at-pid-requires
at-pid-requires g c =
    let programs = c.args.self.now.programs in
    let lt : c.loop-p.p < length programs = subst (λ n. c.loop-p.p < n) c.size-p-end.ensures.programs c.loop-p-test.true in
    let size : process_count c.args.manager.now ≡ length programs = ap length c.requires.fresh.recovery ∙ length-replicate (length programs) 0 in
    let few = c.requires.sound.few in omega arith

pub released-requires : goal.released-requires
released-requires g c =
    let programs = c.args.self.now.programs in
    let lt : c.loop-p.p < length programs = subst (λ n. c.loop-p.p < n) c.size-p-end.ensures.programs c.loop-p-test.true in
    let same : length c.rows_at.new.self.programs ≡ length programs =
    ap (λ (w : WorldState). length w.programs) c.rows_at.ensures.read.others ∙ ap (λ (w : WorldState). length w.programs) c.loop-p.invariant.read.others in
    let is = c.at-pid.ensures in omega arith

pub returns-in_err-rows-clause-read : goal.returns-in_err-rows-clause-read
returns-in_err-rows-clause-read g c = read_then c.args.self.now c.loop-p.self c.rows_at.new.self c.loop-p.invariant.read c.rows_at.ensures.read

pub returns-in_err-rows-clause-counted : goal.returns-in_err-rows-clause-counted
returns-in_err-rows-clause-counted g c = λ is.
    let fault = c.in_err-rows.field-0.0 in
    let from : c.from_residual.result ≡ Err (refusal_of_rows fault) = search rules in
    let failed = rows_fault fault (once_err c.from_residual.result _ _ from is) in
    (c.loop-p.p, failed_read c.args.self.now c.loop-p.self c.rows_at.new.self c.loop-p.p c.loop-p.invariant.read (c.rows_at.ensures.counted (c.in_err-rows.was ∙ ap (λ e. Err e) failed)))

pub returns-in_err-rows-clause-whole : goal.returns-in_err-rows-clause-whole
returns-in_err-rows-clause-whole g c = λ known whole is.
    let fault = c.in_err-rows.field-0.0 in
    let from : c.from_residual.result ≡ Err (refusal_of_rows fault) = search rules in
    c.in_err-rows.ensures.whole known (whole_after c.args.self.now c.loop-p.self c.loop-p.invariant.read whole) (once_err c.from_residual.result _ _ from is)

pub returns-in_err-take_up-clause-read : goal.returns-in_err-take_up-clause-read
returns-in_err-take_up-clause-read g c = read_then c.args.self.now c.loop-p.self c.rows_at.new.self c.loop-p.invariant.read c.rows_at.ensures.read

pub returns-in_err-take_up-clause-refused : goal.returns-in_err-take_up-clause-refused
returns-in_err-take_up-clause-refused g c =
    let fault = c.in_err-take_up.field-0.0 in
    let from : c.from_residual-in_err-take_up.result ≡ Err (refusal_of_take_up fault) = search rules in
    subst (λ r. IfErr r IsRefusal) (sym from) (taking_refusal fault).0

pub returns-in_err-take_up-clause-counted : goal.returns-in_err-take_up-clause-counted
returns-in_err-take_up-clause-counted g c = λ is.
    let fault = c.in_err-take_up.field-0.0 in
    let from : c.from_residual-in_err-take_up.result ≡ Err (refusal_of_take_up fault) = search rules in
    absurd ((taking_refusal fault).1 (once_err c.from_residual-in_err-take_up.result _ _ from is))

pub returns-in_err-take_up-clause-faultless : goal.returns-in_err-take_up-clause-faultless
returns-in_err-take_up-clause-faultless g c = λ never is.
    let fault = c.in_err-take_up.field-0.0 in
    let from : c.from_residual-in_err-take_up.result ≡ Err (refusal_of_take_up fault) = search rules in
    (taking_refusal fault).1 (once_err c.from_residual-in_err-take_up.result _ _ from is)

pub returns-in_err-take_up-clause-whole : goal.returns-in_err-take_up-clause-whole
returns-in_err-take_up-clause-whole g c = λ known whole is.
    let m = c.loop-p.manager in let next = c.take_up.new.access in let rows = c.in_ok-rows.rows.items in let p = c.loop-p.p in let new = c.rows_at.new.self in
    let outputs = c.released.result.now in let made = map made_of outputs in let programs = c.args.self.now.programs in
    let fault = c.in_err-take_up.field-0.0 in
    let from : c.from_residual-in_err-take_up.result ≡ Err (refusal_of_take_up fault) = search rules in
    let lt : p < length programs = subst (λ n. p < n) c.size-p-end.ensures.programs c.loop-p-test.true in
    let mid = whole_after c.args.self.now c.loop-p.self c.loop-p.invariant.read whole in
    let released : map held_of outputs ≡ released_by new.manager p =
    c.released.ensures.outputs ∙ ap (released_by new.manager) c.at-pid.ensures in
    let taken : IsTakenUp m 0 p rows made (Err fault) next =
    subst (λ e. IsTakenUp m 0 p rows made e next) c.in_err-take_up.was
    (subst (λ l. IsTakenUp m 0 p l made c.take_up.result next) c.deref.ensures.value
    (subst (λ q. IsTakenUp m 0 q c.deref.result.now made c.take_up.result next) c.at-pid.ensures c.take_up.ensures)) in
    let same : length new.programs ≡ length programs =
    ap (λ (w : WorldState). length w.programs) c.rows_at.ensures.read.others ∙ ap (λ (w : WorldState). length w.programs) c.loop-p.invariant.read.others in
    let size : process_count new.manager ≡ length programs = c.told.ensures.shape.size ∙ same in
    taken_stand c.args.self.now c.loop-p.self new mid.0 c.args.manager.now m next p rows outputs fault lt c.requires.fresh c.loop-p.invariant c.rows_at.ensures.read known (c.rows_at.ensures.stands known mid.0 mid.1) (c.in_ok-rows.ensures.rows known)
    c.told.ensures.shape.manager size released c.released.ensures.numbered taken
    (once_err c.from_residual-in_err-take_up.result _ _ from is)

pub loop-p-preserved : goal.loop-p-preserved
loop-p-preserved g c =
    let m = c.loop-p.manager in let next = c.take_up.new.access in let rows = c.in_ok-rows.rows.items in let p = c.loop-p.p in let new = c.rows_at.new.self in
    let outputs = c.released.result.now in let made = map made_of outputs in
    let lt : p < length c.args.self.now.programs = subst (λ n. p < n) c.size-p-end.ensures.programs c.loop-p-test.true in
    let released : map held_of outputs ≡ released_by new.manager p =
    c.released.ensures.outputs ∙ ap (released_by new.manager) c.at-pid.ensures in
    one_told c.args.self.now c.loop-p.self new c.args.manager.now m next p rows outputs lt c.loop-p.invariant c.rows_at.ensures.read (λ known. c.in_ok-rows.ensures.rows known) released c.released.ensures.numbered
    (subst (λ l. HasTakenUp m 0 p l made next) c.deref.ensures.value (subst (λ q. HasTakenUp m 0 q c.deref.result.now made next) c.at-pid.ensures c.in_ok-take_up.ensures))
