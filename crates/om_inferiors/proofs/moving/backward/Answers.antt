use Rattle.std.proofs.Common.{◌≡◌, ◌≢◌, ℕ, List, ◌∙◌, inl, inr, refl, ap, subst, sym}
use Rattle.std.specs.Prelude.{slice_get}
use Rattle.om_debug.specs.declared.stop.Stop.TheVariants as stops
use Rattle.om_inferiors.specs.Moving.{AreBack, IsRunBackAt, IsStepBackAt}
use Rattle.om_inferiors.specs.declared.inferior.Inferior.{Inferior}
use Rattle.om_inferiors.proofs.Each.{are_back_then}
use Rattle.om_inferiors.proofs.Lasting.{last_after, nobody_moved, run_from_step}
use Rattle.om_inferiors.proofs.moving.backward.Goals as goal
use Rattle.om_inferiors.proofs.moving.backward.Goals.{then-steps+in_ok-stop+in-Watched, else-steps}

pub returns-in-Begin-clause-last : goal.returns-in-Begin-clause-last
returns-in-Begin-clause-last g c =
    let told = subst (IsStepBackAt c.args.all.now c.step_back_at.new.all c.args.who) c.in-Begin.is c.in_ok-stop.ensures.told in
    inr (record { begin = refl; told = told; stays = nobody_moved c.args.all.now c.step_back_at.new.all c.args.who c.step_back_at.ensures.back c.step_back_at.ensures.others told })

pub returns-in_default : goal.returns-in_default
returns-in_default g c = record {
  back = are_back_then c.args.all.now c.step_back_at.new.all c.last_with.new.all c.step_back_at.ensures.back c.last_with.ensures.back;
  last = last_after c.args.all.now c.step_back_at.new.all c.last_with.new.all c.args.who c.in_ok-stop.stop c.last_with.result c.step_back_at.ensures.back
      (inr c.in_ok-stop.ensures.told) c.step_back_at.ensures.others c.last_with.ensures.last;
  within = c.last_with.ensures.within;
  unread = c.last_with.ensures.unread;
}

pub returns-clause-last : goal.returns-clause-last
returns-clause-last g c =
    let olds = c.args.all.now in
    let starts = c.run_back_at.new.all in
    let who = c.args.who in
    let run : IsRunBackAt olds starts who c.in_ok-stop-2.stop = elim c.if-steps.branch [
      | then-steps+in_ok-stop+in-Watched w ↦ run_from_step olds c.if-steps.all starts who c.in_ok-stop-2.stop w.in-Watched.field-0
          (subst (λ xs. IsStepBackAt olds xs who (stops.Watched w.in-Watched.field-0)) (sym w.all-is) (subst (IsStepBackAt olds w.step_back_at.new.all who) w.in-Watched.is w.in_ok-stop.ensures.told)) c.in_ok-stop-2.ensures.told
      | else-steps w ↦ subst (λ xs. IsRunBackAt xs starts who c.in_ok-stop-2.stop) w.all-is c.in_ok-stop-2.ensures.told
    ] in
    let others : (k : ℕ) → k ≢ who → slice_get starts k ≡ slice_get olds k = elim c.if-steps.branch [
      | then-steps+in_ok-stop+in-Watched w ↦ λ k apart. c.run_back_at.ensures.others k apart ∙ ap (λ (xs : List Inferior). slice_get xs k) w.all-is ∙ w.step_back_at.ensures.others k apart
      | else-steps w ↦ λ k apart. c.run_back_at.ensures.others k apart ∙ ap (λ (xs : List Inferior). slice_get xs k) w.all-is
    ] in
    let back : AreBack olds starts = elim c.if-steps.branch [
      | then-steps+in_ok-stop+in-Watched w ↦ are_back_then olds c.if-steps.all starts (subst (λ xs. AreBack olds xs) (sym w.all-is) w.step_back_at.ensures.back) c.run_back_at.ensures.back
      | else-steps w ↦ subst (λ xs. AreBack xs starts) w.all-is c.run_back_at.ensures.back
    ] in
    last_after olds starts c.last_with-2.new.all who c.in_ok-stop-2.stop c.last_with-2.result back (inl run) others c.last_with-2.ensures.last
