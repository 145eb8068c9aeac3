use Rattle.std.proofs.Common.{inl, inr, subst, refl}
use Rattle.om_inferiors.specs.Moving.{IsRunBackAt}
use Rattle.om_inferiors.specs.steps.Lasting.{IsLookedBackAt}
use Rattle.om_inferiors.proofs.Lasting.{looked_by, looked_run, still_by}
use Rattle.om_inferiors.proofs.moving.later_of.Goals as goal

pub returns-then-is_later-clause-later : goal.returns-then-is_later-clause-later
returns-then-is_later-clause-later g c = inl (record {
  which = refl;
  run = looked_run c.args.all.now c.look_back_at.new.all c.args.place c.event_at-event.result c.in-Some.stop
      (subst (IsLookedBackAt c.args.all.now c.look_back_at.new.all c.args.place c.event_at-event.result) c.in-Some.is c.in_ok-stop.ensures.told);
  order = c.if-is_later.ensures.later refl;
})

pub returns-else-is_later-clause-later : goal.returns-else-is_later-clause-later
returns-else-is_later-clause-later g c =
    let olds = c.args.all.now in
    let news = c.look_back_at.new.all in
    let place = c.args.place in
    let run : IsRunBackAt olds news place c.in-Some.stop = looked_run olds news place c.event_at-event.result c.in-Some.stop
    (subst (IsLookedBackAt olds news place c.event_at-event.result) c.in-Some.is c.in_ok-stop.ensures.told) in
    inr (record {
      which = refl;
      same = refl;
      by = still_by olds news c.args.last.place place c.in-Some.stop c.look_back_at.ensures.back run (c.if-is_later.ensures.earlier refl);
    })

pub returns-in_default-clause-later : goal.returns-in_default-clause-later
returns-in_default-clause-later g c =
    let olds = c.args.all.now in
    let news = c.look_back_at.new.all in
    let place = c.args.place in
    let event = c.event_at-event.result in
    inr (record {
      which = refl;
      same = refl;
      by = looked_by olds news c.args.last.place place event c.event_at-event.ensures c.requires.apart c.look_back_at.ensures.others
          (subst (IsLookedBackAt olds news place event) c.in_default.is c.in_ok-stop.ensures.told);
    })
