use Rattle.std.proofs.Common.{◌<◌, ◌^◌, Some, arith, false, length, subst, sym}
use Rattle.om_recover.specs.Offered.{IsNew}
use Rattle.om_recover.specs.declared.note.Note.TheVariants.{Noted}
use Rattle.om_recover.specs.steps.Fresh.{AreAdded}
use Rattle.om_recover.proofs.FreshLemmas.{added_fresh, added_quiet, quiet_below}
use Rattle.om_recover.proofs.adding.add_row.Goals as goal

pub returns-then-not-is_new-clause-answer : goal.returns-then-not-is_new-clause-answer
returns-then-not-is_new-clause-answer c =
    let new : IsNew (length c.args.state.now) c.args.index.now c.args.row.now = rw (← c.n.ensures.places) c.in_default.ensures.answer in
    (Noted false, (new, c.in-Ok-add.ensures.ok))

pub returns-then-not-is_new-clause-added : goal.returns-then-not-is_new-clause-added
returns-then-not-is_new-clause-added c = λ before so_far.
    let new : IsNew (length c.args.state.now) c.args.index.now c.args.row.now = rw (← c.n.ensures.places) c.in_default.ensures.answer in
    let numbered : c.args.row.now.interval < 2 ^ 32 = omega arith in
    added_quiet _ _ _ _ _ _ _ so_far new numbered c.in-Ok-add.ensures.ok (λ y stable _. c.makes_stable-is_new.ensures.none c.if-not-is_new.true y stable)

pub returns-then-x-get-clause-answer : goal.returns-then-x-get-clause-answer
returns-then-x-get-clause-answer c =
    let new : IsNew (length c.args.state.now) c.args.index.now c.args.row.now = rw (← c.n.ensures.places) c.in_default.ensures.answer in
    (Noted false, (new, c.in-Ok-add.ensures.ok))

pub returns-then-x-get-clause-added : goal.returns-then-x-get-clause-added
returns-then-x-get-clause-added c = λ before so_far.
    let new : IsNew (length c.args.state.now) c.args.index.now c.args.row.now = rw (← c.n.ensures.places) c.in_default.ensures.answer in
    let numbered : c.args.row.now.interval < 2 ^ 32 = omega arith in
    added_quiet _ _ _ _ _ _ _ so_far new numbered c.in-Ok-add.ensures.ok (quiet_below _ _ _ _ _ _ so_far new (omega (arith, c.if-x-get.true, c.get.ensures)))

pub returns-clause-answer : goal.returns-clause-answer
returns-clause-answer c =
    let new : IsNew (length c.args.state.now) c.args.index.now c.args.row.now = rw (← c.n.ensures.places) c.in_default.ensures.answer in
    (Noted false, (new, c.in-Ok-add.ensures.ok))

pub returns-clause-added : goal.returns-clause-added
returns-clause-added c = λ before so_far.
    let new : IsNew (length c.args.state.now) c.args.index.now c.args.row.now = rw (← c.n.ensures.places) c.in_default.ensures.answer in
    let numbered : c.args.row.now.interval < 2 ^ 32 = omega arith in
    let makes = c.makes_stable-is_new.ensures.yes c.if-not-is_new.false in
    let all = added_fresh _ _ _ _ _ _ _ so_far new numbered c.in-Ok-add.ensures.ok (omega (arith, c.if-x-get.false, c.get.ensures)) makes.before makes.after in
    subst (λ f. AreAdded (length c.args.state.now) before c.add.new.self c.args.row.now.pid c.args.state.now (Some f)) (sym c.with.ensures) all
