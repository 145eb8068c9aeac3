use Rattle.std.proofs.Common.{◌≡◌, ap, sym, ◌∙◌, subst, is_some, Some}
use Rattle.om_recover.specs.steps.Nearest.{IsPut}
use Rattle.om_recover.specs.declared.rows.trees.Base.{Base}
use Rattle.om_recover.proofs.PlaceLemmas.{put_of}
use Rattle.om_recover.proofs.rows.storing.set_other_last.Goals as goal

pub returns-in-Some : goal.returns-in-Some
returns-in-Some c = λ base is.
    let read : Some c.in-Some.base.now ≡ Some base = c.in-Some.ensures.value ∙ is in
    let same : c.in-Some.base.now ≡ base = cc in
    let value = λ (b : Base). record b { last = c.args.last } in
    let written = c.get_mut.follows.holds (value c.in-Some.base.now) in
    let updates = written.3 (sym (ap is_some c.in-Some.ensures.value)) in
    subst (λ b. IsPut c.args.others.now.entries (c.get_mut.follows.lender (value c.in-Some.base.now)).entries c.args.pid c.args.x (value b)) same
    (put_of _ _ _ _ (value c.in-Some.base.now) written.4 updates.1 updates.2)
