use Rattle.std.proofs.Common.{length, refl, subst, sym}
use Rattle.std.specs.Prelude.{IfErr, IfOk}
use Rattle.std.proofs.lemmas.Result.{IfErr-weaker}
use Rattle.om_look.specs.Rows.{AreRowsOf, RefusesRows}
use Rattle.om_world.specs.Disk.{held_in}
use Rattle.om_world.specs.steps.Members.{health_of, sound_in}
use Rattle.om_world.proofs.Disk.{world_true}
use Rattle.om_world.proofs.Lists.{lent_at}
use Rattle.om_world.proofs.Reading.{after_read, known_read, read_clean, read_failed, read_held, was_read}
use Rattle.om_world.proofs.Seats.{here}
use Rattle.om_world.proofs.Undamaged.{rows_stand, stands}
use Rattle.om_world.proofs.world.World.rows_at.Goals as goal
use Rattle.om_world.specs.Stopped.{along}

pub invariant_of-self : goal.invariant_of-self
invariant_of-self g c =
    let m = c.index_mut-member.result.now in
    let at = lent_at _ c.args.p _ (here g.S.Stable.content (health_of g.S.Stable.is_clean g.S.Stable.failed) g.S.Stable.IsSound _ _ _ _ _ _ c.args.p _ c.self.invariant c.self.view_is c.requires) c.index_mut-member.ensures.value in
    after_read g.S.Stable.content g.S.Stable.is_clean g.S.Stable.failed g.S.Stable.IsSound _ _ _ _ _ _ c.args.p m at (record { standing = m.standing; round = m.round; store = c.stored_rows.new.store }) _ c.self.invariant c.self.view_is refl _ c.stored_rows.ensures.used c.stored_rows.ensures.same

pub returns-clause-read : goal.returns-clause-read
returns-clause-read g c =
    let m = c.index_mut-member.result.now in
    let at = lent_at _ c.args.p _ (here g.S.Stable.content (health_of g.S.Stable.is_clean g.S.Stable.failed) g.S.Stable.IsSound _ _ _ _ _ _ c.args.p _ c.self.invariant c.self.view_is c.requires) c.index_mut-member.ensures.value in
    was_read g.S.Stable.content g.S.Stable.is_clean g.S.Stable.failed g.S.Stable.IsSound _ _ _ _ _ _ c.args.p m at (record { standing = m.standing; round = m.round; store = c.stored_rows.new.store }) _ c.self.invariant c.self.view_is refl _ c.stored_rows.ensures.used c.stored_rows.ensures.same

pub returns-clause-rows : goal.returns-clause-rows
returns-clause-rows g c = λ known.
    let m = c.index_mut-member.result.now in let r = c.stored_rows.result in
    let at = lent_at _ c.args.p _ (here g.S.Stable.content (health_of g.S.Stable.is_clean g.S.Stable.failed) g.S.Stable.IsSound _ _ _ _ _ _ c.args.p _ c.self.invariant c.self.view_is c.requires) c.index_mut-member.ensures.value in
    let held = read_held g.S.Stable.content g.S.Stable.is_clean g.S.Stable.failed g.S.Stable.IsSound _ _ _ _ _ _ c.args.p m at (record { standing = m.standing; round = m.round; store = c.stored_rows.new.store }) c.args.self.now c.self.invariant c.self.view_is refl _ c.stored_rows.ensures.used c.stored_rows.ensures.same in
    let clean = read_clean g.S.Stable.content g.S.Stable.is_clean g.S.Stable.failed g.S.Stable.IsSound _ _ _ _ _ _ c.args.p m at (record { standing = m.standing; round = m.round; store = c.stored_rows.new.store }) c.args.self.now c.self.invariant c.self.view_is refl _ c.stored_rows.ensures.used c.stored_rows.ensures.same known in
    subst (λ q. IfOk r (λ rows. AreRowsOf q (length c.args.self.now.programs) (held_in c.args.self.now c.args.p) rows.items)) c.at.ensures
    (subst (λ n. IfOk r (λ rows. AreRowsOf c.at.result n (held_in c.args.self.now c.args.p) rows.items)) c.size-n.ensures.programs
    (subst (λ h. IfOk r (λ rows. AreRowsOf c.at.result c.size-n.result h rows.items)) (sym held) (c.stored_rows.ensures.rows clean)))

pub returns-clause-counted : goal.returns-clause-counted
returns-clause-counted g c = λ is.
    let m = c.index_mut-member.result.now in
    let at = lent_at _ c.args.p _ (here g.S.Stable.content (health_of g.S.Stable.is_clean g.S.Stable.failed) g.S.Stable.IsSound _ _ _ _ _ _ c.args.p _ c.self.invariant c.self.view_is c.requires) c.index_mut-member.ensures.value in
    read_failed g.S.Stable.content g.S.Stable.is_clean g.S.Stable.failed g.S.Stable.IsSound _ _ _ _ _ _ c.args.p m at (record { standing = m.standing; round = m.round; store = c.stored_rows.new.store }) c.args.self.now c.self.invariant c.self.view_is refl _ c.stored_rows.ensures.used c.stored_rows.ensures.same is

pub returns-clause-stands : goal.returns-clause-stands
returns-clause-stands g c = λ known run left.
    let m = c.index_mut-member.result.now in
    let at = lent_at _ c.args.p _ (here g.S.Stable.content (health_of g.S.Stable.is_clean g.S.Stable.failed) g.S.Stable.IsSound _ _ _ _ _ _ c.args.p _ c.self.invariant c.self.view_is c.requires) c.index_mut-member.ensures.value in
    let read = was_read g.S.Stable.content g.S.Stable.is_clean g.S.Stable.failed g.S.Stable.IsSound _ _ _ _ _ _ c.args.p m at (record { standing = m.standing; round = m.round; store = c.stored_rows.new.store }) _ c.self.invariant c.self.view_is refl _ c.stored_rows.ensures.used c.stored_rows.ensures.same in
    let w = stands (sound_in g.S.Stable.IsSound) _ _ c.args.self.now run c.self.invariant c.self.view_is (known_read c.args.self.now _ read known) left in
    world_true (along c.args.self.now run) w.0 w.1

pub returns-clause-whole : goal.returns-clause-whole
returns-clause-whole g c = λ known whole.
    let m = c.index_mut-member.result.now in let r = c.stored_rows.result in
    let at = lent_at _ c.args.p _ (here g.S.Stable.content (health_of g.S.Stable.is_clean g.S.Stable.failed) g.S.Stable.IsSound _ _ _ _ _ _ c.args.p _ c.self.invariant c.self.view_is c.requires) c.index_mut-member.ensures.value in
    let read = was_read g.S.Stable.content g.S.Stable.is_clean g.S.Stable.failed g.S.Stable.IsSound _ _ _ _ _ _ c.args.p m at (record { standing = m.standing; round = m.round; store = c.stored_rows.new.store }) _ c.self.invariant c.self.view_is refl _ c.stored_rows.ensures.used c.stored_rows.ensures.same in
    let held = read_held g.S.Stable.content g.S.Stable.is_clean g.S.Stable.failed g.S.Stable.IsSound _ _ _ _ _ _ c.args.p m at (record { standing = m.standing; round = m.round; store = c.stored_rows.new.store }) c.args.self.now c.self.invariant c.self.view_is refl _ c.stored_rows.ensures.used c.stored_rows.ensures.same in
    let clean = read_clean g.S.Stable.content g.S.Stable.is_clean g.S.Stable.failed g.S.Stable.IsSound _ _ _ _ _ _ c.args.p m at (record { standing = m.standing; round = m.round; store = c.stored_rows.new.store }) c.args.self.now c.self.invariant c.self.view_is refl _ c.stored_rows.ensures.used c.stored_rows.ensures.same known in
    let w = stands (sound_in g.S.Stable.IsSound) _ _ c.args.self.now whole.0 c.self.invariant c.self.view_is (known_read c.args.self.now _ read known) whole.1 in
    let at_run = along c.args.self.now whole.0 in
    let why_not : IfErr r (λ fault. RefusesRows c.args.p (length c.args.self.now.programs) (held_in c.args.self.now c.args.p) fault) =
    subst (λ q. IfErr r (λ fault. RefusesRows q (length c.args.self.now.programs) (held_in c.args.self.now c.args.p) fault)) c.at.ensures
    (subst (λ n. IfErr r (λ fault. RefusesRows c.at.result n (held_in c.args.self.now c.args.p) fault)) c.size-n.ensures.programs
    (subst (λ h. IfErr r (λ fault. RefusesRows c.at.result c.size-n.result h fault)) (sym held) (c.stored_rows.ensures.refused clean))) in
    IfErr-weaker r _ _ (λ fault refused. rows_stand at_run c.args.p fault w.0 w.1 (world_true at_run w.0 w.1) c.requires refused) why_not
