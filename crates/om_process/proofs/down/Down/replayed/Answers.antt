use Rattle.std.proofs.Common.{◌≡◌, ◌≢◌, rules, sym, subst, length}
use Rattle.std.specs.Prelude.{Err, IfErr}
use Rattle.std.proofs.lemmas.Result.{IfErr-weaker}
use Rattle.om_format.specs.CheckpointViews.{checkpoint_record}
use Rattle.om_process.specs.Stored.{Refuses, the_process}
use Rattle.om_process.specs.steps.Rows.{RefusesFrom}
use Rattle.om_process.proofs.Exactly.{another_process}
use Rattle.om_process.proofs.StoredLemmas.{meant_begins, refused_at_start, refused_from}
use Rattle.om_process.proofs.down.Down.replayed.Goals as goal

pub returns-in_err-checkpoint-clause-refused : goal.returns-in_err-checkpoint-clause-refused
returns-in_err-checkpoint-clause-refused g c =
    let same : c.from_residual.result ≡ Err c.in_err-checkpoint.field-0.0 = search rules in
    let whose = the_process c.args.self.now.pid c.args.self.now.n in
    λ known.
    let held = g.S.Stable.content c.args.store.now in
    subst (λ r. IfErr r (λ fault. Refuses whose held c.args.x fault)) (sym same)
    (refused_at_start whose held c.args.x c.in_err-checkpoint.field-0.0 (c.in_err-checkpoint.ensures.refused known))

pub returns-then-ne-clause-refused : goal.returns-then-ne-clause-refused
returns-then-ne-clause-refused g c =
    let other : c.in_ok-checkpoint.checkpoint.head.pid ≢ c.args.self.now.pid = search rules in
    λ known.
    another_process (the_process c.args.self.now.pid c.args.self.now.n) (g.S.Stable.content c.args.store.now) c.args.x (checkpoint_record c.in_ok-checkpoint.checkpoint) (c.in_ok-checkpoint.ensures.begins known) (λ meant. other meant.0)

pub returns-then-n-self-clause-refused : goal.returns-then-n-self-clause-refused
returns-then-n-self-clause-refused g c =
    let other : length c.in_ok-checkpoint.checkpoint.head.vec ≢ c.args.self.now.n = search rules in
    λ known.
    another_process (the_process c.args.self.now.pid c.args.self.now.n) (g.S.Stable.content c.args.store.now) c.args.x (checkpoint_record c.in_ok-checkpoint.checkpoint) (c.in_ok-checkpoint.ensures.begins known) (λ meant. other meant.1)

pub returns-clause-refused : goal.returns-clause-refused
returns-clause-refused g c =
    let own : c.in_ok-checkpoint.checkpoint.head.pid ≡ c.args.self.now.pid = search rules in
    let size : length c.in_ok-checkpoint.checkpoint.head.vec ≡ c.args.self.now.n = search rules in
    let whose = the_process c.args.self.now.pid c.args.self.now.n in
    λ known.
    let held = g.S.Stable.content c.args.store.now in
    let checkpoint = checkpoint_record c.in_ok-checkpoint.checkpoint in
    let first = c.replay_from.ensures.used.clean known.0 in
    let begins = c.in_ok-checkpoint.ensures.begins (first, known.1) in
    let same = c.in_ok-checkpoint.ensures.same (first, known.1) in
    let meant = meant_begins whose held c.args.x checkpoint begins (own, size) in
    IfErr-weaker c.replay_from.result _ _ (λ fault why. refused_from whose held c.args.x checkpoint fault meant (subst (λ h. RefusesFrom h c.args.x checkpoint fault) same why))
    (c.replay_from.ensures.refused (known.0, c.in_ok-checkpoint.ensures.used.sound first known.1) begins.effective.within)
