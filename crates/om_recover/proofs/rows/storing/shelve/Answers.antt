use Rattle.std.proofs.Common.{refl, subst}
use Rattle.om_recover.specs.steps.Nearest.{IsPut}
use Rattle.om_recover.specs.declared.rows.trees.Newest.{Newest}
use Rattle.om_recover.proofs.PlaceLemmas.{put_of}
use Rattle.om_recover.proofs.BaseLemmas.{one_newest}
use Rattle.om_recover.proofs.rows.storing.shelve.Goals as goal

pub returns-clause-ok : goal.returns-clause-ok
returns-clause-ok c =
    let found = c.in-Some.newest.now in
    let own = rw c.deref.ensures.value at c.in-Some.ensures in
    let updates = c.in_ok-insert.ensures.updates in
    record {
      sorted = c.in_ok-insert.ensures.ordered;
      newest = refl;
      put = λ x base also. subst (λ (n : Newest). IsPut c.args.bases.now.others.entries c.insert.new.self.entries c.args.pid n.interval n.base)
          (one_newest c.args.bases.now.newest.items c.args.pid found.interval x found.base base own also)
          (put_of _ _ c.args.pid found.interval found.base c.in_ok-insert.ensures.ordered updates.1 updates.2);
      left = λ none. absurd (none found.interval found.base own);
    }
