use Rattle.std.proofs.Common.{rules, ◌≡◌, length}
use Rattle.std.specs.Prelude.{◌==◌}
use Rattle.om_process.specs.declared.limits.TheConstants.{LAST_INTERVAL}
use Rattle.om_stable.specs.Content.{between, rows_of}
use Rattle.om_restart.proofs.AlongLemmas.{left_some, some_left, stray_found}
use Rattle.om_restart.proofs.receiving.has_strays.Goals as goal

pub returns-clause-strays : goal.returns-clause-strays
returns-clause-strays g c = λ clean.
    let held = g.S.Stable.content c.args.store.now in let rows = c.args.rows.now in
    let found = c.in_ok-strays.strays.items in let newest = c.newest.result in
    let are : rows_of found ≡ between held.receipts newest LAST_INTERVAL = c.in_ok-strays.ensures.found clean in
    let both = stray_found held rows newest found are c.newest.ensures.highest c.newest.ensures.one in
    let e : c.is_empty.result ≡ (length found == 0) = search rules in
    (λ some. both.0 (some_left (length found) c.is_empty.result e some), λ stray. left_some (length found) c.is_empty.result e (both.1 stray))
