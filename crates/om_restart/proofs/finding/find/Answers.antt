use Rattle.std.proofs.Common.{rules, ◌↔◌, IsTrue}
use Rattle.om_look.specs.Rows.{AreRowsOf}
use Rattle.om_restart.specs.Beyond.{HasStray}
use Rattle.om_restart.proofs.finding.find.Goals as goal

pub returns-clause-senders : goal.returns-clause-senders
returns-clause-senders g c = λ clean.
    let held = g.S.Stable.content c.args.store.now in
    let rows : AreRowsOf c.args.own c.args.n held c.in_ok-rows.rows.items = search rules in
    c.found_of.ensures.senders c.args.own c.args.n held c.requires rows

pub returns-clause-receipt : goal.returns-clause-receipt
returns-clause-receipt g c = λ clean.
    let held = g.S.Stable.content c.args.store.now in
    let rows : AreRowsOf c.args.own c.args.n held c.in_ok-rows.rows.items = search rules in
    let s = c.in_ok-has_strays.ensures.strays in
    let strays : IsTrue c.in_ok-has_strays.has_strays ↔ HasStray held c.in_ok-rows.rows.items = search rules in
    c.found_of.ensures.receipt c.args.own c.args.n held c.requires rows strays
