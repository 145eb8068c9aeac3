use Rattle.std.proofs.Common.{rules, ◌≡◌, length, sym, ◌∙◌, subst, arith, inl, inr}
use Rattle.std.specs.Prelude.{◌==◌}
use Rattle.om_restart.specs.Senders.{GoOnAlong}
use Rattle.om_restart.specs.steps.Receiving.{AreReceivedBy, GoOnBehind}
use Rattle.om_restart.proofs.AlongLemmas.{go_on_along, left_some, received_some, some_left}
use Rattle.om_restart.proofs.finding.found_of.Goals as goal
use Rattle.om_restart.proofs.finding.found_of.Goals.{then-has_strays, else-has_strays}

pub returns-clause-senders : goal.returns-clause-senders
returns-clause-senders c = λ own n held few are.
    let rows = c.args.rows.items in let received = c.in_ok-received.received.items in
    let first = c.args.tables.senders.items in let senders = c.add_following.new.senders.items in
    let told : AreReceivedBy (length rows) rows received = search rules in
    let behind : GoOnBehind received first senders = search rules in
    let kept : c.len-kept.result ≡ length first = search rules in
    subst (λ k. GoOnAlong own n held rows k senders) (sym kept) (go_on_along own n held rows received first senders (omega (arith, few)) are told behind)

pub returns-clause-receipt : goal.returns-clause-receipt
returns-clause-receipt c = λ own n held few are strays.
    let rows = c.args.rows.items in let received = c.in_ok-received.received.items in
    let told : AreReceivedBy (length rows) rows received = search rules in
    let some = received_some own n held rows received (omega (arith, few)) are told in
    elim c.if-has_strays.branch [
      | then-has_strays w ↦ (λ _. inr (strays.0 w.if-has_strays.true), λ _. w.found-is ∙ w.if-has_strays.true)
      | else-has_strays w ↦
          let empty = w.is_empty.result in let is : empty ≡ (length received == 0) = search rules in (
            λ yes. inl (some.0 (some_left (length received) empty is (sym w.found-is ∙ yes))),
            λ has. elim has [ inl any ↦ w.found-is ∙ left_some (length received) empty is (some.1 any) | inr stray ↦ let yes = strays.1 stray in absurd cc ],
          )
    ]
