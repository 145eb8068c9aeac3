use Rattle.std.proofs.Common.{◌<◌, ◌+◌, [], ◌∷◌, ◌++◌, refl, sym, ap, ◌∙◌, subst, rules, length, length-append}
use Rattle.std.proofs.lemmas.List.{map-append, length-map}
use Rattle.om_board.specs.Inboxes.{Traffic, Takings}
use Rattle.om_links.specs.declared.network.Ends.{Ends}
use Rattle.om_links.specs.steps.Rows.{IsRow, all_taken, grown_at, lines_put, lines_taken, with_row}
use Rattle.om_links.proofs.WireLemmas.{no_row, no_row_yet, row_goes_on, row_more}
use Rattle.om_links.proofs.network.connect.Goals as goal

pub loop-to-init : goal.loop-to-init
loop-to-init c =
    let none = c.in_ok-inboxes.ensures.items in (
      ap length none,
      no_row_yet c.args.from c.in_ok-inboxes.inboxes.items none,
      ap lines_put c.in_ok-puts.ensures.items ∙ sym none,
      sym (ap (with_row (all_taken c.args.ends.now.items)) none ∙ no_row (all_taken c.args.ends.now.items)),
      refl,
      refl,
    )

pub loop-to-preserved : goal.loop-to-preserved
loop-to-preserved c =
    let was = c.loop-to.invariant in
    let made = c.in_ok-inbox.ensures in
    let row = c.in_ok-push.ensures.items in
    let inbox = c.in_ok-inbox.inbox in
    let rows = c.loop-to.inboxes.items in
    let before = all_taken c.args.ends.now.items in
    let add = c.in_ok-add_take.ensures in
    let within : length rows < length before = (let w = was.0 in let long = length-map c.args.ends.now.items (λ (x : Ends). lines_taken x.takes.items) in search rules) in (
      ap length row ∙ length-append rows (inbox ∷ []) ∙ ap (λ k. k + 1) was.0,
      subst (IsRow c.args.from) (sym row) (row_goes_on c.args.from rows inbox was.1 (made.from ∙ c.at.ensures) (made.to ∙ c.at-in-loop-to.ensures ∙ sym was.0)),
      ap lines_put c.in_ok-push-2.ensures.items ∙ map-append (λ (p : Traffic). p.line) c.loop-to.puts.items (c.in_ok-inbox.put ∷ []) ∙ ap (λ l. l ++ c.in_ok-inbox.put.line ∷ []) was.2
          ∙ ap (λ (p : Traffic). rows ++ p.line ∷ []) made.put ∙ sym row,
      add.taken ∙ ap (λ l. grown_at l c.loop-to.to c.in_ok-inbox.take.line) was.3 ∙ ap (λ k. grown_at (with_row before rows) k c.in_ok-inbox.take.line) (sym was.0)
          ∙ row_more before rows c.in_ok-inbox.take.line within ∙ ap (λ (t : Takings). with_row before (rows ++ t.line ∷ [])) made.taken ∙ ap (with_row before) (sym row),
      add.put ∙ was.4,
      add.many ∙ was.5,
    )
