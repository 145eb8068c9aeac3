use Rattle.std.proofs.Common.{◌≡◌, ◌<◌, ◌+◌, [], ◌∷◌, sym, ap, ◌∙◌, subst, rules, length, length-append, replicate, set}
use Rattle.om_links.specs.steps.Rows.{AreRows, HavePuts, IsRow, all_put, lines_put, with_row, with_rows}
use Rattle.om_links.proofs.WireLemmas.{puts_go_on, rows_go_on, rows_more, wired}
use Rattle.om_links.proofs.network.connected.Goals as goal

pub loop-from-preserved : goal.loop-from-preserved
loop-from-preserved c =
    let was = c.loop-from.invariant in
    let e = c.in_ok-row.ensures in
    let items = c.in_ok-push.ensures.items in
    let rows = c.loop-from.inboxes.items in
    let row = c.in_ok-row.row in
    let puts = lines_put c.in_ok-row.puts.items in
    let old = c.loop-from.ends.items in
    let within : length rows < length old = (let a = was.0 in let b = was.1 in search rules) in (
      ap length items ∙ length-append rows (row ∷ []) ∙ ap (λ k. k + 1) was.0,
      c.set_puts.ensures.many ∙ e.many ∙ was.1,
      subst (AreRows c.args.n) (sym items) (rows_go_on c.args.n rows row was.2 (e.long ∙ was.1) (subst (λ k. IsRow k row.items) (sym was.0) e.row)),
      subst (λ l. HavePuts l c.set_puts.new.ends.items) (sym items)
          (puts_go_on rows row puts old c.set_puts.new.ends.items was.3 e.puts within (c.set_puts.ensures.put ∙ ap (λ l. set l c.loop-from.from puts) e.put ∙ ap (λ k. set (all_put old) k puts) (sym was.0))),
      c.set_puts.ensures.taken ∙ e.taken ∙ ap (λ l. with_row l row.items) was.4 ∙ rows_more (replicate c.args.n []) rows row ∙ ap (with_rows (replicate c.args.n [])) (sym items),
    )

pub returns : goal.returns
returns c =
    let was = c.loop-from.invariant in
    let all : c.loop-from.from ≡ c.args.n = search rules in
    wired c.args.n c.loop-from.inboxes.items c.loop-from.ends.items (was.0 ∙ all) was.1 was.2 was.3 was.4
