use Rattle.std.proofs.Common.{[], ◌∷◌, ◌++◌, ap, ◌∙◌}
use Rattle.std.proofs.lemmas.List.{map-append}
use Rattle.om_board.specs.Inboxes.{Takings}
use Rattle.om_links.specs.declared.network.Ends.{Ends}
use Rattle.om_links.specs.steps.Rows.{lines_put, lines_taken}
use Rattle.om_links.proofs.WireLemmas.{put_same, taken_grown}
use Rattle.om_links.proofs.network.add_take.Goals as goal

pub returns-in_err-push-clause-put : goal.returns-in_err-push-clause-put
returns-in_err-push-clause-put c = put_same c.args.ends.now.items c.args.to c.index_mut.result.now _ (ap (λ (e : Ends). lines_put e.puts.items) c.index_mut.ensures.value)

pub returns-clause-put : goal.returns-clause-put
returns-clause-put c = put_same c.args.ends.now.items c.args.to c.index_mut.result.now _ (ap (λ (e : Ends). lines_put e.puts.items) c.index_mut.ensures.value)

pub returns-clause-taken : goal.returns-clause-taken
returns-clause-taken c =
    taken_grown c.args.ends.now.items c.args.to c.index_mut.result.now _ c.args.take.line c.requires
    (ap lines_taken c.in_ok-push.ensures.items ∙ map-append (λ (t : Takings). t.line) c.index_mut.result.now.takes.items (c.args.take ∷ []) ∙ ap (λ (e : Ends). lines_taken e.takes.items ++ c.args.take.line ∷ []) c.index_mut.ensures.value)
