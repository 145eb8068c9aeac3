use Rattle.std.proofs.Common.{◌≡◌, ◌∙◌, length, ap, subst, sym}
use Rattle.std.specs.Prelude.{All, Vec}
use Rattle.std.specs.declared.alloc.Global.{Global}
use Rattle.std.proofs.lemmas.List.{length-map}
use Rattle.om_process.specs.Core.{IsEnd}
use Rattle.om_process.specs.declared.status.Status.{Status}
use Rattle.om_report.specs.Harvests.{AreOwn, HarvestState, harvested}
use Rattle.om_threads.specs.Reports.{AreWholeOver}
use Rattle.om_threads.proofs.ReportLemmas.{whole_report}
use Rattle.om_threads.proofs.cluster.close.Goals as goal

pub gathered_in-requires : goal.gathered_in-requires
gathered_in-requires g c = subst (λ (v : Vec HarvestState Global). AreOwn v.items) (sym c.settled-statuses.ensures.harvests) c.requires.parts.of_each

pub returns-clause-whole : goal.returns-clause-whole
returns-clause-whole g c =
    let is_clean = g.O.Store.Stable.is_clean in
    let images = c.args.cluster.now.config.now.images.items in
    let parts = c.args.parts in
    let brought = c.settled-statuses in
    let released = c.in-Ok.released.items in
    let outputs : released ≡ harvested parts.harvests.items =
    c.in-Ok.ensures.outputs ∙ ap (λ (v : Vec HarvestState Global). harvested v.items) brought.ensures.harvests in
    subst (λ (v : Vec Status Global). AreWholeOver is_clean images v.items released brought.result.2.items) (sym brought.ensures.statuses)
    (subst (λ (v : Vec _ Global). AreWholeOver is_clean images parts.statuses.items released v.items) (sym brought.ensures.stores)
    (subst (λ os. AreWholeOver is_clean images parts.statuses.items os parts.stores.items) (sym outputs) c.requires.parts.whole))

pub returns-clause-stores : goal.returns-clause-stores
returns-clause-stores g c = ap (λ (v : Vec _ Global). length v.items) c.settled-statuses.ensures.stores ∙ c.requires.parts.stores

pub returns-clause-report : goal.returns-clause-report
returns-clause-report g c =
    let is_clean = g.O.Store.Stable.is_clean in
    let k = g.K.Naming in
    let images = c.args.cluster.now.config.now.images.items in
    let parts = c.args.parts in
    let brought = c.settled-statuses in
    let released = c.in-Ok.released in
    let outputs : released.items ≡ harvested parts.harvests.items =
    c.in-Ok.ensures.outputs ∙ ap (λ (v : Vec HarvestState Global). harvested v.items) brought.ensures.harvests in
    let whole = subst (λ (v : Vec Status Global). AreWholeOver is_clean images v.items released.items parts.stores.items) (sym brought.ensures.statuses)
    (subst (λ os. AreWholeOver is_clean images parts.statuses.items os parts.stores.items) (sym outputs) c.requires.parts.whole) in
    whole_report is_clean k.OverClean k.programs k.cell.n images released brought.result.0 c.in-Ok.front parts.stores.items
    c.requires.named.run c.requires.named.many c.requires.named.clean c.in-Ok.ensures.released c.in-Ok.ensures.made c.in-Ok.ensures.last
    (ap length outputs ∙ length-map parts.harvests.items (λ (h : HarvestState). h.outputs) ∙ c.requires.parts.harvests)
    (ap (λ (v : Vec Status Global). length v.items) brought.ensures.statuses ∙ c.requires.parts.statuses)
    (subst (λ (v : Vec Status Global). All IsEnd v.items) (sym brought.ensures.statuses) c.requires.parts.ended)
    c.requires.parts.stores whole
