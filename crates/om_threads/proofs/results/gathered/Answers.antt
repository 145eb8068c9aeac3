use Rattle.std.proofs.Common.{◌≡◌, ◌∙◌, rules, length, sym, subst, get_or}
use Rattle.std.proofs.lemmas.Option.{slice_get-get_or}
use Rattle.om_threads.proofs.FaultLemmas.{given_by}
use Rattle.om_threads.proofs.ReportLemmas.{all_ended, all_leaves, all_own, all_whole, as_many}
use Rattle.om_threads.specs.steps.Settling.{ArePasses}
use Rattle.om_threads.proofs.results.gathered.Goals as goal

pub returns-in-Ok-clause-parts : goal.returns-in-Ok-clause-parts
returns-in-Ok-clause-parts g c =
    let is_clean = g.O.Store.Stable.is_clean in
    let n = g.K.Naming.cell.n in
    let images = c.args.cluster.now.config.now.images.items in
    let lines = c.args.cluster.now.inboxes.now in
    let results = c.args.results.items in
    let all = c.in_ok-all.all.items in
    let same = c.in_ok-all.ensures.all in
    let parts = c.in-Ok.parts in
    let are = c.in-Ok.ensures in
    let many = c.requires.images in
    let long : length results ≡ n = (let l = c.requires.long in search rules) in
    record {
      passes = subst (λ k. ArePasses k lines parts.puts.items parts.takes.items) (sym c.requires.network.senders)
          (all_leaves is_clean images lines n results all _ _ c.requires.network many same long c.requires.each are.puts are.takes);
      statuses = as_many (λ f. f.status) parts.statuses.items n results all same long are.statuses ∙ sym many;
      stores = as_many (λ f. f.store) parts.stores.items n results all same long are.stores ∙ sym many;
      harvests = as_many (λ f. f.harvest) parts.harvests.items n results all same long are.harvests ∙ sym many;
      ended = λ k d lt. all_ended is_clean images lines n results all parts.statuses.items many same long c.requires.each are.statuses k
          (get_or parts.statuses.items k d) (slice_get-get_or parts.statuses.items k d lt);
      of_each = all_own is_clean images lines n results all parts.harvests.items many same long c.requires.each are.harvests;
      whole = all_whole is_clean images lines n results all parts.statuses.items parts.harvests.items parts.stores.items many same long c.requires.each
          are.statuses are.harvests are.stores;
    }

pub returns-in-Ok-clause-given : goal.returns-in-Ok-clause-given
returns-in-Ok-clause-given g c =
    let long : length c.args.results.items ≡ g.K.Naming.cell.n = (let l = c.requires.long in search rules) in
    given_by c.args.cluster.now.config.now g.K.Naming.cell.n c.args.results.items c.in_ok-all.all.items c.requires.some long c.in_ok-all.ensures.all c.requires.own
