use Rattle.std.proofs.Common.{◌≡◌, None, refl, true}
use Rattle.std.specs.Prelude.{IsTrue}
use Rattle.om_stable.specs.declared.mem_stable.MemStable.{MemStable}
use Rattle.om_run_request.proofs.AskedLemmas.{answered_along, refused_along}
use Rattle.om_run_request.proofs.stores.run_request.Goals as goal

pub returns-in-Some-clause-text : goal.returns-in-Some-clause-text
returns-in-Some-clause-text g c =
    let told = c.run_in_files in
    answered_along ⊥ (c.args.running.prefix ≡ None) (λ none. cc) (g.I.Read.remaining c.args.reader.now) told.result.0 c.args.running
    (g.W.Write.contents c.args.writer) (g.W.Write.contents told.result.1) told.ensures.text

pub returns-in-Some-clause-partly : goal.returns-in-Some-clause-partly
returns-in-Some-clause-partly g c follows =
    let told = c.run_in_files in
    refused_along ⊥ (c.args.running.prefix ≡ None) (λ none. cc) (g.I.Read.remaining c.args.reader.now) told.result.0 c.args.running
    (g.W.Write.contents c.args.writer) (g.W.Write.contents told.result.1) (told.ensures.partly follows)

pub returns-in-None-clause-text : goal.returns-in-None-clause-text
returns-in-None-clause-text g c =
    let told = c.run_watched in
    answered_along ((store : MemStable) → IsTrue true) (c.args.running.prefix ≡ None) (λ none store. refl) (g.I.Read.remaining c.args.reader.now)
    told.result.0 c.args.running (g.W.Write.contents c.args.writer) (g.W.Write.contents told.result.1) told.ensures.text

pub returns-in-None-clause-partly : goal.returns-in-None-clause-partly
returns-in-None-clause-partly g c follows =
    let told = c.run_watched in
    refused_along ((store : MemStable) → IsTrue true) (c.args.running.prefix ≡ None) (λ none store. refl) (g.I.Read.remaining c.args.reader.now)
    told.result.0 c.args.running (g.W.Write.contents c.args.writer) (g.W.Write.contents told.result.1) (told.ensures.partly follows)
