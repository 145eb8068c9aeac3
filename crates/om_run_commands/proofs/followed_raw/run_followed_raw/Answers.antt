use Rattle.std.proofs.Common.{ap, sym, ◌∙◌, Some}
use Rattle.std.specs.Prelude.{IsTrue}
use Rattle.std.specs.Io.KnownBytes.{Keeps}
use Rattle.om_scripts.specs.Named.{place_of}
use Rattle.om_scripts.specs.Programs.{Cluster}
use Rattle.om_run_commands.proofs.RawLemmas.{named_answer, named_part, raw_errors}
use Rattle.om_run_commands.proofs.followed_raw.run_followed_raw.Goals as goal

pub returns-in-Some-clause-text : goal.returns-in-Some-clause-text
returns-in-Some-clause-text g c =
    let told = c.run_followed_bytes in
    named_answer c.args.name.now c.at.result ((store : g.row.O-Store.Denot) → IsTrue (g.O.Store.Stable.is_clean store)) c.args.script.now told.result.0
    (λ statuses. statuses.items) (g.W.Write.contents c.args.writer) (g.W.Write.contents told.result.1)
    (ap {A = Cluster} (λ k. place_of c.args.name.now k.processes) (sym c.programs.ensures) ∙ sym c.in-Some.ensures.place ∙ ap Some (sym c.at.ensures))
    told.ensures.text

pub returns-in-Some-clause-error : goal.returns-in-Some-clause-error
returns-in-Some-clause-error g c = raw_errors c.args.name.now c.args.script.now c.run_followed_bytes.result.0 c.run_followed_bytes.ensures.error

pub returns-in-Some-clause-partly : goal.returns-in-Some-clause-partly
returns-in-Some-clause-partly g c =
    let told = c.run_followed_bytes in
    named_part c.args.name.now c.at.result ((store : g.row.O-Store.Denot) → IsTrue (g.O.Store.Stable.is_clean store)) c.args.script.now told.result.0
    (g.W.Write.contents c.args.writer) (g.W.Write.contents told.result.1) (Keeps (g.W.Write.contents c.args.writer) (g.W.Write.contents told.result.1))
    (ap {A = Cluster} (λ k. place_of c.args.name.now k.processes) (sym c.programs.ensures) ∙ sym c.in-Some.ensures.place ∙ ap Some (sym c.at.ensures))
    told.ensures.partly
