use Rattle.std.proofs.Common.{rules, ◌≡◌, ◌++◌, inl, inr, refl, OnOk, string_bytes}
use Rattle.std.specs.Prelude.{codes}
use Rattle.std.proofs.lemmas.Result.{on_ok_weaker}
use Rattle.om_ledger_text.specs.Lines.{about_text}
use Rattle.om_ledger_text.specs.steps.Abouts.{program_in}
use Rattle.om_ledger_text.proofs.rows.say_about.Goals as goal

pub returns-in-Some : goal.returns-in-Some
returns-in-Some c =
    let a = c.in-Some.about in
    let program = program_in a.ext a.size a.image.now in
    on_ok_weaker c.push_about.result (λ same. (about_text a.own a.n program, inl (a.own, a.n, program, c.in-Some.ensures.said, refl), same)) c.push_about.ensures

pub returns-in-None : goal.returns-in-None
returns-in-None c =
    let same : OnOk c.push_str.result (string_bytes c.push_str.new.self ≡ string_bytes c.args.text.now ++ codes " damaged") = search rules in
    on_ok_weaker c.push_str.result (λ same. (codes " damaged", inr (c.in-None.ensures.none, refl), same)) same
