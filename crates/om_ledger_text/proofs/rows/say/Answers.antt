use Rattle.std.proofs.Common.{ℕ, List, sym, subst}
use Rattle.std.proofs.lemmas.Result.{on_ok_weaker}
use Rattle.om_ledger_text.specs.Lines.{SaysIn}
use Rattle.om_ledger_text.proofs.rows.say.Goals as goal

pub returns-in-About : goal.returns-in-About
returns-in-About c =
    let row : ℕ × List ℕ = (c.args.number, c.args.bytes.now) in
    on_ok_weaker c.say_about.result (λ told. (told.0, subst (λ t. SaysIn t row told.0) (sym c.in-About.is) told.1, told.2)) c.say_about.ensures
