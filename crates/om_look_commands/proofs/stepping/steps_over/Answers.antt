use Rattle.std.proofs.Common.{ℕ, List, IsTrue, OnOk, subst}
use Rattle.std.specs.Io.KnownBytes.{Appends}
use Rattle.sqlite.specs.Held.{state}
use Rattle.om_tables.specs.Store.{IsFormed, content_in, is_sure}
use Rattle.om_commands.specs.ReplaySteps.{IsStepsText}
use Rattle.om_look_commands.proofs.stepping.steps_over.Goals as goal

pub returns-in-Ok-clause-text : goal.returns-in-Ok-clause-text
returns-in-Ok-clause-text g c = λ sure formed.
    let clean : IsTrue (is_sure (state g.S.Store c.replay_steps-told.new.store.connection)) =
    subst (λ k. IsTrue (is_sure (state g.S.Store k))) c.into_connection.ensures sure in
    subst (λ k. IsFormed (state g.S.Store k) → OnOk c.replay_steps-told.result ((x : List ℕ)
    × IsStepsText (content_in (state g.S.Store k).now) c.args.interval c.args.steps c.args.traced x
    × Appends (g.W.Write.contents c.args.writer.now) (g.W.Write.contents c.replay_steps-told.new.writer) x))
    c.in-Ok.ensures.same (λ sound. c.replay_steps-told.ensures.text (clean, sound)) formed
