use Rattle.sqlite.specs.Files.{file_state}
use Rattle.om_body_text.specs.Bodies.{AreBodies}
use Rattle.om_look.specs.Show.{IsShown}
use Rattle.om_look_commands.specs.Looks.{IsShownWithBodies}
use Rattle.om_look_commands.proofs.LookLemmas.{as_one_text, text_in}
use Rattle.om_tables.specs.Store.{content_in}
use Rattle.om_look_commands.proofs.bodies.shown_of_two.Goals as goal

pub returns-clause-text : goal.returns-clause-text
returns-clause-text c = λ formed.
    let held = content_in (file_state c.args.conn).now in
    text_in c.show_bodies_over-told.result.0 tt c.new-text.result.items c.show_bodies_over-told.new.writer.items (λ text. IsShownWithBodies c.args.form held text)
    c.in_ok-known.ensures.told c.new-text.ensures.items
    (as_one_text c.show_bodies_over-told.result.0 (λ records. IsShown held records) (λ bodies. AreBodies c.args.form held bodies)
    c.new-text.result.items c.show_bodies_over-told.new.writer.items (c.show_bodies_over-told.ensures.text c.in_ok-known.ensures.sure formed))
