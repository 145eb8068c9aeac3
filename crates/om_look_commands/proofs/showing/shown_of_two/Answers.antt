use Rattle.sqlite.specs.Files.{file_state}
use Rattle.om_tables.specs.Store.{content_in}
use Rattle.om_look.specs.Show.{IsShown}
use Rattle.om_look_commands.proofs.LookLemmas.{text_in}
use Rattle.om_look_commands.proofs.showing.shown_of_two.Goals as goal

pub returns-clause-text : goal.returns-clause-text
returns-clause-text c = λ formed.
    text_in c.show_over-told.result.0 tt c.new-text.result.items c.show_over-told.new.writer.items (λ text. IsShown (content_in (file_state c.args.conn).now) text)
    c.in_ok-known.ensures.told c.new-text.ensures.items (c.show_over-told.ensures.text c.in_ok-known.ensures.sure formed)
