use Rattle.std.proofs.Common.{◌≡◌, ◌≢◌, Some, subst, string_bytes}
use Rattle.std.specs.Prelude.{All, IfSome, slice_get}
use Rattle.om_explore_command.proofs.TextLemmas.{place_none, place_some}
use Rattle.om_explore_command.proofs.texts.Texts.place.Goals as goal

pub returns-clause-some : goal.returns-clause-some
returns-clause-some c =
    subst (λ texts. IfSome c.get_index_of.result (λ place. slice_get texts place ≡ Some c.args.text.now)) c.self.view_is
    (place_some string_bytes c.args.text.now c.self.inside.texts.keys c.get_index_of.result c.get_index_of.ensures.index)

pub returns-clause-none : goal.returns-clause-none
returns-clause-none c none =
    subst (λ texts. All (λ other. other ≢ c.args.text.now) texts) c.self.view_is
    (place_none string_bytes c.args.text.now c.self.inside.texts.keys c.get_index_of.result c.get_index_of.ensures.found none)
