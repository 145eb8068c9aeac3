use Rattle.std.proofs.Common.{[], ◌∷◌, ◌++◌, string_bytes}
use Rattle.std.specs.Prelude.{codes, decimal}
use Rattle.om_explore_command.specs.ExplorationText.{place_text}
use Rattle.om_explore_command.proofs.PlaceLemmas.{grows_by_three, pushed}
use Rattle.om_explore_command.proofs.text.push_difference.Goals as goal

pub returns : goal.returns
unfolding lib.Utf8.encode
returns c =
    grows_by_three c.push.result (string_bytes c.args.text.now) (string_bytes c.write.new.self) (string_bytes c.push_place.new.text)
    (string_bytes c.push.new.self) (codes "texts 1 and " ++ decimal c.args.number ++ codes " differ at ")
    (place_text c.args.form c.args.programs.now c.args.one.now.outcome.report c.args.other.now.outcome.report c.args.place) (10 ∷ [])
    c.in_ok-write.ensures.bytes c.in_ok-push_place.ensures
    (pushed c.push.result (string_bytes c.push_place.new.text) (string_bytes c.push.new.self) (10 ∷ []) c.push.ensures.bytes)
