use Rattle.std.proofs.Common.{◌≢◌, ◌++◌, ◌∷◌, [], ap, map, string_bytes, subst, sym, ◌∙◌}
use Rattle.std.specs.Prelude.{All}
use Rattle.om_explore_command.proofs.TextLemmas.{insert_text}
use Rattle.om_explore_command.proofs.texts.Texts.add.Goals as goal
use Rattle.om_explore_command.proofs.texts.Texts.add.Goals.{in-Ok, in-Err}

pub returns-clause-added : goal.returns-clause-added
returns-clause-added c =
    let key = c.in_ok-text.text in
    let bytes = c.in_ok-text.ensures.ok in
    let absent : All (λ other. other ≢ string_bytes key) (map string_bytes c.self.inside.texts.keys) =
    subst (λ texts. All (λ other. other ≢ string_bytes key) texts) (sym c.self.view_is)
    (subst (λ text. All (λ other. other ≢ text) c.args.self.now) (sym bytes) c.requires.new) in
    elim c.match-insert.branch [
      | in-Ok w ↦ rw w.result-is
          (ap (map string_bytes) w.in-Ok.ensures.keys
          ∙ insert_text string_bytes c.self.inside.texts.keys key absent
          ∙ (λ j. c.self.view_is j ++ bytes j ∷ []))
      | in-Err w ↦ rw w.result-is tt
    ]
