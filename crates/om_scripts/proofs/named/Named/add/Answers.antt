use Rattle.std.proofs.Common.{◌∙◌, ◌++◌, ◌∷◌, [], ap, map}
use Rattle.std.specs.String.{string_bytes}
use Rattle.om_scripts.specs.Named.{place_of}
use Rattle.om_scripts.proofs.NamedLemmas.{insert_named}
use Rattle.om_scripts.proofs.named.Named.add.Goals as goal

pub returns-in-Ok : goal.returns-in-Ok
returns-in-Ok g c =
    let bytes = c.in_ok-name.ensures.ok in
    let none = (λ j. place_of (bytes j) (c.self.view_is j)) ∙ c.requires.new in
    record {
      added = ap (map (λ e. (string_bytes e.0, e.1))) c.in-Ok.ensures.entries
          ∙ insert_named string_bytes c.self.inside.entries c.in_ok-name.name c.args.value none
          ∙ (λ j. c.self.view_is j ++ (bytes j, c.args.value) ∷ []);
      refused = tt;
    }
