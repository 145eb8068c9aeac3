use Rattle.std.proofs.Common.{◌∙◌, ap}
use Rattle.om_scripts.specs.Named.{place_of}
use Rattle.std.specs.String.{string_bytes}
use Rattle.om_scripts.proofs.NamedLemmas.{place_key}
use Rattle.om_scripts.proofs.named.Named.place.Goals as goal

-- src/named.rt:42:5
pub returns : goal.returns
returns g c =
    c.get_index_of.ensures.index
    ∙ place_key string_bytes c.args.name.now _
    ∙ ap (place_of c.args.name.now) c.self.view_is
