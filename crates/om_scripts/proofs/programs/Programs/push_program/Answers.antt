use Rattle.std.proofs.Common.{◌∙◌, sym, ap}
use Rattle.om_scripts.specs.Named.{place_of}
use Rattle.om_process.specs.Images.{program_of}
use Rattle.om_scripts.proofs.NamedLemmas.{place_values}
use Rattle.om_scripts.proofs.programs.Programs.push_program.Goals as goal

pub add-requires : goal.add-requires
add-requires c = record {
  new = sym (place_values program_of c.args.name.now c.self.inside.programs)
      ∙ ap (λ cluster. place_of c.args.name.now cluster.programs) c.self.view_is
      ∙ c.requires.new;
}
