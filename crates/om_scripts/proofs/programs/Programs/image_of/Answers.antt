use Rattle.std.proofs.Common.{◌≡◌, ◌∙◌, Some, ap, sym}
use Rattle.std.specs.Prelude.{slice_get}
use Rattle.std.specs.Option.{option_map}
use Rattle.std.proofs.lemmas.Option.{slice_get-map}
use Rattle.om_scripts.specs.Programs.{program_at, programs_of}
use Rattle.om_scripts.proofs.ImageLemmas.{found-copy}
use Rattle.om_scripts.proofs.programs.Programs.image_of.Goals as goal

pub returns-clause-program : goal.returns-clause-program
returns-clause-program c =
    let cluster = c.args.self.now in
    let found = (ap (λ w. slice_get w.processes c.args.process) (sym c.self.view_is)) ∙ c.in-Some.ensures in
    let there : slice_get (programs_of cluster) c.args.process ≡ Some (program_at cluster c.in-Some.place.now) =
    slice_get-map (λ e. program_at cluster e.1) cluster.processes c.args.process ∙ ap (option_map (λ e. program_at cluster e.1)) found in
    found-copy c.copy_at.result (program_at cluster c.in-Some.place.now) (slice_get (programs_of cluster) c.args.process) c.copy_at.ensures.program there
