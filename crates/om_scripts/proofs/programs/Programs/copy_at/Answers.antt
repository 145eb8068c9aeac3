use Rattle.om_process.specs.Images.{program_of}
use Rattle.om_scripts.proofs.ImageLemmas.{right-copy, right-found}
use Rattle.om_scripts.proofs.programs.Programs.copy_at.Goals as goal

pub returns-clause-size : goal.returns-clause-size
returns-clause-size c =
    let right = right-found c.self.inside.programs c.args.place c.in-Some.field-0-0.now c.in-Some.image.now c.self.invariant.programs c.in-Some.ensures in
    right-copy c.copy.result (program_of c.in-Some.image.now) c.copy.ensures right
