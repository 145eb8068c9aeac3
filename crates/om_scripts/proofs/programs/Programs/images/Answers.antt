use Rattle.std.proofs.Common.{◌∙◌, ◌<◌, length, sym, ap, subst, map}
use Rattle.std.specs.Prelude.{All}
use Rattle.std.proofs.lemmas.List.{length-map}
use Rattle.om_process.specs.Images.{program_of}
use Rattle.om_scripts.specs.Programs.{IsProgram, program_at, programs_of}
use Rattle.om_scripts.proofs.ImageLemmas.{more-images, more-right}
use Rattle.om_scripts.proofs.programs.Programs.images.Goals as goal

pub loop-process-preserved : goal.loop-process-preserved
loop-process-preserved c =
    let cluster = c.args.self.now in
    let inside : c.loop-process.process < length (programs_of cluster) =
    subst (λ n. c.loop-process.process < n)
    (c.len-process-end.ensures ∙ ap (λ w. length w.processes) c.self.view_is ∙ sym (length-map cluster.processes (λ e. program_at cluster e.1)))
    c.loop-process-test.true in
    let image = c.in_ok-image_of.field-0 in
    record {
      programs = ap (map program_of) c.in_ok-push.ensures.items
          ∙ more-images (programs_of cluster) c.loop-process.images.items c.loop-process.process image inside
          c.loop-process.invariant.programs c.in_ok-image_of.ensures.program;
      sizes = subst (λ es. All IsProgram (map program_of es)) (sym c.in_ok-push.ensures.items)
          (more-right c.loop-process.images.items image c.loop-process.invariant.sizes c.in_ok-image_of.ensures.size);
    }
