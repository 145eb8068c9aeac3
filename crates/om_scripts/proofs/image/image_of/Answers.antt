use Rattle.std.proofs.Common.{◌≤◌, ◌∙◌, length, sym, ap, subst}
use Rattle.om_scripts.proofs.ImageLemmas.{length-words}
use Rattle.om_scripts.proofs.image.image_of.Goals as goal

pub returns-clause-right : goal.returns-clause-right
returns-clause-right c = record {
  size = c.requires.size;
  fits = subst (λ n. n ≤ c.args.size) (sym (ap length c.in_ok-bytes.ensures.bytes ∙ length-words c.args.words.now)) c.requires.fits;
}
