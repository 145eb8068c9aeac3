use Rattle.std.proofs.Common.{◌≡◌, ℕ, ◌<◌, length, map, arith, subst, sym}
use Rattle.std.proofs.lemmas.List.{length-map}
use Rattle.om_process.specs.Images.{program_of}
use Rattle.om_manager.specs.State.{process_count}
use Rattle.om_check.specs.Whole.{IsUnderWay}
use Rattle.om_check.proofs.playing.played.Goals as goal

pub all_done-requires-clause-managed : goal.all_done-requires-clause-managed
all_done-requires-clause-managed c =
    let begun = subst (IsUnderWay (map program_of c.args.images.now)) (sym c.in_ok-new.ensures) c.in_ok-world.ensures.way in
    let way = c.in_ok-play.ensures (map program_of c.args.images.now) begun in
    let e : process_count c.play.new.self.stage.world.manager ≡ length (map program_of c.args.images.now) = way.managed in
    let l = length-map c.args.images.now program_of in
    omega (arith, e, l)

pub returns : goal.returns
returns c = record {
  way = c.in_ok-play.ensures (map program_of c.args.images.now)
      (subst (IsUnderWay (map program_of c.args.images.now)) (sym c.in_ok-new.ensures) c.in_ok-world.ensures.way);
  done = λ p lt. c.in_ok-all_done.ensures p (subst (λ (n : ℕ). p < n) (length-map c.args.images.now program_of) lt);
}
