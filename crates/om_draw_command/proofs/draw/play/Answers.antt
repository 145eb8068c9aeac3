use Rattle.std.proofs.Common.{◌≡◌, ◌+◌, ◌≤◌, List, arith, length, take, subst, rules}
use Rattle.std.proofs.lemmas.List.{length-take, take_all, take_more}
use Rattle.om_world.specs.declared.event.Event.{Event}
use Rattle.om_picture.specs.Drawing.{sketch_of}
use Rattle.om_picture.specs.Fates.{step_row}
use Rattle.om_draw_command.specs.steps.Playing.{AreDrawn}
use Rattle.om_draw_command.proofs.DrawLemmas.{drawn_then, none_drawn}
use Rattle.om_draw_command.proofs.draw.play.Goals as goal

pub loop-k-init : goal.loop-k-init
loop-k-init c = record { drawn = λ n first begun. none_drawn c.args.lines.now n first c.args.world.now _ begun; known = c.requires.known }

pub loop-k-preserved : goal.loop-k-preserved
loop-k-preserved c =
    let count : length (take c.loop-k.k c.args.events.now) ≡ c.loop-k.k = simp length-take (omega arith) in
    record {
      drawn = λ n first begun.
          drawn_then c.args.lines.now (take c.loop-k.k c.args.events.now) (take (c.loop-k.k + 1) c.args.events.now) c.loop-k.k n first
          c.args.world.now
          c.loop-k.world c.play_line.new.world (sketch_of c.loop-k.picture) (sketch_of c.draw.new.self) _ c.line_of-line.result
          (step_row c.in_ok-step.step c.in_ok-draw.ensures.0) (take_more c.args.events.now c.loop-k.k _ c.loop-k-test.true) count
          (c.loop-k.invariant.drawn n first begun) c.line_of-line.ensures
          (record {
            line = c.in_ok-step.ensures.line;
            event = c.in_ok-step.ensures.event;
            played = c.in_ok-step.ensures.played;
            fresh = c.in_ok-step.ensures.fresh;
            recovery = c.in_ok-step.ensures.recovery;
          })
          c.in_ok-draw.ensures.1;
      known = c.in_ok-step.ensures.known;
    }

pub returns-clause-drawn : goal.returns-clause-drawn
returns-clause-drawn c =
    let past : length c.args.events.now ≤ c.loop-k.k = search rules in
    let all : take c.loop-k.k c.args.events.now ≡ c.args.events.now = take_all c.loop-k.k c.args.events.now past in
    λ n first begun.
    subst (λ (es : List Event). AreDrawn c.args.lines.now es n first c.args.world.now c.loop-k.world (sketch_of c.loop-k.picture)) all
    (c.loop-k.invariant.drawn n first begun)
