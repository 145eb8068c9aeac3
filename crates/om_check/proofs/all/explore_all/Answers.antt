use Rattle.std.proofs.Common.{inr, [], length, map, refl, subst, sym, ap, ◌∙◌}
use Rattle.std.proofs.lemmas.List.{length-map}
use Rattle.om_process.specs.Images.{program_of}
use Rattle.om_check.specs.steps.Walks.{IsOpen, IsWalked}
use Rattle.om_check.proofs.Orders.{opens}
use Rattle.om_check.proofs.Walking.{all_ahead, all_end, all_turn}
use Rattle.om_check.proofs.all.explore_all.Goals as goal

pub loop-init : goal.loop-init
loop-init g c = record {
  seen = (
    [],
    c.requires.new,
    λ run over. inr (inr (subst (IsOpen (map program_of c.args.images.now) run) (sym c.new-choices.ensures.items) (opens (map program_of c.args.images.now) run))),
  );
  programs = refl;
}

pub returns-then-not-turn_back-clause-all : goal.returns-then-not-turn_back-clause-all
returns-then-not-turn_back-clause-all g c =
    let walked = subst (λ cs. IsWalked (map program_of c.args.images.now) cs c.in_ok-walked.walked.items c.in_ok-walked.trail.stage.world)
    c.deref.ensures.value c.in_ok-walked.ensures.walked in
    all_end (map program_of c.args.images.now) (g.V.Visitor.has_seen c.loop.visitor) (g.V.Visitor.has_seen c.show.new.visitor) c.loop.choices.items
    c.in_ok-walked.walked.items c.in_ok-walked.trail.stage.world (length c.args.images.now)
    (sym (ap length walked.way.these ∙ length-map c.args.images.now program_of)) walked c.in_ok-show.ensures.shown
    (c.if-not-turn_back.ensures.none refl (map program_of c.args.images.now)) c.loop.invariant.seen

pub loop-preserved : goal.loop-preserved
loop-preserved g c =
    let walked = subst (λ cs. IsWalked (map program_of c.args.images.now) cs c.in_ok-walked.walked.items c.in_ok-walked.trail.stage.world)
    c.deref.ensures.value c.in_ok-walked.ensures.walked in
    record {
      seen = all_turn (map program_of c.args.images.now) (g.V.Visitor.has_seen c.loop.visitor) (g.V.Visitor.has_seen c.show.new.visitor) c.loop.choices.items
          c.in_ok-walked.walked.items c.turn_back.new.choices.items c.in_ok-walked.trail.stage.world (length c.args.images.now)
          (sym (ap length walked.way.these ∙ length-map c.args.images.now program_of)) walked c.in_ok-show.ensures.shown
          (c.if-not-turn_back.ensures.turned refl (map program_of c.args.images.now)) c.loop.invariant.seen;
      programs = c.show.ensures.same ∙ c.loop.invariant.programs;
    }

pub returns-clause-all : goal.returns-clause-all
returns-clause-all g c = all_ahead (map program_of c.args.images.now) (g.V.Visitor.has_seen c.loop.visitor) c.loop.choices.items c.loop.invariant.seen
