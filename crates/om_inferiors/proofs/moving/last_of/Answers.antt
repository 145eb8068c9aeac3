use Rattle.std.proofs.Common.{◌≡◌, ◌<◌, ◌∙◌, length, subst, arith}
use Rattle.om_inferiors.specs.steps.Lasting.{IsLastUpTo}
use Rattle.om_inferiors.proofs.Each.{are_back_then, length_back}
use Rattle.om_inferiors.proofs.Lasting.{before_next, before_over, elsewhere_by, last_next, last_over, untouched_more, untouched_over, within_next}
use Rattle.om_inferiors.proofs.moving.last_of.Goals as goal
use Rattle.om_inferiors.proofs.moving.last_of.Goals.{then-place-first+in_ok-last, else-place-first}

pub later_of-requires-clause-apart : goal.later_of-requires-clause-apart
later_of-requires-clause-apart g c = elsewhere_by c.args.first.place c.loop-place.place c.loop-place.last.place c.if-place-first.true c.loop-place.invariant.before

pub loop-place-preserved : goal.loop-place-preserved
loop-place-preserved g c =
    let so = c.loop-place.invariant in
    let first = c.args.first.place in
    let its = c.args.first.stop in
    let upto = c.loop-place.place in
    let last = c.loop-place.last in
    elim c.if-place-first.branch [
      | then-place-first+in_ok-last w ↦
          let s = w.in_ok-last.last in
          let one = w.in_ok-last.ensures.later in
          let news = w.later_of.new.all in
          let less : upto < length c.loop-place.all = omega (arith, c.loop-place-test.true, length_back c.args.all.now c.loop-place.all so.back) in
          rw (w.all-is, w.last-is, w.reader-is) (record {
            back = are_back_then c.args.all.now c.loop-place.all news so.back w.later_of.ensures.back;
            last = last_next c.args.all.now c.loop-place.all news first upto last.place its last.stop s.place s.stop so.last so.so w.if-place-first.true so.before w.later_of.ensures.back one w.later_of.ensures.others;
            so = untouched_more c.args.all.now c.loop-place.all news upto so.so w.later_of.ensures.others;
            before = before_next c.loop-place.all news first upto last.place last.stop s.place s.stop so.before one;
            within = within_next c.loop-place.all news last.place upto last.stop s.place s.stop w.later_of.ensures.back so.within less one;
            unread = w.later_of.ensures.unread ∙ so.unread;
          })
      | else-place-first w ↦ rw (w.all-is, w.last-is, w.reader-is) (record {
        back = so.back;
        last = last_over c.args.all.now c.loop-place.all first upto last.place its last.stop so.last w.if-place-first.false;
        so = untouched_over c.args.all.now c.loop-place.all upto so.so;
        before = before_over first upto last.place so.before;
        within = so.within;
        unread = so.unread;
      })
    ]

pub returns-clause-last : goal.returns-clause-last
returns-clause-last g c =
    let whole : c.loop-place.place ≡ length c.args.all.now = omega (arith, c.loop-place-test.false, c.loop-place.auto.place-end) in
    subst (λ n. IsLastUpTo c.args.all.now c.loop-place.all c.args.first.place c.args.first.stop n c.loop-place.last.place c.loop-place.last.stop) whole c.loop-place.invariant.last
