use Rattle.std.proofs.Common.{◌≡◌, ◌∙◌, ◌<◌, Some, List, ap, sym, subst, arith, drop, length, slice_get}
use Rattle.om_recover.specs.declared.rows.trees.Vectors.{Vectors}
use Rattle.om_recover.proofs.FlatLemmas.{length-vectors, fits, lies_at, part_long}
use Rattle.om_recover.proofs.rows.run_logs.RunLogs.at.Goals as goal

pub overflow_add-size : goal.overflow_add-size
overflow_add-size c = omega (arith, c.self.invariant.within)

pub overflow_mul-from : goal.overflow_mul-from
overflow_mul-from c =
    let inside = c.self.inside in
    let within : c.args.place < inside.count = omega (arith, c.requires, length-vectors inside.n inside.count (drop inside.gone inside.numbers.items), ap length c.self.view_is) in
    omega (arith, fits inside.n inside.count inside.gone c.args.place inside.numbers.items c.self.invariant within, inside.numbers.ok.0, inside.numbers.ok.1, inside.numbers.small)

pub overflow_add-from : goal.overflow_add-from
overflow_add-from c =
    let inside = c.self.inside in
    let within : c.args.place < inside.count = omega (arith, c.requires, length-vectors inside.n inside.count (drop inside.gone inside.numbers.items), ap length c.self.view_is) in
    omega (arith, fits inside.n inside.count inside.gone c.args.place inside.numbers.items c.self.invariant within, inside.numbers.ok.0, inside.numbers.ok.1, inside.numbers.small)

pub part-requires : goal.part-requires
part-requires c =
    let inside = c.self.inside in
    let within : c.args.place < inside.count = omega (arith, c.requires, length-vectors inside.n inside.count (drop inside.gone inside.numbers.items), ap length c.self.view_is) in
    omega (arith, fits inside.n inside.count inside.gone c.args.place inside.numbers.items c.self.invariant within, ap length c.deref.ensures.value, inside.numbers.ok.0, inside.numbers.ok.1, inside.numbers.small)

pub of_halves-requires-clause-some : goal.of_halves-requires-clause-some
of_halves-requires-clause-some c = c.self.invariant.some

pub of_halves-requires-clause-within : goal.of_halves-requires-clause-within
of_halves-requires-clause-within c = c.self.invariant.within

pub of_halves-requires-clause-whole : goal.of_halves-requires-clause-whole
of_halves-requires-clause-whole c =
    let inside = c.self.inside in
    let within : c.args.place < inside.count = omega (arith, c.requires, length-vectors inside.n inside.count (drop inside.gone inside.numbers.items), ap length c.self.view_is) in
    part_long inside.n inside.count inside.gone c.args.place inside.numbers.items c.part.result.now c.self.invariant within (rw c.deref.ensures.value at c.part.ensures)

pub returns : goal.returns
returns c =
    let inside = c.self.inside in
    let within : c.args.place < inside.count = omega (arith, c.requires, length-vectors inside.n inside.count (drop inside.gone inside.numbers.items), ap length c.self.view_is) in
    subst (λ (logs : List Vectors). slice_get logs c.args.place ≡ Some c.of_halves.result) c.self.view_is
    (lies_at inside.n inside.count inside.gone c.args.place inside.numbers.items c.part.result.now within (rw c.deref.ensures.value at c.part.ensures) ∙ ap Some (sym c.of_halves.ensures))
