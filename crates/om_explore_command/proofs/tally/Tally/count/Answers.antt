use Rattle.std.proofs.Common.{◌≡◌, ◌+◌, Some, slice_index_or, slice_set, sum_by, sym, ◌∙◌, ap, refl, arith}
use Rattle.std.proofs.Math.Seq.{map-set_same}
use Rattle.std.proofs.lemmas.List.Sums.{sum_by-set}
use Rattle.std.proofs.lemmas.Option.{slice_get-get_or}
use Rattle.om_explore_command.specs.Tallies.{text_of}
use Rattle.om_explore_command.specs.declared.tally.Found.{Found}
use Rattle.om_explore_command.proofs.tally.Tally.count.Goals as goal

pub invariant_of-self-clause-indexed : goal.invariant_of-self-clause-indexed
invariant_of-self-clause-indexed c =
    let found = c.index_mut.result.now in
    let more : Found = record found { runs = found.runs + 1 } in
    c.args.self.now.indexed
    ∙ sym (map-set_same text_of c.args.self.now.found.items c.args.place more found (ap text_of c.index_mut.ensures.value))

pub invariant_of-self-clause-summed : goal.invariant_of-self-clause-summed
invariant_of-self-clause-summed c =
    let found = c.index_mut.result.now in
    let more : Found = record found { runs = found.runs + 1 } in
    let sum : sum_by (λ f. f.runs) (slice_set c.args.self.now.found.items c.args.place more) + (slice_index_or c.args.self.now.found.items c.args.place found).runs
    ≡ sum_by (λ f. f.runs) c.args.self.now.found.items + more.runs
    = sum_by-set (λ f. f.runs) c.args.self.now.found.items c.args.place more found c.requires in
    let same : found.runs ≡ (slice_index_or c.args.self.now.found.items c.args.place found).runs = ap {A = Found} (λ f. f.runs) c.index_mut.ensures.value in
    let before : sum_by (λ f. f.runs) c.args.self.now.found.items ≡ c.args.self.now.runs = c.args.self.now.summed in
    let after : c.in-Some.runs ≡ c.args.self.now.runs + 1 = c.in-Some.ensures.1 in
    omega (arith, sum, same, before, after)

pub returns : goal.returns
returns c =
    let found = c.index_mut.result.now in
    (found, slice_get-get_or c.args.self.now.found.items c.args.place found c.requires ∙ ap Some (sym c.index_mut.ensures.value), refl)
