use Rattle.std.proofs.Common.{◌≡◌, ◌≤◌, ℕ, List, [], ◌+◌, ◌∷◌, ◌++◌, ◌∙◌, ap, drop, length, length-append, refl, sym, arith}
use Rattle.std.proofs.lemmas.List.{drop-append-le, length-drop}
use Rattle.om_stable.specs.steps.Pieces.{pieces, total}
use Rattle.om_stable.proofs.PieceLemmas.{pieces_more, total-append}
use Rattle.om_stable.proofs.record_list.RecordList.push.Goals as goal

pub invariant_of-self-in_default : goal.invariant_of-self-in_default
invariant_of-self-in_default c =
    let lens : List ℕ = c.self.inside.lens.items in
    let behind : drop c.self.inside.gone c.push.new.self.items ≡ drop c.self.inside.gone lens ++ length c.args.bytes.now ∷ [] =
    ap (drop c.self.inside.gone) c.in_default.ensures.items ∙ drop-append-le c.self.inside.gone lens (length c.args.bytes.now ∷ []) c.self.invariant.0 in
    let all = ap total behind ∙ total-append (drop c.self.inside.gone lens) (length c.args.bytes.now ∷ []) in
    let long = ap length c.in_ok-extend_from_slice.ensures.items ∙ length-append c.self.inside.bytes.items c.args.bytes.now in
    let count = ap length c.in_default.ensures.items ∙ length-append lens (length c.args.bytes.now ∷ []) in
    (omega (arith, count, c.self.invariant.0), omega (arith, all, long, c.self.invariant.1))

pub returns-clause-ok : goal.returns-clause-ok
returns-clause-ok c =
    let lens : List ℕ = c.self.inside.lens.items in
    let bytes : List ℕ = c.self.inside.bytes.items in
    let behind : drop c.self.inside.gone c.push.new.self.items ≡ drop c.self.inside.gone lens ++ length c.args.bytes.now ∷ [] =
    ap (drop c.self.inside.gone) c.in_default.ensures.items ∙ drop-append-le c.self.inside.gone lens (length c.args.bytes.now ∷ []) c.self.invariant.0 in
    let room : c.self.inside.past ≤ length bytes = omega (arith, c.self.invariant.1) in
    let put : drop c.self.inside.past c.extend_from_slice.new.self.items ≡ drop c.self.inside.past bytes ++ c.args.bytes.now =
    ap (drop c.self.inside.past) c.in_ok-extend_from_slice.ensures.items ∙ drop-append-le c.self.inside.past bytes c.args.bytes.now room in
    let all : total (drop c.self.inside.gone lens) ≡ length (drop c.self.inside.past bytes) = omega (arith, c.self.invariant.1, length-drop c.self.inside.past bytes) in
    ap (λ ls. pieces ls (drop c.self.inside.past c.extend_from_slice.new.self.items)) behind
    ∙ ap (pieces (drop c.self.inside.gone lens ++ length c.args.bytes.now ∷ [])) put
    ∙ pieces_more (drop c.self.inside.gone lens) (drop c.self.inside.past bytes) c.args.bytes.now (length c.args.bytes.now) all refl
    ∙ ap (λ rs. rs ++ c.args.bytes.now ∷ []) c.self.view_is
