use Rattle.std.proofs.Common.{◌≡◌, List, ℕ, [], drop, refl, sym, subst, append-nil}
use Rattle.std.proofs.lemmas.List.{drop_all}
use Rattle.om_commands.specs.Decode.{IsListing}
use Rattle.om_commands.proofs.DecodeLemmas.{lines_more}
use Rattle.om_commands.proofs.decode.listing.Goals as goal

pub loop-word-preserved : goal.loop-word-preserved
loop-word-preserved c =
    let pushed = c.in_ok-push_line.ensures in
    lines_more c.args.ext c.args.words.now c.loop-word.word-index c.loop-word.text.items pushed.0 c.push_line.new.text.items
    c.loop-word-test.true pushed.1 pushed.2 c.loop-word.invariant

pub returns : goal.returns
returns c =
    let none : drop c.loop-word.word-index c.args.words.now ≡ [] = drop_all c.loop-word.word-index c.args.words.now c.loop-word-test.false in
    subst (IsListing c.args.ext c.args.words.now) (append-nil c.loop-word.text.items)
    (c.loop-word.invariant [] (subst (λ (words : List ℕ). IsListing c.args.ext words []) (sym none) refl))
