use Rattle.std.proofs.Common.{◌≡◌, List, ℕ, IfOk, take, subst}
use Rattle.std.specs.Prelude.{IfSome}
use Rattle.std.specs.Option.{option_map}
use Rattle.om_image.specs.Image.{most_read}
use Rattle.om_image.proofs.Whole.{read_part}
use Rattle.om_image.proofs.command.read_image.Goals as goal

pub returns : goal.returns
returns g c =
    let P : List ℕ → Type 0 = λ bytes. IfOk c.read_text.result (λ image. image.items ≡ bytes) in
    let part = subst (λ n. IfSome (option_map (take n) (g.I.Read.remaining c.take-first.result.inner.now)) P) c.take-first.ensures.limit c.read_text.ensures.whole in
    read_part (g.I.Read.remaining c.args.reader.now) P (subst (λ r. IfSome (option_map (take most_read) (g.I.Read.remaining r.now)) P) c.take-first.ensures.inner part)
