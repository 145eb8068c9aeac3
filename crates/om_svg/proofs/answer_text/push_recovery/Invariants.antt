use Rattle.std.proofs.Common.{◌≡◌, ◌∷◌, ◌++◌, take, string_bytes, decimal}
use Rattle.std.specs.List.{flat_map}
use Rattle.om_svg.proofs.answer_text.push_recovery.Given as goal

abbrev pub invariant-loop-place : goal.invariant-loop-place
invariant-loop-place l = string_bytes l.text ≡ string_bytes l.initial.text ++ flat_map (λ place. 32 ∷ decimal place) (take l.place-index l.state)
