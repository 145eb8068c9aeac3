-- What is written of a refusal and of a recovery state.
use Rattle.std.specs.Prelude.{ℕ, List, [], ◌∷◌, ◌++◌, codes, decimal}
use Rattle.std.specs.List.{flat_map}
use Rattle.om_world.specs.Texts.{accept_word, refusal_word}
use Rattle.om_world.specs.declared.event.Answer.{Answer}
use Rattle.om_world.specs.declared.event.Answer.TheVariants.{Given, Refused}

-- the word for why a frame was refused; of any other answer, nothing
abbrev pub why_word : Answer → List ℕ
why_word (Given accept) = accept_word accept
why_word (Refused why) = refusal_word why
why_word _ = []

-- a recovery state
abbrev pub recovery_text : List ℕ → List ℕ
recovery_text state = codes "recovery" ++ flat_map (λ place. 32 ∷ decimal place) state
