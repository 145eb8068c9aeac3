-- What a search adds to its attempts, and their code.
use Rattle.std.specs.Prelude.{ℕ, List, [], ◌∷◌}
use Rattle.std.proofs.Common.{refl}
use Rattle.std.specs.Coded.{Coded, code_by, coded×, coded_ℕ, coded_list}
use Rattle.om_recover.specs.declared.step.SearchStep.{SearchStep}
use Rattle.om_recover.specs.declared.step.SearchStep.TheVariants as step
use Rattle.om_recover.specs.Attempts.{Attempt}

-- the code of an attempt
abbrev pub coded_attempt : Coded Attempt
coded_attempt =
    code_by (ℕ × (ℕ × (List ℕ × List (ℕ × ℕ))))
    (coded× coded_ℕ (coded× coded_ℕ (coded× (coded_list coded_ℕ) (coded_list (coded× coded_ℕ coded_ℕ)))))
    (λ a. (a.pid, (a.interval, (a.state, a.looks))))
    (λ parts. record { pid = parts.0; interval = parts.1.0; state = parts.1.1.0; looks = parts.1.1.1 })
    (λ a. refl)

-- with one attempt more, which has no looks
abbrev pub with_attempt : List Attempt → ℕ → ℕ → List ℕ → List Attempt
with_attempt attempts p x s = record { pid = p; interval = x; state = s; looks = [] } ∷ attempts

-- with one look more in the newest attempt
abbrev pub with_look : List Attempt → ℕ → ℕ → List Attempt
with_look [] p x = []
with_look (newest ∷ older) p x = record newest { looks = (p, x) ∷ newest.looks } ∷ older

abbrev pub after_step : List Attempt → SearchStep → List Attempt
after_step attempts (step.Attempt p x s) = with_attempt attempts p x s
after_step attempts (step.Look p x) = with_look attempts p x
