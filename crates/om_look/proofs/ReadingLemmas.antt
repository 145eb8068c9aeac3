-- Calls that only read, one after another.
use Rattle.std.proofs.Common.{ℕ, ◌≤◌, refl, ◌∙◌, arith}
use Rattle.std.specs.Prelude.{Bool}
use Rattle.om_stable.specs.Content.{Content}
use Rattle.om_look.specs.steps.Reading.{IsReading}

pub read_nothing : {S : Type 0} (content : S → Content) (failed : S → ℕ) (is_clean : S → Bool) (IsSound : S → Type 0) (s : S) → IsReading content failed is_clean IsSound s ⊥ s
read_nothing content failed is_clean IsSound s = record {
  same = λ known. refl;
  fault = λ none. absurd none;
  count = omega arith;
  clean = λ clean. clean;
  sound = λ clean sound. sound;
}

pub read_more : {S : Type 0} (content : S → Content) (failed : S → ℕ) (is_clean : S → Bool) (IsSound : S → Type 0) (old mid new : S) (HasFailed : Type 0)
    → IsReading content failed is_clean IsSound old ⊥ mid → IsReading content failed is_clean IsSound mid HasFailed new → IsReading content failed is_clean IsSound old ⊥ new
read_more content failed is_clean IsSound old mid new HasFailed first second =
    let low : failed old ≤ failed mid = first.count in
    let high : failed mid ≤ failed new = second.count in
    record {
      same = λ known. second.same (known.0, first.sound (second.clean known.0) known.1) ∙ first.same (second.clean known.0, known.1);
      fault = λ none. absurd none;
      count = omega arith;
      clean = λ clean. first.clean (second.clean clean);
      sound = λ clean sound. second.sound clean (first.sound (second.clean clean) sound);
    }
