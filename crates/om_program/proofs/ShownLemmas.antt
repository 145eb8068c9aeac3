-- Errors of showing the process whose store a file holds.
use Rattle.std.proofs.Common.{ℕ, List, Option, Result, Ok, Err, IfErr, inl, inr, sym, subst}
use Rattle.om_commands.specs.declared.error.CommandError.{CommandError}
use Rattle.om_commands.specs.declared.error.CommandError.TheVariants as errors
use Rattle.om_files.specs.Looked.{IsErrorOfFile}
use Rattle.om_files.specs.Quiet.{IsQuiet}
use Rattle.om_look_commands.specs.Looks.{IsErrorIn}
use Rattle.om_stored_debug.specs.Shown.{IsErrorOfShownStore as IsErrorOfShownStore}
use Rattle.om_program.specs.Answers.{IsErrorOfDebugging, IsErrorOfShownFile}

shown_of : (IsErrorOf : CommandError → Type 0) (error : CommandError) → IsErrorOf error → IsErrorOfDebugging IsErrorOf error
shown_of IsErrorOf errors.NoThread why = tt
shown_of IsErrorOf error why = why

-- a file that is not read
pub quiet_shown : (interval : Option ℕ) (error : CommandError) → IsQuiet error → IsErrorOfShownFile interval error
quiet_shown interval error (inl is) = subst (IsErrorOfShownFile interval) (sym is) (inl tt)
quiet_shown interval error (inr is) = subst (IsErrorOfShownFile interval) (sym is) (inl tt)

-- a store that some bytes of a file hold is one that a file holds
pub shown_file : {A : Type 0} (r : Result A CommandError) (file log : List ℕ) (interval : Option ℕ) → IfErr r (IsErrorIn file log (λ held. IsErrorOfShownStore held interval)) → IfErr r (IsErrorOfShownFile interval)
shown_file (Ok x) file log interval why = tt
shown_file (Err e) file log interval why = shown_of (IsErrorOfFile (λ held. IsErrorOfShownStore held interval)) e (elim why [
  | inl known ↦ inl known
  | inr so ↦ inr (file, log, so)
])
