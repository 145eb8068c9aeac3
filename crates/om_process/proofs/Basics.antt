-- Options and results.
use Rattle.std.proofs.Common.{◌≡◌, Some, None, Result, Ok, Err}
use Rattle.std.specs.Prelude.{OnErr}

pub some_once : {A : Type 0} (m n : A) → Some m ≡ Some n → m ≡ n
some_once m n e = cc

pub some_none : {A : Type 0} (m : A) → Some m ≡ None → ⊥
some_none m e = cc

pub on_any_err : {A E T : Type 0} (r : Result A E) → T → OnErr r T
on_any_err (Ok x) t = tt
on_any_err (Err e) t = t
