use Rattle.std.proofs.Common.{◌≡◌, ℕ, Option, None, Some, List, [], ◌∙◌, ap, refl}
use Rattle.std.specs.Prelude.{slice_get, unwrap_or}
use Rattle.std.specs.Option.{option_map}
use Rattle.std.proofs.lemmas.Option.{unwrap_or-slice_get}
use Rattle.om_commands.proofs.sim_text.name_of.Goals as goal

first_or_none : (o : Option (List ℕ × ℕ)) → None ≡ option_map (λ e. e.0) o → [] ≡ (unwrap_or o ([], 0)).0
first_or_none None none = refl
first_or_none (Some e) none = cc

pub returns-in-None : goal.returns-in-None
returns-in-None c =
    let es = c.args.programs.now.processes in
    first_or_none (slice_get es c.args.p) c.in-None.ensures ∙ ap (λ e. e.0) (unwrap_or-slice_get es c.args.p ([], 0))
