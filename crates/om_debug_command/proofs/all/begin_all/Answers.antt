use Rattle.std.proofs.Common.{◌≡◌, Err, length, ap, inr, sym, subst, ◌∙◌, rules}
use Rattle.om_scripts.specs.Programs.{Cluster}
use Rattle.om_debug_command.specs.Debug.{AreBegun}
use Rattle.om_debug_command.specs.Symbols.{AreRun, IsUnknown}
use Rattle.om_debug_command.proofs.all.begin_all.Goals as goal

pub returns-clause-opened : goal.returns-clause-opened
returns-clause-opened c =
    let e = c.new.ensures in
    record {
      count = ap length e.members ∙ c.in_ok-members_of.ensures.count ∙ c.n-count.ensures.number ∙ ap (λ (k : Cluster). length k.processes) c.programs.ensures;
      members = subst (AreBegun c.args.script.now c.args.symbols.now) (sym e.members) c.in_ok-members_of.ensures.members;
      known = subst (λ (k : Cluster). AreRun k c.args.symbols.now) c.programs-2.ensures c.in_ok-check_known.ensures.known;
      selected = e.selected;
      focus = e.focus;
      going = e.going;
    }

pub returns-in_err-check_known-clause-error : goal.returns-in_err-check_known-clause-error
returns-in_err-check_known-clause-error c =
    let same : c.from_residual.result ≡ Err c.in_err-check_known.field-0.0 = search rules in
    let told = c.in_err-check_known.ensures.refused in
    rw same (inr (inr (told.0, subst (λ (k : Cluster). IsUnknown k c.args.symbols.now) c.programs-2.ensures told.1)))
