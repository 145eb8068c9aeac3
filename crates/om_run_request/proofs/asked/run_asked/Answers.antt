use Rattle.std.proofs.Common.{sym}
use Rattle.om_run_request.proofs.asked.run_asked.Goals as goal

pub returns-clause-partly : goal.returns-clause-partly
returns-clause-partly g c = rw (sym c.mode_of-mode.ensures, sym c.form_of-form.ensures) c.run_file.ensures.partly
