use Rattle.std.proofs.Common.{◌≡◌, Err, rules}
use Rattle.om_program.proofs.ShownLemmas.{quiet_shown, shown_file}
use Rattle.om_program.proofs.debugging.debug_bytes.Goals as goal

pub returns-in_err-bytes : goal.returns-in_err-bytes
returns-in_err-bytes g c =
    let same : c.from_residual.result ≡ Err c.in_err-bytes.field-0.0 = search rules in
    rw same (quiet_shown c.args.interval c.in_err-bytes.field-0.0 c.in_err-bytes.ensures)

pub returns : goal.returns
returns g c = shown_file c.debug_in-outcome.result c.in_ok-bytes.bytes.file.items c.in_ok-bytes.bytes.log.items c.args.interval c.debug_in-outcome.ensures.error
