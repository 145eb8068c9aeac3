use Rattle.std.proofs.Common.{◌≡◌, Err, rules}
use Rattle.om_commands.specs.declared.error.CommandError.TheVariants.{NoMemory}
use Rattle.om_commands.specs.steps.Errors.{error_of_replay}
use Rattle.om_stored_debug.proofs.Showing.{no_memory, refused_store}
use Rattle.om_stored_debug.proofs.command.open_store.Goals as goal

pub returns-clause-shown : goal.returns-clause-shown
returns-clause-shown g c = λ known. record {
  stored = c.in_ok-stored.stored;
  stands = c.in_ok-stored.ensures.stands known;
  timeline = c.in_ok-shown.ensures.timeline;
  breaks = c.in_ok-shown.ensures.breaks;
  watches = c.in_ok-shown.ensures.watches;
  name = c.in_ok-shown.ensures.name;
}

pub returns-in_err-stored-clause-error : goal.returns-in_err-stored-clause-error
returns-in_err-stored-clause-error g c = λ known.
    let same : c.from_residual.result ≡ Err (error_of_replay c.in_err-stored.field-0.0) = search rules in
    rw same (refused_store (g.S.Stable.content c.args.store.now) c.args.interval c.in_err-stored.field-0.0 (c.in_err-stored.ensures.refused known))

pub returns-in_err-shown-clause-error : goal.returns-in_err-shown-clause-error
returns-in_err-shown-clause-error g c = λ known.
    let same : c.from_residual-in_err-shown.result ≡ Err NoMemory = search rules in
    rw same (no_memory (g.S.Stable.content c.args.store.now) c.args.interval)
