use Rattle.std.proofs.Common.{◌-◌, arith, vec_len}
use Rattle.om_recover.proofs.FlatLemmas.{moved_front}
use Rattle.om_recover.proofs.rows.run_logs.settle.Goals as goal

pub returns-clause-left : goal.returns-clause-left
returns-clause-left c =
    let numbers = c.args.numbers.now in
    moved_front numbers.items c.copy_within.new.self.items c.truncate.new.self.items c.args.gone (vec_len numbers) (c.len.result - c.args.gone) (omega (arith, c.requires, numbers.ok.0)) numbers.ok.0 (omega (arith, c.len.ensures)) c.copy_within.ensures.items
    c.truncate.ensures.items
