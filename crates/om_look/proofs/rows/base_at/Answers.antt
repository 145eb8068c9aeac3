use Rattle.std.proofs.Common.{refl, rules, IsTrue}
use Rattle.om_format.specs.CheckpointViews.{checkpoint_record}
use Rattle.om_look.specs.Rows.{IsBase}
use Rattle.om_look.proofs.RowsLemmas.{base_damaged, same_base}
use Rattle.om_look.proofs.rows.base_at.Goals as goal

pub returns-in-Err-clause-refused : goal.returns-in-Err-clause-refused
returns-in-Err-clause-refused c = base_damaged c.args.own c.args.n c.args.x c.args.bytes.now c.damage.result c.in-Err.error c.damage.ensures c.in-Err.ensures.only

pub returns-then-not-is_of-clause-refused : goal.returns-then-not-is_of-clause-refused
returns-then-not-is_of-clause-refused c = (
  refl,
  λ d spelled base.
      let found : IsBase c.args.own c.args.n c.args.x (checkpoint_record c.in-Ok.checkpoint) = same_base c.args.own c.args.n c.args.x (checkpoint_record c.in-Ok.checkpoint) d (c.in-Ok.ensures.only spelled.0 d spelled.1) base in
      let yes : IsTrue c.is_of.result = c.is_of.ensures.1 (found.pid, found.size, found.interval) in
      search rules,
)
