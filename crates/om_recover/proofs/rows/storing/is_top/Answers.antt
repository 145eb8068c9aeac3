use Rattle.std.proofs.Common.{arith}
use Rattle.om_recover.proofs.BaseStepLemmas.{is_top_of, above_free}
use Rattle.om_recover.proofs.rows.storing.is_top.Goals as goal

pub returns-in-None-clause-yes : goal.returns-in-None-clause-yes
returns-in-None-clause-yes c = λ _. is_top_of c.args.bases.now c.args.pid c.index.result c.args.x c.index.ensures.place (omega (arith, c.if-len-index.false, c.len.ensures)) c.in-None.ensures

pub returns-in-Some-clause-none : goal.returns-in-Some-clause-none
returns-in-Some-clause-none c = λ _ y base own free. above_free c.args.bases.now c.args.pid c.args.x y _ base _ c.requires c.in-Some.ensures own free
