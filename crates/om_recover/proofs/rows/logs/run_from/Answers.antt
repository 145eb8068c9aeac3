use Rattle.std.proofs.Common.{arith, inl, inr}
use Rattle.std.proofs.lemmas.Bool.{cases_lt}
use Rattle.om_recover.proofs.RunLemmas.{read_at, is_run_from, no_run_from}
use Rattle.om_recover.proofs.rows.logs.run_from.Goals as goal

pub returns-in-None : goal.returns-in-None
returns-in-None c =
    let run = c.in_ok-run.run'.now in
    let read = c.in_ok-run.ensures.lookup in
    let own = read_at c.args.runs.now _ c.index.result run c.index.ensures.place read.0 read.1 in
    no_run_from c.args.runs.now _ c.args.from run own (omega (arith, c.in-None.ensures, c.saturating_sub-place.ensures))

pub returns-in-Some : goal.returns-in-Some
returns-in-Some c =
    let run = c.in_ok-run.run'.now in
    let read = c.in_ok-run.ensures.lookup in
    let own = read_at c.args.runs.now _ c.index.result run c.index.ensures.place read.0 read.1 in
    let place = c.saturating_sub-place.ensures in
    let most = c.max.ensures in
    is_run_from c.args.runs.now _ _ _ run _ own (record { place = c.saturating_sub-place.result; stands_at = omega (arith, most, place); there = c.in-Some.ensures }) (omega (arith, most))
    (elim (cases_lt c.args.from run.first) [ inl low ↦ inr (omega (arith, low, most)) | inr high ↦ inl (omega (arith, high, most)) ])
