use Rattle.std.proofs.Common.{◌≡◌, ◌<◌, arith, length}
use Rattle.om_recover.proofs.RunLemmas.{read_at, is_run_to}
use Rattle.om_recover.proofs.rows.logs.run_to.Goals as goal

pub returns-then-last-place : goal.returns-then-last-place
returns-then-last-place c =
    let run = c.in_ok-run.run'.now in
    let read = c.in_ok-run.ensures.lookup in
    let own = read_at c.args.runs.now _ c.index.result run c.index.ensures.place read.0 read.1 in
    let last = c.in_ok-last.ensures in
    let place = c.in_ok-place.ensures in
    let count : c.len.result ≡ length run.logs = omega (arith, c.len.ensures) in
    let within : c.in_ok-last.last < length run.logs = omega (arith, last.0, last.1, count) in
    is_run_to c.args.runs.now _ _ _ run _ own (record { place = c.in_ok-last.last; stands_at = omega arith; there = c.at.ensures })
    (omega (arith, place.0, place.1, c.if-last-place.true)) (λ inside. absurd (omega (arith, inside, place.0, place.1, last.0, last.1, count, c.if-last-place.true))) (λ _. omega (arith, last.0, last.1, count))

pub returns : goal.returns
returns c =
    let run = c.in_ok-run.run'.now in
    let read = c.in_ok-run.ensures.lookup in
    let own = read_at c.args.runs.now _ c.index.result run c.index.ensures.place read.0 read.1 in
    let last = c.in_ok-last.ensures in
    let place = c.in_ok-place.ensures in
    let count : c.len.result ≡ length run.logs = omega (arith, c.len.ensures) in
    let within : c.in_ok-place.field-0 < length run.logs = omega (arith, last.0, last.1, count, c.if-last-place.false) in
    is_run_to c.args.runs.now _ _ _ run _ own (record { place = c.in_ok-place.field-0; stands_at = omega (arith, place.0, place.1); there = c.at-2.ensures })
    (omega arith) (λ _. omega arith) (λ past. absurd (omega (arith, past, place.0, place.1, within)))

pub at-requires : goal.at-requires
at-requires c = omega (arith, c.in_ok-last.ensures.0, c.in_ok-last.ensures.1, c.len.ensures)

pub at-requires-2 : goal.at-requires-2
at-requires-2 c = omega (arith, c.in_ok-last.ensures.0, c.in_ok-last.ensures.1, c.len.ensures, c.if-last-place.false)
