use Rattle.std.proofs.Common.{ap, sym, ◌∙◌, Some}
use Rattle.om_explore_command.proofs.DifferenceLemmas.{other_bytes, read_none, read_some, same_bytes, some_none}
use Rattle.om_explore_command.proofs.difference.is_same.Goals as goal

pub returns-in-Some-Some-clause-same : goal.returns-in-Some-Some-clause-same
returns-in-Some-Some-clause-same c is =
    read_some c.args.one.now c.args.number c.in-Some-Some.one.now c.in-Some-Some.ensures.lookup.3
    ∙ ap Some
    (sym c.as_slice.ensures
    ∙ same_bytes c.eq.result c.as_slice.result.now c.as_slice-in-Some-Some.result.now c.eq.ensures is
    ∙ c.as_slice-in-Some-Some.ensures)
    ∙ sym (read_some c.args.other.now c.args.number c.in-Some-Some.other.now c.in-Some-Some.ensures'.lookup.3)

pub returns-in-Some-Some-clause-other : goal.returns-in-Some-Some-clause-other
returns-in-Some-Some-clause-other c off same =
    other_bytes c.eq.result c.as_slice.result.now c.as_slice-in-Some-Some.result.now c.eq.ensures off
    (ap Some c.as_slice.ensures
    ∙ sym (read_some c.args.one.now c.args.number c.in-Some-Some.one.now c.in-Some-Some.ensures.lookup.3)
    ∙ same
    ∙ read_some c.args.other.now c.args.number c.in-Some-Some.other.now c.in-Some-Some.ensures'.lookup.3
    ∙ ap Some (sym c.as_slice-in-Some-Some.ensures))

pub returns-in-None-None-clause-same : goal.returns-in-None-None-clause-same
returns-in-None-None-clause-same c is =
    read_none c.args.one.now c.args.number c.in-None-None.ensures.lookup.3
    ∙ sym (read_none c.args.other.now c.args.number c.in-None-None.ensures'.lookup.3)

pub returns-in_default-clause-other : goal.returns-in_default-clause-other
returns-in_default-clause-other c off same =
    some_none c.in_default.field-0-0.now.bytes
    (sym (read_some c.args.one.now c.args.number c.in_default.field-0-0.now c.in_default.ensures.lookup.3)
    ∙ same
    ∙ read_none c.args.other.now c.args.number c.in_default.ensures'.lookup.3)

pub returns-in_default-2-clause-other : goal.returns-in_default-2-clause-other
returns-in_default-2-clause-other c off same =
    some_none c.in_default.field-0-1.now.bytes
    (sym (read_some c.args.other.now c.args.number c.in_default.field-0-1.now c.in_default.ensures'.lookup.3)
    ∙ sym same
    ∙ read_none c.args.one.now c.args.number c.in_default.ensures.lookup.3)
