use Rattle.std.proofs.Common.{◌≡◌, ◌∙◌, sym}
use Rattle.sqlite.specs.Held.{state}
use Rattle.om_tables.specs.Tables.{no_schema}
use Rattle.om_tables.proofs.HoldsLemmas.{content_is, formed}
use Rattle.om_tables.proofs.SureLemmas.{clean_of, open_of, was_sure, nothing_there}
use Rattle.om_tables.proofs.sql_stable.SqlStable.create.Goals as goal

pub returns-in-Ok-clause-sound : goal.returns-in-Ok-clause-sound
returns-in-Ok-clause-sound g c h =
    let old = state g.S.Store c.args.conn in
    let new = state g.S.Store c.create_tables.new.conn in
    let none : old.now.schema ≡ no_schema = sym c.schema-schema.ensures.value ∙ nothing_there c.schema-schema.result.now _ _ _ c.is_empty.ensures c.if-not-is_empty.false c.is_empty-else-not-is_empty.ensures c.if-not-is_empty-2.false c.is_empty-else-not-is_empty-2.ensures c.if-not-is_empty-3.false in
    formed new _ (c.in-Ok.ensures.made (clean_of new h) none) (sym (c.in-Ok.ensures.settled (clean_of new h)))

pub returns-in-Ok-clause-empty : goal.returns-in-Ok-clause-empty
returns-in-Ok-clause-empty g c h =
    let old = state g.S.Store c.args.conn in
    let new = state g.S.Store c.create_tables.new.conn in
    let none : old.now.schema ≡ no_schema = sym c.schema-schema.ensures.value ∙ nothing_there c.schema-schema.result.now _ _ _ c.is_empty.ensures c.if-not-is_empty.false c.is_empty-else-not-is_empty.ensures c.if-not-is_empty-2.false c.is_empty-else-not-is_empty-2.ensures c.if-not-is_empty-3.false in
    content_is new.now _ (c.in-Ok.ensures.made (clean_of new h) none)

pub returns-in-Ok-clause-clean : goal.returns-in-Ok-clause-clean
returns-in-Ok-clause-clean g c h = was_sure (state g.S.Store c.args.conn) (state g.S.Store c.create_tables.new.conn) c.in-Ok.ensures.follows h

pub returns-in-Err-clause-undone : goal.returns-in-Err-clause-undone
returns-in-Err-clause-undone g c _ h =
    let new = state g.S.Store c.create_tables.new.conn in
    c.in-Err.ensures.refused (clean_of new h) (open_of new h)
