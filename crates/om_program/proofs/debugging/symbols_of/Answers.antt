use Rattle.std.proofs.Common.{[], ◌∷◌, refl}
use Rattle.std.proofs.lemmas.Slice.{pushed}
use Rattle.om_debug_command.specs.declared.symbols.Symbols.{Symbols}
use Rattle.om_program.proofs.GivenLemmas.{given_all, given_more}
use Rattle.om_program.proofs.debugging.symbols_of.Goals as goal

pub loop-one-preserved : goal.loop-one-preserved
loop-one-preserved c =
    let s : Symbols = record { program = c.in_ok-from_str.field-0; file = c.in_ok-from_str-2.field-0 } in
    given_more c.loop-one.symbols.items c.push.new.self.items c.args.given.now c.loop-one.one-index _ s c.loop-one.invariant c.loop-one-test.true
    (pushed (s ∷ []) refl c.in_ok-push.was c.push.ensures.items) c.in_ok-from_str.ensures.ok c.in_ok-from_str-2.ensures.ok

pub returns : goal.returns
returns c = given_all c.loop-one.symbols.items c.args.given.now c.loop-one.one-index c.loop-one-test.false c.loop-one.invariant
