use Rattle.std.proofs.Common.{◌≡◌, [], ◌∷◌, ◌++◌, refl, sym, subst}
use Rattle.std.proofs.lemmas.Slice.{pushed}
use Rattle.om_debug_command.specs.Debug.{AreBegun}
use Rattle.om_debug_command.proofs.Opening.{length_more, members_more}
use Rattle.om_debug_command.proofs.all.members_of.Goals as goal

pub loop-place-preserved : goal.loop-place-preserved
loop-place-preserved c =
    let items = c.loop-place.members.items in
    let m = c.in_ok-member_at.field-0 in
    let is : c.push.new.self.items ≡ items ++ m ∷ [] = pushed (m ∷ []) refl c.in_ok-push.was c.push.ensures.items in
    record {
      count = length_more items c.push.new.self.items m c.loop-place.place is c.loop-place.invariant.count;
      members = subst (AreBegun c.args.script.now c.args.symbols.now) (sym is) (members_more c.args.script.now c.args.symbols.now items m c.loop-place.place c.loop-place.invariant.count c.loop-place.invariant.members c.in_ok-member_at.ensures);
    }
