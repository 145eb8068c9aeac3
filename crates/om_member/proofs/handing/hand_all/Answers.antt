use Rattle.std.proofs.Common.{map, subst, take}
use Rattle.om_member.specs.Handed.{AreHanded, IsHanded}
use Rattle.om_member.proofs.OutputLemmas.{handed_next, made_at, made_next}
use Rattle.om_member.proofs.handing.hand_all.Goals as goal

pub hand_one-requires : goal.hand_one-requires
hand_one-requires g c =
    let made = g.M.HandedOutput.made in
    let i = c.loop-i.i in let m = c.index-outputs-i.result in
    c.requires i (made m) (made_at made c.args.outputs.now i m c.loop-i-test.true c.index-outputs-i.is)

pub loop-i-preserved : goal.loop-i-preserved
loop-i-preserved g c =
    let state = g.O.ManagerAccess.state in let made = g.M.HandedOutput.made in
    let ms = c.args.outputs.now in let i = c.loop-i.i in let m = c.index-outputs-i.result in
    subst (λ l. AreHanded (state c.args.access.now) c.args.round c.args.pid l (state c.hand_one.new.access)) (made_next made ms i m c.loop-i-test.true c.index-outputs-i.is)
    (handed_next (state c.args.access.now) (state c.loop-i.access) (state c.hand_one.new.access) c.args.round c.args.pid (take i (map made ms)) (made m) c.in_ok-hand_one.field-0 c.loop-i.invariant
    (subst (λ a. IsHanded (state c.loop-i.access) c.args.round c.args.pid (made m) a (state c.hand_one.new.access)) c.in_ok-hand_one.was c.hand_one.ensures))
