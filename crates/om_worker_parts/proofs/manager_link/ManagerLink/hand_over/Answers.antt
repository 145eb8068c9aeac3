use Rattle.std.proofs.Common.{ℕ, ap, arith, subst, sym}
use Rattle.om_board.specs.Made.{IsMade}
use Rattle.om_member.specs.Told.{IsToldAtOnce}
use Rattle.om_worker_parts.specs.Acts.{HasHandedOver}
use Rattle.om_node.specs.Nodes.{Member, TakesFrom}
use Rattle.om_worker_parts.proofs.ActLemmas.{handed_over, takes_named}
use Rattle.om_worker_parts.proofs.manager_link.ManagerLink.hand_over.Goals as goal

pub hand_in-requires-clause-known : goal.hand_in-requires-clause-known
hand_in-requires-clause-known g c =
    let own = ap (λ (m : Member). m.own) c.note-end.ensures.member in let same = c.requires.own_is in let within = c.args.self.now.place in
    let size = c.note-end.ensures.keeps.below.same_places in let places = c.manager.ensures.sound.places in omega arith

pub hand_in-requires-clause-taken : goal.hand_in-requires-clause-taken
hand_in-requires-clause-taken g c =
    let k = g.K.Naming in
    subst (TakesFrom (λ p seq output. k.OverClean → IsMade k.programs k.cell.n p seq output) g.S.Stable.is_clean) (sym c.note-end.ensures.member)
    (takes_named k.programs k.cell.n k.OverClean g.S.Stable.is_clean c.args.node.now.member c.requires.program c.requires.size c.requires.clean)

pub returns-clause-over : goal.returns-clause-over
returns-clause-over g c =
    let d = c.args.node.now in let end = c.note-end.new.self.core in let count = c.note-end.result.0 in
    let before = c.args.locked.now.board.now.manager in let mid = c.note-end.new.access.board.now.manager in let after = c.hand_in.new.access.board.now.manager in
    subst (λ (p : ℕ). HasHandedOver before p d.core after end) c.requires.own_is
    (handed_over before mid after d.member.own c.note-end.new.self.member.own count d.core end (ap (λ (m : Member). m.own) c.note-end.ensures.member)
    (subst (λ e. IsToldAtOnce before d.core.round d.member.own d.core.pending count e mid) c.in_ok-end.was c.note-end.ensures.told)
    c.note-end.ensures.keeps c.note-end.ensures.core c.in_ok-hand_in.ensures.handed c.in_ok-hand_in.ensures.keeps)
