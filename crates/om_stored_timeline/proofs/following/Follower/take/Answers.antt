use Rattle.std.proofs.Common.{◌≡◌, inr, rules}
use Rattle.om_format.specs.Receipts.{SpellsReceipt, receipt_record}
use Rattle.om_stored_timeline.specs.Following.{FitsAlone}
use Rattle.om_stored_timeline.proofs.following.Follower.take.Goals as goal

pub returns-then-not-comes_to-clause-unfit : goal.returns-then-not-comes_to-clause-unfit
returns-then-not-comes_to-clause-unfit c = λ no.
    let spells : SpellsReceipt (receipt_record c.in-Some.receipt) c.args.bytes.now = search rules in
    let named : c.in-Some.receipt.interval ≡ c.args.y = search rules in
    let none : FitsAlone c.args.self.now.alone.own c.args.self.now.alone.n c.args.self.now.alone.machine (receipt_record c.in-Some.receipt) → ⊥ = c.if-not-comes_to.ensures.fits in
    inr (receipt_record c.in-Some.receipt, spells, named, none)
