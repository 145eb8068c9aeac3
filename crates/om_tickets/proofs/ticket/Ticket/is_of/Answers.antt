use Rattle.std.proofs.Common.{◌≡◌, ◌∙◌, ap, subst, sym, arith}
use Rattle.std.proofs.lemmas.Bool.Decides.{nat_tests}
use mathlib.Core.List.{IsPrefix}
use Rattle.om_tickets.proofs.Prefixes.{prefix_same}
use Rattle.om_tickets.proofs.ticket.Ticket.is_of.Goals as goal

pub returns : goal.returns
returns g c = λ same.
    let both = c.learn.new.self.log in
    let this : IsPrefix c.self.inside.seen.log both = subst (λ l. IsPrefix l both) (ap (λ s. s.log) c.again-both.ensures) c.learn.ensures.2 in
    let number : c.self.inside.number ≡ c.other.inside.number = grind (arith, nat_tests) in
    rw (← c.self.view_is, ← c.other.view_is) (prefix_same c.self.inside.seen.log c.other.inside.seen.log both this c.learn.ensures.3 (sym c.self.invariant.0 ∙ number ∙ c.other.invariant.0))
