use Rattle.std.proofs.Common.{subst}
use Rattle.om_links.specs.declared.network.Ends.{Ends}
use Rattle.om_links.specs.Links.{EndsState, LinksState}
use Rattle.om_links.specs.Wiring.{HasEnds}
use Rattle.om_links.proofs.links.Links.into_ends.Goals as goal

pub returns : goal.returns
returns c =
    let is = c.self.invariant in
    let ends : Ends = record { puts = c.self.inside.puts; takes = c.self.inside.takes } in
    subst (λ (l : LinksState). HasEnds l.ends.n l.ends.lines l.ends.own ends) c.self.view_is
    (record { put = is.receivers; take = is.senders; putting = is.putting; taking = is.taking })
