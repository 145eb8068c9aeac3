use Rattle.om_pages.specs.Marks.{Marks}
use Rattle.om_pages.proofs.marks.mark.Given as goal

abbrev pub invariant-loop-page : goal.invariant-loop-page
invariant-loop-page l = Marks l.fn.marks.items l.marks.items l.first l.page
