use Rattle.std.proofs.Common.{◌≡◌, ◌<◌, Bool, List, length, subst, arith}
use Rattle.om_pages.specs.Marks.{Marks}
use Rattle.om_pages.proofs.Marking.{marks_none, marks_more}
use Rattle.om_pages.proofs.marks.mark.Goals as goal

pub loop-page-init : goal.loop-page-init
loop-page-init c = marks_none c.args.marks.now.items c.args.first

pub loop-page-preserved : goal.loop-page-preserved
loop-page-preserved c =
    let old : List Bool = c.args.marks.now.items in
    let marks : List Bool = c.loop-page.marks.items in
    let page = c.loop-page.page in
    let is : Marks old marks c.args.first page = c.loop-page.invariant in
    let inside : page < length marks = omega (arith, is.pages, c.requires.inside) in
    marks_more old marks c.args.first page is (omega arith) inside

pub returns : goal.returns
returns c =
    let ended : c.loop-page.page ≡ c.args.last = omega (arith, c.loop-page.auto.page-end, c.requires.ordered) in
    subst (Marks c.args.marks.now.items c.loop-page.marks.items c.args.first) ended c.loop-page.invariant
