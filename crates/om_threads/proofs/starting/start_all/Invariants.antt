use Rattle.std.specs.Prelude.{◌≡◌, ℕ, ◌+◌, ◌<◌, ◌≤◌, get_or, vec_items, vec_len, vec_capacity}
use Rattle.std.specs.Vec.Iter.{into_iter_items, into_iter_len}
use Rattle.om_process.specs.declared.image.Image.{Image}
use Rattle.om_threads.specs.steps.Ends.{IsPromised}
use Rattle.om_links.specs.Wiring.{HasEnds}
use Rattle.om_threads.proofs.starting.start_all.Given as goal

abbrev pub invariant-loop-one : goal.invariant-loop-one
invariant-loop-one g l =
    let n = g.K.Naming.cell.n in
    let images = l.cluster.config.now.images.items in
    let done = vec_len l.handles in
    let rest = into_iter_items l.one-iterator in
    (done + into_iter_len l.one-iterator ≡ n)
    × (n ≤ vec_capacity l.handles)
    × (vec_len l.passes ≡ into_iter_len l.one-iterator)
    × ((k : ℕ) (e : _) → k < into_iter_len l.one-iterator → HasEnds n l.cluster.inboxes.now (done + k) (get_or rest k e))
    × ((k : ℕ) (a : Image) (h : _) → k < done
    → IsPromised l.cluster.config.now (get_or images k a) l.cluster.inboxes.now k n (get_or (vec_items l.handles) k h).promise)

-- the book that was just opened
abbrev pub ghosts-start_apart : goal.ghosts-start_apart
ghosts-start_apart g a = record { book = a.opened.seen.book }
