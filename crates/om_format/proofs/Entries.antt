-- Queues whose entries are in order stay so: with an entry more, at a later interval, and less their first entries.
use Rattle.std.proofs.Common.{◌≡◌, ℕ, zero, suc, ◌≤◌, true, List, [], ◌∷◌, ◌++◌, length, drop, set, refl, arith}
use Rattle.std.proofs.lemmas.Bool.{and_parts, and_from, leb-true, le-leb}
use Rattle.om_format.specs.declared.limits.TheConstants.{MAX_BODY}
use Rattle.om_format.specs.declared.queue.QueueEntry.{QueueEntry}
use Rattle.om_format.specs.Queues.{QueueRecord, are_entries, all_entries}

-- one entry more, of the newest interval
pub are_entries-push : (newest low : ℕ) (es : List QueueEntry) (e : QueueEntry) → low ≤ newest → e.interval ≡ newest → length e.body ≤ MAX_BODY → are_entries newest low es ≡ true → are_entries newest low (es ++ e ∷ []) ≡ true
are_entries-push newest low [] e le is short all = and_from _ _ (and_from _ _ (and_from _ _ (le-leb low e.interval (omega arith)) (le-leb e.interval newest (omega arith))) (le-leb (length e.body) MAX_BODY short)) refl
are_entries-push newest low (x ∷ es) e le is short all =
    let here = and_parts _ _ all in
    let range = and_parts _ _ (and_parts _ _ here.0).0 in
    and_from _ _ here.0 (are_entries-push newest x.interval es e (leb-true x.interval newest range.1) is short here.1)

-- at a later interval
pub are_entries_later : (newest later low : ℕ) (es : List QueueEntry) → newest ≤ later → are_entries newest low es ≡ true → are_entries later low es ≡ true
are_entries_later newest later low [] le all = refl
are_entries_later newest later low (x ∷ es) le all =
    let here = and_parts _ _ all in
    let first = and_parts _ _ here.0 in
    let range = and_parts _ _ first.0 in
    let below : x.interval ≤ newest = leb-true x.interval newest range.1 in
    and_from _ _ (and_from _ _ (and_from _ _ range.0 (le-leb x.interval later (omega arith))) first.1) (are_entries_later newest later x.interval es le here.1)

-- from an earlier interval on
pub are_entries_from : (newest low before : ℕ) (es : List QueueEntry) → before ≤ low → are_entries newest low es ≡ true → are_entries newest before es ≡ true
are_entries_from newest low before [] le all = refl
are_entries_from newest low before (x ∷ es) le all =
    let here = and_parts _ _ all in
    let first = and_parts _ _ here.0 in
    let range = and_parts _ _ first.0 in
    let above : low ≤ x.interval = leb-true low x.interval range.0 in
    and_from _ _ (and_from _ _ (and_from _ _ (le-leb before x.interval (omega arith)) range.1) first.1) here.1

-- less their first entries
pub are_entries-drop : (newest low k : ℕ) (es : List QueueEntry) → are_entries newest low es ≡ true → are_entries newest low (drop k es) ≡ true
are_entries-drop newest low zero es all = all
are_entries-drop newest low (suc k) [] all = refl
are_entries-drop newest low (suc k) (x ∷ es) all =
    let here = and_parts _ _ all in
    let range = and_parts _ _ (and_parts _ _ here.0).0 in
    are_entries_from newest x.interval low (drop k es) (leb-true low x.interval range.0) (are_entries-drop newest x.interval k es here.1)

-- all queues at a later interval
pub all_entries_later : (newest later : ℕ) (qs : List QueueRecord) → newest ≤ later → all_entries newest qs ≡ true → all_entries later qs ≡ true
all_entries_later newest later [] le all = refl
all_entries_later newest later (q ∷ qs) le all =
    let here = and_parts _ _ all in
    and_from _ _ (are_entries_later newest later 0 q.entries le here.0) (all_entries_later newest later qs le here.1)

-- all queues, one of which is another now
pub all_entries-set : (newest : ℕ) (qs : List QueueRecord) (place : ℕ) (q : QueueRecord) → are_entries newest 0 q.entries ≡ true → all_entries newest qs ≡ true → all_entries newest (set qs place q) ≡ true
all_entries-set newest [] place q one all = refl
all_entries-set newest (p ∷ qs) zero q one all = and_from _ _ one (and_parts _ _ all).1
all_entries-set newest (p ∷ qs) (suc place) q one all = (let here = and_parts _ _ all in and_from _ _ here.0 (all_entries-set newest qs place q one here.1))
