use Rattle.std.proofs.Common.{◌≡◌, ℕ, Bool, true, false, true≢false, IsTrue, ◌<◌, ◌≤◌, ◌⊎◌, ◌↔◌, inl, inr, refl, sym, ap, subst, arith, Ok, List, slice_index}
use Rattle.std.specs.FinSet as set
use Rattle.om_interval.specs.Vectors.{IsBelow}
use Rattle.om_recover.specs.Rows.{Rows}
use Rattle.om_recover.specs.Recoverable.{IsStable, IsRecoverable, IsGreatest}
use Rattle.om_recover.specs.Counted.{IsLeastNew}
use Rattle.om_recover.specs.Offered.{TellsChange}
use Rattle.om_recover.specs.steps.Indexed.{IsAdded}
use Rattle.om_recover.specs.declared.row.Row.{Row}
use Rattle.om_recover.specs.declared.note.Note.TheVariants.{Noted}
use Rattle.om_interval.proofs.VectorLemmas.{below_each_other}
use Rattle.om_recover.proofs.ClimbLemmas.{at_most_or_more}
use Rattle.om_recover.proofs.LawLemmas.{unique_greatest}
use Rattle.om_recover.proofs.SearchLemmas.{below_or_started, greatest_stays}
use Rattle.om_recover.proofs.NewLemmas.{nothing_new_above, least_new}

-- the lemmas of a note, of rows that are those before with one more
pub stays_greatest : (n : ℕ) (before after : Rows) (row : Row) (state : List ℕ) → after ≡ set.insert before row → IsGreatest n before state → IsRecoverable n after state
    → ((y : ℕ) → IsStable after row.pid y → slice_index state row.pid < y → IsStable before row.pid y) → IsGreatest n after state
stays_greatest n before after row state added greatest =
    subst (λ (rows : Rows). IsRecoverable n rows state → ((y : ℕ) → IsStable rows row.pid y → slice_index state row.pid < y → IsStable before row.pid y) → IsGreatest n rows state) (sym added)
    (greatest_stays n before row state greatest)

pub nothing_above : (before after : Rows) (row : Row) (floor : ℕ) → after ≡ set.insert before row → IsStable before row.pid floor → row.interval ≤ floor → (y : ℕ) → IsStable after row.pid y → floor < y → IsStable before row.pid y
nothing_above before after row floor added known at_most =
    subst (λ (rows : Rows). (y : ℕ) → IsStable rows row.pid y → floor < y → IsStable before row.pid y) (sym added) (nothing_new_above before row floor known at_most)

pub least_of_note : (before after : Rows) (row : Row) (floor : ℕ) → after ≡ set.insert before row → floor < row.interval → (IsStable before row.pid row.interval → ⊥) → IsStable after row.pid row.interval → IsLeastNew before after row.pid floor row.interval
least_of_note before after row floor added above new =
    subst (λ (rows : Rows). IsStable rows row.pid row.interval → IsLeastNew before rows row.pid floor row.interval) (sym added) (least_new before row floor above new)

pub others_of_note : (n : ℕ) (before after : Rows) (row : Row) (state : List ℕ) (x : ℕ) → after ≡ set.insert before row → IsGreatest n before state → IsRecoverable n after state → IsLeastNew before after row.pid (slice_index state row.pid) x
    → (other : List ℕ) → IsRecoverable n after other → IsBelow other state ⊎ (x ≤ slice_index other row.pid)
others_of_note n before after row state x added greatest =
    subst (λ (rows : Rows). IsRecoverable n rows state → IsLeastNew before rows row.pid (slice_index state row.pid) x → (other : List ℕ) → IsRecoverable n rows other → IsBelow other state ⊎ (x ≤ slice_index other row.pid)) (sym added)
    (below_or_started n before row state x greatest)

-- where a row made nothing stable, what is stable was so before
pub quiet : (n : ℕ) (before after : Rows) (row : Row) (state : List ℕ) (is_new : Bool) → IsAdded n before after row state is_new → is_new ≡ false
    → (y : ℕ) → IsStable after row.pid y → IsStable before row.pid y
quiet n before after row state is_new all is y stable = all.old is y (subst (λ rows. IsStable rows row.pid y) all.added stable)

-- nor does a row at or below the state make anything stable above it
pub quiet_above : (n : ℕ) (before after : Rows) (row : Row) (state : List ℕ) (is_new : Bool) → IsAdded n before after row state is_new → row.interval ≤ slice_index state row.pid
    → (y : ℕ) → IsStable after row.pid y → slice_index state row.pid < y → IsStable before row.pid y
quiet_above n before after row state is_new all at_most = nothing_above before after row (slice_index state row.pid) all.added (all.greatest.recoverable.stable row.pid all.process) at_most

-- the state stays the greatest where nothing becomes stable above it
pub stays : (n : ℕ) (before after : Rows) (row : Row) (state : List ℕ) (is_new : Bool) → IsAdded n before after row state is_new
    → ((y : ℕ) → IsStable after row.pid y → slice_index state row.pid < y → IsStable before row.pid y) → IsGreatest n after state
stays n before after row state is_new all nothing = stays_greatest n before after row state all.added all.greatest all.still nothing

-- else the row's interval is the least that became stable above it
pub least : (n : ℕ) (before after : Rows) (row : Row) (state : List ℕ) (is_new : Bool) → IsAdded n before after row state is_new → is_new ≡ true
    → slice_index state row.pid < row.interval → IsLeastNew before after row.pid (slice_index state row.pid) row.interval
least n before after row state is_new all is above =
    let made = all.new is in
    least_of_note before after row (slice_index state row.pid) all.added above made.before (subst (λ rows. IsStable rows row.pid row.interval) (sym all.added) made.after)

-- a search from the row's interval changes nothing where it does not raise the row's process
pub same_unless_raised : (n : ℕ) (before after : Rows) (row : Row) (state raised : List ℕ) (is_new : Bool) → IsAdded n before after row state is_new → IsGreatest n after raised
    → slice_index raised row.pid ≤ slice_index state row.pid → state ≡ raised
same_unless_raised n before after row state raised true all greatest at_most = elim (at_most_or_more row.interval (slice_index state row.pid)) [
  | inl low ↦ unique_greatest n after state raised (stays n before after row state true all (quiet_above n before after row state true all low)) greatest
  | inr above ↦ elim (others_of_note n before after row state row.interval all.added all.greatest all.still (least n before after row state true all refl above) raised greatest.recoverable) [
    | inl within ↦ below_each_other state raised (greatest.above_all state all.still) within
    | inr started ↦ absurd (omega (arith, started, above, at_most))
  ]
]
same_unless_raised n before after row state raised false all greatest at_most =
    unique_greatest n after state raised (stays n before after row state false all (λ y stable _. quiet n before after row state false all refl y stable)) greatest

-- a note tells a change where its process stands higher
pub tells_higher : (old new : List ℕ) (p : ℕ) (higher : Bool) → (IsTrue higher ↔ (slice_index old p < slice_index new p)) → (slice_index new p ≤ slice_index old p → old ≡ new)
    → TellsChange (Ok (Noted higher)) old new
tells_higher old new p true tells same = λ is. absurd (omega (arith, tells.0 refl, ap (λ v. slice_index v p) is))
tells_higher old new p false tells same = elim (at_most_or_more (slice_index new p) (slice_index old p)) [ inl at_most ↦ same at_most | inr more ↦ absurd (true≢false (sym (tells.1 more))) ]
