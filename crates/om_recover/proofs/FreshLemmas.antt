use Rattle.std.proofs.Common.{◌≡◌, ℕ, ◌^◌, ◌<◌, ◌≤◌, ◌⊎◌, inl, inr, refl, sym, ◌∙◌, ap, subst, arith, Option, None, Some, List, [], ◌∷◌, ◌++◌, length, slice_index, Ok, Err, All, ◌+◌, take, slice_get, suc}
use Rattle.std.proofs.Math.Seq.{take-suc}
use Rattle.std.proofs.lemmas.Option.{get_or_from_slice_get, slice_get_within}
use Rattle.std.proofs.lemmas.Bool.{cases_order}
use Rattle.std.specs.FinSet as set
use Rattle.om_interval.specs.Vectors.{IsBelow}
use Rattle.om_recover.specs.Rows.{Rows, IsLawful}
use Rattle.om_recover.specs.Attempts.{Attempt}
use Rattle.om_recover.specs.Recoverable.{IsStable, IsRecoverable, IsGreatest}
use Rattle.om_recover.specs.Offered.{AreOffered, IsNew, offered}
use Rattle.om_recover.specs.Counted.{IsLeastNew, IsNewAbove, IsCountedAtOnce, IsSearched, one_search, second_search}
use Rattle.om_recover.specs.declared.note.Note.{Note}
use Rattle.om_recover.specs.declared.note.NoteError.{NoteError}
use Rattle.om_recover.specs.declared.note.NoteError.TheVariants.{Stranger, BadVector, Differs, Disorder, Memory}
use Rattle.om_recover.specs.declared.row.Row.{Row}
use Rattle.om_recover.specs.declared.search.fresh.Fresh.{Fresh}
use Rattle.om_recover.specs.declared.search.failed_climbs.FailedClimb.{FailedClimb}
use Rattle.om_recover.specs.steps.Climbing.{IsSearchedByEither, from_high, from_low}
use Rattle.om_recover.specs.steps.Fresh.{AreAdded, AreMoreOf, HasNoneFresh, IsFresh, TellsFresh, fresh_with}
use Rattle.om_recover.specs.steps.Memory.{AreRemembered, IsWithout}
use Rattle.om_recover.proofs.ClimbLemmas.{at_most_or_more}
use Rattle.om_recover.proofs.MemoryLemmas.{all_alike, all_alike_within}
use Rattle.om_recover.proofs.MoreLemmas.{apart_where, greatest_with, more_by_none, more_by_one, more_then, stable_with, stable_without, within_or_started}
use Rattle.om_recover.proofs.NewLemmas.{least_new, nothing_new_above}
use Rattle.om_recover.proofs.NoteLemmas.{lawful_with_new, recoverable_with_new}
use Rattle.om_recover.proofs.StableLemmas.{record_of_stable, stable_kept}

-- one row more is offered
pub offered_more : (n : ℕ) (before mid after : Rows) (rows : List Row) (row : Row) (note : Note) → AreOffered n before rows mid → offered n mid row (Ok note) after → AreOffered n before (rows ++ row ∷ []) after
offered_more n before mid after [] row note same one = (note, after, subst (λ (rows : Rows). offered n rows row (Ok note) after) same one, refl)
offered_more n before mid after (first ∷ rows) row note told one = (told.0, told.1, told.2, offered_more n told.1 mid after rows row note told.3 one)

-- no row is added
pub added_nothing : (n : ℕ) (rows : Rows) (p : ℕ) (state : List ℕ) → IsLawful n rows → IsRecoverable n rows state → AreAdded n rows rows p state None
added_nothing n rows p state lawful recoverable = record { lawful = lawful; still = recoverable; more = more_by_none rows p; fresh = λ y stable _. stable }

-- what is fresh stays so with a row that makes nothing stable above the floor
fresh_still : (before mid after : Rows) (p floor : ℕ) (told : Option Fresh) → AreMoreOf mid after p → HasNoneFresh mid after p floor → TellsFresh before mid p floor told → TellsFresh before after p floor told
fresh_still before mid after p floor None more quiet none = λ y stable above. none y (quiet y stable above) above
fresh_still before mid after p floor (Some fresh) more quiet is = record {
  least = record {
    stable = stable_with mid after p p fresh.least more is.least.stable;
    new = is.least.new;
    above = is.least.above;
    least = λ y stable above under. is.least.least y (quiet y stable above) above under;
  };
  high = record { stable = stable_with mid after p p fresh.high more is.high.stable; new = is.high.new; above = is.high.above };
  order = is.order;
}

pub added_quiet : (n : ℕ) (before mid after : Rows) (row : Row) (state : List ℕ) (told : Option Fresh) → AreAdded n before mid row.pid state told → IsNew n mid row → row.interval < 2 ^ 32 → after ≡ set.insert mid row
    → HasNoneFresh mid (set.insert mid row) row.pid (slice_index state row.pid) → AreAdded n before after row.pid state told
added_quiet n before mid after row state told so_far new numbered added quiet = subst (λ (rows : Rows). AreAdded n before rows row.pid state told) (sym added) (record {
  lawful = lawful_with_new n mid row numbered new so_far.lawful;
  still = recoverable_with_new n mid row state new so_far.still;
  more = more_then before mid (set.insert mid row) row.pid so_far.more (more_by_one mid row);
  fresh = fresh_still before mid (set.insert mid row) row.pid (slice_index state row.pid) told (more_by_one mid row) quiet so_far.fresh;
})

-- a row at or below the state makes nothing stable above it
pub quiet_below : (n : ℕ) (before mid : Rows) (row : Row) (state : List ℕ) (told : Option Fresh) → AreAdded n before mid row.pid state told → IsNew n mid row → row.interval ≤ slice_index state row.pid
    → HasNoneFresh mid (set.insert mid row) row.pid (slice_index state row.pid)
quiet_below n before mid row state told so_far new at_most = nothing_new_above mid row (slice_index state row.pid) (so_far.still.stable row.pid new.offer.known) at_most

-- with a row that makes its interval stable above the floor
fresh_more : (before mid : Rows) (row : Row) (floor : ℕ) (told : Option Fresh) → AreMoreOf before mid row.pid → floor < row.interval → (IsStable mid row.pid row.interval → ⊥) → IsStable (set.insert mid row) row.pid row.interval
    → TellsFresh before mid row.pid floor told → IsFresh before (set.insert mid row) row.pid floor (fresh_with told row.interval)
fresh_more before mid row floor None more above unstable stable none =
    let step : IsLeastNew mid (set.insert mid row) row.pid floor row.interval = least_new mid row floor above unstable stable in
    let new : IsStable before row.pid row.interval → ⊥ = λ was. unstable (stable_with before mid row.pid row.pid row.interval more was) in
    record {
      least = record { stable = stable; new = new; above = above; least = λ y is over under. none y (step.least y is over under) over };
      high = record { stable = stable; new = new; above = above };
      order = omega arith;
    }
fresh_more before mid row floor (Some fresh) more above unstable stable known =
    let step : IsLeastNew mid (set.insert mid row) row.pid floor row.interval = least_new mid row floor above unstable stable in
    let new : IsStable before row.pid row.interval → ⊥ = λ was. unstable (stable_with before mid row.pid row.pid row.interval more was) in
    record {
      least = elim (at_most_or_more fresh.least row.interval) [
        | inl low ↦ subst (IsLeastNew before (set.insert mid row) row.pid floor) (omega (arith, low)) (record {
          stable = stable_kept mid row row.pid fresh.least known.least.stable;
          new = known.least.new;
          above = known.least.above;
          least = λ y is over under. known.least.least y (step.least y is over (omega (arith, under, low))) over under;
        })
        | inr lower ↦ subst (IsLeastNew before (set.insert mid row) row.pid floor) (omega (arith, lower)) (record {
          stable = stable;
          new = new;
          above = above;
          least = λ y is over under. known.least.least y (step.least y is over under) over (omega (arith, under, lower));
        })
      ];
      high = elim (at_most_or_more fresh.high row.interval) [
        | inl more ↦ subst (IsNewAbove before (set.insert mid row) row.pid floor) (omega (arith, more)) (record { stable = stable; new = new; above = above })
        | inr less ↦ subst (IsNewAbove before (set.insert mid row) row.pid floor) (omega (arith, less)) (record { stable = stable_kept mid row row.pid fresh.high known.high.stable; new = known.high.new; above = known.high.above })
      ];
      order = omega (arith, known.order);
    }

pub added_fresh : (n : ℕ) (before mid after : Rows) (row : Row) (state : List ℕ) (told : Option Fresh) → AreAdded n before mid row.pid state told → IsNew n mid row → row.interval < 2 ^ 32 → after ≡ set.insert mid row
    → slice_index state row.pid < row.interval → (IsStable mid row.pid row.interval → ⊥) → IsStable (set.insert mid row) row.pid row.interval → AreAdded n before after row.pid state (Some (fresh_with told row.interval))
added_fresh n before mid after row state told so_far new numbered added above unstable stable =
    subst (λ (rows : Rows). AreAdded n before rows row.pid state (Some (fresh_with told row.interval))) (sym added) (record {
      lawful = lawful_with_new n mid row numbered new so_far.lawful;
      still = recoverable_with_new n mid row state new so_far.still;
      more = more_then before mid (set.insert mid row) row.pid so_far.more (more_by_one mid row);
      fresh = fresh_more before mid row (slice_index state row.pid) told so_far.more above unstable stable so_far.fresh;
    })

-- the rows before are lawful where those after are
lawful_less : (n : ℕ) (before after : Rows) (p : ℕ) → AreMoreOf before after p → IsLawful n after → IsLawful n before
lawful_less n before after p more lawful = record {
  known = λ one there. lawful.known one (more.kept one there);
  numbered = λ one there. lawful.numbered one (more.kept one there);
  fair = λ one there. lawful.fair one (more.kept one there);
  agree = λ one other there also. lawful.agree one other (more.kept one there) (more.kept other also);
  rise = λ low high there also. lawful.rise low high (more.kept low there) (more.kept high also);
}

-- memories stay with rows that make nothing stable above the state
pub remembered_with : (n : ℕ) (before after : Rows) (p : ℕ) (state : List ℕ) (places : List (Option FailedClimb)) → IsRecoverable n before state → AreAdded n before after p state None
    → AreRemembered n before state places → AreRemembered n after state places
remembered_with n before after p state places recoverable added known =
    all_alike n before after state places (lawful_less n before after p added.more added.lawful) recoverable (λ bound. record {
      there = λ one there _ _. added.more.kept one there;
      stable = λ j z _ _ stable. stable_with before after p j z added.more stable;
      new = λ j z above stable. elim (cases_order j p) [
        | inl here ↦ inl (subst (λ r. IsStable before r z) (sym here) (added.fresh z (subst (λ r. IsStable after r z) here stable) (omega (arith, above, ap (slice_index state) here))))
        | inr apart ↦ inl (stable_without before after p j z added.more (apart_where j p apart) stable)
      ];
    }) known

-- with others, where those that came further than the least fresh interval are dropped
pub remembered_up_to : (n : ℕ) (before after : Rows) (p : ℕ) (state : List ℕ) (fresh : Fresh) (old new : List (Option FailedClimb)) → IsRecoverable n before state → AreAdded n before after p state (Some fresh)
    → IsWithout n old new p fresh.least → AreRemembered n before state old → AreRemembered n after state new
remembered_up_to n before after p state fresh old new recoverable added is known =
    all_alike_within n before after state old new p fresh.least (lawful_less n before after p added.more added.lawful) recoverable (λ bound low. record {
      there = λ one there _ _. added.more.kept one there;
      stable = λ j z _ _ stable. stable_with before after p j z added.more stable;
      new = λ j z above stable. elim (cases_order j p) [
        | inl here ↦ elim (at_most_or_more fresh.least z) [
          | inl past ↦ inr (omega (arith, low, past, ap (slice_index bound) here))
          | inr short ↦ inl (subst (λ r. IsStable before r z) (sym here) (added.fresh.least.least z (subst (λ r. IsStable after r z) here stable) (omega (arith, above, ap (slice_index state) here)) short))
        ]
        | inr apart ↦ inl (stable_without before after p j z added.more (apart_where j p apart) stable)
      ];
    }) is known

-- a recoverable state is within the state, or has the process at the least fresh interval or above
pub others_of_rows : (n : ℕ) (before after : Rows) (p : ℕ) (state : List ℕ) (fresh : Fresh) → IsGreatest n before state → AreAdded n before after p state (Some fresh)
    → (other : List ℕ) → IsRecoverable n after other → IsBelow other state ⊎ (fresh.least ≤ slice_index other p)
others_of_rows n before after p state fresh greatest added =
    within_or_started n before after p state fresh.least greatest added.still added.more added.fresh.least.above added.fresh.least.least

-- the attempts of either search
pub counted_by_either : (n : ℕ) (before after : Rows) (p : ℕ) (state raised : List ℕ) (fresh : Fresh) (old new : List Attempt) → IsFresh before after p (slice_index state p) fresh
    → IsSearchedByEither n after state p fresh.least fresh.high raised old new → IsCountedAtOnce n before after p state raised old new
counted_by_either n before after p state raised fresh old new is (from_high search) = one_search fresh.high is.high search
counted_by_either n before after p state raised fresh old new is (from_low mid attempted out search) =
    second_search fresh.high fresh.least attempted.looks is.high attempted.lawful out is.least
    (subst (λ attempts. IsSearched n after state p fresh.least raised attempts new) attempted.added search)

-- a process with a stable interval is one of the cluster
pub process_of : (n : ℕ) (rows : Rows) (p y : ℕ) → IsLawful n rows → IsStable rows p y → p < n
process_of n rows p y lawful stable = let has = (record_of_stable rows p y stable).1 in omega (arith, lawful.known has.row has.there, has.pid_is)

-- what is fresh, where that is told
pub fresh_told : (n : ℕ) (before after : Rows) (p : ℕ) (state : List ℕ) (told : Option Fresh) (fresh : Fresh) → told ≡ Some fresh → AreAdded n before after p state told → AreAdded n before after p state (Some fresh)
fresh_told n before after p state told fresh is added = subst (AreAdded n before after p state) is added

pub none_told : (n : ℕ) (before after : Rows) (p : ℕ) (state : List ℕ) (told : Option Fresh) → told ≡ None → AreAdded n before after p state told → AreAdded n before after p state None
none_told n before after p state told is added = subst (AreAdded n before after p state) is added

pub greatest_still : (n : ℕ) (before after : Rows) (p : ℕ) (state : List ℕ) → IsGreatest n before state → AreAdded n before after p state None → IsGreatest n after state
greatest_still n before after p state greatest added = greatest_with n before after p state greatest added.still added.more added.fresh

-- one row more of a list is offered
pub offered_next : (n : ℕ) (before mid after : Rows) (rows : List Row) (count : ℕ) (row : Row) (note : Note) → slice_get rows count ≡ Some row → AreOffered n before (take count rows) mid → offered n mid row (Ok note) after
    → AreOffered n before (take (count + 1) rows) after
offered_next n before mid after rows count row note at told one =
    let within : count < length rows = slice_get_within rows count row at in
    let next : suc count ≡ count + 1 = omega arith in
    subst (λ (l : List Row). AreOffered n before l after)
    (ap (λ r. take count rows ++ r ∷ []) (sym (get_or_from_slice_get rows count row row at)) ∙ sym (take-suc rows count row within) ∙ ap (λ k. take k rows) next)
    (offered_more n before mid after (take count rows) row note told one)

-- a row of the list is of the process
pub process_at : (rows : List Row) (p count : ℕ) (row : Row) → All (λ (row : Row). row.pid ≡ p) rows → slice_get rows count ≡ Some row → row.pid ≡ p
process_at rows p count row all at =
    subst (λ (r : Row). r.pid ≡ p) (get_or_from_slice_get rows count row row at) (all count row (slice_get_within rows count row at))

-- where a row is refused, the rows are those that there were
pub refused_leaves : (n : ℕ) (before after : Rows) (row : Row) (fault : NoteError) → offered n before row (Err fault) after → after ≡ before
refused_leaves n before after row Stranger is = is.1
refused_leaves n before after row BadVector is = is.2
refused_leaves n before after row Differs is = is.6
refused_leaves n before after row (Disorder y) is = is.1
refused_leaves n before after row Memory is = is.1
