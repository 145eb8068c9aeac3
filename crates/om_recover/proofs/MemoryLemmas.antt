use Rattle.std.proofs.Common.{◌≡◌, ℕ, ◌<◌, ◌≤◌, ◌⊎◌, inl, inr, refl, sym, ◌∙◌, ap, subst, arith, List, length, slice_index, slice_index_or, max, Option, Some, None, MatchOption, ◌+◌, slice_set, length-set}
use Rattle.std.specs.Prelude.{⊤}
use Rattle.std.specs.FinSet as set
use Rattle.std.proofs.lemmas.Bool.{cases_order}
use Rattle.std.proofs.lemmas.Grind.{same_number_lists}
use Rattle.om_interval.specs.Vectors.{IsBelow}
use Rattle.om_recover.specs.Rows.{Rows, HasRow, Has, IsLawful}
use Rattle.om_recover.specs.declared.row.RowKind.{RowKind}
use Rattle.om_recover.specs.declared.row.RowKind.TheVariants.{Checkpoint, Log}
use Rattle.om_recover.specs.declared.row.Row.{Row}
use Rattle.om_recover.specs.declared.search.failed_climbs.FailedClimb.{FailedClimb}
use Rattle.om_recover.specs.Recoverable.{IsStable, IsRecoverable, maximum_of}
use Rattle.om_recover.specs.steps.Climbing.{IsNeededWithin, begins, leads, IsClimbing, IsPassing, IsOutOfReach}
use Rattle.om_recover.specs.steps.Memory.{IsRemembered, IsTrueMemory, AreRemembered, HasPlace, IsKept, IsUpTo, IsWithout, part_of}
use Rattle.om_recover.proofs.RowsLemmas.{kept}
use Rattle.om_recover.proofs.StableLemmas.{stable_kept, stable_before, stable_by_records}
use Rattle.om_interval.proofs.VectorLemmas.{below_itself, below_through}
use Rattle.om_recover.proofs.LawLemmas.{length-maximum_of, place-maximum_of, one_below, other_below}
use Rattle.om_recover.proofs.ClimbLemmas.{at_most_or_more, set_place, vec_below, needed_within, within_higher, below_everywhere, IsVecAt, row_of}
use Rattle.om_recover.proofs.NewLemmas.{needed_forced}

-- what is needed from a state is needed from a higher one, where it is above it
within_raised : (n : ℕ) (rows : Rows) (state higher bound : List ℕ) (p x q y : ℕ) → IsLawful n rows → IsRecoverable n rows higher → q < n → slice_index higher q < y → IsNeededWithin rows state bound p x q y → IsNeededWithin rows higher bound p x q y
within_raised n rows state higher bound p x q y lawful recoverable within above begins = begins
within_raised n rows state higher bound p x q y lawful recoverable within above (leads row _ _ before there beyond least low) =
    let more : slice_index higher q < slice_index row.vec q = elim (at_most_or_more (slice_index row.vec q) (slice_index higher q)) [
      | inl at_most ↦ absurd (omega (arith, above, least.least (slice_index higher q) (recoverable.stable q within) at_most))
      | inr less ↦ less
    ] in
    let source : slice_index higher row.pid < row.interval = elim (at_most_or_more row.interval (slice_index higher row.pid)) [
      | inl at_most ↦ absurd (omega (arith, more, (vec_below n rows higher row lawful recoverable there at_most).each q (omega (arith, within, (lawful.fair row there).vec_places))))
      | inr less ↦ less
    ] in
    leads row q y (within_raised n rows state higher bound p x row.pid row.interval lawful recoverable (lawful.known row there) source before) there more least low

-- what is needed is within the bound
within_bound : (rows : Rows) (state bound : List ℕ) (p x q y : ℕ) → x ≤ slice_index bound p → IsNeededWithin rows state bound p x q y → y ≤ slice_index bound q
within_bound rows state bound p x q y start begins = start
within_bound rows state bound p x q y start (leads row _ _ before there beyond least low) = low

-- between the state and the bound, other rows have what these have, and nothing more is stable
pub record AreAlike (rows others : Rows) (state bound : List ℕ) : Type 0 where
  pub there : (row : Row) → HasRow rows row → slice_index state row.pid < row.interval → row.interval ≤ slice_index bound row.pid → HasRow others row
  pub stable : (j z : ℕ) → slice_index state j < z → z ≤ slice_index bound j → IsStable rows j z → IsStable others j z
  pub new : (j z : ℕ) → slice_index state j < z → IsStable others j z → IsStable rows j z ⊎ (slice_index bound j ≤ z)

-- a row that names more than a recoverable state is above it
above_state : (n : ℕ) (rows : Rows) (state : List ℕ) (row : Row) (j v : ℕ) → IsLawful n rows → IsRecoverable n rows state → HasRow rows row → slice_index state j < v → v ≤ slice_index row.vec j → slice_index state row.pid < row.interval
above_state n rows state row j v lawful recoverable there beyond names = elim (at_most_or_more row.interval (slice_index state row.pid)) [
  | inr less ↦ less
  | inl at_most ↦ absurd (omega (arith, beyond, names, below_everywhere row.vec state (vec_below n rows state row lawful recoverable there at_most) j))
]

-- then what is needed stays so
within_alike : (n : ℕ) (rows others : Rows) (state bound : List ℕ) (p x q y : ℕ) → IsLawful n rows → IsRecoverable n rows state → x ≤ slice_index bound p → AreAlike rows others state bound
    → IsNeededWithin rows state bound p x q y → IsNeededWithin others state bound p x q y
within_alike n rows others state bound p x q y lawful recoverable start alike begins = begins
within_alike n rows others state bound p x q y lawful recoverable start alike (leads row _ _ before there beyond least low) =
    leads row q y (within_alike n rows others state bound p x row.pid row.interval lawful recoverable start alike before)
    (alike.there row there (above_state n rows state row q (slice_index row.vec q) lawful recoverable there beyond (omega arith)) (within_bound rows state bound p x row.pid row.interval start before)) beyond
    (record {
      stable = alike.stable q y (omega (arith, beyond, least.above)) low least.stable;
      above = least.above;
      least = λ z is at_least. elim (alike.new q z (omega (arith, beyond, at_least)) is) [
        | inl old ↦ least.least z old at_least
        | inr past ↦ omega (arith, low, past)
      ];
    }) low

-- a memory stays where the state rises
remembered_raised : (n : ℕ) (rows : Rows) (state higher : List ℕ) (p : ℕ) (memory : FailedClimb) → IsLawful n rows → IsRecoverable n rows higher → IsBelow state higher → IsRemembered n rows state p memory → IsRemembered n rows higher p memory
remembered_raised n rows state higher p memory lawful recoverable above known =
    let low : (q : ℕ) → slice_index state q ≤ slice_index higher q = below_everywhere state higher above in
    record {
      places = known.places;
      waits = known.waits;
      started = known.started;
      stable = λ q in_cluster more. known.stable q in_cluster (omega (arith, more, low q));
      needed = λ q in_cluster more. within_raised n rows state higher memory.reached p memory.start q (slice_index memory.reached q) lawful recoverable in_cluster more (known.needed q in_cluster (omega (arith, more, low q)));
      reason = λ short.
          let reason = known.reason (omega (arith, short, low memory.waits)) in
          let source : slice_index higher reason.row.pid < reason.row.interval = elim (at_most_or_more reason.row.interval (slice_index higher reason.row.pid)) [
            | inl at_most ↦ absurd (omega (arith, short, reason.names, (vec_below n rows higher reason.row lawful recoverable reason.there at_most).each memory.waits (omega (arith, known.waits, (lawful.fair reason.row reason.there).vec_places))))
            | inr less ↦ less
          ] in
          record {
            row = reason.row;
            there = reason.there;
            needed = within_raised n rows state higher memory.reached p memory.start reason.row.pid reason.row.interval lawful recoverable (lawful.known reason.row reason.there) source reason.needed;
            names = reason.names;
          };
    }

-- and in rows that are alike
remembered_alike : (n : ℕ) (rows others : Rows) (state : List ℕ) (p : ℕ) (memory : FailedClimb) → IsLawful n rows → IsRecoverable n rows state → AreAlike rows others state memory.reached → IsRemembered n rows state p memory → IsRemembered n others state p memory
remembered_alike n rows others state p memory lawful recoverable alike known = record {
  places = known.places;
  waits = known.waits;
  started = known.started;
  stable = λ q in_cluster more. alike.stable q (slice_index memory.reached q) more (omega arith) (known.stable q in_cluster more);
  needed = λ q in_cluster more. within_alike n rows others state memory.reached p memory.start q (slice_index memory.reached q) lawful recoverable known.started alike (known.needed q in_cluster more);
  reason = λ short.
      let reason = known.reason short in
      record {
        row = reason.row;
        there = alike.there reason.row reason.there (above_state n rows state reason.row memory.waits memory.from lawful recoverable reason.there short reason.names)
            (within_bound rows state memory.reached p memory.start reason.row.pid reason.row.interval known.started reason.needed);
        needed = within_alike n rows others state memory.reached p memory.start reason.row.pid reason.row.interval lawful recoverable known.started alike reason.needed;
        names = reason.names;
      };
}

-- a climb from its start goes on from what is remembered
pub climbing_resumed : (n : ℕ) (rows : Rows) (state : List ℕ) (p : ℕ) (memory : FailedClimb) → IsLawful n rows → IsRecoverable n rows state → p < n → IsRemembered n rows state p memory → IsClimbing n rows state p memory.start (maximum_of memory.reached state) state
climbing_resumed n rows state p memory lawful recoverable process known =
    let same : length memory.reached ≡ length state = known.places ∙ sym recoverable.places in
    let rises : IsBelow memory.reached (maximum_of memory.reached state) = one_below memory.reached state same in
    let needed : (q : ℕ) → q < n → slice_index state q < slice_index memory.reached q → IsNeededWithin rows state (maximum_of memory.reached state) p memory.start q (slice_index memory.reached q) =
    λ q in_cluster more. within_higher rows state memory.reached (maximum_of memory.reached state) p memory.start q (slice_index memory.reached q) (below_everywhere memory.reached (maximum_of memory.reached state) rises) (known.needed q in_cluster more) in
    record {
      reached_places = length-maximum_of memory.reached state same ∙ known.places;
      looked_places = recoverable.places;
      from_state = below_itself state;
      behind = other_below memory.reached state same;
      started = omega (arith, known.started, rises.each p (omega (arith, process, known.places)));
      stable = λ q in_cluster. elim (at_most_or_more (slice_index memory.reached q) (slice_index state q)) [
        | inl low ↦ subst (IsStable rows q) (omega (arith, low, place-maximum_of memory.reached state q same (omega (arith, in_cluster, known.places)))) (recoverable.stable q in_cluster)
        | inr more ↦ subst (IsStable rows q) (omega (arith, more, place-maximum_of memory.reached state q same (omega (arith, in_cluster, known.places)))) (known.stable q in_cluster more)
      ];
      needed = λ q in_cluster more.
          let place : slice_index (maximum_of memory.reached state) q ≡ max (slice_index memory.reached q) (slice_index state q) = place-maximum_of memory.reached state q same (omega (arith, in_cluster, known.places)) in
          let beyond : slice_index state q < slice_index memory.reached q = omega (arith, more, place) in
          subst (IsNeededWithin rows state (maximum_of memory.reached state) p memory.start q) (omega (arith, beyond, place)) (needed q in_cluster beyond);
      closed = λ row there at_state. below_through row.vec state (maximum_of memory.reached state) (recoverable.closed row there at_state) (other_below memory.reached state same);
      forced = λ other of_other below started. record {
        same_places = length-maximum_of memory.reached state same ∙ known.places ∙ sym of_other.places;
        each = λ q within.
            let q_reached : q < length memory.reached = omega (arith, within, length-maximum_of memory.reached state same) in
            let in_cluster : q < n = omega (arith, q_reached, known.places) in
            let place : slice_index (maximum_of memory.reached state) q ≡ max (slice_index memory.reached q) (slice_index state q) = place-maximum_of memory.reached state q same q_reached in
            let low : slice_index state q ≤ slice_index other q = below.each q (omega (arith, in_cluster, recoverable.places)) in
            elim (at_most_or_more (slice_index memory.reached q) (slice_index state q)) [
              | inl at_most ↦ omega (arith, at_most, place, low)
              | inr more ↦
                  let far : slice_index memory.reached q ≤ slice_index other q = needed_forced n rows state other p memory.start q (slice_index memory.reached q) lawful of_other started
                  (needed_within rows state memory.reached p memory.start q (slice_index memory.reached q) (known.needed q in_cluster more)) in
                  omega (arith, far, place, low)
            ];
      };
    }

-- while what is waited for is not there, no recoverable state has the process at the start or above
pub waits_still : (n : ℕ) (rows : Rows) (state : List ℕ) (p x : ℕ) (memory : FailedClimb) → IsLawful n rows → IsRecoverable n rows state → IsRemembered n rows state p memory → memory.start ≤ x
    → ((z : ℕ) → IsStable rows memory.waits z → memory.from ≤ z → ⊥) → IsOutOfReach n rows p x
waits_still n rows state p x memory lawful recoverable known at_start none other of_other = elim (at_most_or_more x (slice_index other p)) [
  | inr below ↦ below
  | inl started ↦
      let short : slice_index state memory.waits < memory.from = elim (at_most_or_more memory.from (slice_index state memory.waits)) [
        | inr less ↦ less
        | inl at_most ↦ absurd (none (slice_index state memory.waits) (recoverable.stable memory.waits known.waits) at_most)
      ] in
      let reason = known.reason short in
      let source : reason.row.interval ≤ slice_index other reason.row.pid = needed_forced n rows state other p memory.start reason.row.pid reason.row.interval lawful of_other (omega (arith, at_start, started))
      (needed_within rows state memory.reached p memory.start reason.row.pid reason.row.interval reason.needed) in
      let read : IsBelow reason.row.vec other = vec_below n rows other reason.row lawful of_other reason.there source in
      absurd (none (slice_index other memory.waits) (of_other.stable memory.waits known.waits) (omega (arith, reason.names, read.each memory.waits (omega (arith, known.waits, (lawful.fair reason.row reason.there).vec_places)))))
]

-- of a climb that failed
pub remembered_failed : (n : ℕ) (rows : Rows) (state : List ℕ) (p x q y : ℕ) (reached looked vec : List ℕ) (memory : FailedClimb) → IsClimbing n rows state p x reached looked
    → q < n → y ≡ slice_index reached q → slice_index looked q < y → IsVecAt rows q y vec → memory.start ≡ x → memory.reached ≡ reached → memory.waits < n → memory.from ≡ slice_index vec memory.waits → IsRemembered n rows state p memory
remembered_failed n rows state p x q y reached looked vec memory climbing in_cluster at behind is start_is reached_is waits from_is =
    let has = (row_of n rows state p x q reached looked climbing in_cluster).1 in
    let above_state : slice_index state q ≤ slice_index looked q = climbing.from_state.each q (omega (arith, in_cluster, climbing.looked_places, climbing.from_state.same_places)) in
    let needed : (k : ℕ) → k < n → slice_index state k < slice_index memory.reached k → IsNeededWithin rows state memory.reached p memory.start k (slice_index memory.reached k) =
    λ k k_in. subst (λ (r : List ℕ). slice_index state k < slice_index r k → IsNeededWithin rows state r p memory.start k (slice_index r k)) (sym reached_is)
    (subst (λ s. slice_index state k < slice_index reached k → IsNeededWithin rows state reached p s k (slice_index reached k)) (sym start_is) (climbing.needed k k_in)) in
    let same : slice_index memory.reached q ≡ slice_index reached q = ap (λ (r : List ℕ). slice_index r q) reached_is in
    record {
      places = ap length reached_is ∙ climbing.reached_places;
      waits = waits;
      started = omega (arith, start_is, climbing.started, ap (λ (r : List ℕ). slice_index r p) reached_is);
      stable = λ k k_in _. subst (λ (r : List ℕ). IsStable rows k (slice_index r k)) (sym reached_is) (climbing.stable k k_in);
      needed = needed;
      reason = λ _. record {
        row = has.row;
        there = has.there;
        needed = subst (λ r. IsNeededWithin rows state memory.reached p memory.start r has.row.interval) (sym has.pid_is)
            (subst (IsNeededWithin rows state memory.reached p memory.start q) (same ∙ sym has.interval_is) (needed q in_cluster (omega (arith, above_state, behind, at, same))));
        names = omega (arith, from_is, ap (λ (v : List ℕ). slice_index v memory.waits) (is has.row has.there has.pid_is (has.interval_is ∙ sym at)));
      };
    }

-- and what is left of it
pub part_remembered : (n : ℕ) (rows : Rows) (state : List ℕ) (p : ℕ) (reached : List ℕ) (memory : FailedClimb) → IsPassing n rows state p memory.start reached memory.passed → memory.waits < n
    → IsRemembered n rows state p (part_of memory)
part_remembered n rows state p reached memory passing waits = record {
  places = passing.places;
  waits = waits;
  started = passing.started;
  stable = passing.stable;
  needed = passing.needed;
  reason = λ short. absurd (omega (arith, short));
}

-- each of both stays where the state rises
known_raised : (n : ℕ) (rows : Rows) (state higher : List ℕ) (p : ℕ) (memory : FailedClimb) → IsLawful n rows → IsRecoverable n rows higher → IsBelow state higher → IsTrueMemory n rows state p memory → IsTrueMemory n rows higher p memory
known_raised n rows state higher p memory lawful recoverable above known = record {
  whole = remembered_raised n rows state higher p memory lawful recoverable above known.whole;
  part = remembered_raised n rows state higher p (part_of memory) lawful recoverable above known.part;
}

-- and in rows that are alike
known_alike : (n : ℕ) (rows others : Rows) (state : List ℕ) (p : ℕ) (memory : FailedClimb) → IsLawful n rows → IsRecoverable n rows state → AreAlike rows others state memory.reached → AreAlike rows others state memory.passed
    → IsTrueMemory n rows state p memory → IsTrueMemory n others state p memory
known_alike n rows others state p memory lawful recoverable alike alike_passed known = record {
  whole = remembered_alike n rows others state p memory lawful recoverable alike known.whole;
  part = remembered_alike n rows others state p (part_of memory) lawful recoverable alike_passed known.part;
}

match_map : {A : Type 0} (P Q : A → Type 0) (o : Option A) → ((a : A) → P a → Q a) → MatchOption o ⊤ P → MatchOption o ⊤ Q
match_map P Q None f known = known
match_map P Q (Some a) f known = f a known

match_both : {A : Type 0} (P R Q : A → Type 0) (o : Option A) → ((a : A) → P a → R a → Q a) → MatchOption o ⊤ P → MatchOption o ⊤ R → MatchOption o ⊤ Q
match_both P R Q None f known more = known
match_both P R Q (Some a) f known more = f a known more

-- all memories, where the state rises
pub all_raised : (n : ℕ) (rows : Rows) (state higher : List ℕ) (places : List (Option FailedClimb)) → IsLawful n rows → IsRecoverable n rows higher → IsBelow state higher → AreRemembered n rows state places → AreRemembered n rows higher places
all_raised n rows state higher places lawful recoverable above known p in_cluster =
    match_map (IsTrueMemory n rows state p) (IsTrueMemory n rows higher p) (slice_index_or places p None) (λ memory. known_raised n rows state higher p memory lawful recoverable above) (known p in_cluster)

-- where one is kept
-- what is remembered of a process
pub remembered_of : (n : ℕ) (rows : Rows) (state : List ℕ) (places : List (Option FailedClimb)) (p : ℕ) (memory : FailedClimb) → AreRemembered n rows state places → p < n
    → slice_index_or places p None ≡ Some memory → IsRemembered n rows state p memory
remembered_of n rows state places p memory known within is = (subst (λ (o : Option FailedClimb). MatchOption o ⊤ (IsTrueMemory n rows state p)) is (known p within)).whole

pub all_with : (n : ℕ) (rows : Rows) (state : List ℕ) (old new : List (Option FailedClimb)) (p : ℕ) (memory : FailedClimb) → AreRemembered n rows state old → IsTrueMemory n rows state p memory → IsKept old new p memory → AreRemembered n rows state new
all_with n rows state old new p memory known one is q in_cluster = elim (is q) [
  | inl same ↦ subst (λ (o : Option FailedClimb). MatchOption o ⊤ (IsTrueMemory n rows state q)) (sym same) (known q in_cluster)
  | inr here ↦ subst (λ (o : Option FailedClimb). MatchOption o ⊤ (IsTrueMemory n rows state q)) (sym here.1) (subst (λ r. IsTrueMemory n rows state r memory) (sym here.0) one)
]

-- in rows that are alike
pub all_alike : (n : ℕ) (rows others : Rows) (state : List ℕ) (places : List (Option FailedClimb)) → IsLawful n rows → IsRecoverable n rows state → ((bound : List ℕ) → AreAlike rows others state bound) → AreRemembered n rows state places → AreRemembered n others state places
all_alike n rows others state places lawful recoverable alike known p in_cluster =
    match_map (IsTrueMemory n rows state p) (IsTrueMemory n others state p) (slice_index_or places p None) (λ memory. known_alike n rows others state p memory lawful recoverable (alike memory.reached) (alike memory.passed)) (known p in_cluster)

-- and in rows that are alike up to an interval of a process, where those that came further are dropped
pub all_alike_within : (n : ℕ) (rows others : Rows) (state : List ℕ) (old new : List (Option FailedClimb)) (q x : ℕ) → IsLawful n rows → IsRecoverable n rows state → ((bound : List ℕ) → slice_index bound q ≤ x → AreAlike rows others state bound)
    → IsWithout n old new q x → AreRemembered n rows state old → AreRemembered n others state new
all_alike_within n rows others state old new q x lawful recoverable alike is known p in_cluster = elim (is p in_cluster) [
  | inl less ↦ elim less [
    | inl none ↦ subst (λ (o : Option FailedClimb). MatchOption o ⊤ (IsTrueMemory n others state p)) (sym none) tt
    | inr left ↦
        let before : IsTrueMemory n rows state p left.0 = subst (λ (o : Option FailedClimb). MatchOption o ⊤ (IsTrueMemory n rows state p)) left.1 (known p in_cluster) in
        let part : IsRemembered n others state p (part_of left.0) = remembered_alike n rows others state p (part_of left.0) lawful recoverable (alike left.0.passed left.3) before.part in
        subst (λ (o : Option FailedClimb). MatchOption o ⊤ (IsTrueMemory n others state p)) (sym left.2) (record { whole = part; part = part })
  ]
  | inr left ↦
      subst (λ (o : Option FailedClimb). MatchOption o ⊤ (IsTrueMemory n others state p)) (sym left.0)
      (match_both (IsTrueMemory n rows state p) (IsUpTo q x) (IsTrueMemory n others state p) (slice_index_or old p None)
      (λ memory remembered low. known_alike n rows others state p memory lawful recoverable (alike memory.reached low.reached) (alike memory.passed low.passed) remembered) (known p in_cluster) left.1)
]

-- the rows before a row was added are lawful
lawful_before : (n : ℕ) (before : Rows) (row : Row) → IsLawful n (set.insert before row) → IsLawful n before
lawful_before n before row lawful = record {
  known = λ one there. lawful.known one (kept before row one there);
  numbered = λ one there. lawful.numbered one (kept before row one there);
  fair = λ one there. lawful.fair one (kept before row one there);
  agree = λ one other there also. lawful.agree one other (kept before row one there) (kept before row other also);
  rise = λ low high there also. lawful.rise low high (kept before row low there) (kept before row high also);
}

-- with a row that makes nothing stable above the state
pub all_kept : (n : ℕ) (before after : Rows) (row : Row) (state : List ℕ) (places : List (Option FailedClimb)) → after ≡ set.insert before row → IsLawful n after → IsRecoverable n before state
    → ((y : ℕ) → IsStable after row.pid y → slice_index state row.pid < y → IsStable before row.pid y) → AreRemembered n before state places → AreRemembered n after state places
all_kept n before after row state places added lawful recoverable nothing known =
    subst (λ (rows : Rows). AreRemembered n rows state places) (sym added)
    (all_alike n before (set.insert before row) state places (lawful_before n before row (subst (λ (rows : Rows). IsLawful n rows) added lawful)) recoverable (λ bound. record {
      there = λ one there _ _. kept before row one there;
      stable = λ j z _ _. stable_kept before row j z;
      new = λ j z above stable. elim (cases_order j row.pid) [
        | inl here ↦ inl (subst (λ r. IsStable before r z) (sym here) (nothing z (subst (λ (rows : Rows). IsStable rows row.pid z) (sym added) (subst (λ r. IsStable (set.insert before row) r z) here stable)) (omega (arith, above, ap (slice_index state) here))))
        | inr apart ↦ inl (stable_before before row j z (λ is. absurd (elim apart [ inl less ↦ omega (arith, less, is) | inr more ↦ omega (arith, more, is) ])) stable)
      ];
    }) known)

-- with any row, where those that came further than its interval are dropped
pub all_without : (n : ℕ) (before after : Rows) (row : Row) (state : List ℕ) (old new : List (Option FailedClimb)) → after ≡ set.insert before row → IsLawful n after → IsRecoverable n before state → IsWithout n old new row.pid row.interval
    → AreRemembered n before state old → AreRemembered n after state new
all_without n before after row state old new added lawful recoverable is known =
    subst (λ (rows : Rows). AreRemembered n rows state new) (sym added)
    (all_alike_within n before (set.insert before row) state old new row.pid row.interval (lawful_before n before row (subst (λ (rows : Rows). IsLawful n rows) added lawful)) recoverable (λ bound low. record {
      there = λ one there _ _. kept before row one there;
      stable = λ j z _ _. stable_kept before row j z;
      new = λ j z above stable. elim (at_most_or_more row.interval z) [
        | inr short ↦ inl (stable_before before row j z (λ _. short) stable)
        | inl past ↦ elim (cases_order j row.pid) [
          | inl here ↦ inr (omega (arith, low, past, ap (slice_index bound) here))
          | inr apart ↦ inl (stable_before before row j z (λ same. absurd (elim apart [ inl less ↦ omega (arith, less, same) | inr more ↦ omega (arith, more, same) ])) stable)
        ]
      ];
    }) is known)

-- where the rows of a process above an interval are gone, and those that came further are dropped
pub all_cut : (n : ℕ) (rows left : Rows) (state : List ℕ) (old new : List (Option FailedClimb)) (q r : ℕ) → IsLawful n rows → IsRecoverable n rows state
    → ((row : Row) → HasRow left row → HasRow rows row) → ((row : Row) → HasRow rows row → (row.pid ≡ q → row.interval ≤ r) → HasRow left row)
    → IsWithout n old new q r → AreRemembered n rows state old → AreRemembered n left state new
all_cut n rows left state old new q r lawful recoverable fewer there_still =
    all_alike_within n rows left state old new q r lawful recoverable (λ bound low. record {
      there = λ one there _ within. there_still one there (λ same. omega (arith, within, low, ap (slice_index bound) same));
      stable = λ j z _ within stable. stable_by_records rows left j z (λ kind y at_most has. record {
        row = has.row;
        there = there_still has.row has.there (λ same. omega (arith, at_most, within, low, has.interval_is, ap (slice_index bound) (sym has.pid_is ∙ same)));
        kind_is = has.kind_is;
        pid_is = has.pid_is;
        interval_is = has.interval_is;
      }) stable;
      new = λ j z _ stable. inl (stable_by_records left rows j z (λ kind y _ has. record { row = has.row; there = fewer has.row has.there; kind_is = has.kind_is; pid_is = has.pid_is; interval_is = has.interval_is }) stable);
    })

-- where the rows of a process below a checkpoint at or below the state are gone
pub all_pruned : (n : ℕ) (rows left : Rows) (state : List ℕ) (places : List (Option FailedClimb)) (q c : ℕ) → IsLawful n rows → IsRecoverable n rows state
    → ((row : Row) → HasRow left row → HasRow rows row) → ((row : Row) → HasRow rows row → (row.pid ≡ q → c ≤ row.interval) → HasRow left row)
    → c ≤ slice_index state q → Has left Checkpoint q c → AreRemembered n rows state places → AreRemembered n left state places
all_pruned n rows left state places q c lawful recoverable fewer there_still low checkpoint =
    all_alike n rows left state places lawful recoverable (λ bound. record {
      there = λ one there above _. there_still one there (λ same. omega (arith, above, low, ap (slice_index state) same));
      stable = λ j z above _ stable. elim (at_most_or_more c stable.from) [
        | inl far ↦ record {
          from = stable.from;
          checkpoint = carried Checkpoint j stable.from (λ _. far) stable.checkpoint;
          below = stable.below;
          logged = λ y past at_most. carried Log j y (λ _. omega (arith, far, past)) (stable.logged y past at_most);
        }
        | inr near ↦ elim (cases_order j q) [
          | inl here ↦ record {
            from = c;
            checkpoint = subst (λ k. Has left Checkpoint k c) (sym here) checkpoint;
            below = omega (arith, above, low, ap (slice_index state) here);
            logged = λ y past at_most. carried Log j y (λ _. omega (arith, past)) (stable.logged y (omega (arith, near, past)) at_most);
          }
          | inr apart ↦ record {
            from = stable.from;
            checkpoint = carried Checkpoint j stable.from (λ is. absurd (other j apart is)) stable.checkpoint;
            below = stable.below;
            logged = λ y past at_most. carried Log j y (λ is. absurd (other j apart is)) (stable.logged y past at_most);
          }
        ]
      ];
      new = λ j z _ stable. inl (stable_by_records left rows j z (λ kind y _ has. record { row = has.row; there = fewer has.row has.there; kind_is = has.kind_is; pid_is = has.pid_is; interval_is = has.interval_is }) stable);
    })
  where
    other : (j : ℕ) → (j < q) ⊎ (q < j) → j ≡ q → ⊥
    other j apart is = elim apart [ inl less ↦ omega (arith, less, is) | inr more ↦ omega (arith, more, is) ]

    carried : (kind : RowKind) (j y : ℕ) → (j ≡ q → c ≤ y) → Has rows kind j y → Has left kind j y
    carried kind j y far has = record {
      row = has.row;
      there = there_still has.row has.there (λ same. omega (arith, far (sym has.pid_is ∙ same), has.interval_is));
      kind_is = has.kind_is;
      pid_is = has.pid_is;
      interval_is = has.interval_is;
    }

-- where there are none
pub none_remembered : (n : ℕ) (rows : Rows) (state : List ℕ) (places : List (Option FailedClimb)) → ((p : ℕ) → slice_index_or places p None ≡ None) → AreRemembered n rows state places
none_remembered n rows state places none p in_cluster = subst (λ (o : Option FailedClimb). MatchOption o ⊤ (IsTrueMemory n rows state p)) (sym (none p)) tt

-- each has a place for each process
pub all_places : (n : ℕ) (rows : Rows) (state : List ℕ) (places : List (Option FailedClimb)) (p : ℕ) → p < n → AreRemembered n rows state places → (q : ℕ) → q < n → MatchOption (slice_index_or places q None) ⊤ (HasPlace p)
all_places n rows state places p process known q in_cluster =
    match_map (IsTrueMemory n rows state q) (HasPlace p) (slice_index_or places q None) (λ memory known. record { reached = omega (arith, process, known.whole.places); passed = omega (arith, process, known.part.places) }) (known q in_cluster)

-- the places before are the greater ones, and the others are as they were
pub record IsMaximumTo (one other greater : List ℕ) (p : ℕ) : Type 0 where
  pub places : length greater ≡ length one
  pub before : (k : ℕ) → k < p → slice_index greater k ≡ max (slice_index one k) (slice_index other k)
  pub behind : (k : ℕ) → p ≤ k → slice_index greater k ≡ slice_index one k

pub maximum_step : (one other greater next : List ℕ) (p q y : ℕ) → p < length one → q ≡ p → y ≡ slice_index other q → next ≡ slice_set greater q (max (slice_index greater q) y)
    → IsMaximumTo one other greater p → IsMaximumTo one other next (p + 1)
maximum_step one other greater next p q y within at is set_is so_far =
    let in_greater : q < length greater = omega (arith, within, at, so_far.places) in
    let here : slice_index greater q ≡ slice_index one q = so_far.behind q (omega (arith, at)) in
    let place : (k : ℕ) → slice_index next k ≡ slice_index (slice_set greater q (max (slice_index greater q) y)) k = λ k. ap (λ (v : List ℕ). slice_index v k) set_is in
    record {
      places = ap length set_is ∙ length-set greater q (max (slice_index greater q) y) ∙ so_far.places;
      before = λ k less. elim (set_place greater q (max (slice_index greater q) y) k in_greater) [
        | inl same ↦ place k ∙ same.1 ∙ (subst (λ j. max (slice_index greater q) y ≡ max (slice_index one j) (slice_index other j)) (sym same.0) (omega (arith, here, is)))
        | inr apart ↦ place k ∙ apart.1 ∙ so_far.before k (elim (cases_order k p) [ inl same ↦ absurd (apart.0 (same ∙ sym at)) | inr far ↦ elim far [ inl below ↦ below | inr more ↦ absurd (omega (arith, less, more)) ] ])
      ];
      behind = λ k past. elim (set_place greater q (max (slice_index greater q) y) k in_greater) [
        | inl same ↦ absurd (omega (arith, past, same.0, at))
        | inr apart ↦ place k ∙ apart.1 ∙ so_far.behind k (omega (arith, past))
      ];
    }

pub maximum_whole : (one other greater : List ℕ) (p : ℕ) → length one ≡ length other → length one ≤ p → IsMaximumTo one other greater p → greater ≡ maximum_of one other
maximum_whole one other greater p same past so_far =
    same_number_lists greater (maximum_of one other) (so_far.places ∙ sym (length-maximum_of one other same)) (λ k within.
    so_far.before k (omega (arith, within, so_far.places, past)) ∙ sym (place-maximum_of one other k same (omega (arith, within, so_far.places))))

-- where nothing is remembered, there is nothing to forget
pub without_any : (n : ℕ) (places : List (Option FailedClimb)) (p x : ℕ) → ((q : ℕ) → slice_index_or places q None ≡ None) → IsWithout n places places p x
without_any n places p x none q _ = inr (refl, subst (λ (o : Option FailedClimb). MatchOption o ⊤ (IsUpTo p x)) (sym (none q)) tt)
