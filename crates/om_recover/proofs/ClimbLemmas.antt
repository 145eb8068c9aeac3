use Rattle.std.proofs.Common.{◌≡◌, ℕ, ◌+◌, ◌-◌, ◌*◌, ◌^◌, ◌<◌, ◌≤◌, ◌⊎◌, inl, inr, refl, sym, ◌∙◌, ap, subst, arith, List, [], ◌∷◌, All, length, sum, slice_index, slice_index_or, slice_set, length-set, get_or-set_same, get_or-set_other, zero, suc}
use Rattle.std.proofs.lemmas.Bool.{cases_order}
use Rattle.std.proofs.lemmas.List.{get_or_past, set-get_or}
use Rattle.std.proofs.lemmas.List.Elements.{All-cons, All-nil}
use Rattle.std.proofs.lemmas.List.Kept.{AllPairs-cons}
use Rattle.std.proofs.lemmas.List.Sums.{sum_by-cons}
use Rattle.om_interval.specs.Vectors.{IsBelow}
use Rattle.om_recover.specs.Rows.{Rows, HasRow, Has, IsLawful}
use Rattle.om_recover.specs.Recoverable.{IsStable, IsRecoverable, maximum_of}
use Rattle.om_recover.specs.Attempts.{Attempt}
use Rattle.om_recover.specs.steps.Trail.{with_look, with_attempt}
use Rattle.om_recover.specs.Climb.{IsLeastStable, IsNeeded, starts, follows, IsClimbed}
use Rattle.om_recover.specs.steps.Climbing.{HasLooked, IsUnderWay, IsAttempted, without_newest, IsForced, IsBlocked, IsNeededWithin, begins, leads, IsClimbing, IsOutOfReach}
use Rattle.om_recover.specs.declared.row.RowKind.{RowKind}
use Rattle.om_recover.specs.declared.row.Row.{Row}
use Rattle.om_interval.proofs.VectorLemmas.{below_itself, below_through}
use Rattle.om_recover.proofs.StableLemmas.{record_of_stable}
use Rattle.om_recover.proofs.LawLemmas.{recoverable_maximum, one_below, other_below}

-- either, by the order of two numbers
pub at_most_or_more : (a b : ℕ) → (a ≤ b) ⊎ (b < a)
at_most_or_more a b = elim (cases_order a b) [
  | inl same ↦ inl (omega arith)
  | inr apart ↦ elim apart [ inl less ↦ inl (omega arith) | inr more ↦ inr more ]
]

-- a place of a vector in which one was set
pub set_place : (v : List ℕ) (q y k : ℕ) → q < length v → ((k ≡ q) × (slice_index (slice_set v q y) k ≡ y)) ⊎ ((k ≡ q → ⊥) × (slice_index (slice_set v q y) k ≡ slice_index v k))
set_place v q y k within = elim (cases_order k q) [
  | inl same ↦ inl (same, ap (slice_index (slice_set v q y)) same ∙ get_or-set_same v q y 0 within)
  | inr apart ↦
      let other : k ≡ q → ⊥ = elim apart [ inl less ↦ λ same. absurd (omega arith) | inr more ↦ λ same. absurd (omega arith) ] in
      inr (other, get_or-set_other v q k y 0 other)
]

-- the vector of an interval at or below a recoverable state is within the state
pub vec_below : (n : ℕ) (rows : Rows) (state : List ℕ) (row : Row) → IsLawful n rows → IsRecoverable n rows state → HasRow rows row → row.interval ≤ slice_index state row.pid → IsBelow row.vec state
vec_below n rows state row lawful recoverable there at_most =
    let has = (record_of_stable rows row.pid (slice_index state row.pid) (recoverable.stable row.pid (lawful.known row there))).1 in
    let closed : IsBelow has.row.vec state = recoverable.closed has.row has.there (has.interval_is ∙ ap (slice_index state) (sym has.pid_is)) in
    elim (cases_order row.interval (slice_index state row.pid)) [
      | inl same ↦ recoverable.closed row there same
      | inr apart ↦ elim apart [
        | inl less ↦
            let rise = lawful.rise row has.row there has.there (sym has.pid_is) (omega (arith, less, has.interval_is)) in
            below_through row.vec has.row.vec state rise.vec closed
        | inr more ↦ absurd (omega (arith, more, at_most))
      ]
    ]

-- what is needed within a bound is needed
pub needed_within : (rows : Rows) (state bound : List ℕ) (p x q y : ℕ) → IsNeededWithin rows state bound p x q y → IsNeeded rows state p x q y
needed_within rows state bound p x q y begins = starts
needed_within rows state bound p x q y (leads row _ _ before there beyond least low) =
    follows row q y (needed_within rows state bound p x row.pid row.interval before) there beyond least

-- and within a higher bound
pub within_higher : (rows : Rows) (state bound higher : List ℕ) (p x q y : ℕ) → ((k : ℕ) → slice_index bound k ≤ slice_index higher k) → IsNeededWithin rows state bound p x q y → IsNeededWithin rows state higher p x q y
within_higher rows state bound higher p x q y rises begins = begins
within_higher rows state bound higher p x q y rises (leads row _ _ before there beyond least low) =
    leads row q y (within_higher rows state bound higher p x row.pid row.interval rises before) there beyond least (omega (arith, low, rises q))

-- below at every place
pub below_everywhere : (a b : List ℕ) → IsBelow a b → (k : ℕ) → slice_index a k ≤ slice_index b k
below_everywhere a b below k = elim (at_most_or_more (length a) k) [
  | inl past ↦ omega (arith, get_or_past a k 0 past)
  | inr within ↦ below.each k within
]

-- before the first look
pub climbing_start : (n : ℕ) (rows : Rows) (state : List ℕ) (p x : ℕ) → length state ≡ n → IsRecoverable n rows state → p < n → IsStable rows p x → slice_index state p < x
    → IsClimbing n rows state p x (slice_set state p x) state
climbing_start n rows state p x places recoverable process stable above =
    let within : p < length state = omega (arith, process, places) in
    let risen : IsBelow state (slice_set state p x) = record {
      same_places = sym (length-set state p x);
      each = λ q in_state. elim (set_place state p x q within) [
        | inl here ↦ omega (arith, here.1, above, ap (slice_index state) here.0)
        | inr there ↦ omega (arith, there.1)
      ];
    } in
    record {
      reached_places = length-set state p x ∙ places;
      looked_places = places;
      from_state = below_itself state;
      behind = risen;
      started = omega (arith, get_or-set_same state p x 0 within);
      stable = λ q in_cluster. elim (set_place state p x q within) [
        | inl here ↦ subst (IsStable rows q) (sym here.1) (subst (λ r. IsStable rows r x) (sym here.0) stable)
        | inr there ↦ subst (IsStable rows q) (sym there.1) (recoverable.stable q in_cluster)
      ];
      needed = λ q in_cluster higher. elim (set_place state p x q within) [
        | inl here ↦ subst (IsNeededWithin rows state (slice_set state p x) p x q) (sym here.1) (subst (λ r. IsNeededWithin rows state (slice_set state p x) p x r x) (sym here.0) begins)
        | inr there ↦ absurd (omega (arith, there.1, higher))
      ];
      closed = λ row there at_state. below_through row.vec state (slice_set state p x) (recoverable.closed row there at_state) risen;
      forced = λ other of_other below started. record {
        same_places = length-set state p x ∙ below.same_places;
        each = λ q in_set. elim (set_place state p x q within) [
          | inl here ↦ omega (arith, here.1, started, ap (slice_index other) here.0)
          | inr there ↦ omega (arith, there.1, below.each q (omega (arith, in_set, length-set state p x)))
        ];
      };
    }

-- the vector read, within what was forced
vec_within : (rows : Rows) (reached vec higher : List ℕ) → length vec ≡ length reached → IsForced rows reached vec higher → IsBelow vec higher
vec_within rows reached vec higher same forced = record {
  same_places = same ∙ sym forced.places;
  each = λ j within. elim (at_most_or_more (slice_index vec j) (slice_index reached j)) [
    | inl at_most ↦ omega (arith, at_most, forced.kept j (omega (arith, within, same)) at_most)
    | inr more ↦ (forced.raised j (omega (arith, within, same)) more).above
  ];
}

pub reached_within : (rows : Rows) (reached vec higher : List ℕ) → IsForced rows reached vec higher → IsBelow reached higher
reached_within rows reached vec higher forced = record {
  same_places = sym forced.places;
  each = λ j within. elim (at_most_or_more (slice_index vec j) (slice_index reached j)) [
    | inl at_most ↦ omega (arith, forced.kept j within at_most)
    | inr more ↦ omega (arith, more, (forced.raised j within more).above)
  ];
}

-- the row of an interval that was reached
pub row_of : (n : ℕ) (rows : Rows) (state : List ℕ) (p x q : ℕ) (reached looked : List ℕ) → IsClimbing n rows state p x reached looked → q < n → (kind : RowKind) × Has rows kind q (slice_index reached q)
row_of n rows state p x q reached looked climbing in_cluster = record_of_stable rows q (slice_index reached q) (climbing.stable q in_cluster)

-- the vector of each row of an interval
abbrev pub IsVecAt : Rows → ℕ → ℕ → List ℕ → Type 0
IsVecAt rows q y vec = (row : Row) → HasRow rows row → row.pid ≡ q → row.interval ≡ y → row.vec ≡ vec

-- it has a place for each process
pub vec_places : (n : ℕ) (rows : Rows) (q y : ℕ) (vec : List ℕ) → IsLawful n rows → (kind : RowKind) × Has rows kind q y → IsVecAt rows q y vec → length vec ≡ n
vec_places n rows q y vec lawful found is = ap length (sym (is found.1.row found.1.there found.1.pid_is found.1.interval_is)) ∙ (lawful.fair found.1.row found.1.there).vec_places

-- after a look that forced others
pub climbing_step : (n : ℕ) (rows : Rows) (state : List ℕ) (p x q y : ℕ) (reached looked vec higher : List ℕ) → IsLawful n rows → IsClimbing n rows state p x reached looked
    → q < n → y ≡ slice_index reached q → slice_index looked q < y → IsVecAt rows q y vec → IsForced rows reached vec higher → IsClimbing n rows state p x higher (slice_set looked q y)
climbing_step n rows state p x q y reached looked vec higher lawful climbing in_cluster at behind is forced =
    let found : (kind : RowKind) × Has rows kind q y = subst (λ z. (kind : RowKind) × Has rows kind q z) (sym at) (row_of n rows state p x q reached looked climbing in_cluster) in
    let has = found.1 in
    let row_vec : has.row.vec ≡ vec = is has.row has.there has.pid_is has.interval_is in
    let same : length vec ≡ length reached = vec_places n rows q y vec lawful found is ∙ sym climbing.reached_places in
    let within : q < length looked = omega (arith, in_cluster, climbing.looked_places) in
    let rises : IsBelow reached higher = reached_within rows reached vec higher forced in
    let above_state : slice_index state q ≤ slice_index looked q = climbing.from_state.each q (omega (arith, within, climbing.from_state.same_places)) in
    record {
      reached_places = forced.places ∙ climbing.reached_places;
      looked_places = length-set looked q y ∙ climbing.looked_places;
      from_state = record {
        same_places = climbing.from_state.same_places ∙ sym (length-set looked q y);
        each = λ k in_state. elim (set_place looked q y k within) [
          | inl here ↦ omega (arith, here.1, above_state, behind, ap (slice_index state) here.0)
          | inr there ↦ omega (arith, there.1, climbing.from_state.each k in_state)
        ];
      };
      behind = record {
        same_places = length-set looked q y ∙ climbing.behind.same_places ∙ sym forced.places;
        each = λ k in_set.
            let in_looked : k < length looked = omega (arith, in_set, length-set looked q y) in
            let rise : slice_index reached k ≤ slice_index higher k = rises.each k (omega (arith, in_looked, climbing.behind.same_places)) in
            elim (set_place looked q y k within) [
              | inl here ↦ omega (arith, here.1, at, rise, ap (slice_index reached) here.0)
              | inr there ↦ omega (arith, there.1, climbing.behind.each k in_looked, rise)
            ];
      };
      started = elim (at_most_or_more (length reached) p) [
        | inl past ↦ omega (arith, climbing.started, get_or_past reached p 0 past)
        | inr in_reached ↦ omega (arith, climbing.started, rises.each p in_reached)
      ];
      stable = λ k k_in. let k_reached : k < length reached = omega (arith, k_in, climbing.reached_places) in
          elim (at_most_or_more (slice_index vec k) (slice_index reached k)) [
            | inl at_most ↦ subst (IsStable rows k) (sym (forced.kept k k_reached at_most)) (climbing.stable k k_in)
            | inr more ↦ (forced.raised k k_reached more).stable
          ];
      needed = λ k k_in higher_than. let k_reached : k < length reached = omega (arith, k_in, climbing.reached_places) in
          elim (at_most_or_more (slice_index vec k) (slice_index reached k)) [
            | inl at_most ↦ subst (IsNeededWithin rows state higher p x k) (sym (forced.kept k k_reached at_most)) (within_higher rows state reached higher p x k (slice_index reached k) (below_everywhere reached higher rises) (climbing.needed k k_in (omega (arith, higher_than, forced.kept k k_reached at_most))))
            | inr more ↦
                let k_state : slice_index state k ≤ slice_index looked k = climbing.from_state.each k (omega (arith, k_reached, climbing.from_state.same_places, climbing.behind.same_places)) in
                let k_looked : slice_index looked k ≤ slice_index reached k = climbing.behind.each k (omega (arith, k_reached, climbing.behind.same_places)) in
                let from_here : IsNeededWithin rows state higher p x q y = within_higher rows state reached higher p x q y (below_everywhere reached higher rises) (subst (IsNeededWithin rows state reached p x q) (sym at) (climbing.needed q in_cluster (omega (arith, above_state, behind, at)))) in
                let of_row : IsNeededWithin rows state higher p x has.row.pid has.row.interval =
                subst (λ r. IsNeededWithin rows state higher p x r has.row.interval) (sym has.pid_is) (subst (IsNeededWithin rows state higher p x q) (sym has.interval_is) from_here) in
                let same_place : slice_index has.row.vec k ≡ slice_index vec k = ap (λ v. slice_index v k) row_vec in
                leads has.row k (slice_index higher k) of_row has.there (omega (arith, k_state, k_looked, more, same_place))
                (subst (λ v. IsLeastStable rows k v (slice_index higher k)) (sym same_place) (forced.raised k k_reached more)) (omega arith)
          ];
      closed = λ row there at_looked. elim (set_place looked q y row.pid within) [
        | inl here ↦ subst (λ v. IsBelow v higher) (sym (is row there here.0 (at_looked ∙ here.1))) (vec_within rows reached vec higher same forced)
        | inr other ↦ below_through row.vec reached higher (climbing.closed row there (at_looked ∙ other.1)) rises
      ];
      forced = λ other of_other below at_start.
          let so_far : IsBelow reached other = climbing.forced other of_other below at_start in
          let q_reached : q < length reached = omega (arith, in_cluster, climbing.reached_places) in
          let read : IsBelow vec other = subst (λ v. IsBelow v other) row_vec (vec_below n rows other has.row lawful of_other has.there
          (omega (arith, has.interval_is, at, so_far.each q q_reached, ap (slice_index other) has.pid_is))) in
          record {
            same_places = forced.places ∙ so_far.same_places;
            each = λ k in_higher. let k_reached : k < length reached = omega (arith, in_higher, forced.places) in
                elim (at_most_or_more (slice_index vec k) (slice_index reached k)) [
                  | inl at_most ↦ omega (arith, forced.kept k k_reached at_most, so_far.each k k_reached)
                  | inr more ↦ (forced.raised k k_reached more).least (slice_index other k) (of_other.stable k (omega (arith, k_reached, climbing.reached_places))) (read.each k (omega (arith, k_reached, same)))
                ];
          };
    }

-- where nothing is left to look at
pub climb_ends : (n : ℕ) (rows : Rows) (state : List ℕ) (p x : ℕ) (reached looked : List ℕ) → IsClimbing n rows state p x reached looked → looked ≡ reached → IsClimbed n rows state p x reached
climb_ends n rows state p x reached looked climbing done = record {
  recoverable = record {
    places = climbing.reached_places;
    stable = climbing.stable;
    closed = λ row there at_state. climbing.closed row there (at_state ∙ ap (λ v. slice_index v row.pid) (sym done));
  };
  above = below_through state looked reached climbing.from_state climbing.behind;
  started = climbing.started;
  least = climbing.forced;
}

-- where a vector that was read names what no stable interval of its process reaches
pub climb_fails : (n : ℕ) (rows : Rows) (state : List ℕ) (p x q y at_q : ℕ) (reached looked vec : List ℕ) → IsLawful n rows → IsRecoverable n rows state → IsClimbing n rows state p x reached looked
    → p < n → q < n → y ≡ slice_index reached q → IsVecAt rows q y vec → IsBlocked rows reached vec at_q → IsOutOfReach n rows p x
climb_fails n rows state p x q y at_q reached looked vec lawful recoverable climbing p_in in_cluster at is blocked other of_other = elim (at_most_or_more x (slice_index other p)) [
  | inr below ↦ below
  | inl at_start ↦
      let same : length state ≡ length other = recoverable.places ∙ sym of_other.places in
      let both : List ℕ = maximum_of state other in
      let of_both : IsRecoverable n rows both = recoverable_maximum n rows state other recoverable of_other in
      let above_state : IsBelow state both = one_below state other same in
      let above_other : IsBelow other both = other_below state other same in
      let so_far : IsBelow reached both = climbing.forced both of_both above_state (omega (arith, at_start, above_other.each p (omega (arith, p_in, of_other.places)))) in
      let found : (kind : RowKind) × Has rows kind q y = subst (λ z. (kind : RowKind) × Has rows kind q z) (sym at) (row_of n rows state p x q reached looked climbing in_cluster) in
      let has = found.1 in
      let q_reached : q < length reached = omega (arith, in_cluster, climbing.reached_places) in
      let read : IsBelow vec both = subst (λ v. IsBelow v both) (is has.row has.there has.pid_is has.interval_is) (vec_below n rows both has.row lawful of_both has.there
      (omega (arith, has.interval_is, at, so_far.each q q_reached, ap (slice_index both) has.pid_is))) in
      let in_vec : at_q < length vec = omega (arith, blocked.within, climbing.reached_places, vec_places n rows q y vec lawful found is) in
      absurd (blocked.none (slice_index both at_q) (of_both.stable at_q (omega (arith, blocked.within, climbing.reached_places))) (read.each at_q in_vec))
]

-- before the first look there are none
pub looked_nothing : (rows : Rows) (state : List ℕ) (p x : ℕ) → HasLooked rows state p x state []
looked_nothing rows state p x = record {
  lawful = record { needed = All-nil (λ look. IsNeeded rows state p x look.0 look.1); once = λ i j d less within. absurd (omega (arith, within)) };
  seen = All-nil (λ look. look.1 ≤ slice_index state look.0);
}

-- one look more, at an interval that was reached and not read
pub looked_step : (n : ℕ) (rows : Rows) (state : List ℕ) (p x q y : ℕ) (reached looked : List ℕ) (looks : List (ℕ × ℕ)) → IsClimbing n rows state p x reached looked
    → q < n → y ≡ slice_index reached q → slice_index looked q < y → HasLooked rows state p x looked looks → HasLooked rows state p x (slice_set looked q y) ((q, y) ∷ looks)
looked_step n rows state p x q y reached looked looks climbing in_cluster at behind before =
    let within : q < length looked = omega (arith, in_cluster, climbing.looked_places) in
    let above_state : slice_index state q ≤ slice_index looked q = climbing.from_state.each q (omega (arith, within, climbing.from_state.same_places)) in
    let here : IsNeeded rows state p x q y = needed_within rows state reached p x q y (subst (IsNeededWithin rows state reached p x q) (sym at) (climbing.needed q in_cluster (omega (arith, above_state, behind, at)))) in
    let apart : All (λ other. (q, y) ≡ other → ⊥) looks = λ k d in_looks same.
    let seen = before.seen k d in_looks in
    let at_q = ap (λ (look : ℕ × ℕ). slice_index looked look.0) same in
    let at_y = ap (λ (look : ℕ × ℕ). look.1) same in
    absurd (omega (arith, seen, at_q, at_y, behind)) in
    let risen : (look : ℕ × ℕ) → look.1 ≤ slice_index looked look.0 → look.1 ≤ slice_index (slice_set looked q y) look.0 = λ look seen. elim (set_place looked q y look.0 within) [
      | inl is ↦ omega (arith, seen, is.1, behind, ap (slice_index looked) is.0)
      | inr other ↦ omega (arith, seen, other.1)
    ] in
    record {
      lawful = record {
        needed = All-cons (λ look. IsNeeded rows state p x look.0 look.1) (q, y) looks here before.lawful.needed;
        once = AllPairs-cons (λ one other. one ≡ other → ⊥) (q, y) looks apart before.lawful.once;
      };
      seen = All-cons (λ look. look.1 ≤ slice_index (slice_set looked q y) look.0) (q, y) looks (omega (arith, get_or-set_same looked q y 0 within)) (λ k d in_looks. risen (slice_index_or looks k d) (before.seen k d in_looks));
    }

-- an attempt that has no looks yet
pub under_way_start : (rows : Rows) (state : List ℕ) (p x : ℕ) (old new : List Attempt) → new ≡ with_attempt old p x state → IsUnderWay rows state p x state old new
under_way_start rows state p x old new attempted = record { looks = []; added = attempted; looked_at = looked_nothing rows state p x }

-- and with one look more
pub under_way_step : (n : ℕ) (rows : Rows) (state : List ℕ) (p x q y : ℕ) (reached looked : List ℕ) (older old new : List Attempt) → IsClimbing n rows state p x reached looked
    → q < n → y ≡ slice_index reached q → slice_index looked q < y → IsUnderWay rows state p x looked older old → new ≡ with_look old q y
    → IsUnderWay rows state p x (slice_set looked q y) older new
under_way_step n rows state p x q y reached looked older old new climbing in_cluster at behind before counted = record {
  looks = (q, y) ∷ before.looks;
  added = counted ∙ ap (λ attempts. with_look attempts q y) before.added;
  looked_at = looked_step n rows state p x q y reached looked before.looks climbing in_cluster at behind before.looked_at;
}

-- the attempts before it are those without the newest
pub older_of : (rows : Rows) (state : List ℕ) (p x : ℕ) (looked : List ℕ) (older new : List Attempt) → IsUnderWay rows state p x looked older new → without_newest new ≡ older
older_of rows state p x looked older new under_way = ap without_newest under_way.added

pub under_way_anew : (rows : Rows) (state : List ℕ) (p x : ℕ) (looked : List ℕ) (older new : List Attempt) → IsUnderWay rows state p x looked older new → IsUnderWay rows state p x looked (without_newest new) new
under_way_anew rows state p x looked older new under_way =
    subst (λ earlier. IsUnderWay rows state p x looked earlier new) (sym (older_of rows state p x looked older new under_way)) under_way

pub attempted_by : (rows : Rows) (state : List ℕ) (p x : ℕ) (looked : List ℕ) (older new : List Attempt) → IsUnderWay rows state p x looked older new → IsAttempted rows state p x older new
attempted_by rows state p x looked older new under_way = record { looks = under_way.looks; added = under_way.added; lawful = under_way.looked_at.lawful }

-- a vector within what was reached forces nothing
pub forced_nothing : (rows : Rows) (state vec : List ℕ) → IsBelow vec state → IsForced rows state vec state
forced_nothing rows state vec within = record {
  places = refl;
  kept = λ j _ _. refl;
  raised = λ j in_state more. absurd (omega (arith, more, within.each j (omega (arith, in_state, within.same_places))));
}

-- where a climb begins with nothing remembered: at the state, raised at a process
pub climbing_anew : (rows : Rows) (state begun : List ℕ) (p x : ℕ) → IsRecoverable (length state) rows state → p < length state → IsStable rows p x → slice_index state p < x
    → begun ≡ slice_set state p x → IsClimbing (length state) rows state p x begun state
climbing_anew rows state begun p x recoverable process start above is =
    subst (λ (reached : List ℕ). IsClimbing (length state) rows state p x reached state) (sym is) (climbing_start (length state) rows state p x refl recoverable process start above)

pub raised_here : (state begun : List ℕ) (p x : ℕ) → p < length state → begun ≡ slice_set state p x → x ≡ slice_index begun p
raised_here state begun p x within is = sym (ap (λ v. slice_index v p) is ∙ get_or-set_same state p x 0 within)

pub raised_again : (state begun : List ℕ) (p x : ℕ) → p < length state → begun ≡ slice_set state p x → slice_set begun p x ≡ begun
raised_again state begun p x within is = ap (slice_set begun p) (raised_here state begun p x within is) ∙ set-get_or begun p 0

-- the sum of a vector of numbers within a bound
pub sum_within : (bound : ℕ) (v : List ℕ) → ((k : ℕ) → k < length v → slice_index v k ≤ bound) → sum v ≤ length v * bound
sum_within bound [] each = omega arith
sum_within bound (x ∷ v) each =
    let first : x ≤ bound = each zero (omega arith) in
    let rest : sum v ≤ length v * bound = sum_within bound v (λ k within. each (suc k) (omega arith)) in
    omega (arith, first, rest, sum_by-cons (λ (n : ℕ). n) x v, times_suc (length v) bound)
  where
    times_suc : (a b : ℕ) → (suc a) * b ≡ b + a * b
    times_suc a b = omega arith

sum_set : (v : List ℕ) (q y : ℕ) → q < length v → sum (slice_set v q y) + slice_index v q ≡ sum v + y
sum_set [] q y within = absurd (omega (arith, within))
sum_set (x ∷ v) zero y within = omega (arith, sum_by-cons (λ (n : ℕ). n) x v, sum_by-cons (λ (n : ℕ). n) y v)
sum_set (x ∷ v) (suc q) y within = omega (arith, sum_by-cons (λ (n : ℕ). n) x v, sum_by-cons (λ (n : ℕ). n) x (slice_set v q y), sum_set v q y (omega (arith, within)))

-- how far the looks can still rise
abbrev pub left_to_look : ℕ → List ℕ → ℕ
left_to_look n looked = n * 2 ^ 32 - sum looked

pub looks_fall : (n : ℕ) (rows : Rows) (state : List ℕ) (p x q y : ℕ) (reached looked : List ℕ) → IsLawful n rows → IsClimbing n rows state p x reached looked
    → q < n → y ≡ slice_index reached q → slice_index looked q < y → left_to_look n (slice_set looked q y) < left_to_look n looked
looks_fall n rows state p x q y reached looked lawful climbing in_cluster at behind =
    let within : q < length looked = omega (arith, in_cluster, climbing.looked_places) in
    let numbered : (k : ℕ) → k < n → slice_index reached k < 2 ^ 32 = λ k k_in.
    let has = (row_of n rows state p x k reached looked climbing k_in).1 in omega (arith, lawful.numbered has.row has.there, has.interval_is) in
    let bounded : (k : ℕ) → k < length (slice_set looked q y) → slice_index (slice_set looked q y) k ≤ 2 ^ 32 = λ k in_set.
    let k_looked : k < length looked = omega (arith, in_set, length-set looked q y) in
    elim (set_place looked q y k within) [
      | inl here ↦ omega (arith, here.1, at, numbered q in_cluster)
      | inr there ↦ omega (arith, there.1, climbing.behind.each k k_looked, numbered k (omega (arith, k_looked, climbing.looked_places)))
    ] in
    let room : sum (slice_set looked q y) ≤ n * 2 ^ 32 = subst (λ m. sum (slice_set looked q y) ≤ m * 2 ^ 32) (length-set looked q y ∙ climbing.looked_places) (sum_within (2 ^ 32) (slice_set looked q y) bounded) in
    omega (arith, room, sum_set looked q y within, behind)

-- the places before are raised where the vector is beyond them, and the others are as they were
pub record IsForcedTo (rows : Rows) (state vec higher : List ℕ) (p : ℕ) : Type 0 where
  pub places : length higher ≡ length state
  pub kept : (j : ℕ) → j < length state → slice_index vec j ≤ slice_index state j → slice_index higher j ≡ slice_index state j
  pub untouched : (j : ℕ) → p ≤ j → slice_index higher j ≡ slice_index state j
  pub raised : (j : ℕ) → j < p → slice_index state j < slice_index vec j → IsLeastStable rows j (slice_index vec j) (slice_index higher j)

pub forced_raise : (rows : Rows) (state vec higher : List ℕ) (p y : ℕ) → p < length state → slice_index state p < slice_index vec p → IsLeastStable rows p (slice_index vec p) y
    → IsForcedTo rows state vec higher p → IsForcedTo rows state vec (slice_set higher p y) (p + 1)
forced_raise rows state vec higher p y in_state beyond least so_far =
    let within : p < length higher = omega (arith, in_state, so_far.places) in
    record {
      places = length-set higher p y ∙ so_far.places;
      kept = λ j j_in at_most. elim (set_place higher p y j within) [
        | inl here ↦ absurd (omega (arith, at_most, beyond, ap (slice_index state) here.0, ap (slice_index vec) here.0))
        | inr there ↦ there.1 ∙ so_far.kept j j_in at_most
      ];
      untouched = λ j past. elim (set_place higher p y j within) [
        | inl here ↦ absurd (omega (arith, past, here.0))
        | inr there ↦ there.1 ∙ so_far.untouched j (omega arith)
      ];
      raised = λ j before more. elim (set_place higher p y j within) [
        | inl here ↦ subst (λ k. IsLeastStable rows k (slice_index vec k) (slice_index (slice_set higher p y) k)) (sym here.0) (subst (IsLeastStable rows p (slice_index vec p)) (sym (get_or-set_same higher p y 0 within)) least)
        | inr there ↦ subst (IsLeastStable rows j (slice_index vec j)) (sym there.1) (so_far.raised j (elim (cases_order j p) [ inl same ↦ absurd (there.0 same) | inr apart ↦ elim apart [ inl less ↦ less | inr more ↦ absurd (omega (arith, before, more)) ] ]) more)
      ];
    }

pub forced_skip : (rows : Rows) (state vec higher : List ℕ) (p : ℕ) → slice_index vec p ≤ slice_index state p → IsForcedTo rows state vec higher p → IsForcedTo rows state vec higher (p + 1)
forced_skip rows state vec higher p at_most so_far = record {
  places = so_far.places;
  kept = so_far.kept;
  untouched = λ j past. so_far.untouched j (omega arith);
  raised = λ j before more. elim (cases_order j p) [
    | inl same ↦ absurd (omega (arith, more, at_most, ap (slice_index state) same, ap (slice_index vec) same))
    | inr apart ↦ elim apart [ inl less ↦ so_far.raised j less more | inr past ↦ absurd (omega (arith, before, past)) ]
  ];
}

pub forced_whole : (rows : Rows) (state vec higher : List ℕ) (p : ℕ) → length state ≤ p → IsForcedTo rows state vec higher p → IsForced rows state vec higher
forced_whole rows state vec higher p past so_far = record {
  places = so_far.places;
  kept = so_far.kept;
  raised = λ j within. so_far.raised j (omega (arith, within, past));
}
