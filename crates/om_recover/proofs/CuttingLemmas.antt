use Rattle.std.proofs.Common.{◌≡◌, ℕ, ◌<◌, ◌≤◌, ◌&&◌, ◌||◌, inl, inr, refl, sym, ◌∙◌, ap, subst, arith, Bool, true, false, true≢false, List, length, slice_index, slice_index_or, Option, None}
use Rattle.std.proofs.lemmas.Bool.{leb-true, le-leb}
use Rattle.std.specs.FinSet as set
use Rattle.om_recover.specs.Rows.{Rows, HasRow, Has, IsLawful}
use Rattle.om_recover.specs.Recoverable.{IsGreatest}
use Rattle.om_recover.specs.steps.AsKept.{AreKept}
use Rattle.om_recover.specs.Cutting.{AreEffective, IsPruned, cut_to, pruned_to}
use Rattle.om_recover.specs.declared.row.RowKind.{RowKind}
use Rattle.om_recover.specs.declared.row.RowKind.TheVariants.{Checkpoint, Log}
use Rattle.om_recover.specs.declared.row.Row.{Row}
use Rattle.om_recover.proofs.RowsLemmas.{exact_rows}
use Rattle.om_recover.proofs.StableLemmas.{stable_by_records, record_of_stable}
use Rattle.om_recover.proofs.LawfulLemmas.{lawful_part}
use Rattle.om_recover.proofs.ClimbLemmas.{at_most_or_more}
use Rattle.om_recover.proofs.MemoryLemmas.{all_alike, none_remembered}
use Rattle.om_recover.specs.steps.Memory.{AreRemembered}
use Rattle.om_recover.specs.declared.search.failed_climbs.FailedClimb.{FailedClimb}

kept_one : (e c t : Bool) → (e ≡ true → t ≡ true) → (e || (c && t)) ≡ ((e || c) && t)
kept_one true c t tested = sym (tested refl)
kept_one false c t tested = refl

contains-retain : (rows : Rows) (test : Row → Bool) (q : Row) → set.contains (set.retain rows test) q ≡ (set.contains rows q && test q)
contains-retain rows test q = set.contains-retain rows test q (λ x tie. ap test (sym (exact_rows q x tie)))

both : (a b : Bool) → (a && b) ≡ true → (a ≡ true) × (b ≡ true)
both true b is = (refl, is)
both false b is = absurd (true≢false (sym is))

pub of_retained : (rows : Rows) (test : Row → Bool) (row : Row) → HasRow (set.retain rows test) row → HasRow rows row × (test row ≡ true)
of_retained rows test row there = both _ _ (sym (contains-retain rows test row) ∙ there)

pub retained : (rows : Rows) (test : Row → Bool) (row : Row) → HasRow rows row → test row ≡ true → HasRow (set.retain rows test) row
retained rows test row there passes = contains-retain rows test row ∙ ap (λ b. b && test row) there ∙ passes

-- a row after a cut
pub of_cut : (rows : Rows) (state : List ℕ) (row : Row) → HasRow (cut_to rows state) row → HasRow rows row × (row.interval ≤ slice_index state row.pid)
of_cut rows state row there = let found = of_retained rows _ row there in (found.0, leb-true _ _ found.1)

pub to_cut : (rows : Rows) (state : List ℕ) (row : Row) → HasRow rows row → row.interval ≤ slice_index state row.pid → HasRow (cut_to rows state) row
to_cut rows state row there within = retained rows _ row there (le-leb _ _ within)

-- a row after a prune
pub of_pruned : (rows : Rows) (checkpoints : List ℕ) (row : Row) → HasRow (pruned_to rows checkpoints) row → HasRow rows row × (slice_index checkpoints row.pid ≤ row.interval)
of_pruned rows checkpoints row there = let found = of_retained rows _ row there in (found.0, leb-true _ _ found.1)

pub to_pruned : (rows : Rows) (checkpoints : List ℕ) (row : Row) → HasRow rows row → slice_index checkpoints row.pid ≤ row.interval → HasRow (pruned_to rows checkpoints) row
to_pruned rows checkpoints row there within = retained rows _ row there (le-leb _ _ within)

pub has_among : (part rows : Rows) (kind : RowKind) (p y : ℕ) → ((row : Row) → HasRow part row → HasRow rows row) → Has part kind p y → Has rows kind p y
has_among part rows kind p y among has = record { row = has.row; there = among has.row has.there; kind_is = has.kind_is; pid_is = has.pid_is; interval_is = has.interval_is }

pub has_after_cut : (rows : Rows) (state : List ℕ) (kind : RowKind) (p y : ℕ) → y ≤ slice_index state p → Has rows kind p y → Has (cut_to rows state) kind p y
has_after_cut rows state kind p y within has = record {
  row = has.row;
  there = to_cut rows state has.row has.there (subst (λ q. has.row.interval ≤ slice_index state q) (sym has.pid_is) (omega (arith, has.interval_is, within)));
  kind_is = has.kind_is;
  pid_is = has.pid_is;
  interval_is = has.interval_is;
}

pub has_after_prune : (rows : Rows) (checkpoints : List ℕ) (kind : RowKind) (p y : ℕ) → slice_index checkpoints p ≤ y → Has rows kind p y → Has (pruned_to rows checkpoints) kind p y
has_after_prune rows checkpoints kind p y within has = record {
  row = has.row;
  there = to_pruned rows checkpoints has.row has.there (subst (λ q. slice_index checkpoints q ≤ has.row.interval) (sym has.pid_is) (omega (arith, has.interval_is, within)));
  kind_is = has.kind_is;
  pid_is = has.pid_is;
  interval_is = has.interval_is;
}

-- a cut to the greatest state keeps it
pub greatest_after_cut : (n : ℕ) (rows : Rows) (state : List ℕ) → IsLawful n rows → IsGreatest n rows state → IsGreatest n (cut_to rows state) state
greatest_after_cut n rows state lawful greatest = record {
  recoverable = record {
    places = greatest.recoverable.places;
    stable = λ p in_cluster. stable_by_records rows (cut_to rows state) p (slice_index state p) (λ kind z below has. has_after_cut rows state kind p z below has) (greatest.recoverable.stable p in_cluster);
    closed = λ row there. greatest.recoverable.closed row (of_cut rows state row there).0;
  };
  above_all = λ other recoverable. greatest.above_all other (record {
    places = recoverable.places;
    stable = λ p in_cluster. stable_by_records (cut_to rows state) rows p (slice_index other p) (λ kind z _. has_among (cut_to rows state) rows kind p z (λ row there. (of_cut rows state row there).0)) (recoverable.stable p in_cluster);
    closed = λ row there at_state.
        let has = (record_of_stable (cut_to rows state) row.pid (slice_index other row.pid) (recoverable.stable row.pid (lawful.known row there))).1 in
        let within : has.row.interval ≤ slice_index state row.pid = subst (λ q. has.row.interval ≤ slice_index state q) has.pid_is (of_cut rows state has.row has.there).1 in
        recoverable.closed row (to_cut rows state row there (omega (arith, at_state, has.interval_is, within))) at_state;
  });
}

-- and so does a prune
pub greatest_after_prune : (n : ℕ) (rows : Rows) (state checkpoints : List ℕ) → IsLawful n rows → AreEffective rows state checkpoints → IsGreatest n rows state → IsGreatest n (pruned_to rows checkpoints) state
greatest_after_prune n rows state checkpoints lawful effective greatest = record {
  recoverable = record {
    places = greatest.recoverable.places;
    stable = λ p in_cluster.
        let old = greatest.recoverable.stable p in_cluster in
        let used = effective.each p (omega (arith, in_cluster, greatest.recoverable.places)) in
        let above : old.from ≤ slice_index checkpoints p = used.greatest old.from old.checkpoint old.below in
        record {
          from = slice_index checkpoints p;
          checkpoint = has_after_prune rows checkpoints Checkpoint p (slice_index checkpoints p) (omega arith) used.there;
          below = used.below;
          logged = λ y over under. has_after_prune rows checkpoints Log p y (omega arith) (old.logged y (omega arith) under);
        };
    closed = λ row there. greatest.recoverable.closed row (of_pruned rows checkpoints row there).0;
  };
  above_all = λ other recoverable. greatest.above_all other (record {
    places = recoverable.places;
    stable = λ p in_cluster. stable_by_records (pruned_to rows checkpoints) rows p (slice_index other p) (λ kind z _. has_among (pruned_to rows checkpoints) rows kind p z (λ row there. (of_pruned rows checkpoints row there).0)) (recoverable.stable p in_cluster);
    closed = λ row there at_state.
        let has = (record_of_stable (pruned_to rows checkpoints) row.pid (slice_index other row.pid) (recoverable.stable row.pid (lawful.known row there))).1 in
        let within : slice_index checkpoints row.pid ≤ has.row.interval = subst (λ q. slice_index checkpoints q ≤ has.row.interval) has.pid_is (of_pruned rows checkpoints has.row has.there).1 in
        recoverable.closed row (to_pruned rows checkpoints row there (omega (arith, at_state, has.interval_is, within))) at_state;
  });
}

-- what is kept after a cut
pub kept_after_cut : (rows new : Rows) (state : List ℕ) (old places : List (Option FailedClimb)) → AreKept rows state old → new ≡ cut_to rows state
    → ((p : ℕ) → slice_index_or places p None ≡ None) → AreKept new state places
kept_after_cut rows new state old places kept is none = subst (λ rows. AreKept rows state places) (sym is) (record {
  lawful = lawful_part (length state) _ _ (λ row there. (of_cut rows state row there).0) kept.lawful;
  greatest = greatest_after_cut (length state) rows state kept.lawful kept.greatest;
  remembered = none_remembered _ _ state places none;
})

-- and after a prune
pub kept_after_prune : (rows new : Rows) (state : List ℕ) (places : List (Option FailedClimb)) → AreKept rows state places → IsPruned rows state new → AreKept new state places
kept_after_prune rows new state places kept pruned = subst (λ rows. AreKept rows state places) (sym pruned.2) (record {
  lawful = lawful_part (length state) _ _ (λ row there. (of_pruned rows pruned.0 row there).0) kept.lawful;
  greatest = greatest_after_prune (length state) rows state pruned.0 kept.lawful pruned.1 kept.greatest;
  remembered = remembered_after_prune (length state) rows state pruned.0 places kept.lawful pruned.1 kept.greatest kept.remembered;
})
  where
    remembered_after_prune : (n : ℕ) (rows : Rows) (state checkpoints : List ℕ) (places : List (Option FailedClimb)) → IsLawful n rows → AreEffective rows state checkpoints → IsGreatest n rows state
        → AreRemembered n rows state places → AreRemembered n (pruned_to rows checkpoints) state places
    remembered_after_prune n rows state checkpoints places lawful effective greatest =
        all_alike n rows (pruned_to rows checkpoints) state places lawful greatest.recoverable (λ bound. record {
          there = λ row there above _.
              let in_cluster : row.pid < length state = omega (arith, lawful.known row there, greatest.recoverable.places) in
              to_pruned rows checkpoints row there (omega (arith, above, (effective.each row.pid in_cluster).below));
          stable = λ j z above _ stable.
              let has = (record_of_stable rows j z stable).1 in
              let in_cluster : j < length state = omega (arith, lawful.known has.row has.there, has.pid_is, greatest.recoverable.places) in
              let used = effective.each j in_cluster in
              elim (at_most_or_more (slice_index checkpoints j) stable.from) [
                | inl far ↦ record {
                  from = stable.from;
                  checkpoint = has_after_prune rows checkpoints Checkpoint j stable.from far stable.checkpoint;
                  below = stable.below;
                  logged = λ y over under. has_after_prune rows checkpoints Log j y (omega (arith, far, over)) (stable.logged y over under);
                }
                | inr near ↦ record {
                  from = slice_index checkpoints j;
                  checkpoint = has_after_prune rows checkpoints Checkpoint j (slice_index checkpoints j) (omega arith) used.there;
                  below = omega (arith, above, used.below);
                  logged = λ y over under. has_after_prune rows checkpoints Log j y (omega (arith, over)) (stable.logged y (omega (arith, near, over)) under);
                }
              ];
          new = λ j z _ stable. inl (stable_by_records (pruned_to rows checkpoints) rows j z (λ kind y _. has_among (pruned_to rows checkpoints) rows kind j y (λ row there. (of_pruned rows checkpoints row there).0)) stable);
        })
