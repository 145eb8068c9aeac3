use Rattle.std.proofs.Common.{◌≡◌, ◌≢◌, ℕ, ◌^◌, ◌<◌, ◌≤◌, ◌⊎◌, inl, inr, refl, sym, ◌∙◌, ap, subst, arith, List, [], ◌∷◌, slice_index, All, suc, Result, Ok, Err}
use Rattle.std.proofs.lemmas.Bool.{cases_order}
use Rattle.std.specs.FinSet as set
use Rattle.om_interval.specs.Vectors.{IsBelow}
use Rattle.om_recover.specs.Rows.{Rows, HasRow, Has, IsLawful, IsAtMost, HaveSameVectors}
use Rattle.om_recover.specs.Recoverable.{IsRecoverable, IsGreatest}
use Rattle.om_recover.specs.Offered.{offered, IsNew}
use Rattle.om_recover.specs.Offers.{Offers}
use Rattle.om_recover.specs.Cutting.{AreEffective, pruned_to}
use Rattle.om_recover.specs.declared.row.RowKind.{RowKind}
use Rattle.om_recover.specs.declared.row.RowKind.TheVariants.{Checkpoint, Log}
use Rattle.om_recover.specs.declared.row.Row.{Row}
use Rattle.om_recover.specs.declared.note.Note.{Note}
use Rattle.om_recover.specs.declared.note.Note.TheVariants.{Noted, Known}
use Rattle.om_recover.specs.declared.note.NoteError.{NoteError}
use Rattle.om_recover.specs.declared.note.NoteError.TheVariants.{Stranger, BadVector, Differs, Disorder, Memory}
use Rattle.om_recover.proofs.RowsLemmas.{of_inserted, inserted, kept}
use Rattle.om_recover.proofs.StableLemmas.{has_kept}
use Rattle.om_recover.proofs.LawfulLemmas.{lawful_part}
use Rattle.om_recover.proofs.NoteLemmas.{lawful_with_new, recoverable_with_new}
use Rattle.om_interval.proofs.VectorLemmas.{below_through, below_each_other, below_itself}
use Rattle.om_recover.proofs.CuttingLemmas.{of_pruned, to_pruned, has_after_prune}

le_or_lt : (a b : ℕ) → (a ≤ b) ⊎ (b < a)
le_or_lt a b = elim (cases_order a b) [
  | inl same ↦ inl (omega arith)
  | inr apart ↦ elim apart [ inl less ↦ inl (omega arith) | inr more ↦ inr more ]
]

-- what became of an offered row: it was new and was added, or was not new and was not
Outcome : ℕ → Rows → Row → Rows → Type 0
Outcome n rows row after = (IsNew n rows row × (after ≡ set.insert rows row)) ⊎ ((IsNew n rows row → ⊥) × (after ≡ rows))

outcome : (n : ℕ) (rows : Rows) (row : Row) (answer : Result Note NoteError) (after : Rows) → offered n rows row answer after → answer ≢ Err Memory → Outcome n rows row after
unfolding Outcome
outcome n rows row (Ok (Noted raised)) after is full = inl (is.0, is.1)
outcome n rows row (Ok Known) after is full = inr (λ new. new.absent is.2, is.3)
outcome n rows row (Err Stranger) after is full = inr (λ new. let known = new.offer.known in let past = is.0 in omega arith, is.1)
outcome n rows row (Err BadVector) after is full = inr (λ new. is.1 new.offer.fair, is.2)
outcome n rows row (Err Differs) after is full = inr (λ new. is.5 (new.agrees is.1 is.2 is.3 is.4), is.6)
outcome n rows row (Err (Disorder y)) after is full = inr (
  λ new. elim is.0.breaks [
    | inl low ↦ low.breaks (new.below is.0.other is.0.there low.pid low.below)
    | inr high ↦ high.1.breaks (new.above is.0.other is.0.there (sym high.1.pid) high.1.below)
  ],
  is.1,
)
outcome n rows row (Err Memory) after is full = absurd (full refl)

-- two sets of rows that have the same rows at and above these checkpoints, which both have
record AreAlike (n : ℕ) (checkpoints : List ℕ) (one other : Rows) : Type 0 where
  one_lawful : IsLawful n one
  other_lawful : IsLawful n other
  one_has : (p : ℕ) → p < n → Has one Checkpoint p (slice_index checkpoints p)
  other_has : (p : ℕ) → p < n → Has other Checkpoint p (slice_index checkpoints p)
  there : (row : Row) → slice_index checkpoints row.pid ≤ row.interval → HasRow one row → HasRow other row
  back : (row : Row) → slice_index checkpoints row.pid ≤ row.interval → HasRow other row → HasRow one row

turned : (n : ℕ) (checkpoints : List ℕ) (one other : Rows) → AreAlike n checkpoints one other → AreAlike n checkpoints other one
turned n checkpoints one other alike = record { one_lawful = alike.other_lawful; other_lawful = alike.one_lawful; one_has = alike.other_has; other_has = alike.one_has; there = alike.back; back = alike.there }

at_most_through : (a b c : Row) → IsAtMost a b → IsAtMost b c → IsAtMost a c
at_most_through a b c first second = record { vec = below_through a.vec b.vec c.vec first.vec second.vec; got = below_through a.got b.got c.got first.got second.got }

at_most_same : (a b : Row) → HaveSameVectors a b → IsAtMost a b
at_most_same a b same = record { vec = subst (IsBelow a.vec) same.vec (below_itself a.vec); got = subst (IsBelow a.got) same.got (below_itself a.got) }

-- a row at or above the checkpoint that is new to the one is new to the other
new_too : (n : ℕ) (checkpoints : List ℕ) (one other : Rows) (row : Row) → AreAlike n checkpoints one other → slice_index checkpoints row.pid ≤ row.interval → IsNew n one row → IsNew n other row
new_too n checkpoints one other row alike above new = record {
  offer = new.offer;
  agrees = λ r there same at. new.agrees r (alike.back r (subst (λ p. slice_index checkpoints p ≤ r.interval) (sym same) (omega (arith, at))) there) same at;
  absent = λ there. new.absent (alike.back row above there);
  below = λ low there pid_is below. elim (le_or_lt (slice_index checkpoints row.pid) low.interval) [
    | inl inside ↦ new.below low (alike.back low (subst (λ p. slice_index checkpoints p ≤ low.interval) (sym pid_is) inside) there) pid_is below
    | inr under ↦
        let has = alike.other_has row.pid new.offer.known in
        let rises : IsAtMost low has.row = alike.other_lawful.rise low has.row there has.there (pid_is ∙ sym has.pid_is) (omega (arith, under, has.interval_is)) in
        let in_one : HasRow one has.row = alike.back has.row (subst (λ p. slice_index checkpoints p ≤ has.row.interval) (sym has.pid_is) (omega (arith, has.interval_is))) has.there in
        at_most_through low has.row row rises (elim (cases_order has.row.interval row.interval) [
          | inl same ↦ at_most_same has.row row (new.agrees has.row in_one has.pid_is same)
          | inr apart ↦ elim apart [
            | inl less ↦ new.below has.row in_one has.pid_is less
            | inr more ↦ absurd (omega (arith, more, has.interval_is, above))
          ]
        ])
  ];
  above = λ high there pid_is over. new.above high (alike.back high (subst (λ p. slice_index checkpoints p ≤ high.interval) (sym pid_is) (omega (arith, over, above))) there) pid_is over;
}

-- a new row below the checkpoint, in the one alone
alike_below : (n : ℕ) (checkpoints : List ℕ) (one other : Rows) (row : Row) → AreAlike n checkpoints one other → row.interval < 2 ^ 32 → row.interval < slice_index checkpoints row.pid → IsNew n one row
    → AreAlike n checkpoints (set.insert one row) other
alike_below n checkpoints one other row alike small under new = record {
  one_lawful = lawful_with_new n one row small new alike.one_lawful;
  other_lawful = alike.other_lawful;
  one_has = λ p here. has_kept one row Checkpoint p (slice_index checkpoints p) (alike.one_has p here);
  other_has = alike.other_has;
  there = λ r above there. elim (of_inserted one row r there) [
    | inl is ↦ let far = subst (λ (q : Row). slice_index checkpoints q.pid ≤ q.interval) is above in absurd (omega (arith, far, under))
    | inr old ↦ alike.there r above old
  ];
  back = λ r above there. kept one row r (alike.back r above there);
}

-- a row that is new to both
alike_both : (n : ℕ) (checkpoints : List ℕ) (one other : Rows) (row : Row) → AreAlike n checkpoints one other → row.interval < 2 ^ 32 → IsNew n one row → IsNew n other row
    → AreAlike n checkpoints (set.insert one row) (set.insert other row)
alike_both n checkpoints one other row alike small new new_other = record {
  one_lawful = lawful_with_new n one row small new alike.one_lawful;
  other_lawful = lawful_with_new n other row small new_other alike.other_lawful;
  one_has = λ p here. has_kept one row Checkpoint p (slice_index checkpoints p) (alike.one_has p here);
  other_has = λ p here. has_kept other row Checkpoint p (slice_index checkpoints p) (alike.other_has p here);
  there = λ r above there. elim (of_inserted one row r there) [
    | inl is ↦ subst (HasRow (set.insert other row)) (sym is) (inserted other row)
    | inr old ↦ kept other row r (alike.there r above old)
  ];
  back = λ r above there. elim (of_inserted other row r there) [
    | inl is ↦ subst (HasRow (set.insert one row)) (sym is) (inserted one row)
    | inr old ↦ kept one row r (alike.back r above old)
  ];
}

alike_after : (n : ℕ) (checkpoints : List ℕ) (one other : Rows) (row : Row) (after after_other : Rows) → AreAlike n checkpoints one other → row.interval < 2 ^ 32
    → Outcome n one row after → Outcome n other row after_other → AreAlike n checkpoints after after_other
unfolding Outcome
alike_after n checkpoints one other row after after_other alike small (inl first) (inl second) =
    subst (λ a. AreAlike n checkpoints a after_other) (sym first.1) (subst (AreAlike n checkpoints (set.insert one row)) (sym second.1) (alike_both n checkpoints one other row alike small first.0 second.0))
alike_after n checkpoints one other row after after_other alike small (inl first) (inr second) =
    subst (λ a. AreAlike n checkpoints a after_other) (sym first.1) (subst (AreAlike n checkpoints (set.insert one row)) (sym second.1) (elim (le_or_lt (slice_index checkpoints row.pid) row.interval) [
      | inl above ↦ absurd (second.0 (new_too n checkpoints one other row alike above first.0))
      | inr under ↦ alike_below n checkpoints one other row alike small under first.0
    ]))
alike_after n checkpoints one other row after after_other alike small (inr first) (inl second) =
    subst (λ a. AreAlike n checkpoints a after_other) (sym first.1) (subst (AreAlike n checkpoints one) (sym second.1) (elim (le_or_lt (slice_index checkpoints row.pid) row.interval) [
      | inl above ↦ absurd (first.0 (new_too n checkpoints other one row (turned n checkpoints one other alike) above second.0))
      | inr under ↦ turned n checkpoints (set.insert other row) one (alike_below n checkpoints other one row (turned n checkpoints one other alike) small under second.0)
    ]))
alike_after n checkpoints one other row after after_other alike small (inr first) (inr second) =
    subst (λ a. AreAlike n checkpoints a after_other) (sym first.1) (subst (AreAlike n checkpoints one) (sym second.1) alike)

recoverable_later : (n : ℕ) (rows : Rows) (row : Row) (after : Rows) (state : List ℕ) → Outcome n rows row after → IsRecoverable n rows state → IsRecoverable n after state
unfolding Outcome
recoverable_later n rows row after state (inl new) recoverable = subst (λ a. IsRecoverable n a state) (sym new.1) (recoverable_with_new n rows row state new.0 recoverable)
recoverable_later n rows row after state (inr old) recoverable = subst (λ a. IsRecoverable n a state) (sym old.1) recoverable

has_too : (n : ℕ) (checkpoints : List ℕ) (one other : Rows) (kind : RowKind) (p y : ℕ) → AreAlike n checkpoints one other → slice_index checkpoints p ≤ y → Has one kind p y → Has other kind p y
has_too n checkpoints one other kind p y alike above has = record {
  row = has.row;
  there = alike.there has.row (subst (λ q. slice_index checkpoints q ≤ has.row.interval) (sym has.pid_is) (omega (arith, has.interval_is, above))) has.there;
  kind_is = has.kind_is;
  pid_is = has.pid_is;
  interval_is = has.interval_is;
}

-- a state at or above the checkpoints that the one allows is allowed by the other
recoverable_too : (n : ℕ) (checkpoints : List ℕ) (one other : Rows) (state : List ℕ) → AreAlike n checkpoints one other → ((p : ℕ) → p < n → slice_index checkpoints p ≤ slice_index state p)
    → IsRecoverable n one state → IsRecoverable n other state
recoverable_too n checkpoints one other state alike above recoverable = record {
  places = recoverable.places;
  stable = λ p here.
      let old = recoverable.stable p here in
      elim (le_or_lt (slice_index checkpoints p) old.from) [
        | inl inside ↦ record {
          from = old.from;
          checkpoint = has_too n checkpoints one other Checkpoint p old.from alike inside old.checkpoint;
          below = old.below;
          logged = λ y over under. has_too n checkpoints one other Log p y alike (omega arith) (old.logged y over under);
        }
        | inr lower ↦ record {
          from = slice_index checkpoints p;
          checkpoint = alike.other_has p here;
          below = above p here;
          logged = λ y over under. has_too n checkpoints one other Log p y alike (omega arith) (old.logged y (omega arith) under);
        }
      ];
  closed = λ row there at_state. recoverable.closed row (alike.back row (let enough = above row.pid (alike.other_lawful.known row there) in omega (arith, enough, at_state)) there) at_state;
}

same_greatest : (n : ℕ) (checkpoints floor : List ℕ) (one other : Rows) (state state_other : List ℕ) → AreAlike n checkpoints one other → ((p : ℕ) → p < n → slice_index checkpoints p ≤ slice_index floor p)
    → IsRecoverable n one floor → IsRecoverable n other floor → IsGreatest n one state → IsGreatest n other state_other → state ≡ state_other
same_greatest n checkpoints floor one other state state_other alike above in_one in_other first second =
    let high : (p : ℕ) → p < n → slice_index checkpoints p ≤ slice_index state p = λ p here.
    let up = (first.above_all floor in_one).each p (omega (arith, here, in_one.places)) in let enough = above p here in omega arith in
    let high_other : (p : ℕ) → p < n → slice_index checkpoints p ≤ slice_index state_other p = λ p here.
    let up = (second.above_all floor in_other).each p (omega (arith, here, in_other.places)) in let enough = above p here in omega arith in
    below_each_other state state_other
    (second.above_all state (recoverable_too n checkpoints one other state alike high first.recoverable))
    (first.above_all state_other (recoverable_too n checkpoints other one state_other (turned n checkpoints one other alike) high_other second.recoverable))

same_states : (n : ℕ) (checkpoints floor : List ℕ) (one other : Rows) (later : List Row) (states states_other : List (List ℕ)) → AreAlike n checkpoints one other
    → ((p : ℕ) → p < n → slice_index checkpoints p ≤ slice_index floor p) → IsRecoverable n one floor → IsRecoverable n other floor → All (λ (row : Row). row.interval < 2 ^ 32) later
    → Offers n one later states → Offers n other later states_other → states ≡ states_other
same_states n checkpoints floor one other [] states states_other alike above in_one in_other small first second = first ∙ sym second
same_states n checkpoints floor one other (row ∷ later) states states_other alike above in_one in_other small (answer, after, state, rest, is, full, greatest, more, all) (answer', after', state', rest', is', full', greatest', more', all') =
    let here : row.interval < 2 ^ 32 = small 0 row (omega arith) in
    let out = outcome n one row answer after is full in
    let out' = outcome n other row answer' after' is' full' in
    let next = alike_after n checkpoints one other row after after' alike here out out' in
    let kept_one = recoverable_later n one row after floor out in_one in
    let kept_other = recoverable_later n other row after' floor out' in_other in
    let same = same_greatest n checkpoints floor after after' state state' next above kept_one kept_other greatest greatest' in
    let same_rest = same_states n checkpoints floor after after' later rest rest' next above kept_one kept_other (λ k d below. small (suc k) d (omega arith)) more more' in
    all ∙ ap (λ s. s ∷ rest) same ∙ ap (λ r. state' ∷ r) same_rest ∙ sym all'

pub later_offers : (n : ℕ) (rows : Rows) (state checkpoints : List ℕ) (later : List Row) (states states_other : List (List ℕ)) → IsLawful n rows → IsGreatest n rows state → AreEffective rows state checkpoints
    → All (λ (row : Row). row.interval < 2 ^ 32) later → Offers n rows later states → Offers n (pruned_to rows checkpoints) later states_other → states ≡ states_other
later_offers n rows state checkpoints later states states_other lawful greatest effective small =
    let used = λ (p : ℕ) (here : p < n). effective.each p (omega (arith, here, greatest.recoverable.places)) in
    let alike : AreAlike n checkpoints rows (pruned_to rows checkpoints) = record {
      one_lawful = lawful;
      other_lawful = lawful_part n (pruned_to rows checkpoints) rows (λ row there. (of_pruned rows checkpoints row there).0) lawful;
      one_has = λ p here. (used p here).there;
      other_has = λ p here. has_after_prune rows checkpoints Checkpoint p (slice_index checkpoints p) (omega arith) (used p here).there;
      there = λ row above there. to_pruned rows checkpoints row there above;
      back = λ row above there. (of_pruned rows checkpoints row there).0;
    } in
    let above : (p : ℕ) → p < n → slice_index checkpoints p ≤ slice_index state p = λ p here. (used p here).below in
    same_states n checkpoints state rows (pruned_to rows checkpoints) later states states_other alike above greatest.recoverable (recoverable_too n checkpoints rows (pruned_to rows checkpoints) state alike above greatest.recoverable) small
