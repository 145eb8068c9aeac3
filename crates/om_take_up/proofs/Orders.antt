-- Processes that reach their manager in any order.
use Rattle.std.proofs.Common.{◌≡◌, ◌≢◌, ◌⊎◌, inl, inr, ℕ, zero, suc, ◌<◌, ◌≤◌, List, [], ◌∷◌, length, map, replicate, Some, None, Ok, Bool, true, false, refl, sym, ap, ◌∙◌, subst, arith, length-set}
use Rattle.std.specs.Prelude.{nat_eq, slice_get, slice_index_or}
use Rattle.std.proofs.lemmas.Bool.Decides.{nat_tests}
use Rattle.std.proofs.lemmas.List.{length-replicate}
use Rattle.om_interval.specs.declared.pid.TheConstants.{MAX_PROCESSES}
use Rattle.om_look.specs.Rows.{AreRowsOf}
use Rattle.om_manager.specs.Gatherings.{presence_of, presences_of}
use Rattle.om_manager.specs.Rounds.{Failing, Gathers, again, first, gathering_with, with_presence}
use Rattle.om_manager.specs.Sound.{IsManager}
use Rattle.om_manager.specs.State.{ManagerState, held_by, process_count}
use Rattle.om_manager.specs.declared.answers.Gathered.{Gathered}
use Rattle.om_manager.specs.declared.answers.Gathered.TheVariants.{Finished, Waiting}
use Rattle.om_manager.specs.declared.presence.Presence.{Presence}
use Rattle.om_manager.specs.declared.presence.Presence.TheVariants.{Away, Failed}
use Rattle.om_member.specs.Handed.{held_as}
use Rattle.om_member.specs.Told.{row_for}
use Rattle.om_process.specs.declared.queues.Made.{Made}
use Rattle.om_process.specs.declared.row.PendingRow.{PendingRow}
use Rattle.om_recover.specs.Recoverable.{IsGreatest}
use Rattle.om_recover.specs.Rows.{HasRow}
use Rattle.om_recover.specs.declared.row.Row.{Row}
use Rattle.om_stable.specs.Content.{Content}
use Rattle.om_take_up.specs.Anew.{IsNew, OnlyFailed}
use Rattle.om_take_up.specs.TakenUp.{HasTakenUp, RiseFrom}
use Rattle.om_take_up.specs.steps.Handing.{Holds}
use Rattle.om_take_up.proofs.FailingLemmas.{none_away, set_at, set_off}
use Rattle.om_take_up.proofs.HandingLemmas.{all_rising, none_held}
use Rattle.om_take_up.specs.StoreRows.{IsToldOf}
use Rattle.om_take_up.proofs.RowsLemmas.{AreAdded, are_added, row_pid}
use Rattle.om_take_up.specs.Orders.{Act, AreOfEach, ComeInTurn, StartsOver, actor, acts_of, fails, takes_up}

either : (q p : ℕ) → (q ≡ p) ⊎ (q ≢ p)
either q p = grind arith

index_same : {A : Type 0} (n q : ℕ) (x : A) → slice_index_or (replicate n x) q x ≡ x
index_same zero q x = refl
index_same (suc n) zero x = refl
index_same (suc n) (suc q) x = index_same n q x

-- ---- the acts of one process among all
acts_here : (p : ℕ) (act : Act) (acts : List Act) → actor act ≡ p → acts_of p (act ∷ acts) ≡ act ∷ acts_of p acts
acts_here p act acts is = by (nat_eq (actor act) p) refl
  where
    by : (b : Bool) → nat_eq (actor act) p ≡ b → acts_of p (act ∷ acts) ≡ act ∷ acts_of p acts
    by true e = rw e refl
    by false e = absurd (grind (arith, nat_tests))

acts_other : (p : ℕ) (act : Act) (acts : List Act) → actor act ≢ p → acts_of p (act ∷ acts) ≡ acts_of p acts
acts_other p act acts other = by (nat_eq (actor act) p) refl
  where
    by : (b : Bool) → nat_eq (actor act) p ≡ b → acts_of p (act ∷ acts) ≡ acts_of p acts
    by true e = absurd (other (grind (arith, nat_tests)))
    by false e = rw e refl

-- ---- where a process stands, by what it has still to tell
abbrev AllThere : ManagerState → ℕ → List PendingRow → Type 0
AllThere m p rows = (i : ℕ) (t : PendingRow) → slice_get rows i ≡ Some t → HasRow m.rows (row_for p t)

abbrev presence : ManagerState → ℕ → Presence
presence m p = presence_of (presences_of m.gathering) p

data Phase (rows : List PendingRow) (outputs : List Made) (p : ℕ) (left : List Act) (m : ManagerState) : Type 0 where
  before : left ≡ takes_up p rows outputs ∷ fails p ∷ [] → held_by m p ≡ [] → presence m p ≡ Away → Phase rows outputs p left m
  taken : left ≡ fails p ∷ [] → AllThere m p rows → held_by m p ≡ map held_as outputs → presence m p ≡ Away → Phase rows outputs p left m
  failed : left ≡ [] → AllThere m p rows → held_by m p ≡ map held_as outputs → presence m p ≡ Failed → Phase rows outputs p left m

record Underway (n : ℕ) (rows : ℕ → List PendingRow) (outputs : ℕ → List Made) (start : ManagerState) (acts : List Act) (m : ManagerState) : Type 0 where
  sound : IsManager m
  size : process_count m ≡ n
  others : m ≡ record start { rows = m.rows; recovery = m.recovery; outputs = m.outputs; gathering = m.gathering; version = m.version }
  only : (row : Row) → HasRow m.rows row → IsToldOf n rows row
  phase : (p : ℕ) → p < n → Phase (rows p) (outputs p) p (acts_of p acts) m
  none : (p : ℕ) → n ≤ p → acts_of p acts ≡ []
  places : length (presences_of m.gathering) ≡ MAX_PROCESSES
  beyond : (p : ℕ) → n ≤ p → presence m p ≡ Away

-- ---- an act of one process leaves the others where they stand
other_phase : (rows : List PendingRow) (outputs : List Made) (q : ℕ) (left : List Act) (m new : ManagerState) → Phase rows outputs q left m → ((row : Row) → HasRow m.rows row → HasRow new.rows row) → held_by new q ≡ held_by m q → presence new q ≡ presence m q → Phase rows outputs q left new
other_phase rows outputs q left m new (before is held away) kept same stays = before is (same ∙ held) (stays ∙ away)
other_phase rows outputs q left m new (taken is there held away) kept same stays = taken is (λ i t at. kept (row_for q t) (there i t at)) (same ∙ held) (stays ∙ away)
other_phase rows outputs q left m new (failed is there held gone) kept same stays = failed is (λ i t at. kept (row_for q t) (there i t at)) (same ∙ held) (stays ∙ gone)

both : (a b : ℕ) (rs ss : List PendingRow) (os us : List Made) (rest : List Act) → takes_up a rs os ∷ rest ≡ takes_up b ss us ∷ fails b ∷ [] → (rs ≡ ss) × (os ≡ us) × (rest ≡ fails b ∷ [])
both a b rs ss os us rest e = (cc, cc, cc)

taken_not : (a b : ℕ) (rs : List PendingRow) (os : List Made) (rest : List Act) → takes_up a rs os ∷ rest ≡ fails b ∷ [] → ⊥
taken_not a b rs os rest e = cc

failed_not : (a b : ℕ) (ss : List PendingRow) (us : List Made) (rest more : List Act) → fails a ∷ rest ≡ takes_up b ss us ∷ more → ⊥
failed_not a b ss us rest more e = cc

cons_not : (act : Act) (rest : List Act) → act ∷ rest ≡ [] → ⊥
cons_not act rest e = cc

last_one : (a b : ℕ) (rest : List Act) → fails a ∷ rest ≡ fails b ∷ [] → rest ≡ []
last_one a b rest e = cc

away_failed : (a : Presence) → a ≡ Away → a ≡ Failed → ⊥
away_failed a e f = cc

-- ---- a process tells what its store held
module _ (n : ℕ) (rows : ℕ → List PendingRow) (outputs : ℕ → List Made) (start : ManagerState) (numbered : (p : ℕ) → p < n → RiseFrom 0 (outputs p)) where
  number : (p : ℕ) (act : Act) (acts : List Act) (m : ManagerState) → Underway n rows outputs start (act ∷ acts) m → actor act ≡ p → p < n
  number p act acts m u is = elim (less p n) [ inl lt ↦ lt | inr ge ↦ absurd (cons_not act (acts_of p acts) (sym (acts_here p act acts is) ∙ u.none p ge)) ]
    where
      less : (a b : ℕ) → (a < b) ⊎ (b ≤ a)
      less a b = grind arith

  none_left : (p : ℕ) (act : Act) (acts : List Act) (m : ManagerState) → Underway n rows outputs start (act ∷ acts) m → (q : ℕ) → n ≤ q → acts_of q acts ≡ []
  none_left p act acts m u q ge = sym (acts_other q act acts (λ is. absurd (let lt = number q act acts m u is in omega arith))) ∙ u.none q ge

  -- where it stood before its store was told, all that its store held is told
  told_now : (p : ℕ) (rs : List PendingRow) (os : List Made) (acts : List Act) (m : ManagerState) → Underway n rows outputs start (takes_up p rs os ∷ acts) m
      → (rs ≡ rows p) × (os ≡ outputs p) × (acts_of p acts ≡ fails p ∷ []) × (held_by m p ≡ []) × (presence m p ≡ Away)
  told_now p rs os acts m u = by (u.phase p (number p (takes_up p rs os) acts m u refl))
    where
      here : acts_of p (takes_up p rs os ∷ acts) ≡ takes_up p rs os ∷ acts_of p acts
      here = acts_here p (takes_up p rs os) acts refl

      by : Phase (rows p) (outputs p) p (acts_of p (takes_up p rs os ∷ acts)) m → (rs ≡ rows p) × (os ≡ outputs p) × (acts_of p acts ≡ fails p ∷ []) × (held_by m p ≡ []) × (presence m p ≡ Away)
      by (before is held away) = let b = both p p rs (rows p) os (outputs p) (acts_of p acts) (sym here ∙ is) in (b.0, b.1, b.2, held, away)
      by (taken is there held away) = absurd (taken_not p p rs os (acts_of p acts) (sym here ∙ is))
      by (failed is there held gone) = absurd (cons_not (takes_up p rs os) (acts_of p acts) (sym here ∙ is))

  has_told : (p : ℕ) (rs : List PendingRow) (os : List Made) (acts : List Act) (m new : ManagerState) → Underway n rows outputs start (takes_up p rs os ∷ acts) m → HasTakenUp m 0 p rs os new → Underway n rows outputs start acts new
  has_told p rs os acts m new u h =
      let act : Act = takes_up p rs os in
      let lt = number p act acts m u refl in
      let now = told_now p rs os acts m u in
      let told = h.0 in
      let added : AreAdded m p rs told = are_added m 0 p rs told u.sound h.1 in
      let held : (q : ℕ) → held_by told q ≡ held_by m q = λ q. ap (λ (k : ManagerState). held_by k q) added.told.others in
      let rise : RiseFrom 0 os = subst (RiseFrom 0) (sym now.1) (numbered p lt) in
      let put : Holds told p (map held_as os) new = all_rising told told new p 0 [] os (none_held told p added.told.sound (held p ∙ now.3)) rise h.2 in
      let same_rows : (row : Row) → HasRow told.rows row → HasRow new.rows row = λ row has. subst (λ (k : ManagerState). HasRow k.rows row) (sym put.others) has in
      let gathering : new.gathering ≡ m.gathering = ap (λ (k : ManagerState). k.gathering) put.others ∙ ap (λ (k : ManagerState). k.gathering) added.told.others in
      let stays : (q : ℕ) → presence new q ≡ presence m q = λ q. ap (λ g. presence_of (presences_of g) q) gathering in
      record {
        sound = put.sound;
        size = ap process_count put.others ∙ added.told.size ∙ u.size;
        others = put.others
            ∙ ap (λ (k : ManagerState). record k { outputs = new.outputs }) added.told.others
            ∙ ap (λ (k : ManagerState). record k { rows = told.rows; recovery = told.recovery; outputs = new.outputs; version = told.version }) u.others
            ∙ ap (λ g. record start { rows = told.rows; recovery = told.recovery; outputs = new.outputs; gathering = g; version = told.version }) (sym gathering)
            ∙ ap (λ (k : ManagerState). record start { rows = k.rows; recovery = k.recovery; outputs = k.outputs; gathering = new.gathering; version = k.version }) (sym put.others);
        only = λ row has. elim (added.only row (subst (λ (k : ManagerState). HasRow k.rows row) put.others has)) [
          | inl old ↦ u.only row old
          | inr one ↦
              let pid : row.pid ≡ p = ap (λ (r : Row). r.pid) one.3 ∙ row_pid p one.1 in
              (omega arith, inr (one.0, one.1, ap (λ l. slice_get l one.0) (ap rows pid ∙ sym now.0) ∙ one.2, one.3 ∙ ap (λ o. row_for o one.1) (sym pid)))
        ];
        phase = λ q small. elim (either q p) [
          | inl is ↦ subst (λ o. Phase (rows o) (outputs o) o (acts_of o acts) new) (sym is)
              (taken now.2 (λ i t at. same_rows (row_for p t) (added.all i t (ap (λ l. slice_get l i) now.0 ∙ at))) (put.here ∙ ap (map held_as) now.1) (stays p ∙ now.4))
          | inr other ↦
              other_phase (rows q) (outputs q) q (acts_of q acts) m new (subst (λ l. Phase (rows q) (outputs q) q l m) (acts_other q act acts (λ is. other (sym is))) (u.phase q small))
              (λ row has. same_rows row (added.kept row has)) (put.there q other ∙ held q) (stays q)
        ];
        none = none_left p act acts m u;
        places = ap (λ g. length (presences_of g)) gathering ∙ u.places;
        beyond = λ q ge. stays q ∙ u.beyond q ge;
      }

  -- ---- a process tells that it failed
  failing_now : (p : ℕ) (acts : List Act) (m : ManagerState) → Underway n rows outputs start (fails p ∷ acts) m
      → (acts_of p acts ≡ []) × AllThere m p (rows p) × (held_by m p ≡ map held_as (outputs p)) × (presence m p ≡ Away)
  failing_now p acts m u = by (u.phase p (number p (fails p) acts m u refl))
    where
      here : acts_of p (fails p ∷ acts) ≡ fails p ∷ acts_of p acts
      here = acts_here p (fails p) acts refl

      by : Phase (rows p) (outputs p) p (acts_of p (fails p ∷ acts)) m → (acts_of p acts ≡ []) × AllThere m p (rows p) × (held_by m p ≡ map held_as (outputs p)) × (presence m p ≡ Away)
      by (before is held away) = absurd (failed_not p p (rows p) (outputs p) (acts_of p acts) (fails p ∷ []) (sym here ∙ is))
      by (taken is there held away) = (last_one p p (acts_of p acts) (sym here ∙ is), there, held, away)
      by (failed is there held gone) = absurd (cons_not (fails p) (acts_of p acts) (sym here ∙ is))

  gathers : (p : ℕ) (acts : List Act) (m new : ManagerState) (told : Gathered) → Underway n rows outputs start (fails p ∷ acts) m → Failing m p 0 (Ok told) new → Gathers (with_presence m p Failed) m told new
  gathers p acts m new told u f = elim f.2 [
    | first fresh g ↦ g
    | again gone waits same ↦ absurd (away_failed (presence m p) (failing_now p acts m u).3 gone)
  ]

  -- a process that has still to tell is not in
  still_away : (q : ℕ) (act : Act) (acts : List Act) (m : ManagerState) (left : List Act) → left ≡ act ∷ acts → Phase (rows q) (outputs q) q left m → presence m q ≡ Away
  still_away q act acts m left some (before is held away) = away
  still_away q act acts m left some (taken is there held away) = away
  still_away q act acts m left some (failed is there held gone) = absurd (cons_not act acts (sym some ∙ is))

  module _ (p : ℕ) (acts : List Act) (m : ManagerState) (u : Underway n rows outputs start (fails p ∷ acts) m) where
    lt_n : p < n
    lt_n = number p (fails p) acts m u refl

    few : p < MAX_PROCESSES
    few = let lt = lt_n in let some = u.size in let le = u.sound.few in omega arith

    in_now : presence_of (with_presence m p Failed) p ≡ Failed
    in_now = set_at (presences_of m.gathering) p Failed (let long = u.places in let lt = few in omega arith)

    as_before : (q : ℕ) → q ≢ p → presence_of (with_presence m p Failed) q ≡ presence m q
    as_before q other = set_off (presences_of m.gathering) p q Failed other

    -- another has still to tell
    has_failed : (act : Act) (more : List Act) (new : ManagerState) (told : Gathered) → acts ≡ act ∷ more → IsManager new → Gathers (with_presence m p Failed) m told new → Underway n rows outputs start acts new
    has_failed act more new Finished some sound g = absurd (g.0 q (let size = u.size in let lt = q_lt in omega arith) (as_before q q_other ∙ q_away))
      where
        q : ℕ
        q = actor act

        q_left : acts_of q acts ≡ act ∷ acts_of q more
        q_left = ap (acts_of q) some ∙ acts_here q act more refl

        q_other : q ≢ p
        q_other is = cons_not act (acts_of q more) (sym q_left ∙ ap (λ o. acts_of o acts) is ∙ (failing_now p acts m u).0)

        q_all : acts_of q (fails p ∷ acts) ≡ act ∷ acts_of q more
        q_all = acts_other q (fails p) acts (λ is. q_other (sym is)) ∙ q_left

        q_lt : q < n
        q_lt = elim (less q n) [ inl lt ↦ lt | inr ge ↦ absurd (cons_not act (acts_of q more) (sym q_all ∙ u.none q ge)) ]
          where
            less : (a b : ℕ) → (a < b) ⊎ (b ≤ a)
            less a b = grind arith

        q_away : presence m q ≡ Away
        q_away = still_away q act (acts_of q more) m (acts_of q (fails p ∷ acts)) q_all (u.phase q q_lt)
    has_failed act more new Waiting some sound g =
        let now = failing_now p acts m u in
        let rows_same : (row : Row) → HasRow m.rows row → HasRow new.rows row = λ row has. subst (λ (k : ManagerState). HasRow k.rows row) (sym g.1) has in
        let gathering : presences_of new.gathering ≡ with_presence m p Failed = ap (λ (k : ManagerState). presences_of k.gathering) g.1 in
        let held : (q : ℕ) → held_by new q ≡ held_by m q = λ q. ap (λ (k : ManagerState). held_by k q) g.1 in
        record {
          sound = sound;
          size = ap process_count g.1 ∙ u.size;
          others = g.1
              ∙ ap (λ (k : ManagerState). record k { gathering = Some (with_presence m p Failed); version = (gathering_with m (with_presence m p Failed)).version }) u.others
              ∙ ap (λ (k : ManagerState). record start { rows = k.rows; recovery = k.recovery; outputs = k.outputs; gathering = k.gathering; version = k.version }) (sym g.1);
          only = λ row has. u.only row (subst (λ (k : ManagerState). HasRow k.rows row) g.1 has);
          phase = λ q small. elim (either q p) [
            | inl is ↦ subst (λ o. Phase (rows o) (outputs o) o (acts_of o acts) new) (sym is)
                (failed now.0 (λ i t at. rows_same (row_for p t) (now.1 i t at)) (held p ∙ now.2) (ap (λ l. presence_of l p) gathering ∙ in_now))
            | inr other ↦
                other_phase (rows q) (outputs q) q (acts_of q acts) m new (subst (λ l. Phase (rows q) (outputs q) q l m) (acts_other q (fails p) acts (λ is. other (sym is))) (u.phase q small))
                rows_same (held q) (ap (λ l. presence_of l q) gathering ∙ as_before q other)
          ];
          none = none_left p (fails p) acts m u;
          places = ap length gathering ∙ length-set (presences_of m.gathering) p Failed ∙ u.places;
          beyond = λ q ge. ap (λ l. presence_of l q) gathering ∙ as_before q (λ is. absurd (let lt = lt_n in omega arith)) ∙ u.beyond q ge;
        }

    -- all others have failed
    others_in : acts ≡ [] → (q : ℕ) → q < n → q ≢ p → (presence m q ≡ Failed) × AllThere m q (rows q) × (held_by m q ≡ map held_as (outputs q))
    others_in none q small other = by (u.phase q small)
      where
        left : acts_of q (fails p ∷ acts) ≡ []
        left = acts_other q (fails p) acts (λ is. other (sym is)) ∙ ap (acts_of q) none

        by : Phase (rows q) (outputs q) q (acts_of q (fails p ∷ acts)) m → (presence m q ≡ Failed) × AllThere m q (rows q) × (held_by m q ≡ map held_as (outputs q))
        by (before is held away) = absurd (cons_not (takes_up q (rows q) (outputs q)) (fails q ∷ []) (sym is ∙ left))
        by (taken is there held away) = absurd (cons_not (fails q) [] (sym is ∙ left))
        by (failed is there held gone) = (gone, there, held)

    there_now : acts ≡ [] → (q : ℕ) → q < n → AllThere m q (rows q) × (held_by m q ≡ map held_as (outputs q))
    there_now none q small = elim (either q p) [
      | inl is ↦ let now = failing_now p acts m u in subst (λ o. AllThere m o (rows o) × (held_by m o ≡ map held_as (outputs o))) (sym is) (now.1, now.2)
      | inr other ↦ let o = others_in none q small other in (o.1, o.2)
    ]

    all_in : acts ≡ [] → (q : ℕ) → q < n → presence_of (with_presence m p Failed) q ≡ Failed
    all_in none q small = elim (either q p) [
      | inl is ↦ ap (presence_of (with_presence m p Failed)) is ∙ in_now
      | inr other ↦ as_before q other ∙ (others_in none q small other).0
    ]

    only_failed : OnlyFailed n (presences_of m.gathering)
    only_failed q some = elim (less q n) [ inl small ↦ (small, by (u.phase q small)) | inr ge ↦ absurd (some (u.beyond q ge)) ]
      where
        less : (a b : ℕ) → (a < b) ⊎ (b ≤ a)
        less a b = grind arith

        by : Phase (rows q) (outputs q) q (acts_of q (fails p ∷ acts)) m → presence m q ≡ Failed
        by (before is held away) = absurd (some away)
        by (taken is there held away) = absurd (some away)
        by (failed is there held gone) = gone

    only_with : OnlyFailed n (with_presence m p Failed)
    only_with q some = elim (either q p) [
      | inl is ↦ (let lt = lt_n in omega arith, ap (presence_of (with_presence m p Failed)) is ∙ in_now)
      | inr other ↦ let o = only_failed q (λ away. some (as_before q other ∙ away)) in (o.0, as_before q other ∙ o.1)
    ]

    ends : (held : ℕ → Content) (new : ManagerState) (told : Gathered) → acts ≡ [] → start.starts ≡ replicate n (0 ∷ []) → start.round ≡ 0 → ((q : ℕ) → q < n → AreRowsOf q n (held q) (rows q)) → Gathers (with_presence m p Failed) m told new
        → StartsOver n held (λ q. map held_as (outputs q)) new
    ends held new Waiting none starts round are g = absurd (g.0 (λ q small away. away_failed (presence_of (with_presence m p Failed) q) away (all_in none q (let size = u.size in omega arith))))
    ends held new Finished none starts round are g = record {
      told = record m { gathering = None };
      first = record {
        size = u.size;
        starts = ap (λ (k : ManagerState). k.starts) u.others ∙ starts;
        round = ap (λ (k : ManagerState). k.round) u.others ∙ round;
      };
      rows = record {
        told = rows;
        of_store = are;
        only = u.only;
        all = λ q i t small at. (there_now none q small).0 i t at;
      };
      greatest = subst (λ k. IsGreatest k m.rows m.recovery) u.size u.sound.exact.greatest;
      holds = λ q small. (there_now none q small).1;
      failed = record {
        before = m;
        others = refl;
        sound = u.sound;
        waiting = subst (λ k. OnlyFailed k (presences_of m.gathering)) (sym u.size) only_failed;
        presences = with_presence m p Failed;
        failed = subst (λ k. OnlyFailed k (with_presence m p Failed)) (sym u.size) only_with;
        all = g.0;
        finished = g.1;
      };
      recovery = g.1.recovery;
    }

  -- ---- one act after another
  go : (held : ℕ → Content) (acts : List Act) (m last : ManagerState) → start.starts ≡ replicate n (0 ∷ []) → start.round ≡ 0 → ((q : ℕ) → q < n → AreRowsOf q n (held q) (rows q))
      → (p : ℕ) → p < n → presence m p ≡ Away → Underway n rows outputs start acts m → ComeInTurn m acts last → StartsOver n held (λ q. map held_as (outputs q)) last
  go held [] m last starts round are p small away u come = absurd (by (u.phase p small))
    where
      by : Phase (rows p) (outputs p) p [] m → ⊥
      by (before is there gone) = cons_not (takes_up p (rows p) (outputs p)) (fails p ∷ []) (sym is)
      by (taken is there has gone) = cons_not (fails p) [] (sym is)
      by (failed is there has gone) = away_failed (presence m p) away gone
  go held (takes_up p rs os ∷ acts) m last starts round are q small away u come =
      let next = has_told p rs os acts m come.0 u come.1 in
      let lt = number p (takes_up p rs os) acts m u refl in
      go held acts come.0 last starts round are p lt (waits (rows p) (outputs p) p (acts_of p acts) come.0 (told_now p rs os acts m u).2 (next.phase p lt)) next come.2
    where
      waits : (rs : List PendingRow) (os : List Made) (p : ℕ) (left : List Act) (k : ManagerState) → left ≡ fails p ∷ [] → Phase rs os p left k → presence k p ≡ Away
      waits rs os p left k is (before same held gone) = gone
      waits rs os p left k is (taken same there held gone) = gone
      waits rs os p left k is (failed none there held gone) = absurd (cons_not (fails p) [] (sym is ∙ none))
  go held (fails p ∷ []) m last starts round are q small away u come =
      subst (StartsOver n held (λ q. map held_as (outputs q))) (sym come.2) (ends p [] m u held come.0 come.1.0 refl starts round are (gathers p [] m come.0 come.1.0 u come.1.1))
  go held (fails p ∷ act ∷ acts) m last starts round are q small away u come =
      let next = has_failed p (act ∷ acts) m u act acts come.0 come.1.0 refl come.1.2 (gathers p (act ∷ acts) m come.0 come.1.0 u come.1.1) in
      let lt = number (actor act) act acts come.0 next refl in
      go held (act ∷ acts) come.0 last starts round are (actor act) lt (still_away (actor act) act (acts_of (actor act) acts) come.0 (acts_of (actor act) (act ∷ acts)) (acts_here (actor act) act acts refl) (next.phase (actor act) lt)) next come.2

-- ---- from a new manager on
underway : (n : ℕ) (rows : ℕ → List PendingRow) (outputs : ℕ → List Made) (acts : List Act) (start : ManagerState) → IsNew n start → IsManager start → AreOfEach n rows outputs acts → Underway n rows outputs start acts start
underway n rows outputs acts start fresh sound each = record {
  sound = sound;
  size = ap length fresh.recovery ∙ length-replicate n 0;
  others = refl;
  only = λ row has. let f = (fresh.rows row).0 has in (f.0, inl f.1);
  phase = λ p small. before (each.each p small) (ap (λ l. slice_index_or l p []) fresh.outputs ∙ index_same n p []) (away p);
  none = each.others;
  places = ap (λ g. length (presences_of g)) fresh.gathering ∙ length-replicate MAX_PROCESSES Away;
  beyond = λ p ge. away p;
}
  where
    away : (p : ℕ) → presence start p ≡ Away
    away p = ap (λ g. presence_of (presences_of g) p) fresh.gathering ∙ none_away MAX_PROCESSES p

pub any_order : (n : ℕ) (held : ℕ → Content) (rows : ℕ → List PendingRow) (outputs : ℕ → List Made) (acts : List Act) (start last : ManagerState) → IsNew n start → IsManager start → ((p : ℕ) → p < n → AreRowsOf p n (held p) (rows p)) → ((p : ℕ) → p < n → RiseFrom 0 (outputs p))
    → AreOfEach n rows outputs acts → ComeInTurn start acts last → StartsOver n held (λ p. map held_as (outputs p)) last
any_order n held rows outputs acts start last fresh sound are numbered each come =
    let size : process_count start ≡ n = ap length fresh.recovery ∙ length-replicate n 0 in
    let some = sound.some in
    go n rows outputs start numbered held acts start last fresh.starts fresh.round are 0 (omega arith)
    (ap (λ g. presence_of (presences_of g) 0) fresh.gathering ∙ none_away MAX_PROCESSES 0) (underway n rows outputs acts start fresh sound each) come
