-- What is drawn of an event, and of all events of a window.
use Rattle.std.proofs.Common.{◌≡◌, ◌≢◌, ◌∙◌, ◌+◌, ◌*◌, ◌^◌, ◌<◌, ◌≤◌, ◌==◌, ◌||◌, ◌&&◌, ◌⊎◌, ℕ, zero, suc, Bool, true, false, if◌then◌else◌, max, List, [], ◌∷◌, ◌++◌, Option, Some, None, Result, OnOk, length, map, get_or, set, refl, ap, sym, subst, inl, inr, arith, append_assoc, get_or-set_other, length-set}
use Rattle.std.specs.Prelude.{nat_le, nat_lt, slice_index}
use Rattle.std.specs.List.{flat_map, list_any, sum_by}
use Rattle.std.specs.Option.{option_map_or}
use Rattle.std.specs.declared.alloc.AllocError.{AllocError}
use Rattle.std.proofs.Math.Bool.{or-false, or_assoc}
use Rattle.std.proofs.lemmas.Bool.{eq-eqb, lt-ltb, le-ltb, ltb-true}
use Rattle.std.proofs.lemmas.Bool.Decides.{eqb_tells}
use Rattle.std.proofs.lemmas.List.{append-nil, length-map, length_push}
use Rattle.std.proofs.lemmas.List.Sums.{sum_by-append}
use Rattle.std.proofs.lemmas.Result.{on_ok_weaker}
use Rattle.om_world.specs.declared.event.Answer.{Answer}
use Rattle.om_world.specs.declared.event.Event.{Event}
use Rattle.om_interval.specs.declared.pid.TheConstants.{MAX_PROCESSES}
use Rattle.om_picture.specs.Drawing.{Edge, IsLaneOf, IsSketchOf, LaneState, Sketch, all_marks, held_in, held_of, lane_in, lane_marks, lane_of, lanes_marks, new_lane, waiting_marks}
use Rattle.om_picture.specs.Fates.{EventRow, Fate, Progress, ended_after, fate_behind, has_ended, has_loose, highest, interval_behind, is_of, next_ended, next_place, next_progress, progress_after, progress_behind, step_row}
use Rattle.om_picture.specs.Held.{Held, covered_by, held_behind, is_elsewhere, left_by, may_wait, releases, left_behind}
use Rattle.om_picture.specs.Marks.{AreTheSame, EventMark, event_marks, is_reached, marks_among, marks_on, released_at, released_below, row_marks, shape_marks, sure_marks}
use Rattle.om_picture.specs.Places.{ArePlaced, IsPlacedBehind, has_column, is_shown, rightmost, shows_on}
use Rattle.om_sheet.specs.Shows.{is_finished, process_of, shown}
use Rattle.om_picture.specs.declared.column.TheConstants.{MOST_COLUMNS, MOST_LEFT, WIDEST}
use Rattle.om_picture.specs.declared.history.History.{History}
use Rattle.om_picture.specs.declared.history.Mark.{Mark}
use Rattle.om_sheet.specs.declared.sheet.Shape.{Shape}
use Rattle.om_sheet.specs.declared.sheet.Spot.{Spot}
use Rattle.om_sheet.specs.declared.shown.Shown.{Shown}
use Rattle.om_sheet.specs.declared.step.PlayedEvent.{PlayedEvent}
use Rattle.om_picture.specs.steps.Adding.{AreNew, IsAmid, LaneShows, LearnsAll, PlacesEvent, ReachesWindow, SettlesAll, SettlesIf, Shows, ShowsEvent, ShowsOn, Stays, amid_marks, fate_amid, fate_now, fated_if, freed_below, frees, lane_number, now_marks, shows_at}
use Rattle.om_picture.proofs.FateLemmas.{end_fate, ended_more, ended_told, first_fate, highest_more, open_fate, place_again, progress_more, progress_told, round_fate, waiting_alike}
use Rattle.om_picture.proofs.HeldLemmas.{held_more, left_none, left_own}
use Rattle.om_picture.proofs.LaneLemmas.{all_counted, lane_counted, lanes_alike}

abbrev start : Progress
start = record { interval = 0; safe = 0 }

-- ---- whose event it is
of_own : (p : ℕ) (row : EventRow) → process_of row.entry.event ≡ Some p → is_of p row ≡ true
of_own p row is = ap (λ (o : Option ℕ). option_map_or (λ (r : ℕ). r == p) o false) is ∙ eq-eqb p p refl

of_other : (p q : ℕ) (row : EventRow) → process_of row.entry.event ≡ Some p → q ≢ p → is_of q row ≡ false
of_other p q row is away = ap (λ (o : Option ℕ). option_map_or (λ (r : ℕ). r == q) o false) is ∙ elim (eqb_tells p q) [
  | inl same ↦ absurd (away (sym same.1))
  | inr other ↦ other.0
]

of_none : (q : ℕ) (row : EventRow) → process_of row.entry.event ≡ None → is_of q row ≡ false
of_none q row is = ap (λ (o : Option ℕ). option_map_or (λ (r : ℕ). r == q) o false) is

other_progress : (q : ℕ) (was : Progress) (row : EventRow) → is_of q row ≡ false → next_progress q was row ≡ was
other_progress q was row other = ap (λ (b : Bool). if b then progress_after row.entry.event row.entry.answer was else was) other

-- an event of another process changes no fate and stores nothing
other_marks : (row : EventRow) (later : List EventRow) (q : ℕ) (lane : LaneState) → is_of q row ≡ false
    → lane_marks (row ∷ later) q lane ≡ amid_marks row later q lane
other_marks row later q lane other =
    waiting_alike (λ i. fate_behind q i lane.reached lane.progress (row ∷ later)) (λ i. fate_amid row later q i lane.reached lane.progress)
    (λ (i : ℕ).
    first_fate row later q i lane.reached lane.progress
    ∙ ap (λ (w : Progress). fate_amid row later q i lane.reached w) (other_progress q lane.progress row other)) lane.waiting

other_ended : (q : ℕ) (was : Bool) (row : EventRow) → is_of q row ≡ false → next_ended q was row ≡ was
other_ended q was row other = ap (λ (b : Bool). if b then ended_after row.entry.event row.entry.answer was else was) other

own_progress : (p : ℕ) (was : Progress) (row : EventRow) → is_of p row ≡ true
    → next_progress p was row ≡ progress_after row.entry.event row.entry.answer was
own_progress p was row own = ap (λ (b : Bool). if b then progress_after row.entry.event row.entry.answer was else was) own

own_ended : (p : ℕ) (was : Bool) (row : EventRow) → is_of p row ≡ true → next_ended p was row ≡ ended_after row.entry.event row.entry.answer was
own_ended p was row own = ap (λ (b : Bool). if b then ended_after row.entry.event row.entry.answer was else was) own

-- ---- the lane of its process
own_marks : (on : Bool) (s : Shown) (row : EventRow) (later : List EventRow) (p : ℕ) (a b : LaneState)
    → b.progress ≡ next_progress p a.progress row → LaneShows on s row.fresh row.entry a b
    → amid_marks row later p b
    ≡ lane_marks (row ∷ later) p a
    ++ (if on then fated_if s row.fresh (fate_amid row later p b.progress.interval a.reached b.progress) row.entry else [])
own_marks on s row later p a b is lane =
    ap (λ (n : ℕ). waiting_marks (λ i. fate_amid row later p i n b.progress) b.waiting) lane.reached
    ∙ lane.waits (λ i. fate_amid row later p i a.reached b.progress)
    ∙ ap (λ (w : Progress). waiting_marks (λ i. fate_amid row later p i a.reached w) a.waiting
    ++ (if on then fated_if s row.fresh (fate_amid row later p b.progress.interval a.reached b.progress) row.entry else [])) is

-- ---- an event is drawn
if_both : (count : EventMark → ℕ) (on : Bool) (x y : List EventMark)
    → sum_by count (if on then x ++ y else []) ≡ sum_by count (if on then x else []) + sum_by count (if on then y else [])
if_both count true x y = sum_by-append count x y
if_both count false x y = refl

alike : (v w : ℕ → LaneState → List EventMark) (s : Sketch)
    → ((q : ℕ) → q < length s.lanes → v q (lane_of s q) ≡ w q (lane_of s q)) → all_marks v s ≡ all_marks w s
unfolding all_marks
alike v w s same =
    ap (λ (l : List EventMark). s.drawn ++ l) (lanes_alike v w 0 s.lanes (λ (q : ℕ) (below : q < length s.lanes).
    let at : q ≡ 0 + q = omega arith in
    subst (λ (n : ℕ). v n (lane_of s q) ≡ w n (lane_of s q)) at (same q below)))

-- it is of no process that there is
amid_none : (n : ℕ) (before : List EventRow) (row : EventRow) (s : Sketch) → length s.lanes ≡ n
    → ((p : ℕ) → p < n → IsLaneOf p before (lane_of s p)) → ((q : ℕ) → q < n → is_of q row ≡ false)
    → ((later : List EventRow) → marks_on n (process_of row.entry.event) before row later ≡ []) → IsAmid n before row s s
amid_none n before row s count lanes others none = record {
  on = refl;
  edge = refl;
  count = count;
  progress = λ (p : ℕ) (below : p < n).
      (lanes p below).progress ∙ sym (progress_more p start before row ∙ other_progress p (progress_behind p before) row (others p below));
  ended = λ (p : ℕ) (below : p < n).
      (lanes p below).ended ∙ sym (ended_more p false before row ∙ other_ended p (has_ended p before) row (others p below));
  held = λ (p : ℕ) (below : p < n).
      (lanes p below).held ∙ sym (append-nil (held_behind p before))
      ∙ ap (λ (l : List Held). held_behind p before ++ l) (sym (left_none p before row (others p below)));
  reached = λ (p : ℕ) (below : p < n). (lanes p below).reached;
  marks = λ (later : List EventRow) (c : EventMark → ℕ).
      let same = ap (λ (l : List EventMark). sum_by c l) (alike (amid_marks row later) (lane_marks (row ∷ later)) s
      (λ (q : ℕ) (below : q < length s.lanes). let within : q < n = omega arith in
      sym (other_marks row later q (lane_of s q) (others q within)))) in
      let more : sum_by c (if s.on then marks_on n (process_of row.entry.event) before row later else []) ≡ 0 =
      ap (λ (l : List EventMark). sum_by c (if s.on then l else [])) (none later) ∙ none_counted c s.on in
      let both = sum_by-append c (all_marks (lane_marks (row ∷ later)) s)
      (if s.on then marks_on n (process_of row.entry.event) before row later else []) in
      omega arith;
}
  where
    none_counted : (c : EventMark → ℕ) (on : Bool) → sum_by c (let l : List EventMark = if on then [] else [] in l) ≡ 0
    none_counted c true = refl
    none_counted c false = refl

-- the marks of an event of a process that there is
event_here : (n p : ℕ) (before : List EventRow) (row : EventRow) (later : List EventRow) → process_of row.entry.event ≡ Some p → p < n
    → marks_on n (process_of row.entry.event) before row later ≡ event_marks p before row later
event_here n p before row later is within =
    ap (λ (o : Option ℕ). marks_on n o before row later) is
    ∙ ap (λ (b : Bool). if b then event_marks p before row later else []) (lt-ltb p n within)

held_alike : (s : Shown) (fresh x i j : ℕ) (a b : List Held) → a ≡ b → i ≡ j
    → a ++ (if may_wait s then record { interval = i; fresh = fresh; x = x } ∷ [] else [])
    ≡ b ++ (if may_wait s then record { interval = j; fresh = fresh; x = x } ∷ [] else [])
held_alike s fresh x i j a b same interval =
    ap (λ (l : List Held). l ++ (if may_wait s then record { interval = i; fresh = fresh; x = x } ∷ [] else [])) same
    ∙ ap (λ (n : ℕ). b ++ (if may_wait s then record { interval = n; fresh = fresh; x = x } ∷ [] else [])) interval

amid_shown : (n p : ℕ) (before : List EventRow) (row : EventRow) (a b : Sketch) → length a.lanes ≡ n → process_of row.entry.event ≡ Some p → p < n
    → ((q : ℕ) → q < n → IsLaneOf q before (lane_of a q))
    → Shows a b p (shown (lane_of a p).ended row.entry.event row.entry.answer) row.fresh row.entry → IsAmid n before row a b
amid_shown n p before row a b count is within lanes s =
    let event : Event = row.entry.event in
    let answer : Answer = row.entry.answer in
    let e : Bool = (lane_of a p).ended in
    let sh : Shown = shown e event answer in
    let own = of_own p row is in
    let mine = lanes p within in
    let now_is : (lane_of b p).progress ≡ next_progress p (lane_of a p).progress row =
    s.lane.progress ∙ progress_told e event answer (lane_of a p).progress ∙ sym (own_progress p (lane_of a p).progress row own) in
    let progress_here : (lane_of b p).progress ≡ progress_behind p (before ++ row ∷ []) =
    now_is ∙ ap (λ (w : Progress). next_progress p w row) mine.progress ∙ sym (progress_more p start before row) in
    let interval_here : (lane_of b p).progress.interval ≡ interval_behind p (before ++ row ∷ []) =
    ap (λ (w : Progress). w.interval) progress_here in
    let ended_here : (lane_of b p).ended ≡ has_ended p (before ++ row ∷ []) =
    s.lane.ended ∙ ended_told e event answer ∙ sym (own_ended p e row own)
    ∙ ap (λ (x : Bool). next_ended p x row) mine.ended ∙ sym (ended_more p false before row) in
    let held_here : held_in (lane_of b p) ≡ held_behind p before ++ left_by p before row =
    s.lane.held ∙ held_alike sh row.fresh row.entry.at.x (lane_of b p).progress.interval (interval_behind p (before ++ row ∷ []))
    (held_in (lane_of a p)) (held_behind p before) mine.held interval_here
    ∙ ap (λ (x : Bool). held_behind p before ++ (if may_wait (shown x event answer)
    then record { interval = interval_behind p (before ++ row ∷ []); fresh = row.fresh; x = row.entry.at.x } ∷ [] else [])) mine.ended
    ∙ ap (λ (l : List Held). held_behind p before ++ l) (sym (left_own p before row own)) in
    let away : (q : ℕ) → q ≢ p → lane_of b q ≡ lane_of a q =
    (λ (q : ℕ) (off : q ≢ p).
    ap (λ (ls : List LaneState). get_or ls q new_lane) s.lanes ∙ get_or-set_other a.lanes p q (lane_of b p) new_lane off) in
    record {
      on = s.on;
      edge = s.edge;
      count = ap (λ (ls : List LaneState). length ls) s.lanes ∙ length-set a.lanes p (lane_of b p) ∙ count;
      progress = λ (q : ℕ) (below : q < n). elim (eqb_tells q p) [
        | inl here ↦
            subst (λ (k : ℕ). (lane_of b k).progress ≡ progress_behind k (before ++ row ∷ [])) (sym here.1) progress_here
        | inr off ↦
            ap (λ (l : LaneState). l.progress) (away q off.1) ∙ (lanes q below).progress
            ∙ sym (progress_more q start before row ∙ other_progress q (progress_behind q before) row (of_other p q row is off.1))
      ];
      ended = λ (q : ℕ) (below : q < n). elim (eqb_tells q p) [
        | inl here ↦ subst (λ (k : ℕ). (lane_of b k).ended ≡ has_ended k (before ++ row ∷ [])) (sym here.1) ended_here
        | inr off ↦
            ap (λ (l : LaneState). l.ended) (away q off.1) ∙ (lanes q below).ended
            ∙ sym (ended_more q false before row ∙ other_ended q (has_ended q before) row (of_other p q row is off.1))
      ];
      held = λ (q : ℕ) (below : q < n). elim (eqb_tells q p) [
        | inl here ↦
            subst (λ (k : ℕ). held_in (lane_of b k) ≡ held_behind k before ++ left_by k before row) (sym here.1) held_here
        | inr off ↦
            ap (λ (l : LaneState). held_in l) (away q off.1) ∙ (lanes q below).held ∙ sym (append-nil (held_behind q before))
            ∙ ap (λ (l : List Held). held_behind q before ++ l) (sym (left_none q before row (of_other p q row is off.1)))
      ];
      reached = λ (q : ℕ) (below : q < n). elim (eqb_tells q p) [
        | inl here ↦
            subst (λ (k : ℕ). (lane_of b k).reached ≡ highest k 0 before) (sym here.1) (s.lane.reached ∙ mine.reached)
        | inr off ↦ ap (λ (l : LaneState). l.reached) (away q off.1) ∙ (lanes q below).reached
      ];
      marks = λ (later : List EventRow) (c : EventMark → ℕ).
          let sure : List EventMark = sure_marks (has_loose (lane_of a p).progress) sh row.entry in
          let fate : Fate =
          fate_behind p (interval_behind p (before ++ row ∷ [])) (highest p 0 before) (progress_behind p before) (row ∷ later) in
          let fated : List EventMark = fated_if sh row.fresh fate row.entry in
          let i_here : ℕ = (lane_of b p).progress.interval in
          let i_behind : ℕ = interval_behind p (before ++ row ∷ []) in
          let amid : List EventMark = fated_if sh row.fresh (fate_amid row later p i_here (lane_of a p).reached (lane_of b p).progress)
          row.entry in
          let fates : amid ≡ fated =
          ap (λ (w : Progress). fated_if sh row.fresh (fate_amid row later p i_here (lane_of a p).reached w) row.entry) now_is
          ∙ ap (λ (i : ℕ). fated_if sh row.fresh (fate_behind p i (lane_of a p).reached (lane_of a p).progress (row ∷ later)) row.entry)
          interval_here
          ∙ ap (λ (r : ℕ). fated_if sh row.fresh (fate_behind p i_behind r (lane_of a p).progress (row ∷ later)) row.entry) mine.reached
          ∙ ap (λ (w : Progress). fated_if sh row.fresh (fate_behind p i_behind (highest p 0 before) w (row ∷ later)) row.entry)
          mine.progress in
          let events : marks_on n (process_of event) before row later ≡ sure ++ fated =
          event_here n p before row later is within
          ∙ ap (λ (x : Bool). sure_marks (has_loose (progress_behind p before)) (shown x event answer) row.entry
          ++ fated_if (shown x event answer) row.fresh fate row.entry) (sym mine.ended)
          ∙ ap (λ (w : Progress). sure_marks (has_loose w) sh row.entry ++ fated) (sym mine.progress) in
          let new = all_counted c (amid_marks row later) b in
          let old = all_counted c (lane_marks (row ∷ later)) a in
          let drawn : sum_by c b.drawn ≡ sum_by c a.drawn + sum_by c (if a.on then sure else []) =
          ap (λ (l : List EventMark). sum_by c l) s.drawn ∙ sum_by-append c a.drawn (if a.on then sure else []) in
          let set_lanes : sum_by c (lanes_marks (amid_marks row later) 0 b.lanes)
          ≡ sum_by c (lanes_marks (amid_marks row later) 0 (set a.lanes p (lane_of b p))) =
          ap (λ (ls : List LaneState). sum_by c (lanes_marks (amid_marks row later) 0 ls)) s.lanes in
          let one = lane_counted c (lane_marks (row ∷ later)) (amid_marks row later) a.lanes p (lane_of b p) s.within
          (λ (q : ℕ) (off : q ≢ p) (l : LaneState). other_marks row later q l (of_other p q row is off)) in
          let here : sum_by c (amid_marks row later p (lane_of b p))
          ≡ sum_by c (lane_marks (row ∷ later) p (lane_of a p)) + sum_by c (if a.on then amid else []) =
          ap (λ (l : List EventMark). sum_by c l) (own_marks a.on sh row later p (lane_of a p) (lane_of b p) now_is s.lane)
          ∙ sum_by-append c (lane_marks (row ∷ later) p (lane_of a p)) (if a.on then amid else []) in
          let same : sum_by c (if a.on then amid else []) ≡ sum_by c (if a.on then fated else []) =
          ap (λ (l : List EventMark). sum_by c (if a.on then l else [])) fates in
          let both = if_both c a.on sure fated in
          let told : sum_by c (if a.on then marks_on n (process_of event) before row later else [])
          ≡ sum_by c (if a.on then sure ++ fated else []) = ap (λ (l : List EventMark). sum_by c (if a.on then l else [])) events in
          let whole = sum_by-append c (all_marks (lane_marks (row ∷ later)) a)
          (if a.on then marks_on n (process_of event) before row later else []) in
          omega arith;
    }

within_or : (p n : ℕ) → (p < n) ⊎ (n ≤ p)
within_or p n = grind arith

amid_by : (o : Option ℕ) (n : ℕ) (before : List EventRow) (row : EventRow) (a b : Sketch) → process_of row.entry.event ≡ o → length a.lanes ≡ n
    → ((q : ℕ) → q < n → IsLaneOf q before (lane_of a q)) → ShowsOn o a b row → IsAmid n before row a b
amid_by None n before row a b is count lanes same =
    subst (λ (s : Sketch). IsAmid n before row a s) (sym same)
    (amid_none n before row a count lanes (λ (q : ℕ) (below : q < n). of_none q row is)
    (λ (later : List EventRow). ap (λ (o : Option ℕ). marks_on n o before row later) is))
amid_by (Some p) n before row a b is count lanes at = elim (within_or p n) [
  | inl within ↦ let there : p < length a.lanes = omega arith in amid_shown n p before row a b count is within lanes (at.shows there)
  | inr past ↦
      let beyond : length a.lanes ≤ p = omega arith in
      subst (λ (s : Sketch). IsAmid n before row a s) (sym (at.past beyond))
      (amid_none n before row a count lanes
      (λ (q : ℕ) (below : q < n). let off : q ≢ p = omega arith in of_other p q row is off)
      (λ (later : List EventRow).
      ap (λ (o : Option ℕ). marks_on n o before row later) is
      ∙ ap (λ (x : Bool). if x then event_marks p before row later else []) (le-ltb p n past)))
]

-- ---- its recovery state and its round
told_lane : (p : ℕ) (before : List EventRow) (row : EventRow) (b c : LaneState) → b.reached ≡ highest p 0 before
    → c.reached ≡ max b.reached (slice_index row.recovery p) → c.reached ≡ highest p 0 (before ++ row ∷ [])
told_lane p before row b c was is = is ∙ ap (λ (n : ℕ). next_place p n row) was ∙ sym (highest_more p 0 before row)

told_again : (p : ℕ) (row : EventRow) (b c : LaneState) → c.reached ≡ max b.reached (slice_index row.recovery p)
    → next_place p c.reached row ≡ c.reached
told_again p row b c is = ap (λ (n : ℕ). next_place p n row) is ∙ place_again p b.reached row ∙ sym is

no_waiting : (f : ℕ → Fate) (marks : List Mark) → marks ≡ [] → waiting_marks f marks ≡ []
no_waiting f marks none = ap (λ (l : List Mark). waiting_marks f l) none

round_told : (finished : Bool) (row : EventRow) (later : List EventRow) (c d : Sketch) → is_finished row.entry.answer ≡ finished
    → ((q : ℕ) → q < length c.lanes → next_place q (lane_of c q).reached row ≡ (lane_of c q).reached) → SettlesIf finished c d
    → AreTheSame (all_marks (lane_marks later) d) (all_marks (amid_marks row later) c)
round_told false row later c d is again same =
    λ (x : EventMark → ℕ).
    ap (λ (s : Sketch). sum_by x (all_marks (lane_marks later) s)) same
    ∙ sym (ap (λ (l : List EventMark). sum_by x l) (alike (amid_marks row later) (lane_marks later) c
    (λ (q : ℕ) (below : q < length c.lanes).
    waiting_alike (λ i. fate_amid row later q i (lane_of c q).reached (lane_of c q).progress)
    (λ i. fate_behind q i (lane_of c q).reached (lane_of c q).progress later)
    (λ (i : ℕ). open_fate row later q i (lane_of c q).reached (lane_of c q).progress is (again q below)) (lane_of c q).waiting)))
round_told true row later c d is again settled =
    λ (x : EventMark → ℕ).
    ap (λ (l : List EventMark). sum_by x l) (alike (lane_marks later) (now_marks true) d
    (λ (q : ℕ) (below : q < length d.lanes).
    let long = settled.keeps.count in
    let within : q < length c.lanes = omega arith in
    no_waiting (λ i. fate_behind q i (lane_of d q).reached (lane_of d q).progress later) (lane_of d q).waiting
    (settled.empty q within)
    ∙ sym (no_waiting (λ i. fate_now true (nat_le i (lane_of d q).reached) (nat_le i (lane_of d q).progress.safe)) (lane_of d q).waiting
    (settled.empty q within))))
    ∙ settled.keeps.marks x
    ∙ sym (ap (λ (l : List EventMark). sum_by x l) (alike (amid_marks row later) (now_marks true) c
    (λ (q : ℕ) (below : q < length c.lanes).
    waiting_alike (λ i. fate_amid row later q i (lane_of c q).reached (lane_of c q).progress)
    (λ i. fate_now true (nat_le i (lane_of c q).reached) (nat_le i (lane_of c q).progress.safe))
    (λ (i : ℕ). round_fate row later q i (lane_of c q).reached (lane_of c q).progress is (again q below)) (lane_of c q).waiting)))

settled_facts : (finished : Bool) (c d : Sketch) → SettlesIf finished c d
    → (d.on ≡ c.on) × (d.edge ≡ c.edge) × (length d.lanes ≡ length c.lanes) × ((q : ℕ) → Stays (lane_of c q) (lane_of d q))
settled_facts false c d same = (
  ap (λ (s : Sketch). s.on) same,
  ap (λ (s : Sketch). s.edge) same,
  ap (λ (s : Sketch). length s.lanes) same,
  λ (q : ℕ). subst (λ (s : Sketch). Stays (lane_of c q) (lane_of s q)) (sym same)
      (record { progress = refl; ended = refl; reached = refl }),
)
settled_facts true c d settled = (settled.keeps.on, settled.keeps.edge, settled.keeps.count, settled.lanes)

settled_held : (finished : Bool) (c d : Sketch) → SettlesIf finished c d → (q : ℕ) → q < length c.lanes
    → held_in (lane_of d q) ≡ (if finished then [] else held_in (lane_of c q))
settled_held false c d same q within = ap (λ (s : Sketch). held_in (lane_of s q)) same
settled_held true c d settled q within = ap (λ (l : List Mark). map held_of l) (settled.empty q within)

lane_small : (p n : ℕ) → p < n → n ≤ MAX_PROCESSES → lane_number p ≡ p
lane_small p n below few =
    let small : p < 2 ^ 32 = omega arith in
    ap (λ (b : Bool). if b then p else 0) (lt-ltb p (2 ^ 32) small)

-- what an event frees
freed_told : (p : ℕ) (rows : List EventRow) (row : EventRow) (lane : LaneState) → lane.reached ≡ highest p 0 rows
    → held_in lane ≡ held_behind p rows ++ left_by p rows row → frees row p lane ≡ releases p rows row
freed_told p rows row lane reached held =
    ap (λ (n : ℕ). list_any (is_elsewhere row.entry.at.x) (covered_by (next_place p n row) (held_in lane))) reached
    ∙ ap (λ (n : ℕ). list_any (is_elsewhere row.entry.at.x) (covered_by n (held_in lane))) (sym (highest_more p 0 rows row))
    ∙ ap (λ (l : List Held). list_any (is_elsewhere row.entry.at.x) (covered_by (highest p 0 (rows ++ row ∷ [])) l)) held

freed_same : (x : EventMark → ℕ) (n : ℕ) (rows : List EventRow) (row : EventRow) (c : Sketch) → n ≤ MAX_PROCESSES
    → ((p : ℕ) → p < n → frees row p (lane_of c p) ≡ releases p rows row) → (k : ℕ) → k ≤ n
    → sum_by x (freed_below row c k) ≡ sum_by x (if c.on then released_below k rows row else [])
freed_same x n rows row c few same zero within = none_freed c.on
  where
    none_freed : (on : Bool) → sum_by x (let l : List EventMark = [] in l) ≡ sum_by x (if on then released_below zero rows row else [])
    none_freed true = refl
    none_freed false = refl
freed_same x n rows row c few same (suc k) within =
    let below : k < n = omega arith in
    let le : k ≤ n = omega arith in
    let one : List EventMark = released_at (releases k rows row) k row.entry in
    let is : (if c.on then released_at (frees row k (lane_of c k)) (lane_number k) row.entry else []) ≡ (if c.on then one else []) =
    ap (λ (b : Bool). if c.on then released_at b (lane_number k) row.entry else []) (same k below)
    ∙ ap (λ (q : ℕ). if c.on then released_at (releases k rows row) q row.entry else []) (lane_small k n below few) in
    let i = freed_same x n rows row c few same k le in
    let j = sum_by-append x (freed_below row c k) (if c.on then released_at (frees row k (lane_of c k)) (lane_number k) row.entry else []) in
    let l : sum_by x (if c.on then released_at (frees row k (lane_of c k)) (lane_number k) row.entry else [])
    ≡ sum_by x (if c.on then one else []) = ap (λ (ms : List EventMark). sum_by x ms) is in
    let m = if_both x c.on (released_below k rows row) one in
    omega arith

-- ---- the window
reached_more : (first : ℕ) (rows : List EventRow) (row : EventRow)
    → is_reached first (rows ++ row ∷ []) ≡ (is_reached first rows || nat_le first row.entry.line)
reached_more first [] row = or-false (nat_le first row.entry.line)
reached_more first (x ∷ rows) row =
    ap (λ (b : Bool). nat_le first x.entry.line || b) (reached_more first rows row)
    ∙ sym (or_assoc (nat_le first x.entry.line) (is_reached first rows) (nat_le first row.entry.line))

among_more : (n first : ℕ) (before rows : List EventRow) (row : EventRow) (later : List EventRow)
    → marks_among n first before (rows ++ row ∷ []) later
    ≡ marks_among n first before rows (row ∷ later) ++ row_marks n first (before ++ rows) row later
among_more n first before [] row later =
    append-nil (row_marks n first before row later)
    ∙ ap (λ (l : List EventRow). row_marks n first l row later) (sym (append-nil before))
among_more n first before (x ∷ rows) row later =
    ap (λ (l : List EventRow). row_marks n first before x l ++ marks_among n first (before ++ x ∷ []) (rows ++ row ∷ []) later)
    (append_assoc rows (row ∷ []) later)
    ∙ ap (λ (l : List EventMark). row_marks n first before x (rows ++ row ∷ later) ++ l)
    (among_more n first (before ++ x ∷ []) rows row later)
    ∙ sym (append_assoc (row_marks n first before x (rows ++ row ∷ later)) (marks_among n first (before ++ x ∷ []) rows (row ∷ later))
    (row_marks n first ((before ++ x ∷ []) ++ rows) row later))
    ∙ ap (λ (l : List EventRow). (row_marks n first before x (rows ++ row ∷ later) ++ marks_among n first (before ++ x ∷ []) rows (row ∷ later))
    ++ row_marks n first l row later) (append_assoc before (x ∷ []) rows)

-- ---- where it stands
edge_x : (a b : Edge) → a ≡ b → a.x ≡ b.x
edge_x a b same = ap (λ (e : Edge). e.x) same

edge_right : (a b : Edge) → a ≡ b → a.right ≡ b.right
edge_right a b same = ap (λ (e : Edge). e.right) same

rightmost_more : (rows : List EventRow) (row : EventRow) → rightmost (rows ++ row ∷ []) ≡ max (rightmost rows) row.entry.at.x
rightmost_more [] row = zeros row.entry.at.x
  where
    zeros : (x : ℕ) → max x 0 ≡ max 0 x
    zeros x = omega arith
rightmost_more (r ∷ rows) row =
    ap (λ (x : ℕ). max r.entry.at.x x) (rightmost_more rows row) ∙ regrouped r.entry.at.x (rightmost rows) row.entry.at.x
  where
    regrouped : (x y z : ℕ) → max x (max y z) ≡ max (max x y) z
    regrouped x y z = omega arith

placed_more : (n first : ℕ) (before rows : List EventRow) (row : EventRow) → ArePlaced n first before rows
    → IsPlacedBehind n first (before ++ rows) row → ArePlaced n first before (rows ++ row ∷ [])
placed_more n first before [] row were here =
    (subst (λ (l : List EventRow). IsPlacedBehind n first l row) (append-nil before) here, tt)
placed_more n first before (r ∷ rows) row were here = (
  were.0,
  placed_more n first (before ++ r ∷ []) rows row were.1
      (subst (λ (l : List EventRow). IsPlacedBehind n first l row) (sym (append_assoc before (r ∷ []) rows)) here),
)

both_true : (a b : Bool) → (a && b) ≡ true → (a ≡ true) × (b ≡ true)
both_true true b h = (refl, h)
both_true false b h = absurd (cc)

-- an event that has a column is one that the lanes show
column_shown : (n : ℕ) (o : Option ℕ) (rows : List EventRow) (row : EventRow) (a : Sketch) → length a.lanes ≡ n
    → ((q : ℕ) → q < n → IsLaneOf q rows (lane_of a q)) → shows_on n o rows row ≡ true → shows_at o a row ≡ true
column_shown n None rows row a count lanes h = h
column_shown n (Some p) rows row a count lanes h =
    let parts = both_true (nat_lt p n) (is_shown (shown (has_ended p rows) row.entry.event row.entry.answer)) h in
    let below : p < n = ltb-true p n parts.0 in
    let there : p < length a.lanes = omega arith in
    ap (λ (b : Bool). b && is_shown (shown (lane_of a p).ended row.entry.event row.entry.answer)) (lt-ltb p (length a.lanes) there)
    ∙ ap (λ (b : Bool). is_shown (shown b row.entry.event row.entry.answer)) (lanes p below).ended ∙ parts.1

-- where an event stands, behind those that are drawn
placed_behind : (n first : ℕ) (rows : List EventRow) (row : EventRow) (a b m : Sketch) → IsSketchOf n first rows a → ReachesWindow a b row.entry.line
    → PlacesEvent b m row → b.on ≡ is_reached first (rows ++ row ∷ []) → IsPlacedBehind n first rows row
placed_behind n first rows row a b m before reached placed on = record {
  lane = λ (p : ℕ) (is : process_of row.entry.event ≡ Some p) (below : p < n).
      placed.lane p is ∙ lane_small p n below before.few;
  column = λ (few : length rows < MOST_COLUMNS) (has : has_column n first rows row ≡ true).
      let parts = both_true (is_reached first (rows ++ row ∷ [])) (shows_on n (process_of row.entry.event) rows row) has in
      let count : length b.lanes ≡ n = ap (λ (ls : List LaneState). length ls) reached.lanes ∙ before.count in
      let lanes : (q : ℕ) → q < n → IsLaneOf q rows (lane_of b q) =
      (λ (q : ℕ) (below : q < n).
      subst (λ (l : LaneState). IsLaneOf q rows l) (sym (ap (λ (ls : List LaneState). get_or ls q new_lane) reached.lanes)) (before.lanes q below)) in
      let it_shows = column_shown n (process_of row.entry.event) rows row b count lanes parts.1 in
      let is_on : b.on ≡ true = on ∙ parts.0 in
      let x = edge_x b.edge a.edge reached.edge in
      let right = edge_right b.edge a.edge reached.edge in
      let room : a.edge.right ≤ MOST_LEFT + WIDEST * length rows = before.room in
      let behind : rightmost rows ≤ a.edge.x = before.behind in
      let free : b.edge.right + WIDEST < 2 ^ 32 = omega arith in
      let less : b.edge.x < row.entry.at.x = placed.places.column is_on it_shows free in
      omega arith;
}

-- ---- one event more
same_all : (v : ℕ → LaneState → List EventMark) (a b : Sketch) → b.drawn ≡ a.drawn → b.lanes ≡ a.lanes → all_marks v b ≡ all_marks v a
unfolding all_marks
same_all v a b drawn lanes =
    ap (λ (l : List EventMark). l ++ lanes_marks v 0 b.lanes) drawn
    ∙ ap (λ (ls : List LaneState). a.drawn ++ lanes_marks v 0 ls) lanes

sketch_more : (a b m c d e : Sketch) (row : EventRow) → ReachesWindow a b row.entry.line → PlacesEvent b m row → ShowsEvent m c row
    → LearnsAll row c d → SettlesIf (is_finished row.entry.answer) d e
    → (n first : ℕ) (rows : List EventRow) → IsSketchOf n first rows a → IsSketchOf n first (rows ++ row ∷ []) e
sketch_more a b m c d e row reached placed shows learns settles n first rows before =
    let same_lanes : m.lanes ≡ a.lanes = placed.places.lanes ∙ reached.lanes in
    let same_drawn : m.drawn ≡ a.drawn = placed.places.drawn ∙ reached.drawn in
    let count : length m.lanes ≡ n = ap (λ (ls : List LaneState). length ls) same_lanes ∙ before.count in
    let lanes : (p : ℕ) → p < n → IsLaneOf p rows (lane_of m p) =
    (λ (p : ℕ) (below : p < n).
    subst (λ (l : LaneState). IsLaneOf p rows l) (sym (ap (λ (ls : List LaneState). get_or ls p new_lane) same_lanes)) (before.lanes p below)) in
    let amid : IsAmid n rows row m c = amid_by (process_of row.entry.event) n rows row m c refl count lanes shows in
    let facts = settled_facts (is_finished row.entry.answer) d e settles in
    let keeps = (learns.keeps []).count in
    let long : length d.lanes ≡ n = keeps ∙ amid.count in
    let learned : (p : ℕ) → p < n → _ = (λ (p : ℕ) (below : p < n).
    let there : p < length c.lanes = (let h = amid.count in omega arith) in learns.lanes p there) in
    let b_on : b.on ≡ is_reached first (rows ++ row ∷ []) =
    reached.on ∙ ap (λ (x : Bool). x || nat_le a.edge.first row.entry.line) before.on
    ∙ ap (λ (k : ℕ). is_reached first rows || nat_le k row.entry.line) before.first_line ∙ sym (reached_more first rows row) in
    let on : m.on ≡ is_reached first (rows ++ row ∷ []) = placed.places.on ∙ b_on in
    let edge : e.edge ≡ m.edge = facts.1 ∙ (learns.keeps []).edge ∙ amid.edge in
    let e_x = edge_x e.edge m.edge edge in
    let e_right = edge_right e.edge m.edge edge in
    let b_x = edge_x b.edge a.edge reached.edge in
    let b_right = edge_right b.edge a.edge reached.edge in
    record {
      on = facts.0 ∙ (learns.keeps []).on ∙ amid.on ∙ on;
      first_line = ap (λ (g : Edge). g.first) edge ∙ placed.places.first ∙ ap (λ (g : Edge). g.first) reached.edge ∙ before.first_line;
      count = facts.2 ∙ long;
      few = before.few;
      placed = placed_more n first [] rows row before.placed (placed_behind n first rows row a b m before reached placed b_on);
      behind =
          let more = rightmost_more rows row in
          let was : rightmost rows ≤ a.edge.x = before.behind in
          let within : row.entry.at.x ≤ m.edge.x = placed.places.within in
          let further : b.edge.x ≤ m.edge.x = placed.places.behind in
          omega arith;
      inside = let h : m.edge.x ≤ m.edge.right = placed.places.inside in omega arith;
      room =
          let was : a.edge.right ≤ MOST_LEFT + WIDEST * length rows = before.room in
          let step : m.edge.right ≤ b.edge.right + WIDEST = placed.places.room in
          let more = length_push rows row in
          omega arith;
      lanes = λ (p : ℕ) (below : p < n).
          let l = learned p below in
          record {
            progress = (facts.3 p).progress ∙ l.told.progress ∙ amid.progress p below;
            ended = (facts.3 p).ended ∙ l.told.ended ∙ amid.ended p below;
            held =
                let within : p < length d.lanes = omega arith in
                settled_held (is_finished row.entry.answer) d e settles p within
                ∙ ap (λ (hs : List Held). if is_finished row.entry.answer then [] else hs)
                (l.held ∙ ap (λ (k : ℕ). left_behind k (held_in (lane_of c p)))
                (told_lane p rows row (lane_of c p) (lane_of d p) (amid.reached p below) l.told.reached)
                ∙ ap (λ (hs : List Held). left_behind (highest p 0 (rows ++ row ∷ [])) hs) (amid.held p below))
                ∙ sym (held_more p [] [] rows row);
            reached = (facts.3 p).reached ∙ told_lane p rows row (lane_of c p) (lane_of d p) (amid.reached p below) l.told.reached;
          };
      marks = λ (later : List EventRow) (x : EventMark → ℕ).
          let own : List EventMark = if m.on then marks_on n (process_of row.entry.event) rows row later else [] in
          let z = round_told (is_finished row.entry.answer) row later d e refl
          (λ (q : ℕ) (below : q < length d.lanes). let within : q < n = omega arith in
          told_again q row (lane_of c q) (lane_of d q) (learned q within).told.reached) settles x in
          let freed : List EventMark = if c.on then released_below n rows row else [] in
          let y : sum_by x (all_marks (amid_marks row later) d)
          ≡ sum_by x (all_marks (amid_marks row later) c ++ freed_below row c (length c.lanes)) = (learns.keeps later).marks x in
          let y_both = sum_by-append x (all_marks (amid_marks row later) c) (freed_below row c (length c.lanes)) in
          let y_count : sum_by x (freed_below row c (length c.lanes)) ≡ sum_by x (freed_below row c n) =
          ap (λ (k : ℕ). sum_by x (freed_below row c k)) amid.count in
          let all : n ≤ n = omega arith in
          let y_freed : sum_by x (freed_below row c n) ≡ sum_by x freed =
          freed_same x n rows row c before.few
          (λ (p : ℕ) (below : p < n). freed_told p rows row (lane_of c p) (amid.reached p below) (amid.held p below)) n all in
          let w : sum_by x (all_marks (amid_marks row later) c) ≡ sum_by x (all_marks (lane_marks (row ∷ later)) m ++ own) =
          amid.marks later x in
          let v = sum_by-append x (all_marks (lane_marks (row ∷ later)) m) own in
          let u : sum_by x (all_marks (lane_marks (row ∷ later)) m) ≡ sum_by x (all_marks (lane_marks (row ∷ later)) a) =
          ap (λ (l : List EventMark). sum_by x l) (same_all (lane_marks (row ∷ later)) a m same_drawn same_lanes) in
          let t : sum_by x (all_marks (lane_marks (row ∷ later)) a) ≡ sum_by x (marks_among n first [] rows (row ∷ later)) =
          before.marks (row ∷ later) x in
          let s : sum_by x (marks_among n first [] (rows ++ row ∷ []) later)
          ≡ sum_by x (marks_among n first [] rows (row ∷ later)) + sum_by x (row_marks n first rows row later) =
          ap (λ (l : List EventMark). sum_by x l) (among_more n first [] rows row later)
          ∙ sum_by-append x (marks_among n first [] rows (row ∷ later)) (row_marks n first rows row later) in
          let r_on : c.on ≡ m.on = amid.on in
          let r_freed : sum_by x freed ≡ sum_by x (if m.on then released_below n rows row else []) =
          ap (λ (o : Bool). sum_by x (if o then released_below n rows row else [])) r_on in
          let r_both = if_both x m.on (marks_on n (process_of row.entry.event) rows row later) (released_below n rows row) in
          let r : sum_by x (if m.on then marks_on n (process_of row.entry.event) rows row later ++ released_below n rows row else [])
          ≡ sum_by x (row_marks n first rows row later) =
          ap (λ (o : Bool). sum_by x (if o then marks_on n (process_of row.entry.event) rows row later ++ released_below n rows row else [])) on in
          omega arith;
    }

pub step_drawn : (r : Result (Unit {0}) AllocError) (a b m c d e f : Sketch) (step : PlayedEvent) (at : Spot) → ReachesWindow a b step.line
    → PlacesEvent b m (step_row step at) → ShowsEvent m c (step_row step at) → d ≡ c → LearnsAll (step_row step at) d e
    → OnOk r (SettlesIf (is_finished step.answer) e f)
    → OnOk r ((at : Spot) × ((n first : ℕ) (rows : List EventRow) → IsSketchOf n first rows a
    → IsSketchOf n first (rows ++ step_row step at ∷ []) f))
step_drawn r a b m c d e f step at reached placed shows same learns settles =
    on_ok_weaker r (λ (s : SettlesIf (is_finished step.answer) e f). (
      at,
      sketch_more a b m c e f (step_row step at) reached placed shows (subst (λ (x : Sketch). LearnsAll (step_row step at) x e) same learns) s,
    )) settles

-- ---- the end
no_lanes : (v : ℕ → LaneState → List EventMark) (s : Sketch) → ((q : ℕ) → q < length s.lanes → v q (lane_of s q) ≡ [])
    → all_marks v s ≡ s.drawn
unfolding all_marks
no_lanes v s none =
    ap (λ (l : List EventMark). s.drawn ++ l) (lanes_alike v (λ q l. []) 0 s.lanes (λ (q : ℕ) (below : q < length s.lanes).
    let at : q ≡ 0 + q = omega arith in
    subst (λ (n : ℕ). v n (lane_of s q) ≡ []) at (none q below)) ∙ empty 0 s.lanes)
    ∙ append-nil s.drawn
  where
    empty : (k : ℕ) (ls : List LaneState) → lanes_marks (λ q l. []) k ls ≡ []
    empty k [] = refl
    empty k (l ∷ ls) = empty (suc k) ls

pub whole_drawn : (a b : Sketch) (drawn : List EventMark) → SettlesAll false a b → drawn ≡ b.drawn
    → (n first : ℕ) (rows : List EventRow) → IsSketchOf n first rows a → AreTheSame drawn (marks_among n first [] rows [])
whole_drawn a b drawn settled is n first rows before =
    λ (x : EventMark → ℕ).
    ap (λ (l : List EventMark). sum_by x l) (is ∙ sym (no_lanes (now_marks false) b (λ (q : ℕ) (below : q < length b.lanes).
    let long = settled.keeps.count in
    let within : q < length a.lanes = omega arith in
    no_waiting (λ i. fate_now false (nat_le i (lane_of b q).reached) (nat_le i (lane_of b q).progress.safe)) (lane_of b q).waiting
    (settled.empty q within))))
    ∙ settled.keeps.marks x
    ∙ sym (ap (λ (l : List EventMark). sum_by x l) (alike (lane_marks []) (now_marks false) a
    (λ (q : ℕ) (below : q < length a.lanes).
    waiting_alike (λ i. fate_behind q i (lane_of a q).reached (lane_of a q).progress [])
    (λ i. fate_now false (nat_le i (lane_of a q).reached) (nat_le i (lane_of a q).progress.safe))
    (λ (i : ℕ). end_fate q i (lane_of a q).reached (lane_of a q).progress) (lane_of a q).waiting)))
    ∙ before.marks [] x

-- ---- the start
pub new_more : (hs : List History) (h : History) → AreNew hs → lane_in h ≡ new_lane → AreNew (hs ++ h ∷ [])
new_more [] h before here = (here, tt)
new_more (x ∷ hs) h before here = (before.0, new_more hs h before.1 here)

new_at : (hs : List History) (p : ℕ) → AreNew hs → get_or (map lane_in hs) p new_lane ≡ new_lane
new_at [] p before = refl
new_at (h ∷ hs) zero before = before.0
new_at (h ∷ hs) (suc p) before = new_at hs p before.1

pub new_sketch : (n first : ℕ) (shapes : List Shape) (hs : List History) (edge : Edge) → shapes ≡ [] → length hs ≡ n → AreNew hs
    → n ≤ MAX_PROCESSES → edge.first ≡ first → edge.x ≤ edge.right → edge.right ≤ MOST_LEFT
    → IsSketchOf n first [] (record { on = false; edge = edge; drawn = flat_map shape_marks shapes; lanes = map lane_in hs })
new_sketch n first shapes hs edge none count new few is inside most =
    let s : Sketch = record { on = false; edge = edge; drawn = flat_map shape_marks shapes; lanes = map lane_in hs } in
    record {
      on = refl;
      first_line = is;
      count = length-map hs lane_in ∙ count;
      few = few;
      placed = tt;
      behind = omega arith;
      inside = inside;
      room = omega arith;
      lanes = λ (p : ℕ) (below : p < n). subst (λ (l : LaneState). IsLaneOf p [] l) (sym (new_at hs p new))
          (record { progress = refl; ended = refl; held = refl; reached = refl });
      marks = λ (later : List EventRow) (x : EventMark → ℕ).
          ap (λ (l : List EventMark). sum_by x l) (no_lanes (lane_marks later) s (λ (q : ℕ) (below : q < length s.lanes).
          ap (λ (l : LaneState). lane_marks later q l) (new_at hs q new))
          ∙ ap (λ (l : List Shape). flat_map shape_marks l) none);
    }
