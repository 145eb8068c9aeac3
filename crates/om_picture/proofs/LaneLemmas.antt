-- What the marks of a picture come to, as its lanes change.
use Rattle.std.proofs.Common.{◌≡◌, ◌≢◌, ◌∙◌, ◌+◌, ◌<◌, ◌≤◌, ◌==◌, ◌||◌, ℕ, zero, suc, Bool, true, false, if◌then◌else◌, max, List, [], ◌∷◌, ◌++◌, Option, Some, None, Result, Ok, Err, OnOk, MatchOption, is_ok, length, map, drop, get_or, set, refl, ap, sym, subst, inl, inr, arith, get_or-set_same, get_or-set_other, length-set, append_assoc}
use Rattle.std.specs.Prelude.{nat_le, nat_lt, slice_index}
use Rattle.std.specs.List.{flat_map, list_any, sum_by}
use Rattle.std.specs.declared.alloc.AllocError.{AllocError}
use Rattle.std.proofs.Math.Dec.{eqb-suc-zero}
use Rattle.std.proofs.Math.Bool.{or-false, or_assoc}
use Rattle.std.proofs.lemmas.Bool.{eq-eqb, ltb-false, ltb-true}
use Rattle.std.proofs.lemmas.Bool.Decides.{eqb_tells}
use Rattle.std.proofs.lemmas.List.{append-nil, drop-append-le, drop_all, drop_more, flat_map_more, get_or_past, get_or-map, length-map, map-set, set-get_or}
use Rattle.std.proofs.lemmas.List.Sums.{sum_by-append}
use Rattle.std.proofs.lemmas.Result.{on_ok_weaker}
use Rattle.om_picture.specs.Drawing.{Edge, LaneState, Sketch, all_marks, held_in, held_of, lane_in, lane_of, lanes_marks, mark_marks, new_lane, waiting_marks}
use Rattle.om_picture.specs.Fates.{EventAt, EventRow, Fate, Progress}
use Rattle.om_picture.specs.Held.{Held, covered_by, is_elsewhere, left_behind}
use Rattle.om_picture.specs.Marks.{EventMark, fated_marks, form_of, mark_of, output_marks, released_at, shape_marks, title_entry}
use Rattle.om_sheet.specs.Shows.{shown}
use Rattle.om_picture.specs.declared.history.History.{History}
use Rattle.om_picture.specs.declared.history.Mark.{Mark}
use Rattle.om_picture.specs.declared.history.Next.{Next}
use Rattle.om_sheet.specs.declared.sheet.Glyph.{Glyph}
use Rattle.om_sheet.specs.declared.sheet.Glyph.TheVariants as glyphs
use Rattle.om_sheet.specs.declared.sheet.Shape.{Shape}
use Rattle.om_sheet.specs.declared.sheet.Spot.{Spot}
use Rattle.om_sheet.specs.declared.sheet.Title.{Title}
use Rattle.om_sheet.specs.declared.shown.Shown.{Shown}
use Rattle.om_sheet.specs.declared.shown.Shown.TheVariants as shows
use Rattle.om_picture.specs.steps.Adding.{IsMore, KeepsMarks, KeepsWith, Learning, Learns, LearnsAll, LearnsAt, LearnsBelow, Raises, Settles, SettlesAll, SettlesBelow, SettlesLane, SettlesSome, Shows, ShowsAt, Stays, Takes, TakesCovered, TakesFirst, TellsPlace, Turns, Waits, amid_marks, fate_amid, fate_now, form_late, freed_below, frees, kept, lane_number, made_by, now_marks}
use Rattle.om_picture.proofs.FateLemmas.{amid_again, kept_amid, waiting_alike}
use Rattle.om_picture.proofs.HeldLemmas.{covered_first, covered_none, uncovered_all, uncovered_first}

-- ---- counts
pub all_counted : (count : EventMark → ℕ) (marks : ℕ → LaneState → List EventMark) (s : Sketch)
    → sum_by count (all_marks marks s) ≡ sum_by count s.drawn + sum_by count (lanes_marks marks 0 s.lanes)
unfolding all_marks
all_counted count marks s = sum_by-append count s.drawn (lanes_marks marks 0 s.lanes)

-- lanes whose marks come to the same
pub lanes_alike : (v w : ℕ → LaneState → List EventMark) (k : ℕ) (lanes : List LaneState)
    → ((q : ℕ) → q < length lanes → v (k + q) (get_or lanes q new_lane) ≡ w (k + q) (get_or lanes q new_lane))
    → lanes_marks v k lanes ≡ lanes_marks w k lanes
lanes_alike v w k [] same = refl
lanes_alike v w k (lane ∷ lanes) same =
    let at : k + 0 ≡ k = omega arith in
    let here : v k lane ≡ w k lane = subst (λ (n : ℕ). v n lane ≡ w n lane) at (same 0 (omega arith)) in
    ap (λ (l : List EventMark). l ++ lanes_marks v (suc k) lanes) here
    ∙ ap (λ (l : List EventMark). w k lane ++ l) (lanes_alike v w (suc k) lanes (λ (q : ℕ) (below : q < length lanes).
    let next : k + suc q ≡ suc k + q = omega arith in
    subst (λ (n : ℕ). v n (get_or lanes q new_lane) ≡ w n (get_or lanes q new_lane)) next (same (suc q) (omega arith))))

-- a lane that is another, where the marks of the others come to the same
lanes_set : (count : EventMark → ℕ) (v w : ℕ → LaneState → List EventMark) (k : ℕ) (lanes : List LaneState) (p : ℕ) (b : LaneState) → p < length lanes
    → ((q : ℕ) → q ≢ k + p → (lane : LaneState) → v q lane ≡ w q lane)
    → sum_by count (lanes_marks w k (set lanes p b)) + sum_by count (v (k + p) (get_or lanes p new_lane))
    ≡ sum_by count (lanes_marks v k lanes) + sum_by count (w (k + p) b)
lanes_set count v w k [] p b within others = absurd (omega arith)
lanes_set count v w k (lane ∷ lanes) zero b within others =
    let rest = lanes_alike v w (suc k) lanes (λ (q : ℕ) (below : q < length lanes).
    let away : suc k + q ≢ k + zero = omega arith in others (suc k + q) away (get_or lanes q new_lane)) in
    let at : k + zero ≡ k = omega arith in
    let x = sum_by-append count (w k b) (lanes_marks w (suc k) lanes) in
    let y = sum_by-append count (v k lane) (lanes_marks v (suc k) lanes) in
    let z : sum_by count (lanes_marks v (suc k) lanes) ≡ sum_by count (lanes_marks w (suc k) lanes) =
    ap (λ (l : List EventMark). sum_by count l) rest in
    let s : sum_by count (v (k + zero) lane) ≡ sum_by count (v k lane) = ap (λ (n : ℕ). sum_by count (v n lane)) at in
    let t : sum_by count (w (k + zero) b) ≡ sum_by count (w k b) = ap (λ (n : ℕ). sum_by count (w n b)) at in
    omega arith
lanes_set count v w k (lane ∷ lanes) (suc p) b within others =
    let at : k + suc p ≡ suc k + p = omega arith in
    let before = lanes_set count v w (suc k) lanes p b (omega arith) (λ (q : ℕ) (away : q ≢ suc k + p) (l : LaneState).
    let off : q ≢ k + suc p = omega arith in others q off l) in
    let first : k ≢ k + suc p = omega arith in
    let here : sum_by count (v k lane) ≡ sum_by count (w k lane) = ap (λ (l : List EventMark). sum_by count l) (others k first lane) in
    let x = sum_by-append count (w k lane) (lanes_marks w (suc k) (set lanes p b)) in
    let y = sum_by-append count (v k lane) (lanes_marks v (suc k) lanes) in
    let s : sum_by count (v (k + suc p) (get_or lanes p new_lane)) ≡ sum_by count (v (suc k + p) (get_or lanes p new_lane)) =
    ap (λ (n : ℕ). sum_by count (v n (get_or lanes p new_lane))) at in
    let t : sum_by count (w (k + suc p) b) ≡ sum_by count (w (suc k + p) b) = ap (λ (n : ℕ). sum_by count (w n b)) at in
    omega arith

pub lane_counted : (count : EventMark → ℕ) (v w : ℕ → LaneState → List EventMark) (lanes : List LaneState) (p : ℕ) (b : LaneState) → p < length lanes
    → ((q : ℕ) → q ≢ p → (lane : LaneState) → v q lane ≡ w q lane)
    → sum_by count (lanes_marks w 0 (set lanes p b)) + sum_by count (v p (get_or lanes p new_lane))
    ≡ sum_by count (lanes_marks v 0 lanes) + sum_by count (w p b)
lane_counted count v w lanes p b within others =
    let at : 0 + p ≡ p = omega arith in
    let all = lanes_set count v w 0 lanes p b within (λ (q : ℕ) (away : q ≢ 0 + p) (l : LaneState).
    let off : q ≢ p = omega arith in others q off l) in
    let s : sum_by count (v (0 + p) (get_or lanes p new_lane)) ≡ sum_by count (v p (get_or lanes p new_lane)) =
    ap (λ (n : ℕ). sum_by count (v n (get_or lanes p new_lane))) at in
    let t : sum_by count (w (0 + p) b) ≡ sum_by count (w p b) = ap (λ (n : ℕ). sum_by count (w n b)) at in
    omega arith

-- ---- steps
turn_counted : (count : EventMark → ℕ) (v : ℕ → LaneState → List EventMark) (Turn : LaneState → LaneState → Type 0) (a b : Sketch) (p : ℕ)
    → Turns Turn a b p
    → sum_by count (all_marks v b) + sum_by count (v p (lane_of a p)) ≡ sum_by count (all_marks v a) + sum_by count (v p (lane_of b p))
turn_counted count v Turn a b p t =
    let x = all_counted count v a in
    let y = all_counted count v b in
    let drawn : sum_by count b.drawn ≡ sum_by count a.drawn = ap (λ (l : List EventMark). sum_by count l) t.drawn in
    let lanes : sum_by count (lanes_marks v 0 b.lanes) ≡ sum_by count (lanes_marks v 0 (set a.lanes p (lane_of b p))) =
    ap (λ (ls : List LaneState). sum_by count (lanes_marks v 0 ls)) t.lanes in
    let one = lane_counted count v v a.lanes p (lane_of b p) t.within (λ (q : ℕ) (away : q ≢ p) (l : LaneState). refl) in
    omega arith

settle_counted : (count : EventMark → ℕ) (v : ℕ → LaneState → List EventMark) (a b : Sketch) (more : List EventMark) → Settles a b more
    → sum_by count (all_marks v b) ≡ sum_by count (all_marks v a) + sum_by count more
settle_counted count v a b more s =
    let x = all_counted count v a in
    let y = all_counted count v b in
    let drawn : sum_by count b.drawn ≡ sum_by count a.drawn + sum_by count more =
    ap (λ (l : List EventMark). sum_by count l) s.drawn ∙ sum_by-append count a.drawn more in
    let lanes : sum_by count (lanes_marks v 0 b.lanes) ≡ sum_by count (lanes_marks v 0 a.lanes) =
    ap (λ (ls : List LaneState). sum_by count (lanes_marks v 0 ls)) s.lanes in
    omega arith

pub turned_count : (Turn : LaneState → LaneState → Type 0) (a b : Sketch) (p : ℕ) → Turns Turn a b p → length b.lanes ≡ length a.lanes
turned_count Turn a b p t = ap (λ (ls : List LaneState). length ls) t.lanes ∙ length-set a.lanes p (lane_of b p)

pub turned_other : (Turn : LaneState → LaneState → Type 0) (a b : Sketch) (p : ℕ) → Turns Turn a b p → (q : ℕ) → q ≢ p → lane_of b q ≡ lane_of a q
turned_other Turn a b p t q away =
    ap (λ (ls : List LaneState). get_or ls q new_lane) t.lanes ∙ get_or-set_other a.lanes p q (lane_of b p) new_lane away

pub settled_lane : (a b : Sketch) (more : List EventMark) → Settles a b more → (q : ℕ) → lane_of b q ≡ lane_of a q
settled_lane a b more s q = ap (λ (ls : List LaneState). get_or ls q new_lane) s.lanes

-- ---- what is kept
pub keeps_none : (v : ℕ → LaneState → List EventMark) (s : Sketch) → KeepsMarks v s s
keeps_none v s = record { on = refl; edge = refl; count = refl; marks = λ (c : EventMark → ℕ). refl }

pub keeps_then : (v : ℕ → LaneState → List EventMark) (a b c : Sketch) → KeepsMarks v a b → KeepsMarks v b c → KeepsMarks v a c
keeps_then v a b c p q = record {
  on = q.on ∙ p.on;
  edge = q.edge ∙ p.edge;
  count = q.count ∙ p.count;
  marks = λ (x : EventMark → ℕ). q.marks x ∙ p.marks x;
}

turn_keeps : (v : ℕ → LaneState → List EventMark) (Turn : LaneState → LaneState → Type 0) (a b : Sketch) (p : ℕ) → Turns Turn a b p
    → v p (lane_of b p) ≡ v p (lane_of a p) → KeepsMarks v a b
turn_keeps v Turn a b p t same = record {
  on = t.on;
  edge = t.edge;
  count = turned_count Turn a b p t;
  marks = λ (c : EventMark → ℕ).
      let x = turn_counted c v Turn a b p t in
      let y : sum_by c (v p (lane_of b p)) ≡ sum_by c (v p (lane_of a p)) = ap (λ (l : List EventMark). sum_by c l) same in
      omega arith;
}

-- a mark that is taken and drawn
taken_keeps : (v : ℕ → LaneState → List EventMark) (Turn : LaneState → LaneState → Type 0) (a b c : Sketch) (p : ℕ) (more : List EventMark)
    → Turns Turn a b p → Settles b c more → v p (lane_of a p) ≡ more ++ v p (lane_of b p) → KeepsMarks v a c
taken_keeps v Turn a b c p more t s was = record {
  on = s.on ∙ t.on;
  edge = s.edge ∙ t.edge;
  count = ap (λ (ls : List LaneState). length ls) s.lanes ∙ turned_count Turn a b p t;
  marks = λ (x : EventMark → ℕ).
      let i = turn_counted x v Turn a b p t in
      let j = settle_counted x v b c more s in
      let k : sum_by x (v p (lane_of a p)) ≡ sum_by x more + sum_by x (v p (lane_of b p)) =
      ap (λ (l : List EventMark). sum_by x l) was ∙ sum_by-append x more (v p (lane_of b p)) in
      omega arith;
}

-- what waits on a lane comes to its first mark and the rest
takes_marks : (f : ℕ → Progress → ℕ → Fate) (mark : Mark) (a b : LaneState) → Takes mark a b
    → waiting_marks (f a.reached a.progress) a.waiting
    ≡ mark_marks mark (f a.reached a.progress mark.interval) ++ waiting_marks (f b.reached b.progress) b.waiting
takes_marks f mark a b t =
    let head : List EventMark = mark_marks mark (f a.reached a.progress mark.interval) in
    ap (λ (l : List Mark). waiting_marks (f a.reached a.progress) l) t.was
    ∙ ap (λ (w : Progress). head ++ waiting_marks (f a.reached w) b.waiting) (sym (ap (λ (l : LaneState). l.progress) t.lane))
    ∙ ap (λ (n : ℕ). head ++ waiting_marks (f n b.progress) b.waiting) (sym (ap (λ (l : LaneState). l.reached) t.lane))

takes_stays : (mark : Mark) (a b : LaneState) → Takes mark a b → Stays a b
takes_stays mark a b t = record {
  progress = ap (λ (l : LaneState). l.progress) t.lane;
  ended = ap (λ (l : LaneState). l.ended) t.lane;
  reached = ap (λ (l : LaneState). l.reached) t.lane;
}

-- ---- a recovery state is told
raised_marks : (row : EventRow) (later : List EventRow) (p place : ℕ) (a b : LaneState) → place ≡ slice_index row.recovery p → Raises place a b
    → amid_marks row later p b ≡ amid_marks row later p a
raised_marks row later p place a b is raised =
    ap (λ (l : LaneState). amid_marks row later p l) raised
    ∙ waiting_alike (λ i. fate_amid row later p i (max a.reached place) a.progress)
    (λ i. fate_amid row later p i a.reached a.progress)
    (λ (i : ℕ).
    ap (λ (n : ℕ). fate_amid row later p i (max a.reached n) a.progress) is ∙ amid_again row later p i a.reached a.progress) a.waiting

pub learn_first : (row : EventRow) (a b : Sketch) (p place : ℕ) → place ≡ slice_index row.recovery p → Turns (Raises place) a b p
    → Learning row false a b p
learn_first row a b p place is t =
    let same : held_in (lane_of b p) ≡ held_in (lane_of a p) = ap (λ (l : LaneState). held_in l) t.turn in
    record {
      keeps = λ (later : List EventRow). turn_keeps (amid_marks row later) (Raises place) a b p t
          (raised_marks row later p place (lane_of a p) (lane_of b p) is t.turn);
      here = record {
        progress = ap (λ (l : LaneState). l.progress) t.turn;
        ended = ap (λ (l : LaneState). l.ended) t.turn;
        reached = ap (λ (l : LaneState). l.reached) t.turn ∙ ap (λ (n : ℕ). max (lane_of a p).reached n) is;
      };
      left = ap (λ (l : List Held). left_behind (lane_of b p).reached l) (sym same);
      freed = ap (λ (l : List Held). list_any (is_elsewhere row.entry.at.x) (covered_by (lane_of b p).reached l)) (sym same);
      others = turned_other (Raises place) a b p t;
    }

-- a mark that it covers is kept
covered_marks : (row : EventRow) (later : List EventRow) (p : ℕ) (mark : Mark) (a b : LaneState) → TakesCovered mark a b
    → amid_marks row later p a ≡ mark_marks mark kept ++ amid_marks row later p b
covered_marks row later p mark a b t =
    takes_marks (λ was now i. fate_amid row later p i was now) mark a b t.takes
    ∙ ap (λ (f : Fate). mark_marks mark f ++ amid_marks row later p b)
    (kept_amid row later p mark.interval a.reached a.progress t.covered)

told_still : (place : ℕ) (a b c : LaneState) → TellsPlace place a b → Stays b c → TellsPlace place a c
told_still place a b c p q = record {
  progress = q.progress ∙ p.progress;
  ended = q.ended ∙ p.ended;
  reached = q.reached ∙ p.reached;
}

-- what was left, and what was found, behind one more that goes
left_next : (place : ℕ) (mark : Mark) (all was rest : List Held) → mark.interval ≤ place → was ≡ held_of mark ∷ rest
    → left_behind place all ≡ left_behind place was → left_behind place all ≡ left_behind place rest
left_next place mark all was rest within is left =
    left ∙ ap (λ (l : List Held). left_behind place l) is ∙ uncovered_first place (held_of mark) rest within

freed_next : (x place : ℕ) (mark : Mark) (found more : Bool) (all was rest : List Held) → mark.interval ≤ place
    → was ≡ held_of mark ∷ rest → more ≡ is_elsewhere x (held_of mark)
    → list_any (is_elsewhere x) (covered_by place all) ≡ (found || list_any (is_elsewhere x) (covered_by place was))
    → list_any (is_elsewhere x) (covered_by place all) ≡ ((found || more) || list_any (is_elsewhere x) (covered_by place rest))
freed_next x place mark found more all was rest within is here freed =
    freed ∙ ap (λ (l : List Held). found || list_any (is_elsewhere x) (covered_by place l)) is
    ∙ ap (λ (l : List Held). found || list_any (is_elsewhere x) l) (covered_first place (held_of mark) rest within)
    ∙ sym (or_assoc found (is_elsewhere x (held_of mark)) (list_any (is_elsewhere x) (covered_by place rest)))
    ∙ ap (λ (b : Bool). (found || b) || list_any (is_elsewhere x) (covered_by place rest)) (sym here)

pub learn_kept : (row : EventRow) (found more : Bool) (a b c d : Sketch) (p : ℕ) (mark : Mark) → Learning row found a b p
    → Turns (TakesCovered mark) b c p → Settles c d (mark_marks mark kept) → more ≡ is_elsewhere row.entry.at.x (held_of mark)
    → Learning row (found || more) a d p
learn_kept row found more a b c d p mark before t s is =
    let settled = settled_lane c d (mark_marks mark kept) s p in
    let reached : (lane_of d p).reached ≡ (lane_of b p).reached =
    ap (λ (l : LaneState). l.reached) settled ∙ ap (λ (l : LaneState). l.reached) t.turn.takes.lane in
    let was : held_in (lane_of b p) ≡ held_of mark ∷ held_in (lane_of d p) =
    ap (λ (l : List Mark). map held_of l) t.turn.takes.was ∙ ap (λ (l : LaneState). held_of mark ∷ held_in l) (sym settled) in
    record {
      keeps = λ (later : List EventRow). keeps_then (amid_marks row later) a b d (before.keeps later)
          (taken_keeps (amid_marks row later) (TakesCovered mark) b c d p (mark_marks mark kept) t s
          (covered_marks row later p mark (lane_of b p) (lane_of c p) t.turn));
      here = told_still (slice_index row.recovery p) (lane_of a p) (lane_of b p) (lane_of d p) before.here
          (subst (λ (l : LaneState). Stays (lane_of b p) l) (sym settled) (takes_stays mark (lane_of b p) (lane_of c p) t.turn.takes));
      left =
          subst (λ (n : ℕ). left_behind n (held_in (lane_of a p)) ≡ left_behind n (held_in (lane_of d p))) (sym reached)
          (left_next (lane_of b p).reached mark (held_in (lane_of a p)) (held_in (lane_of b p)) (held_in (lane_of d p)) t.turn.covered was
          before.left);
      freed =
          subst (λ (n : ℕ). list_any (is_elsewhere row.entry.at.x) (covered_by n (held_in (lane_of a p)))
          ≡ ((found || more) || list_any (is_elsewhere row.entry.at.x) (covered_by n (held_in (lane_of d p))))) (sym reached)
          (freed_next row.entry.at.x (lane_of b p).reached mark found more (held_in (lane_of a p)) (held_in (lane_of b p))
          (held_in (lane_of d p)) t.turn.covered was is before.freed);
      others = λ (q : ℕ) (away : q ≢ p).
          settled_lane c d (mark_marks mark kept) s q ∙ turned_other (TakesCovered mark) b c p t q away ∙ before.others q away;
    }

-- a lane whose first mark is taken has fewer
fewer : (mark : Mark) (a b : LaneState) → Takes mark a b → length b.waiting < length a.waiting
fewer mark a b t = let was : length a.waiting ≡ suc (length b.waiting) = ap (λ (l : List Mark). length l) t.was in omega arith

pub kept_fewer : (b c d : Sketch) (p : ℕ) (mark : Mark) (more : List EventMark) → Turns (TakesCovered mark) b c p → Settles c d more
    → length (lane_of d p).waiting < length (lane_of b p).waiting
kept_fewer b c d p mark more t s =
    let less = fewer mark (lane_of b p) (lane_of c p) t.turn.takes in
    let same : length (lane_of d p).waiting ≡ length (lane_of c p).waiting = ap (λ (l : LaneState). length l.waiting)
    (settled_lane c d more s p) in
    omega arith

-- no more is covered
learned : (row : EventRow) (found : Bool) (a b : Sketch) (p : ℕ) → Learning row found a b p
    → covered_by (lane_of b p).reached (held_in (lane_of b p)) ≡ [] → LearnsAt row a b p
learned row found a b p before none = record {
  keeps = before.keeps;
  here = record {
    told = before.here;
    held = sym (before.left ∙ uncovered_all (lane_of b p).reached (held_in (lane_of b p)) none);
  };
  others = before.others;
}

pub learn_none : (row : EventRow) (found : Bool) (a b c : Sketch) (p : ℕ) → Learning row found a b p
    → (c ≡ b) × (covered_by (lane_of b p).reached (held_in (lane_of b p)) ≡ []) → LearnsAt row a c p
learn_none row found a b c p before last =
    subst (λ (s : Sketch). LearnsAt row a s p) (sym last.0) (learned row found a b p before last.1)

pub learn_freed : (row : EventRow) (found : Bool) (a b c : Sketch) (p : ℕ) → Learning row found a b p
    → (c ≡ b) × (covered_by (lane_of b p).reached (held_in (lane_of b p)) ≡ []) → found ≡ frees row p (lane_of a p)
learn_freed row found a b c p before last =
    sym (ap (λ (n : ℕ). list_any (is_elsewhere row.entry.at.x) (covered_by n (held_in (lane_of a p)))) (sym before.here.reached)
    ∙ before.freed ∙ ap (λ (l : List Held). found || list_any (is_elsewhere row.entry.at.x) l) last.1 ∙ or-false found)

pub learns_start : (row : EventRow) (a : Sketch) → LearnsBelow row a a 0
learns_start row a = record {
  keeps = λ (later : List EventRow). record {
    on = refl;
    edge = refl;
    count = refl;
    marks = λ (c : EventMark → ℕ). ap (λ (l : List EventMark). sum_by c l) (sym (append-nil (all_marks (amid_marks row later) a)));
  };
  learned = λ (q : ℕ) (below : q < 0). absurd (omega arith);
  others = λ (q : ℕ) (past : 0 ≤ q). refl;
}

-- what one lane more frees
freed_one : (row : EventRow) (found : Bool) (a b c : Sketch) (p : ℕ) → c.on ≡ a.on → lane_of b p ≡ lane_of a p
    → found ≡ frees row p (lane_of b p)
    → (if c.on then released_at found (lane_number p) row.entry else [])
    ≡ (if a.on then released_at (frees row p (lane_of a p)) (lane_number p) row.entry else [])
freed_one row found a b c p on lane is =
    ap (λ (x : Bool). if x then released_at found (lane_number p) row.entry else []) on
    ∙ ap (λ (x : Bool). if a.on then released_at x (lane_number p) row.entry else []) is
    ∙ ap (λ (l : LaneState). if a.on then released_at (frees row p l) (lane_number p) row.entry else []) lane

freed_more : (v : ℕ → LaneState → List EventMark) (row : EventRow) (a b c d : Sketch) (p : ℕ) (more : List EventMark)
    → KeepsWith (freed_below row a p) v a b → KeepsMarks v b c → Settles c d more
    → more ≡ (if a.on then released_at (frees row p (lane_of a p)) (lane_number p) row.entry else [])
    → KeepsWith (freed_below row a (p + 1)) v a d
freed_more v row a b c d p more before at s is =
    let next : p + 1 ≡ suc p = omega arith in
    record {
      on = s.on ∙ at.on ∙ before.on;
      edge = s.edge ∙ at.edge ∙ before.edge;
      count = ap (λ (ls : List LaneState). length ls) s.lanes ∙ at.count ∙ before.count;
      marks = λ (x : EventMark → ℕ).
          let one : List EventMark = if a.on then released_at (frees row p (lane_of a p)) (lane_number p) row.entry else [] in
          let i : sum_by x (all_marks v b) ≡ sum_by x (all_marks v a ++ freed_below row a p) = before.marks x in
          let j = sum_by-append x (all_marks v a) (freed_below row a p) in
          let k : sum_by x (all_marks v c) ≡ sum_by x (all_marks v b) = at.marks x in
          let l = settle_counted x v c d more s in
          let m : sum_by x more ≡ sum_by x one = ap (λ (ms : List EventMark). sum_by x ms) is in
          let n : sum_by x (freed_below row a (p + 1)) ≡ sum_by x (freed_below row a p ++ one) =
          ap (λ (q : ℕ). sum_by x (freed_below row a q)) next in
          let o = sum_by-append x (freed_below row a p) one in
          let q = sum_by-append x (all_marks v a) (freed_below row a (p + 1)) in
          omega arith;
    }

pub learns_next : (row : EventRow) (found : Bool) (a b c d : Sketch) (p : ℕ) → LearnsBelow row a b p → LearnsAt row b c p
    → found ≡ frees row p (lane_of b p) → Settles c d (if c.on then released_at found (lane_number p) row.entry else [])
    → LearnsBelow row a d (p + 1)
learns_next row found a b c d p before at is s =
    let more : List EventMark = if c.on then released_at found (lane_number p) row.entry else [] in
    let here : p ≤ p = omega arith in
    record {
      keeps = λ (later : List EventRow).
          let on : c.on ≡ a.on = (at.keeps later).on ∙ (before.keeps later).on in
          freed_more (amid_marks row later) row a b c d p more (before.keeps later) (at.keeps later) s
          (freed_one row found a b c p on (before.others p here) is);
      learned = λ (q : ℕ) (below : q < p + 1). elim (eqb_tells q p) [
        | inl same ↦
            let le : p ≤ q = (let e = same.1 in omega arith) in
            let one : Learns (slice_index row.recovery q) (lane_of b q) (lane_of c q) =
            subst (λ (n : ℕ). Learns (slice_index row.recovery n) (lane_of b n) (lane_of c n)) (sym same.1) at.here in
            subst (λ (l : LaneState). Learns (slice_index row.recovery q) (lane_of a q) l) (sym (settled_lane c d more s q))
            (subst (λ (l : LaneState). Learns (slice_index row.recovery q) l (lane_of c q)) (before.others q le) one)
        | inr away ↦
            let less : q < p = (let e = away.1 in omega arith) in
            subst (λ (l : LaneState). Learns (slice_index row.recovery q) (lane_of a q) l)
            (sym (settled_lane c d more s q ∙ at.others q away.1)) (before.learned q less)
      ];
      others = λ (q : ℕ) (past : p + 1 ≤ q).
          let away : q ≢ p = omega arith in
          let le : p ≤ q = omega arith in
          settled_lane c d more s q ∙ at.others q away ∙ before.others q le;
    }

pub learns_all : (row : EventRow) (a b : Sketch) (p : ℕ) → p ≡ length a.lanes → LearnsBelow row a b p → LearnsAll row a b
learns_all row a b p count below = record {
  keeps = λ (later : List EventRow).
      subst (λ (k : ℕ). KeepsWith (freed_below row a k) (amid_marks row later) a b) count (below.keeps later);
  lanes = λ (q : ℕ) (within : q < length a.lanes). let less : q < p = omega arith in below.learned q less;
}

-- ---- what waits is settled
first_marks : (finished : Bool) (p : ℕ) (next : Next) (a b : LaneState) → TakesFirst next a b
    → now_marks finished p a ≡ mark_marks next.mark (fate_now finished next.covered next.stored) ++ now_marks finished p b
first_marks finished p next a b t =
    takes_marks (λ reached now i. fate_now finished (nat_le i reached) (nat_le i now.safe)) next.mark a b t.takes
    ∙ ap (λ (x : Bool). mark_marks next.mark (fate_now finished x (nat_le next.mark.interval a.progress.safe)) ++ now_marks finished p b)
    (sym t.covered)
    ∙ ap (λ (x : Bool). mark_marks next.mark (fate_now finished next.covered x) ++ now_marks finished p b) (sym t.stored)

stays_then : (a b c : LaneState) → Stays a b → Stays b c → Stays a c
stays_then a b c p q = record {
  progress = q.progress ∙ p.progress;
  ended = q.ended ∙ p.ended;
  reached = q.reached ∙ p.reached;
}

stays : (a : LaneState) → Stays a a
stays a = record { progress = refl; ended = refl; reached = refl }

pub settles_start : (finished : Bool) (a : Sketch) (p : ℕ) → SettlesSome finished a a p
settles_start finished a p = record { keeps = keeps_none (now_marks finished) a; here = stays (lane_of a p); others = λ q away. refl }

pub settles_next : (finished : Bool) (a b c d : Sketch) (p : ℕ) (next : Next) → SettlesSome finished a b p → Turns (TakesFirst next) b c p
    → Settles c d (mark_marks next.mark (fate_now finished next.covered next.stored)) → SettlesSome finished a d p
settles_next finished a b c d p next before t s =
    let more : List EventMark = mark_marks next.mark (fate_now finished next.covered next.stored) in
    record {
      keeps = keeps_then (now_marks finished) a b d before.keeps
          (taken_keeps (now_marks finished) (TakesFirst next) b c d p more t s
          (first_marks finished p next (lane_of b p) (lane_of c p) t.turn));
      here = stays_then (lane_of a p) (lane_of b p) (lane_of d p) before.here
          (subst (λ (l : LaneState). Stays (lane_of b p) l) (sym (settled_lane c d more s p))
          (takes_stays next.mark (lane_of b p) (lane_of c p) t.turn.takes));
      others = λ (q : ℕ) (away : q ≢ p).
          settled_lane c d more s q ∙ turned_other (TakesFirst next) b c p t q away ∙ before.others q away;
    }

pub settles_fewer : (b c d : Sketch) (p : ℕ) (next : Next) (more : List EventMark) → Turns (TakesFirst next) b c p → Settles c d more
    → length (lane_of d p).waiting < length (lane_of b p).waiting
settles_fewer b c d p next more t s =
    let less = fewer next.mark (lane_of b p) (lane_of c p) t.turn.takes in
    let same : length (lane_of d p).waiting ≡ length (lane_of c p).waiting = ap (λ (l : LaneState). length l.waiting)
    (settled_lane c d more s p) in
    omega arith

pub settles_lane : (finished : Bool) (a b c : Sketch) (p : ℕ) → SettlesSome finished a b p → (c ≡ b) × ((lane_of b p).waiting ≡ [])
    → SettlesLane finished a c p
settles_lane finished a b c p some last =
    subst (λ (s : Sketch). SettlesLane finished a s p) (sym last.0) (record { some = some; empty = last.1 })

pub below_start : (finished : Bool) (a : Sketch) → SettlesBelow finished a a 0
below_start finished a = record {
  keeps = keeps_none (now_marks finished) a;
  lanes = λ (q : ℕ). stays (lane_of a q);
  empty = λ (q : ℕ) (below : q < 0). absurd (omega arith);
}

pub below_next : (finished : Bool) (a b c : Sketch) (p : ℕ) → SettlesBelow finished a b p → SettlesLane finished b c p
    → SettlesBelow finished a c (p + 1)
below_next finished a b c p before lane = record {
  keeps = keeps_then (now_marks finished) a b c before.keeps lane.some.keeps;
  lanes = λ (q : ℕ). elim (eqb_tells q p) [
    | inl here ↦
        stays_then (lane_of a q) (lane_of b q) (lane_of c q) (before.lanes q)
        (subst (λ (n : ℕ). Stays (lane_of b n) (lane_of c n)) (sym here.1) lane.some.here)
    | inr away ↦ subst (λ (l : LaneState). Stays (lane_of a q) l) (sym (lane.some.others q away.1)) (before.lanes q)
  ];
  empty = λ (q : ℕ) (below : q < p + 1). elim (eqb_tells q p) [
    | inl here ↦ subst (λ (n : ℕ). (lane_of c n).waiting ≡ []) (sym here.1) lane.empty
    | inr away ↦
        let less : q < p = (let e = away.1 in omega arith) in
        ap (λ (l : LaneState). l.waiting) (lane.some.others q away.1) ∙ before.empty q less
  ];
}

pub settles_all : (finished : Bool) (a b : Sketch) (p : ℕ) → p ≡ length a.lanes → SettlesBelow finished a b p → SettlesAll finished a b
settles_all finished a b p count below = record {
  keeps = below.keeps;
  lanes = below.lanes;
  empty = λ (q : ℕ) (within : q < length a.lanes). let less : q < p = omega arith in below.empty q less;
}

-- ---- lanes of histories
pub lane_at : (hs : List History) (p : ℕ) (h : History) → p < length hs → h ≡ get_or hs p h → get_or (map lane_in hs) p new_lane ≡ lane_in h
lane_at hs p h within is = get_or-map lane_in hs p h new_lane within ∙ ap lane_in (sym is)

-- a history that changes
pub turned : (Turn : LaneState → LaneState → Type 0) (on : Bool) (edge : Edge) (drawn : List EventMark) (hs : List History) (p : ℕ) (old new : History)
    → p < length hs → old ≡ get_or hs p old → Turn (lane_in old) (lane_in new)
    → Turns Turn (record { on = on; edge = edge; drawn = drawn; lanes = map lane_in hs })
    (record { on = on; edge = edge; drawn = drawn; lanes = map lane_in (set hs p new) }) p
turned Turn on edge drawn hs p old new within is turn =
    let long = length-map hs lane_in in
    let there : p < length (map lane_in hs) = omega arith in
    let now : get_or (map lane_in (set hs p new)) p new_lane ≡ lane_in new =
    ap (λ (ls : List LaneState). get_or ls p new_lane) (map-set lane_in hs p new)
    ∙ get_or-set_same (map lane_in hs) p (lane_in new) new_lane there in
    record {
      on = refl;
      edge = refl;
      drawn = refl;
      within = there;
      lanes = map-set lane_in hs p new ∙ ap (λ (l : LaneState). set (map lane_in hs) p l) (sym now);
      turn = subst (λ (l : LaneState). Turn (get_or (map lane_in hs) p new_lane) l) (sym now)
          (subst (λ (l : LaneState). Turn l (lane_in new)) (sym (lane_at hs p old within is)) turn);
    }

pub turned_if : (r : Result (Unit {0}) AllocError) (Turn : LaneState → LaneState → Type 0) (on : Bool) (edge : Edge) (drawn : List EventMark)
    (hs : List History) (p : ℕ) (old new : History)
    → p < length hs → old ≡ get_or hs p old → OnOk r (Turn (lane_in old) (lane_in new))
    → OnOk r (Turns Turn (record { on = on; edge = edge; drawn = drawn; lanes = map lane_in hs })
    (record { on = on; edge = edge; drawn = drawn; lanes = map lane_in (set hs p new) }) p)
turned_if r Turn on edge drawn hs p old new within is turn =
    on_ok_weaker r (λ (t : Turn (lane_in old) (lane_in new)). turned Turn on edge drawn hs p old new within is t) turn

-- one that does not
same_lanes : (on : Bool) (edge : Edge) (drawn : List EventMark) (hs : List History) (p : ℕ) (old new : History) → p < length hs
    → old ≡ get_or hs p old → lane_in new ≡ lane_in old
    → (let s : Sketch = record { on = on; edge = edge; drawn = drawn; lanes = map lane_in (set hs p new) } in s)
    ≡ record { on = on; edge = edge; drawn = drawn; lanes = map lane_in hs }
same_lanes on edge drawn hs p old new within is same =
    ap (λ (ls : List LaneState). let s : Sketch = record { on = on; edge = edge; drawn = drawn; lanes = ls } in s)
    (map-set lane_in hs p new
    ∙ ap (λ (l : LaneState). set (map lane_in hs) p l) (same ∙ sym (lane_at hs p old within is))
    ∙ set-get_or (map lane_in hs) p new_lane)

pub first_taken : (r : Option Next) (on : Bool) (edge : Edge) (drawn : List EventMark) (hs : List History) (p : ℕ) (old new : History)
    → p < length hs → old ≡ get_or hs p old
    → MatchOption r (((lane_in old).waiting ≡ []) × (lane_in new ≡ lane_in old)) (λ next. TakesFirst next (lane_in old) (lane_in new))
    → (let before : Sketch = record { on = on; edge = edge; drawn = drawn; lanes = map lane_in hs } in
    let after : Sketch = record { on = on; edge = edge; drawn = drawn; lanes = map lane_in (set hs p new) } in
    MatchOption r ((after ≡ before) × ((lane_of before p).waiting ≡ [])) (λ next. Turns (TakesFirst next) before after p))
first_taken (Some next) on edge drawn hs p old new within is taken =
    turned (TakesFirst next) on edge drawn hs p old new within is taken
first_taken None on edge drawn hs p old new within is none =
    (same_lanes on edge drawn hs p old new within is none.1, ap (λ (l : LaneState). l.waiting) (lane_at hs p old within is) ∙ none.0)

pub covered_taken : (r : Option Mark) (on : Bool) (edge : Edge) (drawn : List EventMark) (hs : List History) (p : ℕ) (old new : History)
    → p < length hs → old ≡ get_or hs p old
    → MatchOption r ((lane_in new ≡ lane_in old) × (covered_by (lane_in old).reached (held_in (lane_in old)) ≡ []))
    (λ mark. TakesCovered mark (lane_in old) (lane_in new))
    → (let before : Sketch = record { on = on; edge = edge; drawn = drawn; lanes = map lane_in hs } in
    let after : Sketch = record { on = on; edge = edge; drawn = drawn; lanes = map lane_in (set hs p new) } in
    MatchOption r ((after ≡ before) × (covered_by (lane_of before p).reached (held_in (lane_of before p)) ≡ []))
    (λ mark. Turns (TakesCovered mark) before after p))
covered_taken (Some mark) on edge drawn hs p old new within is taken =
    turned (TakesCovered mark) on edge drawn hs p old new within is taken
covered_taken None on edge drawn hs p old new within is none = (
  same_lanes on edge drawn hs p old new within is none.0,
  ap (λ (l : LaneState). covered_by l.reached (held_in l)) (lane_at hs p old within is) ∙ none.1,
)

pub past_lane : (hs : List History) (p : ℕ) → length hs ≤ p → (get_or (map lane_in hs) p new_lane).waiting ≡ []
past_lane hs p past =
    let there : length (map lane_in hs) ≤ p = omega (arith, length-map hs lane_in) in
    ap (λ (l : LaneState). l.waiting) (get_or_past (map lane_in hs) p new_lane there)

pub past_covered : (hs : List History) (p : ℕ) → length hs ≤ p
    → (let l : LaneState = get_or (map lane_in hs) p new_lane in covered_by l.reached (held_in l)) ≡ []
past_covered hs p past =
    ap (λ (ms : List Mark). covered_by (get_or (map lane_in hs) p new_lane).reached (map held_of ms)) (past_lane hs p past)

-- what a history adds and takes
pub lane_more : (r : Result (Unit {0}) AllocError) (progress : Progress) (ended : Bool) (reached : ℕ) (items more one : List Mark)
    (settled : ℕ) (mark : Mark) → settled ≤ length items → one ≡ mark ∷ []
    → more ≡ (if is_ok r then items ++ one else items)
    → OnOk r (IsMore mark
    (record { progress = progress; ended = ended; reached = reached; waiting = drop settled items })
    (record { progress = progress; ended = ended; reached = reached; waiting = drop settled more }))
lane_more (Ok x) progress ended reached items more one settled mark there is added =
    ap (λ (l : List Mark). let lane : LaneState =
    record { progress = progress; ended = ended; reached = reached; waiting = l } in lane)
    (ap (drop settled) (added ∙ ap (λ (l : List Mark). items ++ l) is) ∙ drop-append-le settled items (mark ∷ []) there)
lane_more (Err e) progress ended reached items more one settled mark there is added = tt

pub lane_takes : (progress : Progress) (ended : Bool) (reached : ℕ) (items : List Mark) (settled : ℕ) (mark : Mark)
    → settled < length items → mark ≡ get_or items settled mark
    → Takes mark
    (record { progress = progress; ended = ended; reached = reached; waiting = drop settled items })
    (record { progress = progress; ended = ended; reached = reached; waiting = drop (settled + 1) items })
lane_takes progress ended reached items settled mark there is = record {
  was = drop_more items settled mark there ∙ ap (λ (m : Mark). m ∷ drop (settled + 1) items) (sym is);
  lane = refl;
}

pub first_beyond : (reached : ℕ) (items : List Mark) (settled : ℕ) (mark : Mark) → settled < length items → mark ≡ get_or items settled mark
    → reached < mark.interval → covered_by reached (map held_of (drop settled items)) ≡ []
first_beyond reached items settled mark there is beyond =
    ap (λ (l : List Mark). covered_by reached (map held_of l)) (drop_more items settled mark there)
    ∙ ap (λ (m : Mark). covered_by reached (held_of m ∷ map held_of (drop (settled + 1) items))) (sym is)
    ∙ covered_none reached (held_of mark) (map held_of (drop (settled + 1) items)) beyond

pub lane_empty : (items : List Mark) (settled : ℕ) → length items ≤ settled → drop settled items ≡ []
lane_empty items settled past = drop_all settled items past

-- ---- forms that are drawn
pub settles_none : (s : Sketch) → Settles s s []
settles_none s = record { on = refl; edge = refl; lanes = refl; drawn = sym (append-nil s.drawn) }

pub settles_then : (a b c : Sketch) (f g : List EventMark) → Settles a b f → Settles b c g → Settles a c (f ++ g)
settles_then a b c f g p q = record {
  on = q.on ∙ p.on;
  edge = q.edge ∙ p.edge;
  lanes = q.lanes ∙ p.lanes;
  drawn = q.drawn ∙ ap (λ (l : List EventMark). l ++ g) p.drawn ∙ append_assoc a.drawn f g;
}

pub settles_then_if : (r : Result (Unit {0}) AllocError) (a b c : Sketch) (f g : List EventMark) → Settles a b f → OnOk r (Settles b c g)
    → OnOk r (Settles a c (f ++ g))
settles_then_if r a b c f g p q = on_ok_weaker r (settles_then a b c f g p) q

-- one shape more
pub shape_added : (r : Result (Unit {0}) AllocError) (on : Bool) (edge : Edge) (shapes more : List Shape) (lanes : List LaneState) (shape : Shape)
    (one : List Shape) → one ≡ shape ∷ [] → more ≡ (if is_ok r then shapes ++ one else shapes)
    → OnOk r (Settles (record { on = on; edge = edge; drawn = flat_map shape_marks shapes; lanes = lanes })
    (record { on = on; edge = edge; drawn = flat_map shape_marks more; lanes = lanes }) (shape_marks shape))
shape_added (Ok x) on edge shapes more lanes shape one is added = record {
  on = refl;
  edge = refl;
  lanes = refl;
  drawn = ap (λ (l : List Shape). flat_map shape_marks l) (added ∙ ap (λ (l : List Shape). shapes ++ l) is)
      ∙ sym (flat_map_more shape_marks [] shapes shape);
}
shape_added (Err e) on edge shapes more lanes shape one is added = tt

pub form_settles : (r : Result (Unit {0}) AllocError) (a b : Sketch) (shape : Shape) (glyph : Glyph) (cut : Bool) (title : Title) (at : Spot)
    → shape.glyph ≡ glyph → shape.cut ≡ cut → shape.title ≡ title → shape.at ≡ at → OnOk r (Settles a b (shape_marks shape))
    → OnOk r (Settles a b (mark_of (form_of glyph) cut (title_entry title at)))
form_settles r a b shape glyph cut title at form_is cut_is title_is at_is settled =
    subst (λ (f : Glyph). OnOk r (Settles a b (mark_of (form_of f) cut (title_entry title at)))) form_is
    (subst (λ (x : Bool). OnOk r (Settles a b (mark_of (form_of shape.glyph) x (title_entry title at)))) cut_is
    (subst (λ (t : Title). OnOk r (Settles a b (mark_of (form_of shape.glyph) shape.cut (title_entry t at)))) title_is
    (subst (λ (x : Spot). OnOk r (Settles a b (mark_of (form_of shape.glyph) shape.cut (title_entry shape.title x)))) at_is settled)))

-- the marks of a mark that waited: of its outputs, and its own
late_both : (s : Shown) (fresh : ℕ) (fate : Fate) (entry : EventAt)
    → output_marks (made_by s) fresh fate entry ++ mark_of (form_late s fate) fate.cut entry ≡ fated_marks s fresh fate entry
late_both shows.Nothing fresh fate entry = refl
late_both (shows.Run sent made ends) fresh fate entry = refl
late_both (shows.Resend sent) fresh fate entry = refl
late_both (shows.Receipt frame interval) fresh fate entry = refl
late_both (shows.Refused frame) fresh fate entry = refl
late_both shows.Flush fresh fate entry = refl
late_both (shows.FlushFirst count) fresh fate entry = refl
late_both shows.Checkpoint fresh fate entry = refl
late_both (shows.Failure declared) fresh fate entry = refl
late_both shows.Join fresh fate entry = refl
late_both (shows.Back interval inc) fresh fate entry = refl
late_both shows.GoesOn fresh fate entry = refl

pub settles_mark : (r : Result (Unit {0}) AllocError) (a b c : Sketch) (mark : Mark) (fate : Fate) (form : Glyph)
    → (mark.at.x == 0) ≡ false → form ≡ form_late mark.shown fate
    → Settles a b (output_marks (made_by mark.shown) mark.fresh fate (title_entry mark.title mark.at))
    → OnOk r (Settles b c (mark_of form fate.cut (title_entry mark.title mark.at))) → OnOk r (Settles a c (mark_marks mark fate))
settles_mark r a b c mark fate form there is p q =
    let entry : EventAt = title_entry mark.title mark.at in
    let outputs : List EventMark = output_marks (made_by mark.shown) mark.fresh fate entry in
    let same : outputs ++ mark_of form fate.cut entry ≡ mark_marks mark fate =
    ap (λ (g : Glyph). outputs ++ mark_of g fate.cut entry) is ∙ late_both mark.shown mark.fresh fate entry
    ∙ sym (ap (λ (b : Bool). if b then [] else fated_marks mark.shown mark.fresh fate entry) there) in
    subst (λ (l : List EventMark). OnOk r (Settles a c l)) same (settles_then_if r a b c outputs (mark_of form fate.cut entry) p q)

pub settles_past : (s : Sketch) (mark : Mark) (fate : Fate) → (mark.at.x == 0) ≡ true → Settles s s (mark_marks mark fate)
settles_past s mark fate past =
    let none : mark_marks mark fate ≡ [] =
    ap (λ (b : Bool). if b then [] else fated_marks mark.shown mark.fresh fate (title_entry mark.title mark.at)) past in
    subst (λ (l : List EventMark). Settles s s l) (sym none) (settles_none s)

pub not_zero : (x : ℕ) → (x ≡ 0 → ⊥) → (x == 0) ≡ false
not_zero zero h = absurd (h refl)
not_zero (suc x) h = eqb-suc-zero x

-- ---- the lanes that there are
pub lane_there : (hs : List History) (p : ℕ) → p < length hs → p < length (map lane_in hs)
lane_there hs p within = omega (arith, length-map hs lane_in)

pub shown_past : (on : Bool) (edge : Edge) (drawn : List EventMark) (hs : List History) (p : ℕ) (row : EventRow) → length hs ≤ p
    → (let s : Sketch = record { on = on; edge = edge; drawn = drawn; lanes = map lane_in hs } in ShowsAt p s s row)
shown_past on edge drawn hs p row past = record {
  shows = λ (within : p < length (map lane_in hs)). absurd (omega (arith, length-map hs lane_in));
  past = λ (beyond : length (map lane_in hs) ≤ p). refl;
}

pub shown_at : (r : Result (Unit {0}) AllocError) (on : Bool) (edge : Edge) (drawn : List EventMark) (hs : List History) (new : Sketch)
    (p : ℕ) (row : EventRow) (h : History) (s : Shown) → p < length hs → h ≡ get_or hs p h
    → s ≡ shown h.ended row.entry.event row.entry.answer
    → (let old : Sketch = record { on = on; edge = edge; drawn = drawn; lanes = map lane_in hs } in
    OnOk r (Shows old new p s row.fresh row.entry) → OnOk r (ShowsAt p old new row))
shown_at r on edge drawn hs new p row h s within is shows_it drawn_it =
    let old : Sketch = record { on = on; edge = edge; drawn = drawn; lanes = map lane_in hs } in
    let ended : h.ended ≡ (lane_of old p).ended = sym (ap (λ (l : LaneState). l.ended) (lane_at hs p h within is)) in
    let same : s ≡ shown (lane_of old p).ended row.entry.event row.entry.answer =
    shows_it ∙ ap (λ (b : Bool). shown b row.entry.event row.entry.answer) ended in
    on_ok_weaker r (λ (x : Shows old new p s row.fresh row.entry). record {
      shows = λ (there : p < length (map lane_in hs)).
          subst (λ (t : Shown). Shows old new p t row.fresh row.entry) same x;
      past = λ (beyond : length (map lane_in hs) ≤ p). absurd (omega (arith, length-map hs lane_in, within));
    }) drawn_it

-- a mark that waits
pub wait_turned : (r : Result (Unit {0}) AllocError) (on : Bool) (edge : Edge) (drawn : List EventMark) (hs : List History) (p : ℕ)
    (old new : History) (mark : Mark) (x : ℕ) (s : Shown) (fresh : ℕ) (entry : EventAt)
    → p < length hs → old ≡ get_or hs p old → mark.at.x ≡ x → mark.interval ≡ old.interval → mark.shown ≡ s → mark.fresh ≡ fresh
    → title_entry mark.title mark.at ≡ entry → OnOk r (IsMore mark (lane_in old) (lane_in new))
    → OnOk r (Turns (Waits x s fresh entry) (record { on = on; edge = edge; drawn = drawn; lanes = map lane_in hs })
    (record { on = on; edge = edge; drawn = drawn; lanes = map lane_in (set hs p new) }) p)
wait_turned r on edge drawn hs p old new mark x s fresh entry within is at interval shows_it news title more =
    turned_if r (Waits x s fresh entry) on edge drawn hs p old new within is
    (on_ok_weaker r (λ (m : IsMore mark (lane_in old) (lane_in new)). (mark, m, at, interval, shows_it, news, title)) more)

pub still_there : (hs ks : List History) (p : ℕ) → length (map lane_in ks) ≡ length (map lane_in hs) → p < length hs → p < length ks
still_there hs ks p same within = let a = length-map hs lane_in in let b = length-map ks lane_in in omega arith

-- ---- the outputs of a mark
outputs_made : (made fresh : ℕ) (fate : Fate) (entry : EventAt) → true ≡ nat_lt 0 made
    → output_marks made fresh fate entry
    ≡ mark_of (glyphs.Stem (fresh == 0)) fate.cut entry ++ (if fresh == 0 then [] else mark_of (glyphs.Head fate.covered) fate.cut entry)
outputs_made made fresh fate entry some =
    ap (λ (x : Bool). if x then [] else mark_of (glyphs.Stem (fresh == 0)) fate.cut entry
    ++ (if fresh == 0 then [] else mark_of (glyphs.Head fate.covered) fate.cut entry))
    (not_zero made (λ (zero : made ≡ 0). let there = ltb-true 0 made (sym some) in omega arith))

pub outputs_none : (s : Sketch) (made fresh : ℕ) (fate : Fate) (entry : EventAt) → false ≡ nat_lt 0 made
    → Settles s s (output_marks made fresh fate entry)
outputs_none s made fresh fate entry none =
    let few : made ≤ 0 = ltb-false 0 made (sym none) in
    let zero : made ≡ 0 = omega arith in
    let same : output_marks made fresh fate entry ≡ [] =
    ap (λ (x : Bool). if x then [] else mark_of (glyphs.Stem (fresh == 0)) fate.cut entry
    ++ (if fresh == 0 then [] else mark_of (glyphs.Head fate.covered) fate.cut entry)) (eq-eqb made 0 zero) in
    subst (λ (l : List EventMark). Settles s s l) (sym same) (settles_none s)

pub outputs_again : (a b : Sketch) (made fresh : ℕ) (fate : Fate) (entry : EventAt) (again : Bool) → true ≡ nat_lt 0 made
    → (fresh == 0) ≡ again → (fresh == 0) ≡ true → Settles a b (mark_of (glyphs.Stem again) fate.cut entry)
    → Settles a b (output_marks made fresh fate entry)
outputs_again a b made fresh fate entry again some is none settled =
    let same : output_marks made fresh fate entry ≡ mark_of (glyphs.Stem again) fate.cut entry =
    outputs_made made fresh fate entry some
    ∙ ap (λ (x : Bool). mark_of (glyphs.Stem (fresh == 0)) fate.cut entry
    ++ (if x then [] else mark_of (glyphs.Head fate.covered) fate.cut entry)) none
    ∙ ap (λ (x : Bool). mark_of (glyphs.Stem x) fate.cut entry) is in
    subst (λ (l : List EventMark). Settles a b l) (sym same) settled

pub outputs_new : (r : Result (Unit {0}) AllocError) (a b c : Sketch) (made fresh : ℕ) (fate : Fate) (entry : EventAt) (again : Bool)
    → true ≡ nat_lt 0 made → (fresh == 0) ≡ again → (fresh == 0) ≡ false → Settles a b (mark_of (glyphs.Stem again) fate.cut entry)
    → OnOk r (Settles b c (mark_of (glyphs.Head fate.covered) fate.cut entry))
    → OnOk r (Settles a c (output_marks made fresh fate entry))
outputs_new r a b c made fresh fate entry again some is news p q =
    let head : List EventMark = mark_of (glyphs.Head fate.covered) fate.cut entry in
    let same : output_marks made fresh fate entry ≡ mark_of (glyphs.Stem again) fate.cut entry ++ head =
    outputs_made made fresh fate entry some
    ∙ ap (λ (x : Bool). mark_of (glyphs.Stem (fresh == 0)) fate.cut entry ++ (if x then [] else head)) news
    ∙ ap (λ (x : Bool). mark_of (glyphs.Stem x) fate.cut entry ++ head) is in
    subst (λ (l : List EventMark). OnOk r (Settles a c l)) (sym same)
    (settles_then_if r a b c (mark_of (glyphs.Stem again) fate.cut entry) head p q)
