-- Where an event stands.
use Rattle.std.proofs.Common.{◌≡◌, ◌∙◌, ◌<◌, ◌≤◌, ◌==◌, ◌&&◌, ℕ, Bool, true, false, not, if◌then◌else◌, List, length, map, get_or, Option, Some, None, Result, Ok, Err, IfOk, refl, ap, sym, subst, arith}
use Rattle.std.specs.declared.alloc.AllocError.{AllocError}
use Rattle.std.proofs.lemmas.Bool.{eq-eqb, le-ltb, lt-ltb}
use Rattle.std.proofs.lemmas.List.{length-map}
use Rattle.om_picture.specs.Drawing.{Edge, LaneState, Sketch, lane_in, new_lane}
use Rattle.om_picture.specs.Fates.{EventRow, step_row}
use Rattle.om_picture.specs.Marks.{EventMark}
use Rattle.om_picture.specs.Places.{is_shown}
use Rattle.om_sheet.specs.Shows.{process_of, shown}
use Rattle.om_picture.specs.declared.history.History.{History}
use Rattle.om_sheet.specs.declared.sheet.Spot.{Spot}
use Rattle.om_sheet.specs.declared.shown.Shown.{Shown}
use Rattle.om_sheet.specs.declared.step.PlayedEvent.{PlayedEvent}
use Rattle.om_picture.specs.steps.Adding.{MovesTo, Places, PlacesEvent, lane_number, shows_at}
use Rattle.om_picture.proofs.LaneLemmas.{lane_at, not_zero}

here_there : (on : Bool) (x e : ℕ) → x ≡ (if on then e else 0) → 0 < e → (x == 0) ≡ not on
here_there true x e is some = not_zero x (λ (zero : x ≡ 0). omega arith)
here_there false x e is some = eq-eqb x 0 is

here_within : (on : Bool) (x e : ℕ) → x ≡ (if on then e else 0) → x ≤ e
here_within true x e is = omega arith
here_within false x e is = omega arith

-- an event with no column of its own
pub placed_here : (shows : Bool) (a : Sketch) (x : ℕ) → shows ≡ false → x ≡ (if a.on then a.edge.x else 0) → 0 < a.edge.x
    → a.edge.x ≤ a.edge.right → Places shows x a a
placed_here shows a x none is some inside = record {
  on = refl;
  drawn = refl;
  lanes = refl;
  first = refl;
  there = here_there a.on x a.edge.x is some;
  within = here_within a.on x a.edge.x is;
  behind = omega arith;
  column = λ (on : a.on ≡ true) (it_shows : shows ≡ true) (free : _). let h : false ≡ true = sym none ∙ it_shows in absurd (cc);
  inside = inside;
  room = omega arith;
}

-- one before the window
pub placed_off : (shows : Bool) (a : Sketch) → a.on ≡ false → a.edge.x ≤ a.edge.right → Places shows 0 a a
placed_off shows a off inside = record {
  on = refl;
  drawn = refl;
  lanes = refl;
  first = refl;
  there = sym (ap not off);
  within = omega arith;
  behind = omega arith;
  column = λ (on : a.on ≡ true) (it_shows : shows ≡ true) (free : _). let h : false ≡ true = sym off ∙ on in absurd (cc);
  inside = inside;
  room = omega arith;
}

-- one that has a column
placed_moved : (shows : Bool) (x : ℕ) (a b : Sketch) → a.on ≡ true → MovesTo x a b → Places shows x a b
placed_moved shows x a b on moved =
    let some : 0 < x = moved.1.there in
    let now : b.edge.x ≡ x = moved.1.here in
    let behind : a.edge.x ≤ x = moved.1.behind in
    let inside : x ≤ b.edge.right = moved.1.inside in
    record {
      on = ap (λ (s : Sketch). s.on) moved.0;
      drawn = ap (λ (s : Sketch). s.drawn) moved.0;
      lanes = ap (λ (s : Sketch). s.lanes) moved.0;
      first = moved.1.first;
      there = not_zero x (λ (zero : x ≡ 0). omega arith) ∙ sym (ap not on);
      within = omega arith;
      behind = omega arith;
      column = λ (is_on : a.on ≡ true) (it_shows : shows ≡ true) (free : _). moved.1.column free;
      inside = omega arith;
      room = moved.1.room;
    }

pub placed_if : (r : Result ℕ AllocError) (shows : Bool) (a b : Sketch) → a.on ≡ true → IfOk r (λ x. MovesTo x a b)
    → IfOk r (λ x. Places shows x a b)
placed_if (Ok x) shows a b on moved = placed_moved shows x a b on moved
placed_if (Err e) shows a b on moved = tt

-- an event of a process, and one of none
pub placed_own : (r : Result Spot AllocError) (a b : Sketch) (step : PlayedEvent) (p : ℕ) → Some p ≡ process_of step.event
    → IfOk r (λ at. Places (shows_at (Some p) a (step_row step at)) at.x a b) → IfOk r (λ at. at.lane ≡ lane_number p)
    → IfOk r (λ at. PlacesEvent a b (step_row step at))
placed_own (Ok at) a b step p is places lane = record {
  places = subst (λ (o : Option ℕ). Places (shows_at o a (step_row step at)) at.x a b) is places;
  lane = λ (q : ℕ) (other : process_of step.event ≡ Some q).
      let both : Some p ≡ Some q = is ∙ other in
      let same : p ≡ q = cc in
      lane ∙ ap lane_number same;
}
placed_own (Err e) a b step p is places lane = tt

pub placed_none : (a : Sketch) (step : PlayedEvent) (at : Spot) → None ≡ process_of step.event → Places false at.x a a
    → PlacesEvent a a (step_row step at)
placed_none a step at is places = record {
  places = subst (λ (o : Option ℕ). Places (shows_at o a (step_row step at)) at.x a a) is places;
  lane = λ (q : ℕ) (other : process_of step.event ≡ Some q). let both : None ≡ Some q = is ∙ other in absurd (cc);
}

-- ---- whether it shows something
pub shows_past : (on : Bool) (edge : Edge) (drawn : List EventMark) (hs : List History) (p : ℕ) (row : EventRow) → length hs ≤ p
    → shows_at (Some p) (record { on = on; edge = edge; drawn = drawn; lanes = map lane_in hs }) row ≡ false
shows_past on edge drawn hs p row past =
    let beyond : length (map lane_in hs) ≤ p = omega (arith, length-map hs lane_in) in
    ap (λ (b : Bool). b && is_shown (shown (get_or (map lane_in hs) p new_lane).ended row.entry.event row.entry.answer))
    (le-ltb p (length (map lane_in hs)) beyond)

pub shows_here : (on : Bool) (edge : Edge) (drawn : List EventMark) (hs : List History) (p : ℕ) (row : EventRow) (h : History) (s : Shown)
    → p < length hs → h ≡ get_or hs p h → s ≡ shown h.ended row.entry.event row.entry.answer
    → shows_at (Some p) (record { on = on; edge = edge; drawn = drawn; lanes = map lane_in hs }) row ≡ is_shown s
shows_here on edge drawn hs p row h s within is shows_it =
    let there : p < length (map lane_in hs) = omega (arith, length-map hs lane_in) in
    ap (λ (b : Bool). b && is_shown (shown (get_or (map lane_in hs) p new_lane).ended row.entry.event row.entry.answer))
    (lt-ltb p (length (map lane_in hs)) there)
    ∙ ap (λ (l : LaneState). is_shown (shown l.ended row.entry.event row.entry.answer)) (lane_at hs p h within is)
    ∙ ap is_shown (sym shows_it)
