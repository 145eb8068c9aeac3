-- What an event shows on the lane of its process.
use Rattle.std.proofs.Common.{◌≡◌, ◌∙◌, ◌<◌, ◌==◌, ◌||◌, ℕ, Bool, true, false, not, if◌then◌else◌, is_some, List, [], ◌∷◌, ◌++◌, Option, Some, None, Result, OnOk, length, map, set, refl, ap, sym, subst}
use Rattle.std.specs.declared.alloc.AllocError.{AllocError}
use Rattle.std.proofs.lemmas.List.{append-nil, map-append, set-get_or, set-set}
use Rattle.std.proofs.lemmas.Result.{on_ok_weaker}
use Rattle.om_process.specs.declared.status.Status.{Status}
use Rattle.om_picture.specs.Drawing.{LaneState, Sketch, held_in, held_of, lane_of, mark_marks, new_lane, waiting_marks}
use Rattle.om_picture.specs.Fates.{EventAt, Fate, Progress, has_loose, saved, step_entry}
use Rattle.om_picture.specs.Held.{Held, may_wait}
use Rattle.om_picture.specs.Marks.{EventMark, fated_marks, log_marks, mark_of, released_at, sure_marks, title_entry}
use Rattle.om_picture.specs.declared.history.Mark.{Mark}
use Rattle.om_sheet.specs.declared.sheet.Glyph.TheVariants as glyphs
use Rattle.om_sheet.specs.declared.sheet.Spot.{Spot}
use Rattle.om_sheet.specs.declared.sheet.Title.{Title}
use Rattle.om_sheet.specs.declared.shown.Shown.{Shown}
use Rattle.om_sheet.specs.declared.shown.Shown.TheVariants as shows
use Rattle.om_sheet.specs.declared.step.PlayedEvent.{PlayedEvent}
use Rattle.om_picture.specs.steps.Adding.{Ends, GoesBack, IsMore, LaneShows, Logs, Receives, Settles, Shows, Stores, Turns, Waits, ended_shown, fated_if, progress_shown}
use Rattle.om_picture.proofs.FateLemmas.{waiting_more}
use Rattle.om_picture.proofs.LaneLemmas.{settled_lane, settles_none, settles_then}

none_if : (on : Bool) → [] ≡ (let l : List EventMark = if on then [] else [] in l)
none_if true = refl
none_if false = refl

placed : (on : Bool) (x : ℕ) (marks : List EventMark) → (x == 0) ≡ not on → (if x == 0 then [] else marks) ≡ (if on then marks else [])
placed true x marks h = ap (λ (b : Bool). if b then [] else marks) h
placed false x marks h = ap (λ (b : Bool). if b then [] else marks) h

none_more : (on : Bool) (l : List EventMark) → l ≡ l ++ (if on then [] else [])
none_more on l = sym (append-nil l) ∙ ap (λ (m : List EventMark). l ++ m) (none_if on)

-- ---- lanes
-- a mark that waits
late_waits : (on : Bool) (x : ℕ) (s : Shown) (fresh : ℕ) (entry : EventAt) (a b : LaneState) → (x == 0) ≡ not on
    → ((fate : Fate) → fated_marks s fresh fate entry ≡ fated_if s fresh fate entry) → Waits x s fresh entry a b
    → (fate : ℕ → Fate) → waiting_marks fate b.waiting
    ≡ waiting_marks fate a.waiting ++ (if on then fated_if s fresh (fate b.progress.interval) entry else [])
late_waits on x s fresh entry a b there late waits fate =
    let mark : Mark = waits.0 in
    let more : IsMore mark a b = waits.1 in
    let its : Fate = fate b.progress.interval in
    let interval : mark.interval ≡ b.progress.interval = waits.3 ∙ sym (ap (λ (l : LaneState). l.progress.interval) more) in
    let one : mark_marks mark (fate mark.interval) ≡ (if on then fated_if s fresh its entry else []) =
    ap (λ (n : ℕ). if n == 0 then [] else fated_marks mark.shown mark.fresh (fate mark.interval) (title_entry mark.title mark.at)) waits.2
    ∙ ap (λ (n : ℕ). if x == 0 then [] else fated_marks mark.shown mark.fresh (fate n) (title_entry mark.title mark.at)) interval
    ∙ ap (λ (t : Shown). if x == 0 then [] else fated_marks t mark.fresh its (title_entry mark.title mark.at)) waits.4
    ∙ ap (λ (n : ℕ). if x == 0 then [] else fated_marks s n its (title_entry mark.title mark.at)) waits.5
    ∙ ap (λ (e : EventAt). if x == 0 then [] else fated_marks s fresh its e) waits.6
    ∙ ap (λ (l : List EventMark). if x == 0 then [] else l) (late its)
    ∙ placed on x (fated_if s fresh its entry) there in
    ap (λ (l : List Mark). waiting_marks fate l) (ap (λ (l : LaneState). l.waiting) more)
    ∙ waiting_more fate a.waiting mark
    ∙ ap (λ (l : List EventMark). waiting_marks fate a.waiting ++ l) one

late_held : (x : ℕ) (s : Shown) (fresh : ℕ) (entry : EventAt) (a b c : LaneState) → may_wait s ≡ true → b.waiting ≡ a.waiting
    → Waits x s fresh entry b c
    → held_in c ≡ held_in a ++ (if may_wait s then record { interval = c.progress.interval; fresh = fresh; x = entry.at.x } ∷ [] else [])
late_held x s fresh entry a b c some waiting waits =
    let mark : Mark = waits.0 in
    let more : IsMore mark b c = waits.1 in
    let one : List Held = record { interval = c.progress.interval; fresh = fresh; x = entry.at.x } ∷ [] in
    let interval : mark.interval ≡ c.progress.interval = waits.3 ∙ sym (ap (λ (l : LaneState). l.progress.interval) more) in
    let x_is : mark.at.x ≡ entry.at.x = ap (λ (e : EventAt). e.at.x) waits.6 in
    let added : held_of mark ∷ [] ≡ one =
    ap (λ (n : ℕ). let h : List Held = record { interval = n; fresh = mark.fresh; x = mark.at.x } ∷ [] in h) interval
    ∙ ap (λ (n : ℕ). let h : List Held = record { interval = c.progress.interval; fresh = n; x = mark.at.x } ∷ [] in h) waits.5
    ∙ ap (λ (n : ℕ). let h : List Held = record { interval = c.progress.interval; fresh = fresh; x = n } ∷ [] in h) x_is in
    ap (λ (l : LaneState). held_in l) more ∙ map-append held_of b.waiting (mark ∷ [])
    ∙ ap (λ (l : List Mark). map held_of l ++ held_of mark ∷ []) waiting
    ∙ ap (λ (l : List Held). held_in a ++ l) added
    ∙ ap (λ (w : Bool). held_in a ++ (if w then one else [])) (sym some)

late_lane : (on : Bool) (x : ℕ) (s : Shown) (fresh : ℕ) (entry : EventAt) (a b c : LaneState) → (x == 0) ≡ not on
    → ((fate : Fate) → fated_marks s fresh fate entry ≡ fated_if s fresh fate entry) → may_wait s ≡ true
    → b.progress ≡ progress_shown a.progress s → b.ended ≡ ended_shown a.ended s
    → b.reached ≡ a.reached → b.waiting ≡ a.waiting → Waits x s fresh entry b c → LaneShows on s fresh entry a c
late_lane on x s fresh entry a b c there late some progress ended reached waiting waits = record {
  progress = ap (λ (l : LaneState). l.progress) waits.1 ∙ progress;
  ended = ap (λ (l : LaneState). l.ended) waits.1 ∙ ended;
  reached = ap (λ (l : LaneState). l.reached) waits.1 ∙ reached;
  held = late_held x s fresh entry a b c some waiting waits;
  waits = λ (fate : ℕ → Fate).
      late_waits on x s fresh entry b c there late waits fate
      ∙ ap (λ (l : List Mark). waiting_marks fate l ++ (if on then fated_if s fresh (fate c.progress.interval) entry else []))
      waiting;
}

-- none that waits
still_lane : (on : Bool) (s : Shown) (fresh : ℕ) (entry : EventAt) (a b : LaneState)
    → ((fate : Fate) → [] ≡ fated_if s fresh fate entry) → may_wait s ≡ false
    → b.progress ≡ progress_shown a.progress s → b.ended ≡ ended_shown a.ended s → b.reached ≡ a.reached → b.waiting ≡ a.waiting
    → LaneShows on s fresh entry a b
still_lane on s fresh entry a b none not_held progress ended reached waiting = record {
  progress = progress;
  ended = ended;
  reached = reached;
  held =
      ap (λ (l : List Mark). map held_of l) waiting ∙ sym (append-nil (held_in a))
      ∙ ap (λ (w : Bool). held_in a
      ++ (if w then record { interval = b.progress.interval; fresh = fresh; x = entry.at.x } ∷ [] else [])) (sym not_held);
  waits = λ (fate : ℕ → Fate).
      ap (λ (l : List Mark). waiting_marks fate l) waiting
      ∙ none_more on (waiting_marks fate a.waiting)
      ∙ ap (λ (l : List EventMark). waiting_marks fate a.waiting ++ (if on then l else [])) (none (fate b.progress.interval));
}

-- ---- pictures
turn_none : (s : Sketch) (p : ℕ) → p < length s.lanes → Turns (λ a b. b ≡ a) s s p
turn_none s p within = record {
  on = refl;
  edge = refl;
  drawn = refl;
  within = within;
  lanes = sym (set-get_or s.lanes p new_lane);
  turn = refl;
}

shows_of : (s : Shown) (fresh : ℕ) (entry : EventAt) (Turn : LaneState → LaneState → Type 0) (a b c : Sketch) (p : ℕ) (more : List EventMark)
    → Turns Turn a b p → Settles b c more → more ≡ (if a.on then sure_marks (has_loose (lane_of a p).progress) s entry else [])
    → LaneShows a.on s fresh entry (lane_of a p) (lane_of b p) → Shows a c p s fresh entry
shows_of s fresh entry Turn a b c p more t settled is lane =
    let same : lane_of c p ≡ lane_of b p = settled_lane b c more settled p in
    record {
      on = settled.on ∙ t.on;
      edge = settled.edge ∙ t.edge;
      drawn = settled.drawn ∙ ap (λ (l : List EventMark). l ++ more) t.drawn ∙ ap (λ (l : List EventMark). a.drawn ++ l) is;
      within = t.within;
      lanes = settled.lanes ∙ t.lanes ∙ ap (λ (l : LaneState). set a.lanes p l) (sym same);
      lane = subst (λ (l : LaneState). LaneShows a.on s fresh entry (lane_of a p) l) (sym same) lane;
    }

-- an event whose mark waits
late_shows : (s : Shown) (fresh : ℕ) (entry : EventAt) (Turn : LaneState → LaneState → Type 0) (a b c : Sketch) (p x : ℕ) → Turns Turn a b p
    → Turns (Waits x s fresh entry) b c p → [] ≡ sure_marks (has_loose (lane_of a p).progress) s entry
    → LaneShows a.on s fresh entry (lane_of a p) (lane_of c p) → Shows a c p s fresh entry
late_shows s fresh entry Turn a b c p x t w none lane =
    record {
      on = w.on ∙ t.on;
      edge = w.edge ∙ t.edge;
      drawn = w.drawn ∙ t.drawn ∙ none_more a.on a.drawn ∙ ap (λ (l : List EventMark). a.drawn ++ (if a.on then l else [])) none;
      within = t.within;
      lanes = w.lanes ∙ ap (λ (ls : List LaneState). set ls p (lane_of c p)) t.lanes
          ∙ set-set a.lanes p (lane_of b p) (lane_of c p);
      lane = lane;
    }

pub nothing_shown : (s : Sketch) (p fresh : ℕ) (entry : EventAt) → p < length s.lanes → Shows s s p shows.Nothing fresh entry
nothing_shown s p fresh entry within =
    shows_of shows.Nothing fresh entry (λ a b. b ≡ a) s s s p [] (turn_none s p within) (settles_none s) (none_if s.on)
    (still_lane s.on shows.Nothing fresh entry (lane_of s p) (lane_of s p) (λ fate. refl) refl refl refl refl refl)

pub run_shown : (r : Result (Unit {0}) AllocError) (a b c : Sketch) (p x sent made fresh : ℕ) (ends : Option Status) (ended : Bool)
    (entry : EventAt)
    → ended ≡ is_some ends → (x == 0) ≡ not a.on → Turns (Ends ended) a b p
    → OnOk r (Turns (Waits x (shows.Run sent made ends) fresh entry) b c p)
    → OnOk r (Shows a c p (shows.Run sent made ends) fresh entry)
run_shown r a b c p x sent made fresh ends ended entry is there t waits =
    let s : Shown = shows.Run sent made ends in
    on_ok_weaker r (λ (w : Turns (Waits x s fresh entry) b c p). late_shows s fresh entry (Ends ended) a b c p x t w refl
    (late_lane a.on x s fresh entry (lane_of a p) (lane_of b p) (lane_of c p) there (λ fate. refl) refl
    (ap (λ (l : LaneState). l.progress) t.turn)
    (ap (λ (l : LaneState). l.ended) t.turn ∙ ap (λ (e : Bool). (lane_of a p).ended || e) is)
    (ap (λ (l : LaneState). l.reached) t.turn) (ap (λ (l : LaneState). l.waiting) t.turn) w.turn)) waits

pub resend_shown : (r : Result (Unit {0}) AllocError) (a c : Sketch) (p x sent fresh : ℕ) (entry : EventAt) → p < length a.lanes
    → (x == 0) ≡ not a.on → OnOk r (Turns (Waits x (shows.Resend sent) fresh entry) a c p)
    → OnOk r (Shows a c p (shows.Resend sent) fresh entry)
resend_shown r a c p x sent fresh entry within there waits =
    let s : Shown = shows.Resend sent in
    on_ok_weaker r (λ (w : Turns (Waits x s fresh entry) a c p). late_shows s fresh entry (λ x y. y ≡ x) a a c p x (turn_none a p within) w
    refl
    (late_lane a.on x s fresh entry (lane_of a p) (lane_of a p) (lane_of c p) there (λ fate. refl) refl refl refl refl refl w.turn))
    waits

pub checkpoint_shown : (r : Result (Unit {0}) AllocError) (a c : Sketch) (p x fresh : ℕ) (entry : EventAt) → p < length a.lanes
    → (x == 0) ≡ not a.on → OnOk r (Turns (Waits x shows.Checkpoint fresh entry) a c p)
    → OnOk r (Shows a c p shows.Checkpoint fresh entry)
checkpoint_shown r a c p x fresh entry within there waits =
    let s : Shown = shows.Checkpoint in
    on_ok_weaker r (λ (w : Turns (Waits x s fresh entry) a c p). late_shows s fresh entry (λ x y. y ≡ x) a a c p x (turn_none a p within) w
    refl
    (late_lane a.on x s fresh entry (lane_of a p) (lane_of a p) (lane_of c p) there (λ fate. refl) refl refl refl refl refl w.turn))
    waits

pub receipt_shown : (r : Result (Unit {0}) AllocError) (a b c : Sketch) (p x frame interval fresh : ℕ) (entry : EventAt)
    → (x == 0) ≡ not a.on → Turns (Receives interval) a b p
    → OnOk r (Turns (Waits x (shows.Receipt frame interval) fresh entry) b c p)
    → OnOk r (Shows a c p (shows.Receipt frame interval) fresh entry)
receipt_shown r a b c p x frame interval fresh entry there t waits =
    let s : Shown = shows.Receipt frame interval in
    on_ok_weaker r (λ (w : Turns (Waits x s fresh entry) b c p). late_shows s fresh entry (Receives interval) a b c p x t w refl
    (late_lane a.on x s fresh entry (lane_of a p) (lane_of b p) (lane_of c p) there (λ fate. refl) refl
    (ap (λ (l : LaneState). l.progress) t.turn) (ap (λ (l : LaneState). l.ended) t.turn)
    (ap (λ (l : LaneState). l.reached) t.turn) (ap (λ (l : LaneState). l.waiting) t.turn) w.turn)) waits

-- an event whose mark is drawn at once
pub sure_shown : (r : Result (Unit {0}) AllocError) (s : Shown) (fresh : ℕ) (entry : EventAt) (more : List EventMark) (a c : Sketch) (p : ℕ)
    → p < length a.lanes → ((loose : Bool) → more ≡ sure_marks loose s entry) → ((fate : Fate) → [] ≡ fated_if s fresh fate entry)
    → ((was : Progress) → was ≡ progress_shown was s) → ((was : Bool) → was ≡ ended_shown was s) → may_wait s ≡ false
    → OnOk r (Settles a c (if a.on then more else [])) → OnOk r (Shows a c p s fresh entry)
sure_shown r s fresh entry more a c p within is none progress ended not_held settles =
    on_ok_weaker r (λ (m : Settles a c (if a.on then more else [])).
    shows_of s fresh entry (λ x y. y ≡ x) a a c p (if a.on then more else []) (turn_none a p within) m
    (ap (λ (l : List EventMark). if a.on then l else []) (is (has_loose (lane_of a p).progress)))
    (still_lane a.on s fresh entry (lane_of a p) (lane_of a p) none not_held (progress (lane_of a p).progress) (ended (lane_of a p).ended)
    refl refl)) settles

-- receipts that are stored
pub logged_some : (r : Result (Unit {0}) AllocError) (many : Option ℕ) (a b c : Sketch) (p : ℕ) (entry : EventAt) → Turns (Stores many) a b p
    → true ≡ has_loose (lane_of a p).progress → OnOk r (Settles b c (if b.on then mark_of (glyphs.Flush 0) false entry else []))
    → OnOk r (Logs many entry a c p)
logged_some r many a b c p entry t some settles =
    let same : (if b.on then mark_of (glyphs.Flush 0) false entry else [])
    ≡ (if a.on then log_marks (has_loose (lane_of a p).progress) entry else []) =
    ap (λ (on : Bool). if on then mark_of (glyphs.Flush 0) false entry else []) t.on
    ∙ ap (λ (loose : Bool). if a.on then log_marks loose entry else []) some in
    on_ok_weaker r (λ (s : Settles b c (if b.on then mark_of (glyphs.Flush 0) false entry else [])). record {
      stored = b;
      turns = t;
      settles = subst (λ (l : List EventMark). Settles b c l) same s;
    }) settles

pub logged_none : (many : Option ℕ) (a b : Sketch) (p : ℕ) (entry : EventAt) → Turns (Stores many) a b p
    → false ≡ has_loose (lane_of a p).progress → Logs many entry a b p
logged_none many a b p entry t none =
    let same : [] ≡ (if a.on then log_marks (has_loose (lane_of a p).progress) entry else []) =
    none_if a.on ∙ ap (λ (loose : Bool). if a.on then log_marks loose entry else []) none in
    record { stored = b; turns = t; settles = subst (λ (l : List EventMark). Settles b b l) same (settles_none b) }

log_lane : (s : Shown) (many : Option ℕ) (fresh : ℕ) (entry : EventAt) (a b : Sketch) (p : ℕ) → Turns (Stores many) a b p
    → ((fate : Fate) → [] ≡ fated_if s fresh fate entry) → ((was : Progress) → saved many was ≡ progress_shown was s)
    → ((was : Bool) → was ≡ ended_shown was s) → may_wait s ≡ false
    → LaneShows a.on s fresh entry (lane_of a p) (lane_of b p)
log_lane s many fresh entry a b p t none progress ended not_held =
    still_lane a.on s fresh entry (lane_of a p) (lane_of b p) none not_held
    (ap (λ (l : LaneState). l.progress) t.turn ∙ progress (lane_of a p).progress)
    (ap (λ (l : LaneState). l.ended) t.turn ∙ ended (lane_of a p).ended)
    (ap (λ (l : LaneState). l.reached) t.turn)
    (ap (λ (l : LaneState). l.waiting) t.turn)

-- an event that stores some, or all
log_shown : (r : Result (Unit {0}) AllocError) (s : Shown) (many : Option ℕ) (a c : Sketch) (p fresh : ℕ) (entry : EventAt)
    → ((loose : Bool) → log_marks loose entry ≡ sure_marks loose s entry) → ((fate : Fate) → [] ≡ fated_if s fresh fate entry)
    → ((was : Progress) → saved many was ≡ progress_shown was s) → ((was : Bool) → was ≡ ended_shown was s) → may_wait s ≡ false
    → OnOk r (Logs many entry a c p) → OnOk r (Shows a c p s fresh entry)
log_shown r s many a c p fresh entry sure none progress ended not_held logs =
    let loose : Bool = has_loose (lane_of a p).progress in
    on_ok_weaker r (λ (g : Logs many entry a c p).
    shows_of s fresh entry (Stores many) a g.stored c p (if a.on then log_marks loose entry else []) g.turns g.settles
    (ap (λ (l : List EventMark). if a.on then l else []) (sure loose))
    (log_lane s many fresh entry a g.stored p g.turns none progress ended not_held)) logs

pub flush_shown : (r : Result (Unit {0}) AllocError) (a c : Sketch) (p fresh : ℕ) (entry : EventAt) → OnOk r (Logs None entry a c p)
    → OnOk r (Shows a c p shows.Flush fresh entry)
flush_shown r a c p fresh entry logs =
    log_shown r shows.Flush None a c p fresh entry (λ loose. refl) (λ fate. refl) (λ was. refl) (λ was. refl) refl logs

pub flush_first_shown : (r : Result (Unit {0}) AllocError) (count : ℕ) (a c : Sketch) (p fresh : ℕ) (entry : EventAt)
    → OnOk r (Logs (Some count) entry a c p) → OnOk r (Shows a c p (shows.FlushFirst count) fresh entry)
flush_first_shown r count a c p fresh entry logs =
    log_shown r (shows.FlushFirst count) (Some count) a c p fresh entry (λ loose. refl) (λ fate. refl) (λ was. refl) (λ was. refl) refl logs

both_if : (on : Bool) (x y : List EventMark) → (if on then x else []) ++ (if on then y else []) ≡ (if on then x ++ y else [])
both_if true x y = refl
both_if false x y = refl

pub join_shown : (r : Result (Unit {0}) AllocError) (a b c : Sketch) (p fresh : ℕ) (entry : EventAt) → Logs None entry a b p
    → OnOk r (Settles b c (if b.on then mark_of glyphs.Join false entry else [])) → OnOk r (Shows a c p shows.Join fresh entry)
join_shown r a b c p fresh entry g settles =
    let logs : List EventMark = log_marks (has_loose (lane_of a p).progress) entry in
    let joins : List EventMark = mark_of glyphs.Join false entry in
    let on : b.on ≡ a.on = g.settles.on ∙ g.turns.on in
    on_ok_weaker r (λ (m : Settles b c (if b.on then joins else [])).
    shows_of shows.Join fresh entry (Stores None) a g.stored c p ((if a.on then logs else []) ++ (if b.on then joins else [])) g.turns
    (settles_then g.stored b c (if a.on then logs else []) (if b.on then joins else []) g.settles m)
    (ap (λ (x : Bool). (if a.on then logs else []) ++ (if x then joins else [])) on ∙ both_if a.on logs joins)
    (log_lane shows.Join None fresh entry a g.stored p g.turns (λ fate. refl) (λ was. refl) (λ was. refl) refl)) settles

pub back_shown : (r : Result (Unit {0}) AllocError) (a b c : Sketch) (p interval inc fresh : ℕ) (entry : EventAt)
    → Turns (GoesBack interval) a b p → OnOk r (Settles b c (if b.on then mark_of glyphs.Back false entry else []))
    → OnOk r (Shows a c p (shows.Back interval inc) fresh entry)
back_shown r a b c p interval inc fresh entry t settles =
    let s : Shown = shows.Back interval inc in
    on_ok_weaker r (λ (m : Settles b c (if b.on then mark_of glyphs.Back false entry else [])).
    shows_of s fresh entry (GoesBack interval) a b c p (if b.on then mark_of glyphs.Back false entry else []) t m
    (ap (λ (on : Bool). if on then mark_of glyphs.Back false entry else []) t.on)
    (still_lane a.on s fresh entry (lane_of a p) (lane_of b p) (λ fate. refl) refl
    (ap (λ (l : LaneState). l.progress) t.turn) (ap (λ (l : LaneState). l.ended) t.turn)
    (ap (λ (l : LaneState). l.reached) t.turn) (ap (λ (l : LaneState). l.waiting) t.turn))) settles

-- ---- a mark of its own
pub off_mark : (s : Sketch) (more : List EventMark) → s.on ≡ false → Settles s s (if s.on then more else [])
off_mark s more off = subst (λ (b : Bool). Settles s s (if b then more else [])) (sym off) (settles_none s)

pub on_mark : (r : Result (Unit {0}) AllocError) (a b : Sketch) (more shapes : List EventMark) → a.on ≡ true → shapes ≡ more
    → OnOk r (Settles a b shapes) → OnOk r (Settles a b (if a.on then more else []))
on_mark r a b more shapes on is settles =
    subst (λ (x : Bool). OnOk r (Settles a b (if x then more else []))) (sym on)
    (subst (λ (l : List EventMark). OnOk r (Settles a b l)) is settles)

-- ---- a release
pub freed_none : (s : Sketch) (held : Bool) (p : ℕ) (entry : EventAt) → held ≡ false
    → Settles s s (if s.on then released_at held p entry else [])
freed_none s held p entry none =
    subst (λ (b : Bool). Settles s s (if s.on then released_at b p entry else [])) (sym none)
    (subst (λ (l : List EventMark). Settles s s l) (none_if s.on) (settles_none s))

pub freed_shown : (r : Result (Unit {0}) AllocError) (a b : Sketch) (held : Bool) (p : ℕ) (title : Title) (step : PlayedEvent) (at to : Spot)
    → a.on ≡ true → held ≡ true → to ≡ record { x = at.x; lane = p } → ((spot : Spot) → title_entry title spot ≡ step_entry step spot)
    → OnOk r (Settles a b (mark_of glyphs.Released false (title_entry title to)))
    → OnOk r (Settles a b (if a.on then released_at held p (step_entry step at) else []))
freed_shown r a b held p title step at to on some place told settles =
    let there : Spot = record { x = at.x; lane = p } in
    subst (λ (x : Bool). OnOk r (Settles a b (if x then released_at held p (step_entry step at) else []))) (sym on)
    (subst (λ (x : Bool). OnOk r (Settles a b (released_at x p (step_entry step at)))) (sym some)
    (subst (λ (e : EventAt). OnOk r (Settles a b (mark_of glyphs.Released false e))) (ap (title_entry title) place ∙ told there) settles))
