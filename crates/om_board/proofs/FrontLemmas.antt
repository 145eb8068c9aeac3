-- Lists of fronts, and the fronts that words spell.
use Rattle.std.specs.Prelude.{Contains}
use Rattle.std.proofs.Common.{◌≡◌, ◌≢◌, ℕ, zero, suc, ◌+◌, ◌-◌, ◌<◌, ◌≤◌, List, [], ◌∷◌, ◌++◌, length, get_or, take, drop, slice_index, refl, sym, ap, ◌∙◌, subst, ⊎_elim, arith, append-nil, All, replicate}
use mathlib.Core.List.{IsPrefix, map-append}
use Rattle.std.proofs.lemmas.List.{get_or_append_left, get_or_push, length_push, same_from_push, get_or_past, get_or_default, get_or-take, get_or-drop, get_or-map, length-map, length-take, length-drop, length-replicate, replicate-append-replicate}
use Rattle.std.proofs.lemmas.Bool.{cases_lt}
use Rattle.std.proofs.lemmas.Grind.{common_steps}
use Rattle.om_board.proofs.PostingLemmas.{early_or_last, one_log, zeros_are_words}
use Rattle.om_interval.specs.Vectors.{IsBelow, padded_words}
use Rattle.om_interval.proofs.VectorLemmas.{below_itself}
use Rattle.om_manager.specs.State.{ManagerState}
use Rattle.om_manager.specs.Sound.{GoesOn}
use Rattle.om_manager.specs.Sound.GoesOn.{stays, rises}
use Rattle.om_board.specs.declared.front.Front.{Front}
use Rattle.om_board.specs.CellNames.{CellName}
use Rattle.om_board.specs.steps.Posts.MayFollow.{again, above}
use Rattle.om_board.specs.Fronts.{front_of, first_front, IsAtMost, Rises, IsPosted, EndsWith}
use Rattle.om_board.specs.steps.Posts.{MayFollow}
use Rattle.om_board.specs.steps.Posting.{words_in, front_in, fronts_in, zero_words, AreWords, Grows, IsLog, IsLastOf, IsWriter, writer}
use Rattle.om_board.specs.declared.cell.View.{View}
use Rattle.atomic_table.specs.Seated.{TableId}

-- lists of fronts

at_most_itself : (front : Front) → IsAtMost front front
at_most_itself front = record { version = omega arith; round = omega arith; vec = below_itself front.vec }

-- a list has one last front
pub one_last : (fronts : List Front) (a b : Front) → EndsWith fronts a → EndsWith fronts b → a ≡ b
one_last fronts a b ends ends' = (same_from_push ends.0 ends'.0 a b (ends.1 ∙ sym ends'.1)).1

begins_within : (xs ys : List Front) → IsPrefix xs ys → (i : ℕ) → i < length xs → i < length ys
begins_within xs ys p i h = subst (λ l. i < length l) p.1 (grind (arith, common_steps))

-- what was seen before is at most what was posted last
pub none_behind : (seen fronts : List Front) (last : Front) → IsPrefix seen fronts → EndsWith fronts last → IsPosted fronts → All (λ front. IsAtMost front last) seen
none_behind seen fronts last begins ends posted k d within =
    let same : get_or seen k d ≡ get_or fronts k d = sym (get_or_append_left seen begins.0 d k within) ∙ ap (λ l. get_or l k d) begins.1 in
    let long : length fronts ≡ length ends.0 + 1 = ap length (sym ends.1) ∙ length_push ends.0 last in
    let at_end : get_or fronts (length ends.0) d ≡ last = ap (λ l. get_or l (length ends.0) d) (sym ends.1) ∙ get_or_push ends.0 last d (length ends.0) refl in
    let in_list : k < length fronts = begins_within seen fronts begins k within in
    subst (λ f. IsAtMost f last) (sym same) (⊎_elim
    (λ (early : k < length ends.0). subst (λ f. IsAtMost (get_or fronts k d) f) at_end (posted k (length ends.0) d early (omega (arith, long))).at_most)
    (λ (here : k ≡ length ends.0). subst (λ i. IsAtMost (get_or fronts i d) last) (sym here) (subst (λ f. IsAtMost f last) (sym at_end) (at_most_itself last)))
    (early_or_last k (length ends.0) (omega (arith, in_list, long))))

-- the last front of what was seen is at most the last one of what was posted
pub ends_rise : (seen fronts : List Front) (old new : Front) → EndsWith seen old → IsPrefix seen fronts → EndsWith fronts new → IsPosted fronts → IsAtMost old new
ends_rise seen fronts old new was begins ends posted =
    let long : length seen ≡ length was.0 + 1 = ap length (sym was.1) ∙ length_push was.0 old in
    let at_end : get_or seen (length was.0) old ≡ old = ap (λ l. get_or l (length was.0) old) (sym was.1) ∙ get_or_push was.0 old old (length was.0) refl in
    subst (λ f. IsAtMost f new) at_end (none_behind seen fronts new begins ends posted (length was.0) old (omega (arith, long)))

pub stands_in : (seen board : List Front) (a : Front) → IsPrefix seen board → Contains seen a → Contains board a
stands_in seen board a begins here = (
  here.0,
  begins_within seen board begins here.0 here.1,
  ap (λ l. get_or l here.0 a) (sym begins.1) ∙ get_or_append_left seen begins.0 a here.0 here.1 ∙ here.2,
)

version_rises : (x y a b : Front) → x ≡ a → y ≡ b → Rises x y → a.version < b.version
version_rises x y a b e f up = subst (λ (z : Front). z.version < b.version) e (subst (λ (z : Front). x.version < z.version) f up.version)

-- a posted list has one front for each version
pub one_front : (board : List Front) (a b : Front) → IsPosted board → Contains board a → Contains board b → a.version ≡ b.version → a ≡ b
one_front board a b posted here there same =
    let b_is : get_or board there.0 a ≡ b = get_or_default board there.0 a b there.1 ∙ there.2 in
    ⊎_elim
    (λ (early : here.0 < there.0).
    let rises = version_rises _ _ a b here.2 b_is (posted here.0 there.0 a early there.1) in absurd (omega arith))
    (λ (late : there.0 ≤ here.0). ⊎_elim
    (λ (behind : there.0 < here.0).
    let rises = version_rises _ _ b a b_is here.2 (posted there.0 here.0 a behind here.1) in absurd (omega arith))
    (λ (not_behind : here.0 ≤ there.0).
    let place : here.0 ≡ there.0 = omega arith in sym here.2 ∙ ap (λ k. get_or board k a) place ∙ b_is)
    (cases_lt there.0 here.0))
    (cases_lt here.0 there.0)

-- fronts and their words

pub prefix_in : (n : ℕ) (seen log : List (List ℕ)) → IsPrefix seen log → IsPrefix (fronts_in n seen) (fronts_in n log)
prefix_in n seen log s = (fronts_in n s.0, sym (map-append (front_in n) seen s.0) ∙ ap (fronts_in n) s.1)

pub last_in : (n : ℕ) (log : List (List ℕ)) (words : List ℕ) → IsLastOf log words → EndsWith (fronts_in n log) (front_in n words)
last_in n log words e = (fronts_in n e.0, sym (map-append (front_in n) e.0 (words ∷ [])) ∙ ap (fronts_in n) e.1)

pub words_at_end : (log : List (List ℕ)) (words : List ℕ) → IsLastOf log words → IsLog log → AreWords words
words_at_end log words e is =
    let at : get_or log (length e.0) [] ≡ words = ap (λ l. get_or l (length e.0) []) (sym e.1) ∙ get_or_push e.0 words [] (length e.0) refl in
    let long : length log ≡ length e.0 + 1 = ap length (sym e.1) ∙ length_push e.0 words in
    subst AreWords at (is.words (length e.0) [] (omega (arith, long)))

-- an interval among the words
interval_at : (words : List ℕ) (n k d : ℕ) → k < n → get_or (take n (drop 2 words)) k d ≡ get_or words (2 + k) d
interval_at words n k d below = get_or-take n (drop 2 words) k d below ∙ get_or-drop 2 words k d

-- how many intervals there are
intervals_of : (n : ℕ) (low high : List ℕ) → length low ≡ length high → length (take n (drop 2 low)) ≡ length (take n (drop 2 high))
intervals_of n low high same = omega (arith, same, length-take n (drop 2 low), length-take n (drop 2 high), length-drop 2 low, length-drop 2 high)

rises_in : (n : ℕ) (low high : List ℕ) → AreWords low → Grows low high → Rises (front_in n low) (front_in n high)
rises_in n low high are grows = record {
  version = grows.version;
  at_most = record {
    version = omega (arith, grows.version);
    round = grows.below.each 1 (omega (arith, are.whole));
    vec = record {
      same_places = intervals_of n low high grows.below.same_places;
      each = λ place within.
          let below : place < n = omega (arith, within, length-take n (drop 2 low)) in
          let inside : 2 + place < length low = omega (arith, within, length-take n (drop 2 low), length-drop 2 low, are.whole) in
          omega (arith, interval_at low n place 0 below, interval_at high n place 0 below, grows.below.each (2 + place) inside);
    };
  };
}

pub posted_in : (n : ℕ) (log : List (List ℕ)) → IsLog log → IsPosted (fronts_in n log)
posted_in n log is i j d below within =
    let in_log : j < length log = omega (arith, within, length-map log (front_in n)) in
    let early : i < length log = omega (arith, in_log, below) in
    rw (get_or-map (front_in n) log i [] d early, get_or-map (front_in n) log j [] d in_log) (rises_in n (get_or log i []) (get_or log j []) (is.words i [] early) (is.rising i j [] below in_log))

-- the words of a front spell it
pub spelled : (front : Front) → front_in (length front.vec) (words_in front) ≡ front
spelled front =
    let same : take (length front.vec) (padded_words front.vec) ≡ front.vec = grind (arith, common_steps) in
    ap (λ vec. record { version = front.version; round = front.round; vec = vec }) same

pub spelled_at : (n : ℕ) (front : Front) → length front.vec ≡ n → front_in n (words_in front) ≡ front
spelled_at n front e = subst (λ k. front_in k (words_in front) ≡ front) e (spelled front)

words_below : (low high : List ℕ) → IsBelow low high → length low ≤ 16 → (place : ℕ) → slice_index (padded_words low) place ≤ slice_index (padded_words high) place
words_below low high below few place = ⊎_elim
    (λ (inside : place < length low).
    let a : slice_index (padded_words low) place ≡ slice_index low place = grind (arith, common_steps) in
    let b : slice_index (padded_words high) place ≡ slice_index high place = grind (arith, common_steps, below.same_places) in
    omega (arith, a, b, below.each place inside))
    (λ (past : length low ≤ place).
    let a : slice_index (padded_words low) place ≡ 0 = grind (arith, common_steps) in
    omega (arith, a))
    (cases_lt place (length low))

pub words_grow : (low high : Front) → length low.vec ≤ 16 → Rises low high → Grows (words_in low) (words_in high)
words_grow low high few up = record {
  version = up.version;
  below = record {
    same_places = grind (arith, common_steps, up.at_most.vec.same_places);
    each = λ place within. at place;
  };
}
  where
    at : (place : ℕ) → slice_index (words_in low) place ≤ slice_index (words_in high) place
    at zero = up.at_most.version
    at (suc zero) = up.at_most.round
    at (suc (suc k)) = words_below low.vec high.vec up.at_most.vec few k

-- the words of the first front are zeros
pub first_words : (n : ℕ) → n ≤ 16 → words_in (first_front n) ≡ zero_words
first_words n few =
    let whole : n + (16 - n) ≡ 16 = omega arith in
    ap (λ (zeros : List ℕ). 0 ∷ 0 ∷ zeros)
    (ap (λ (k : ℕ). replicate n 0 ++ replicate (16 - k) 0) (length-replicate n 0)
    ∙ replicate-append-replicate n (16 - n) 0
    ∙ ap (λ (k : ℕ). replicate k 0) whole)

at_or_past : (ws : List ℕ) (k : ℕ) → All (λ word. word < 4294967296) ws → slice_index ws k < 4294967296
at_or_past ws k all = ⊎_elim
    (λ (inside : k < length ws). all k 0 inside)
    (λ (past : length ws ≤ k). subst (λ x. x < 4294967296) (sym (get_or_past ws k 0 past)) (omega arith))
    (cases_lt k (length ws))

pub are_words : (version round : ℕ) (ws : List ℕ) → round < 4294967296 → length ws ≡ 16 → All (λ word. word < 4294967296) ws → AreWords (version ∷ round ∷ (ws ++ []))
are_words version round ws narrow long all = subst (λ l. AreWords (version ∷ round ∷ l)) (sym (append-nil ws)) (record {
  whole = omega (arith, long);
  fit = at;
})
  where
    at : (place : ℕ) → 1 ≤ place → slice_index (version ∷ round ∷ ws) place < 4294967296
    at zero some = absurd (omega arith)
    at (suc zero) some = narrow
    at (suc (suc k)) some = at_or_past ws k all

pub intervals_fit : (words : List ℕ) (n : ℕ) → AreWords words → All (λ word. word < 4294967296) (take n (drop 2 words))
intervals_fit words n are k d within =
    let below : k < n = omega (arith, within, length-take n (drop 2 words)) in
    let inside : 2 + k < length words = omega (arith, within, length-take n (drop 2 words), length-drop 2 words, are.whole) in
    subst (λ x. x < 4294967296) (sym (interval_at words n k d below ∙ get_or_default words (2 + k) d 0 inside)) (are.fit (2 + k) (omega arith))

-- the cell at its start
pub first_writer : (cell : CellName) (table : TableId) (view : View) → table ≡ cell.table → cell.n ≤ 16 → view ≡ writer (zero_words ∷ []) → IsWriter cell table view 0
first_writer cell table view own few is = record {
  own = own;
  writes = is ∙ ap (λ (v : View). writer v.seen) (sym is);
  log = subst (λ (v : View). IsLog v.seen) (sym is) (one_log zero_words zeros_are_words);
  front = first_front cell.n;
  last = subst (λ (v : View). IsLastOf v.seen (words_in (first_front cell.n))) (sym is) ([], ap (λ words. words ∷ []) (first_words cell.n few));
  places = length-replicate cell.n 0;
  version_is = refl;
}

pub first_fronts : (n : ℕ) (view : View) → n ≤ 16 → view ≡ writer (zero_words ∷ []) → fronts_in n view.seen ≡ first_front n ∷ []
first_fronts n view few is =
    ap (λ (v : View). fronts_in n v.seen) is
    ∙ ap (λ front. front ∷ []) (ap (front_in n) (sym (first_words n few)) ∙ spelled_at n (first_front n) (length-replicate n 0))

-- one front more
pub added_in : (n : ℕ) (seen : List (List ℕ)) (words : List ℕ) (front : Front) → words ≡ words_in front → length front.vec ≡ n
    → fronts_in n (seen ++ words ∷ []) ≡ fronts_in n seen ++ front ∷ []
added_in n seen words front is places =
    map-append (front_in n) seen (words ∷ [])
    ∙ ap (λ f. fronts_in n seen ++ f ∷ []) (ap (front_in n) is ∙ spelled_at n front places)

-- the fronts of the writer's list end with its last one
pub ends_with : (n : ℕ) (log : List (List ℕ)) (front : Front) → length front.vec ≡ n → IsLastOf log (words_in front) → EndsWith (fronts_in n log) front
ends_with n log front places last = subst (EndsWith (fronts_in n log)) (spelled_at n front places) (last_in n log (words_in front) last)

-- what may follow under another version rises above the last front
pub rises_above : (fronts : List Front) (last front : Front) → EndsWith fronts last → last.version ≢ front.version → MayFollow fronts front → Rises last front
rises_above fronts last front ends apart may = elim may [
  | again here ↦ absurd (apart (ap (λ (f : Front). f.version) (one_last fronts last front ends here)))
  | above low here up ↦ subst (λ f. Rises f front) (one_last fronts low last here ends) up
]

-- and under the same version it is the last front
pub is_last : (fronts : List Front) (last front : Front) → EndsWith fronts last → last.version ≡ front.version → MayFollow fronts front → EndsWith fronts front
is_last fronts last front ends same may = elim may [
  | again here ↦ here
  | above low here up ↦
      let at_end : low ≡ last = one_last fronts low last here ends in
      absurd (omega (arith, up.version, same, ap (λ (f : Front). f.version) at_end))
]

-- what comes after a manager's front may follow it
pub goes_on : (fronts : List Front) (old new : ManagerState) → EndsWith fronts (front_of old) → GoesOn old new → MayFollow fronts (front_of new)
goes_on fronts old new ends on = elim on [
  | stays version round recovery closed ↦
      let same : front_of old ≡ front_of new = λ i. record { version = sym version i; round = sym round i; vec = sym recovery i } in
      again (subst (EndsWith fronts) same ends)
  | rises changes version round below ↦ above (front_of old) ends (record {
    version = omega (arith, version);
    at_most = record { version = omega (arith, version); round = round; vec = below };
  })
]
