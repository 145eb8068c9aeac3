-- What a follower is told.
use Rattle.std.proofs.Common.{◌≡◌, ◌≢◌, ◌⊎◌, inl, inr, ℕ, zero, suc, ◌+◌, ◌<◌, ◌≤◌, ◌==◌, List, [], ◌∷◌, ◌++◌, Option, Some, cond, false, refl, sym, ap, ◌∙◌, subst, arith, append-nil, append_assoc, get_or, length, length-append, map, set}
use Rattle.std.specs.Prelude.{Vec, slice_get, slice_index}
use Rattle.std.specs.declared.alloc.Global.{Global}
use Rattle.std.proofs.Math.Seq.{map-set_same}
use Rattle.std.proofs.lemmas.Bool.{cases_eq, eq-eqb}
use Rattle.std.proofs.lemmas.Bool.Decides.{nat_tests}
use Rattle.std.proofs.lemmas.List.{length-map, map-append}
use Rattle.std.proofs.lemmas.List.Elements.{filter-append}
use Rattle.std.proofs.lemmas.Option.{get_or_from_slice_get, same_Some, slice_get_cases, slice_get_within}
use Rattle.om_interval.specs.Vectors.{IsBelow}
use Rattle.om_manager.specs.Outputs.{HeldOutput, held_of}
use Rattle.om_manager.specs.Sound.{IsManager}
use Rattle.om_manager.specs.State.{ManagerState, held_by, process_count, released_by}
use Rattle.om_manager.specs.declared.output_log.Output.{Output}
use Rattle.om_process.specs.Process.{Program}
use Rattle.om_board.specs.Made.{HoldsMade, IsMade}
use Rattle.om_board.proofs.ListLemmas.{map_get, map_had, more_had, none_in}
use Rattle.om_board.proofs.FrontLemmas.{ends_rise}
use Rattle.om_board.proofs.MadeLemmas.{released_had}
use mathlib.Core.List.{IsPrefix}
use Rattle.om_board.specs.Boards.{BoardState, IsBoard}
use Rattle.om_board.specs.Fronts.{EndsWith, front_of}
use Rattle.om_board.specs.declared.front.Front.{Front}
use Rattle.om_report.proofs.HarvestLemmas.{set_apart, set_here, within_above}
use Rattle.om_report.proofs.ReleasedLemmas.{within_limit}
use Rattle.om_report.specs.Released.{AreAllMade, AreAllReleased}
use Rattle.om_report.specs.Telling.{AreInOrder, AreToldMade, AreToldWithin, IsMadeWithin, Told, of_process, told_of}
use Rattle.om_following.specs.declared.followed_outputs.FollowedOutputs.{FollowedOutputs}
use Rattle.om_following.specs.Following.{AreAllCopied, AreEmpty, AreTold, IsEmpty, IsTold, all_of, copied_of, fresh_of}
use Rattle.om_following.specs.steps.Lanes.{AreMore, HasTold, HaveMore, HaveTold, IsBehind, IsMore, IsMoreOf, held_at, held_in}

-- ---- lists
-- an element of a list stands there too where more comes behind it
front_had : {A : Type 0} (xs ys : List A) (i : ℕ) (x : A) → slice_get xs i ≡ Some x → slice_get (xs ++ ys) i ≡ Some x
front_had [] ys i x at = absurd (none_in i x at)
front_had (y ∷ xs) ys zero x at = at
front_had (y ∷ xs) ys (suc i) x at = front_had xs ys i x at

pub none_of : {A : Type 0} (xs : List A) → length xs ≡ 0 → xs ≡ []
none_of [] none = refl
none_of (x ∷ xs) none = absurd (omega arith)

-- an element of two lists is one of the first, or of the second
either_had : {A : Type 0} (xs ys : List A) (i : ℕ) (x : A) → slice_get (xs ++ ys) i ≡ Some x → (slice_get xs i ≡ Some x) ⊎ ((j : ℕ) × (i ≡ length xs + j) × (slice_get ys j ≡ Some x))
either_had [] ys i x at = inr (i, omega arith, at)
either_had (y ∷ xs) ys zero x at = inl at
either_had (y ∷ xs) ys (suc i) x at = elim (either_had xs ys i x at) [
  | inl here ↦ inl here
  | inr there ↦ inr (there.0, (let e = there.1 in omega arith), there.2)
]

-- where an element was set, that element or one that was there
pub set_had : {A : Type 0} (xs : List A) (p : ℕ) (y : A) (q : ℕ) (x : A) → p < length xs → slice_get (set xs p y) q ≡ Some x
    → ((q ≡ p) × (x ≡ y)) ⊎ ((q ≢ p) × (slice_get xs q ≡ Some x))
set_had xs p y q x within at = elim (cases_eq q p) [
  | inl here ↦ inl (here, same_Some x y (sym at ∙ ap (λ k. slice_get (set xs p y) k) here ∙ set_here xs p y within))
  | inr apart ↦ inr (apart, sym (set_apart xs p q y apart) ∙ at)
]

-- ---- what is told of a process
own_one : (p : ℕ) (t : Told) → t.process ≡ p → of_process p (t ∷ []) ≡ t ∷ []
own_one p t same = ap (λ b. cond b (t ∷ []) []) (eq-eqb t.process p same)

other_one : (p : ℕ) (t : Told) → t.process ≢ p → of_process p (t ∷ []) ≡ []
other_one p t apart =
    let no : (t.process == p) ≡ false = grind (arith, nat_tests) in
    ap (λ b. cond b (t ∷ []) []) no

pub own_more : (p : ℕ) (told : List Told) (o : Output) → of_process p (told ++ told_of p o ∷ []) ≡ of_process p told ++ told_of p o ∷ []
own_more p told o = filter-append (λ (t : Told). t.process == p) told (told_of p o ∷ []) ∙ ap (λ l. of_process p told ++ l) (own_one p (told_of p o) refl)

pub other_more : (p q : ℕ) (told : List Told) (o : Output) → q ≢ p → of_process q (told ++ told_of p o ∷ []) ≡ of_process q told
other_more p q told o apart =
    filter-append (λ (t : Told). t.process == q) told (told_of p o ∷ []) ∙ ap (λ l. of_process q told ++ l) (other_one q (told_of p o) (λ same. apart (sym same)))
    ∙ append-nil (of_process q told)

-- ---- one lane
-- nothing was told yet
pub told_none : {F : Type 0} (Tells : F → F → List Told → Type 0) (p : ℕ) (lane : FollowedOutputs) (now : F) → HasTold Tells p lane now lane now
told_none Tells p lane now start told tells = record { told = told; tells = tells; own = refl; others = λ q apart. refl }

-- one output more was told
pub told_next : {F : Type 0} (Tells : F → F → List Told → Type 0) (p : ℕ) (lane : FollowedOutputs) (first : F) (was : FollowedOutputs) (before : F) (new : FollowedOutputs) (after : F) (o : Output)
    → HasTold Tells p lane first was before → was.fresh.items ≡ o ∷ new.fresh.items
    → ((start : F) (told : List Told) → Tells start before told → Tells start after (told ++ told_of p o ∷ []))
    → HasTold Tells p lane first new after
told_next Tells p lane first was before new after o has at step start told tells =
    let of = has start told tells in record {
      told = of.told ++ told_of p o ∷ [];
      tells = step start of.told of.tells;
      own = ap (λ l. l ++ map (told_of p) new.fresh.items) (own_more p of.told o)
          ∙ append_assoc (of_process p of.told) (told_of p o ∷ []) (map (told_of p) new.fresh.items)
          ∙ ap (λ os. of_process p of.told ++ map (told_of p) os) (sym at) ∙ of.own;
      others = λ q apart. other_more p q of.told o apart ∙ of.others q apart;
    }

-- nothing more was told
pub told_same : {F : Type 0} (Tells : F → F → List Told → Type 0) (p : ℕ) (lane : FollowedOutputs) (first : F) (was : FollowedOutputs) (before : F) (new : FollowedOutputs)
    → HasTold Tells p lane first was before → new.fresh.items ≡ was.fresh.items → HasTold Tells p lane first new before
told_same Tells p lane first was before new has same start told tells =
    let of = has start told tells in
    record { told = of.told; tells = of.tells; own = ap (λ os. of_process p of.told ++ map (told_of p) os) same ∙ of.own; others = of.others }

-- one output more was copied
pub more_next : (released : List HeldOutput) (old was new : FollowedOutputs) (o : Output) → IsMore released old was → new.fresh.items ≡ was.fresh.items ++ o ∷ [] → new.copied ≡ was.copied + 1
    → o.seq ≡ was.copied → slice_get released was.copied ≡ Some (held_of o) → IsMore released old new
more_next released old was new o is fresh copied number at = record {
  more = is.more ++ o ∷ [];
  fresh = fresh ∙ ap (λ l. l ++ o ∷ []) is.fresh ∙ append_assoc old.fresh.items is.more (o ∷ []);
  copied = (let c = is.copied in let l = length-append is.more (o ∷ []) in omega arith);
  each = λ i x there. elim (more_had is.more i o x there) [
    | inl last ↦
        let place : was.copied ≡ old.copied + i = is.copied ∙ ap (λ k. old.copied + k) (sym last.0) in
        subst (λ (y : Output). (y.seq ≡ old.copied + i) × (slice_get released (old.copied + i) ≡ Some (held_of y))) (sym last.1)
        (number ∙ place, subst (λ k. slice_get released k ≡ Some (held_of o)) place at)
    | inr before ↦ is.each i x before
  ];
}

-- more was not copied
pub more_same : (released : List HeldOutput) (old was new : FollowedOutputs) → IsMore released old was → new.fresh.items ≡ was.fresh.items → new.copied ≡ was.copied → IsMore released old new
more_same released old was new is fresh copied = record { more = is.more; fresh = fresh ∙ is.fresh; copied = copied ∙ is.copied; each = is.each }

pub more_none : (released : List HeldOutput) (lane : FollowedOutputs) → IsMore released lane lane
more_none released lane = record { more = []; fresh = sym (append-nil lane.fresh.items); copied = omega arith; each = λ i x at. absurd (none_in i x at) }

-- ---- all lanes
pub lanes_more : (released : ℕ → List HeldOutput) (first lanes : List FollowedOutputs) (p : ℕ) (old new : FollowedOutputs) → slice_get lanes p ≡ Some old → slice_get first p ≡ Some old
    → IsMore (released p) old new → AreMore released first lanes → AreMore released first (set lanes p new)
lanes_more released first lanes p old new at begun more are = record {
  many = length-set_same lanes p new ∙ are.many;
  each = λ q before after here there. elim (set_had lanes p new q after (slice_get_within lanes p old at) there) [
    | inl own ↦
        let same : old ≡ before = same_Some old before (sym begun ∙ ap (slice_get first) (sym own.0) ∙ here) in
        subst (λ k. IsMore (released k) before after) (sym own.0)
        (subst (λ (a : FollowedOutputs). IsMore (released p) before a) (sym own.1) (subst (λ (b : FollowedOutputs). IsMore (released p) b new) same more))
    | inr other ↦ are.each q before after here other.1
  ];
}
  where
    length-set_same : (xs : List FollowedOutputs) (i : ℕ) (y : FollowedOutputs) → length (set xs i y) ≡ length xs
    length-set_same [] i y = refl
    length-set_same (x ∷ xs) zero y = refl
    length-set_same (x ∷ xs) (suc i) y = ap suc (length-set_same xs i y)

pub lanes_none : (released : ℕ → List HeldOutput) (lanes : List FollowedOutputs) → AreMore released lanes lanes
lanes_none released lanes = record {
  many = refl;
  each = λ p before after here there. subst (IsMore (released p) before) (same_Some before after (sym here ∙ there)) (more_none (released p) before);
}

-- a lane that was not reached yet is as it was
pub not_reached : (first lanes : List FollowedOutputs) (p : ℕ) (new : FollowedOutputs) → ((q : ℕ) → p ≤ q → slice_get lanes q ≡ slice_get first q)
    → (q : ℕ) → p + 1 ≤ q → slice_get (set lanes p new) q ≡ slice_get first q
not_reached first lanes p new are q later = set_apart lanes p q new (λ same. absurd (omega arith)) ∙ are q (omega arith)

pub told_where : {F : Type 0} (Tells : F → F → List Told → Type 0) (lanes : List FollowedOutputs) (p : ℕ) (old new : FollowedOutputs) (before after : F)
    → slice_get lanes p ≡ Some old → HasTold Tells p old before new after → HaveTold Tells lanes before (set lanes p new) after
told_where Tells lanes p old new before after at has start told tells =
    let of = has start told tells in record {
      told = of.told;
      tells = of.tells;
      all = λ q. elim (cases_eq q p) [
        | inl here ↦
            subst (λ k. all_of k of.told (set lanes p new) ≡ all_of k told lanes) (sym here)
            (ap (λ l. of_process p of.told ++ fresh_of p l) (set_here lanes p new (slice_get_within lanes p old at)) ∙ of.own ∙ ap (λ l. of_process p told ++ fresh_of p l) (sym at))
        | inr apart ↦
            ap (λ l. l ++ fresh_of q (slice_get (set lanes p new) q)) (of.others q apart) ∙ ap (λ l. of_process q told ++ fresh_of q l) (set_apart lanes p q new apart)
      ];
    }

pub have_none : {F : Type 0} (Tells : F → F → List Told → Type 0) (lanes : List FollowedOutputs) (now : F) → HaveTold Tells lanes now lanes now
have_none Tells lanes now start told tells = record { told = told; tells = tells; all = λ p. refl }

pub have_then : {F : Type 0} (Tells : F → F → List Told → Type 0) (a b c : List FollowedOutputs) (x y z : F) → HaveTold Tells a x b y → HaveTold Tells b y c z → HaveTold Tells a x c z
have_then Tells a b c x y z first second start told tells =
    let one = first start told tells in
    let two = second start one.told one.tells in
    record { told = two.told; tells = two.tells; all = λ p. two.all p ∙ one.all p }

pub have_paused : {F : Type 0} (Tells : F → F → List Told → Type 0) (a b : List FollowedOutputs) (x y z : F) → HaveTold Tells a x b y
    → ((start : F) (told : List Told) → Tells start y told → Tells start z told) → HaveTold Tells a x b z
have_paused Tells a b x y z first same start told tells =
    let one = first start told tells in
    record { told = one.told; tells = same start one.told one.tells; all = one.all }

-- of a lane that is told of as many were copied
pub copied_where : (lanes : List FollowedOutputs) (p : ℕ) (old new : FollowedOutputs) → slice_get lanes p ≡ Some old → new.copied ≡ old.copied
    → map (λ (l : FollowedOutputs). l.copied) (set lanes p new) ≡ map (λ (l : FollowedOutputs). l.copied) lanes
copied_where lanes p old new at same =
    map-set_same (λ (l : FollowedOutputs). l.copied) lanes p new old (same ∙ ap (λ (l : FollowedOutputs). l.copied) (sym (get_or_from_slice_get lanes p old old at)))

copied_in : (lanes : List FollowedOutputs) (p : ℕ) → copied_of (slice_get lanes p) ≡ get_or (map (λ (l : FollowedOutputs). l.copied) lanes) p 0
copied_in [] zero = refl
copied_in [] (suc p) = refl
copied_in (l ∷ lanes) zero = refl
copied_in (l ∷ lanes) (suc p) = copied_in lanes p

pub copied_same : (old new : List FollowedOutputs) → map (λ (l : FollowedOutputs). l.copied) new ≡ map (λ (l : FollowedOutputs). l.copied) old → (p : ℕ)
    → copied_of (slice_get new p) ≡ copied_of (slice_get old p)
copied_same old new same p = copied_in new p ∙ ap (λ cs. get_or cs p 0) same ∙ sym (copied_in old p)

pub all_copied_same : (brought : List (Vec Output Global)) (old new : List FollowedOutputs) → map (λ (l : FollowedOutputs). l.copied) new ≡ map (λ (l : FollowedOutputs). l.copied) old
    → AreAllCopied brought old → AreAllCopied brought new
all_copied_same brought old new same are p outputs lane at there =
    let had = map_had (λ (l : FollowedOutputs). l.copied) old p lane.copied (subst (λ cs. slice_get cs p ≡ Some lane.copied) same (map_get (λ (l : FollowedOutputs). l.copied) new p lane there)) in
    subst (λ k. length outputs.items ≤ k) had.2 (are p outputs had.0 at had.1)

-- the first lanes were told of to their ends, and one more
pub ends_next : (lanes : List FollowedOutputs) (p : ℕ) (old new : FollowedOutputs) → slice_get lanes p ≡ Some old
    → ((q : ℕ) (lane : FollowedOutputs) → q < p → slice_get lanes q ≡ Some lane → lane.fresh.items ≡ []) → new.fresh.items ≡ []
    → (q : ℕ) (lane : FollowedOutputs) → q < p + 1 → slice_get (set lanes p new) q ≡ Some lane → lane.fresh.items ≡ []
ends_next lanes p old new at are ends q lane below there = elim (set_had lanes p new q lane (slice_get_within lanes p old at) there) [
  | inl here ↦ subst (λ (l : FollowedOutputs). l.fresh.items ≡ []) (sym here.1) ends
  | inr other ↦ are q lane (let ne = other.0 in omega arith) other.1
]

-- of the first processes all that was brought back was copied, and of one more
pub copied_next : (brought : List (Vec Output Global)) (lanes : List FollowedOutputs) (p : ℕ) (outputs : Vec Output Global) (old new : FollowedOutputs)
    → slice_get brought p ≡ Some outputs → slice_get lanes p ≡ Some old → length outputs.items ≤ new.copied
    → ((q : ℕ) (low : Vec Output Global) (lane : FollowedOutputs) → q < p → slice_get brought q ≡ Some low → slice_get lanes q ≡ Some lane → length low.items ≤ lane.copied)
    → (q : ℕ) (low : Vec Output Global) (lane : FollowedOutputs) → q < p + 1 → slice_get brought q ≡ Some low → slice_get (set lanes p new) q ≡ Some lane → length low.items ≤ lane.copied
copied_next brought lanes p outputs old new at_brought at more are q low lane below here there =
    elim (set_had lanes p new q lane (slice_get_within lanes p old at) there) [
      | inl own ↦
          let same : outputs ≡ low = same_Some outputs low (sym at_brought ∙ ap (slice_get brought) (sym own.0) ∙ here) in
          subst (λ (v : Vec Output Global). length v.items ≤ lane.copied) same (subst (λ (l : FollowedOutputs). length outputs.items ≤ l.copied) (sym own.1) more)
      | inr other ↦ are q low lane (let ne = other.0 in omega arith) here other.1
    ]

-- nothing of the last front that was seen is above one that comes after
pub stays_behind : (seen : List Front) (last : Front) → EndsWith seen last → IsBehind seen last
stays_behind seen last ends posted later begins rises at_end = (ends_rise seen posted last later ends begins at_end rises).vec

pub empty_next : (lanes : List FollowedOutputs) (lane : FollowedOutputs) → AreEmpty lanes → IsEmpty lane → AreEmpty (lanes ++ lane ∷ [])
empty_next lanes lane none is p x at = elim (more_had lanes p lane x at) [
  | inl here ↦ record { copied = ap (λ (l : FollowedOutputs). l.copied) here.1 ∙ is.copied; fresh = ap (λ (l : FollowedOutputs). l.fresh.items) here.1 ∙ is.fresh }
  | inr there ↦ none p x there
]

-- ---- what was copied
-- of what a manager has released
pub released_more : (programs : List Program) (n : ℕ) (over_clean : Type 0) (m : ManagerState) (old new : List FollowedOutputs) → IsManager m → length old ≡ process_count m
    → (over_clean → HoldsMade programs n m) → AreMore (released_by m) old new → HaveMore programs n over_clean m.recovery old new
released_more programs n over_clean m old new is size holds are = record {
  many = are.many;
  each = λ p before after here there.
      let lt : p < process_count m = subst (λ k. p < k) size (slice_get_within old p before here) in
      let of = are.each p before after here there in
      record {
        more = of.more;
        fresh = of.fresh;
        copied = of.copied;
        numbered = λ i o at. (of.each i o at).0;
        made = λ clean i o at.
            let each = of.each i o at in (
              within_limit (held_by m p) (slice_index m.recovery p) (before.copied + i) (held_of o) each.1,
              subst (λ k. IsMade programs n p k (held_of o)) (sym each.0) (holds clean p (before.copied + i) (held_of o) (released_had m p (before.copied + i) (held_of o) is lt each.1)),
            );
      };
}

-- of what was brought back
pub brought_more : (programs : List Program) (n : ℕ) (over_clean : Type 0) (vec : List ℕ) (brought : List (Vec Output Global)) (old new : List FollowedOutputs)
    → AreAllReleased vec brought → (over_clean → AreAllMade programs n brought) → AreMore (held_in brought) old new → HaveMore programs n over_clean vec old new
brought_more programs n over_clean vec brought old new released made are = record {
  many = are.many;
  each = λ p before after here there.
      let of = are.each p before after here there in
      record {
        more = of.more;
        fresh = of.fresh;
        copied = of.copied;
        numbered = λ i o at. (of.each i o at).0;
        made = λ clean i o at.
            let each = of.each i o at in
            let from = had p (before.copied + i) (held_of o) each.1 in
            let is = released p from.0 from.1 (before.copied + i) from.2 from.3 in (
              subst (λ (h : HeldOutput). h.interval ≤ slice_index vec p) from.4 is.1,
              subst (λ k. IsMade programs n p k (held_of o)) (is.0 ∙ sym each.0)
                  (subst (λ h. IsMade programs n p from.2.seq h) from.4 (made clean p from.0 from.1 (before.copied + i) from.2 from.3)),
            );
      };
}
  where
    had : (p j : ℕ) (h : HeldOutput) → slice_get (held_in brought p) j ≡ Some h
        → (outputs : Vec Output Global) × (slice_get brought p ≡ Some outputs) × (o : Output) × (slice_get outputs.items j ≡ Some o) × (held_of o ≡ h)
    had p j h at = elim (slice_get_cases brought p).1 [
      | inl there ↦
          let from = map_had held_of there.0.items j h (subst (λ (o : Option (Vec Output Global)). slice_get (held_at o) j ≡ Some h) there.2 at) in
          (there.0, there.2, from.0, from.1, from.2)
      | inr past ↦ absurd (none_in j h (subst (λ (o : Option (Vec Output Global)). slice_get (held_at o) j ≡ Some h) past.1 at))
    ]

pub have_none_more : (programs : List Program) (n : ℕ) (over_clean : Type 0) (vec : List ℕ) (lanes : List FollowedOutputs) → HaveMore programs n over_clean vec lanes lanes
have_none_more programs n over_clean vec lanes = record {
  many = refl;
  each = λ p before after here there.
      subst (IsMoreOf programs n over_clean p (slice_index vec p) before) (same_Some before after (sym here ∙ there)) (record {
        more = [];
        fresh = sym (append-nil before.fresh.items);
        copied = omega arith;
        numbered = λ i o at. absurd (none_in i o at);
        made = λ clean i o at. absurd (none_in i o at);
      });
}

-- ---- from the start to the end
module _ {F : Type 0} (Tells : F → F → List Told → Type 0) (over_clean : Type 0) (programs : List Program) (n : ℕ) where
  -- what is told goes from what is still to be told to what was
  pub followed_told : (vec : List ℕ) (start : F) (lanes new : List FollowedOutputs) (before after : F) → HaveTold Tells lanes before new after
      → map (λ (l : FollowedOutputs). l.copied) new ≡ map (λ (l : FollowedOutputs). l.copied) lanes
      → IsTold Tells over_clean programs n vec start lanes before → IsTold Tells over_clean programs n vec start new after
  followed_told vec start lanes new before after have same was =
      let of = have start was.told was.tells in record {
        told = of.told;
        tells = of.tells;
        many = λ p. ap length (of.all p) ∙ was.many p ∙ sym (copied_same lanes new same p);
        in_order = λ p i t at. was.in_order p i t (subst (λ l. slice_get l i ≡ Some t) (of.all p) at);
        made = λ clean p i t at. was.made clean p i t (subst (λ l. slice_get l i ≡ Some t) (of.all p) at);
      }

  -- what is more to be told of a process
  record IsGrown (p limit : ℕ) (old : ℕ) (before : List Told) (new : ℕ) (after : List Told) : Type 0 where
    more : List Told
    all : after ≡ before ++ more
    many : new ≡ old + length more
    numbered : (i : ℕ) (t : Told) → slice_get more i ≡ Some t → t.number ≡ old + i
    made : over_clean → (i : ℕ) (t : Told) → slice_get more i ≡ Some t → IsMadeWithin programs n p limit t

  grown_of : (p limit : ℕ) (told : List Told) (before after : FollowedOutputs) → IsMoreOf programs n over_clean p limit before after
      → IsGrown p limit before.copied (told ++ map (told_of p) before.fresh.items) after.copied (told ++ map (told_of p) after.fresh.items)
  grown_of p limit told before after is = record {
    more = map (told_of p) is.more;
    all = ap (λ os. told ++ map (told_of p) os) is.fresh ∙ ap (λ l. told ++ l) (map-append (told_of p) before.fresh.items is.more)
        ∙ sym (append_assoc told (map (told_of p) before.fresh.items) (map (told_of p) is.more));
    many = is.copied ∙ ap (λ k. before.copied + k) (sym (length-map is.more (told_of p)));
    numbered = λ i t at.
        let from = map_had (told_of p) is.more i t at in
        ap (λ (x : Told). x.number) (sym from.2) ∙ is.numbered i from.0 from.1;
    made = λ clean i t at.
        let from = map_had (told_of p) is.more i t at in
        let one = is.made clean i from.0 from.1 in
        subst (IsMadeWithin programs n p limit) from.2 (from.0.interval, one.0, one.1);
  }

  grown : (vec : List ℕ) (lanes new : List FollowedOutputs) (told : List Told) (p : ℕ) → HaveMore programs n over_clean vec lanes new
      → IsGrown p (slice_index vec p) (copied_of (slice_get lanes p)) (all_of p told lanes) (copied_of (slice_get new p)) (all_of p told new)
  grown vec lanes new told p have = elim (slice_get_cases lanes p).1 [
    | inl there ↦ elim (slice_get_cases new p).1 [
      | inl after ↦
          subst (λ l. IsGrown p (slice_index vec p) (copied_of l) (of_process p told ++ fresh_of p l) (copied_of (slice_get new p)) (all_of p told new)) (sym there.2)
          (subst (λ l. IsGrown p (slice_index vec p) there.0.copied (of_process p told ++ map (told_of p) there.0.fresh.items) (copied_of l) (of_process p told ++ fresh_of p l)) (sym after.2)
          (grown_of p (slice_index vec p) (of_process p told) there.0 after.0 (have.each p there.0 after.0 there.2 after.2)))
      | inr past ↦ absurd (let long = have.many in let lt = there.1 in let le = past.0 in omega arith)
    ]
    | inr past ↦ elim (slice_get_cases new p).1 [
      | inl after ↦ absurd (let long = have.many in let lt = after.1 in let le = past.0 in omega arith)
      | inr none ↦
          subst (λ l. IsGrown p (slice_index vec p) (copied_of l) (of_process p told ++ fresh_of p l) (copied_of (slice_get new p)) (all_of p told new)) (sym past.1)
          (subst (λ l. IsGrown p (slice_index vec p) 0 (of_process p told ++ []) (copied_of l) (of_process p told ++ fresh_of p l)) (sym none.1) (grown_none p (slice_index vec p) 0 (of_process p told ++ [])))
    ]
  ]
    where
      grown_none : (p limit count : ℕ) (all : List Told) → IsGrown p limit count all count all
      grown_none p limit count all = record {
        more = [];
        all = sym (append-nil all);
        many = omega arith;
        numbered = λ i t at. absurd (none_in i t at);
        made = λ clean i t at. absurd (none_in i t at);
      }

  above : (low high : List ℕ) (p : ℕ) (t : Told) → IsBelow low high → IsMadeWithin programs n p (slice_index low p) t → IsMadeWithin programs n p (slice_index high p) t
  above low high p t below is = (is.0, within_above low high p is.0 below is.1, is.2)

  -- what is released and was copied is still to be told
  pub followed_more : (vec high : List ℕ) (start : F) (lanes new : List FollowedOutputs) (now : F) → IsBelow vec high → HaveMore programs n over_clean high lanes new
      → IsTold Tells over_clean programs n vec start lanes now → IsTold Tells over_clean programs n high start new now
  followed_more vec high start lanes new now below have was = record {
    told = was.told;
    tells = was.tells;
    many = λ p. let g = grown high lanes new was.told p have in
        ap length g.all ∙ length-append (all_of p was.told lanes) g.more ∙ ap (λ k. k + length g.more) (was.many p) ∙ sym g.many;
    in_order = λ p i t at.
        let g = grown high lanes new was.told p have in
        elim (either_had (all_of p was.told lanes) g.more i t (subst (λ l. slice_get l i ≡ Some t) g.all at)) [
          | inl here ↦ was.in_order p i t here
          | inr there ↦ g.numbered there.0 t there.2 ∙ ap (λ k. k + there.0) (sym (was.many p)) ∙ sym there.1
        ];
    made = λ clean p i t at.
        let g = grown high lanes new was.told p have in
        elim (either_had (all_of p was.told lanes) g.more i t (subst (λ l. slice_get l i ≡ Some t) g.all at)) [
          | inl here ↦ above vec high p t below (was.made clean p i t here)
          | inr there ↦ g.made clean there.0 t there.2
        ];
  }

  -- at the board's next front
  pub followed_met : (board : BoardState) (seen : List Front) (front next : Front) (start : F) (lanes new : List FollowedOutputs) (now : F) → IsBoard n board → IsBehind seen front
      → IsPrefix seen board.posted → next ≡ front_of board.manager → HaveMore programs n over_clean board.manager.recovery lanes new
      → IsTold Tells over_clean programs n front.vec start lanes now → IsTold Tells over_clean programs n next.vec start new now
  followed_met board seen front next start lanes new now is behind begins same have was =
      subst (λ (f : Front). IsTold Tells over_clean programs n f.vec start new now) (sym same)
      (followed_more front.vec board.manager.recovery start lanes new now (behind board.posted (front_of board.manager) begins is.posted is.last) have was)

  pub told_at_start : (vec : List ℕ) (start : F) (lanes : List FollowedOutputs) → Tells start start [] → AreEmpty lanes → IsTold Tells over_clean programs n vec start lanes start
  told_at_start vec start lanes tells none = record {
    told = [];
    tells = tells;
    many = λ p. ap length (empty p) ∙ sym (zero_of p);
    in_order = λ p i t at. absurd (none_in i t (subst (λ l. slice_get l i ≡ Some t) (empty p) at));
    made = λ clean p i t at. absurd (none_in i t (subst (λ l. slice_get l i ≡ Some t) (empty p) at));
  }
    where
      empty : (p : ℕ) → all_of p [] lanes ≡ []
      empty p = elim (slice_get_cases lanes p).1 [
        | inl there ↦ ap (fresh_of p) there.2 ∙ ap (map (told_of p)) (none p there.0 there.2).fresh
        | inr past ↦ ap (fresh_of p) past.1
      ]

      zero_of : (p : ℕ) → copied_of (slice_get lanes p) ≡ 0
      zero_of p = elim (slice_get_cases lanes p).1 [
        | inl there ↦ ap copied_of there.2 ∙ (none p there.0 there.2).copied
        | inr past ↦ ap copied_of past.1
      ]

  -- what was told is in order, and of the programs
  pub told_partly : (vec : List ℕ) (start : F) (lanes : List FollowedOutputs) (now : F) → IsTold Tells over_clean programs n vec start lanes now
      → (told : List Told) × Tells start now told × AreInOrder told × (over_clean → AreToldMade programs n told)
  told_partly vec start lanes now is = (
    is.told,
    is.tells,
    λ p i t at. is.in_order p i t (front_had (of_process p is.told) (fresh_of p (slice_get lanes p)) i t at),
    λ clean p i t at. let one = is.made clean p i t (front_had (of_process p is.told) (fresh_of p (slice_get lanes p)) i t at) in (one.0, one.2),
  )

  pub told_within : (vec : List ℕ) (start : F) (lanes : List FollowedOutputs) (now : F) (is : IsTold Tells over_clean programs n vec start lanes now) → over_clean
      → AreToldWithin programs n vec is.told
  told_within vec start lanes now is clean p i t at = is.made clean p i t (front_had (of_process p is.told) (fresh_of p (slice_get lanes p)) i t at)

  -- where nothing is still to be told, all that was copied was told
  pub told_to_end : (vec : List ℕ) (start : F) (lanes : List FollowedOutputs) (now : F) (is : IsTold Tells over_clean programs n vec start lanes now) → AreTold lanes
      → (p : ℕ) → length (of_process p is.told) ≡ copied_of (slice_get lanes p)
  told_to_end vec start lanes now is ends p = sym (ap length (whole p)) ∙ is.many p
    where
      none : (p : ℕ) → fresh_of p (slice_get lanes p) ≡ []
      none p = elim (slice_get_cases lanes p).1 [
        | inl there ↦ ap (fresh_of p) there.2 ∙ ap (map (told_of p)) (ends p there.0 there.2)
        | inr past ↦ ap (fresh_of p) past.1
      ]

      whole : (p : ℕ) → all_of p is.told lanes ≡ of_process p is.told
      whole p = ap (λ l. of_process p is.told ++ l) (none p) ∙ append-nil (of_process p is.told)
