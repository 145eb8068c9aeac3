-- Which of the stops back is the last.
use Rattle.std.proofs.Common.{◌≡◌, ◌≢◌, ◌⊎◌, ℕ, zero, suc, ◌+◌, ◌<◌, List, [], ◌∷◌, length, get_or, None, Some, Result, Ok, Err, refl, sym, ap, subst, ◌∙◌, ⊎_elim, inl, inr, arith}
use Rattle.std.specs.Prelude.{IfOk, slice_get}
use Rattle.std.proofs.lemmas.Bool.{cases_order}
use Rattle.om_timeline.specs.Timeline.{IsUpTo}
use Rattle.om_timeline.specs.declared.fault.PlayFault.{PlayFault}
use Rattle.om_debug.specs.declared.stop.Stop.{Stop}
use Rattle.om_requests.specs.declared.request.Watch.{Watch}
use Rattle.om_debug.specs.declared.stop.Stop.TheVariants as stops
use Rattle.om_debug.specs.Stops.{DebugState, IsBefore, IsQuiet, IsRunBack, standing}
use Rattle.om_debug.proofs.Backwards.{run_start}
use Rattle.om_debug.proofs.Quiet.{order}
use Rattle.om_inferiors.specs.declared.inferior.Inferior.{Inferior}
use Rattle.om_inferiors.specs.declared.moving.Stopped.{Stopped}
use Rattle.om_inferiors.proofs.Each.{get_there, length_back}
use Rattle.om_inferiors.specs.Moving.{AreBack, IsBack, IsLastOf, IsNoStepBack, IsRunBackAt, IsStepBackAt, IsToldBack, StopsBy, with_debugger}
use Rattle.om_inferiors.specs.steps.Lasting.{AreUntouched, IsBehindAt, IsFoundAt, IsLastUpTo, IsLaterOf, IsLookedBackAt}

same_some : {A : Type 0} (x y : A) → Some x ≡ Some y → x ≡ y
same_some x y is = cc

some_there : {A : Type 0} (xs : List A) (i : ℕ) → i < length xs → (x : A) × (slice_get xs i ≡ Some x)
some_there [] i less = absurd (omega (arith, less))
some_there (x ∷ xs) zero less = (x, refl)
some_there (x ∷ xs) (suc i) less = some_there xs i (omega (arith, less))

back_at : (olds news : List Inferior) (k : ℕ) (o n : Inferior) → AreBack olds news → slice_get olds k ≡ Some o → slice_get news k ≡ Some n → IsBack o n
back_at [] [] k o n each was is = cc
back_at [] (y ∷ news) k o n each was is = absurd each
back_at (x ∷ olds) [] k o n each was is = absurd each
back_at (x ∷ olds) (y ∷ news) zero o n each was is =
    subst (λ (i : Inferior). IsBack i n) (same_some x o was) (subst (λ (i : Inferior). IsBack x i) (same_some y n is) each.0)
back_at (x ∷ olds) (y ∷ news) (suc k) o n each was is = back_at olds news k o n each.1 was is

-- the same process, at another position
same_back : (olds news : List Inferior) (k : ℕ) (o n : Inferior) → AreBack olds news → slice_get olds k ≡ Some o → slice_get news k ≡ Some n
    → n.debugger ≡ standing o.debugger n.debugger.timeline.event n.debugger.timeline.turns
same_back olds news k o n each was is = ap (λ (i : Inferior). i.debugger) (back_at olds news k o n each was is)

-- ---- order
pub up_same : (event turns : ℕ) → IsUpTo event turns event turns
up_same event turns = inr (refl, omega arith)

pub up_then : (e k f l g m : ℕ) → IsUpTo e k f l → IsUpTo f l g m → IsUpTo e k g m
up_then e k f l g m (inl less) (inl more) = inl (omega (arith, less, more))
up_then e k f l g m (inl less) (inr same) = let is = same.0 in inl (omega (arith, less, is))
up_then e k f l g m (inr same) (inl more) = let is = same.0 in inl (omega (arith, is, more))
up_then e k f l g m (inr same) (inr also) = let a = same.1 in let b = also.1 in inr (same.0 ∙ also.0, omega (arith, a, b))

later_by : (old : Inferior) (e k f l : ℕ) → IsUpTo e k f l → StopsBy old e k → StopsBy old f l
later_by old e k f l order by = record {
  there = by.there;
  stop = by.stop;
  same = by.same;
  back = by.back;
  order = up_then by.there.timeline.event by.there.timeline.turns e k f l by.order order;
}

-- ---- the first
pub last_first : (xs : List Inferior) (first : ℕ) (stop : Stop) → first < length xs → IsLastUpTo xs xs first stop 0 first stop
last_first xs first stop less =
    let one = some_there xs first less in
    record {
      new = one.0;
      is_there = one.1;
      kept = refl;
      found = inl (refl, refl);
      others = λ k other below there apart. absurd (omega (arith, below));
      order = λ f there. subst (λ (g : Inferior). IsUpTo g.debugger.timeline.event g.debugger.timeline.turns one.0.debugger.timeline.event one.0.debugger.timeline.turns)
          (same_some one.0 f (sym one.1 ∙ there)) (up_same one.0.debugger.timeline.event one.0.debugger.timeline.turns);
    }

pub untouched_first : (xs : List Inferior) → AreUntouched xs xs 0
untouched_first xs = λ k from. refl

-- ---- one more
-- the first itself is passed over
pub last_over : (olds news : List Inferior) (first upto place : ℕ) (its stop : Stop) → IsLastUpTo olds news first its upto place stop → upto ≡ first → IsLastUpTo olds news first its (upto + 1) place stop
last_over olds news first upto place its stop last is = record {
  new = last.new;
  is_there = last.is_there;
  kept = last.kept;
  found = last.found;
  others = λ k other below there apart. last.others k other (⊎_elim (λ same. absurd (apart (same ∙ is))) (λ order. ⊎_elim (λ less. less) (λ more. absurd (omega (arith, below, more))) order) (cases_order k upto)) there apart;
  order = last.order;
}

pub untouched_over : (olds news : List Inferior) (upto : ℕ) → AreUntouched olds news upto → AreUntouched olds news (upto + 1)
untouched_over olds news upto so = λ k from. so k (λ less. from (omega (arith, less)))

pub untouched_more : (olds mids news : List Inferior) (upto : ℕ) → AreUntouched olds mids upto → ((k : ℕ) → k ≢ upto → slice_get news k ≡ slice_get mids k) → AreUntouched olds news (upto + 1)
untouched_more olds mids news upto so others = λ k from.
    others k (λ same. from (omega (arith, same))) ∙ so k (λ less. from (omega (arith, less)))

-- who goes back from where it stood
run_from : (olds mids news : List Inferior) (place : ℕ) (stop : Stop) → slice_get mids place ≡ slice_get olds place → IsRunBackAt mids news place stop → IsRunBackAt olds news place stop
run_from olds mids news place stop same run = record { old = run.old; new = run.new; was = sym same ∙ run.was; is = run.is; back = run.back }

below_or : (k upto : ℕ) → k < upto + 1 → (k < upto) ⊎ (k ≡ upto)
below_or k upto below = ⊎_elim (λ same. inr same) (λ order. ⊎_elim (λ less. inl less) (λ more. absurd (omega (arith, below, more))) order) (cases_order k upto)

kept_by : (olds mids news : List Inferior) (first upto : ℕ) → slice_get mids first ≡ slice_get olds first → first ≢ upto → ((k : ℕ) → k ≢ upto → slice_get news k ≡ slice_get mids k)
    → slice_get news first ≡ slice_get olds first
kept_by olds mids news first upto kept apart others = others first apart ∙ kept

-- the next one stops later than all so far
pub last_later : (olds mids news : List Inferior) (first upto place : ℕ) (its stop its_own : Stop) → IsLastUpTo olds mids first its upto place stop → AreUntouched olds mids upto → upto ≢ first → AreBack mids news
    → IsRunBackAt mids news upto its_own → ((k : ℕ) → k ≢ upto → slice_get news k ≡ slice_get mids k) → place ≢ upto → IsBehindAt news place upto
    → IsLastUpTo olds news first its (upto + 1) upto its_own
last_later olds mids news first upto place its stop its_own last so apart back run others elsewhere later =
    let here : Inferior = run.new in
    let before : IsUpTo last.new.debugger.timeline.event last.new.debugger.timeline.turns here.debugger.timeline.event here.debugger.timeline.turns =
    later last.new here (others place elsewhere ∙ last.is_there) run.is in
    let from : IsRunBackAt olds news upto its_own = run_from olds mids news upto its_own (so upto (λ less. omega (arith, less))) run in
    let own : StopsBy run.old here.debugger.timeline.event here.debugger.timeline.turns = record {
      there = here.debugger;
      stop = its_own;
      same = same_back mids news upto run.old here back run.was run.is;
      back = inl run.back;
      order = up_same here.debugger.timeline.event here.debugger.timeline.turns;
    } in
    record {
      new = here;
      is_there = run.is;
      kept = kept_by olds mids news first upto last.kept (λ same. apart (sym same)) others;
      found = inr (apart, from);
      others = λ k other below there far. ⊎_elim
          (λ less. later_by other last.new.debugger.timeline.event last.new.debugger.timeline.turns here.debugger.timeline.event here.debugger.timeline.turns before (last.others k other less there far))
          (λ same. subst (λ (o : Inferior). StopsBy o here.debugger.timeline.event here.debugger.timeline.turns)
          (same_some run.old other (sym run.was ∙ so upto (λ less. omega (arith, less)) ∙ ap (slice_get olds) (sym same) ∙ there)) own)
          (below_or k upto below);
      order = λ f there. up_then f.debugger.timeline.event f.debugger.timeline.turns last.new.debugger.timeline.event last.new.debugger.timeline.turns here.debugger.timeline.event here.debugger.timeline.turns (last.order f there) before;
    }

found_still : (olds mids news : List Inferior) (first upto place : ℕ) (its stop : Stop) → IsFoundAt olds mids first its place stop → place ≢ upto → ((k : ℕ) → k ≢ upto → slice_get news k ≡ slice_get mids k)
    → IsFoundAt olds news first its place stop
found_still olds mids news first upto place its stop (inl same) elsewhere others = inl same
found_still olds mids news first upto place its stop (inr run) elsewhere others =
    inr (run.0, record { old = run.1.old; new = run.1.new; was = run.1.was; is = others place elsewhere ∙ run.1.is; back = run.1.back })

-- it does not
pub last_still : (olds mids news : List Inferior) (first upto place : ℕ) (its stop : Stop) → IsLastUpTo olds mids first its upto place stop → AreUntouched olds mids upto → upto ≢ first
    → ((k : ℕ) → k ≢ upto → slice_get news k ≡ slice_get mids k) → place ≢ upto
    → ((old new : Inferior) → slice_get mids upto ≡ Some old → slice_get news place ≡ Some new → StopsBy old new.debugger.timeline.event new.debugger.timeline.turns)
    → IsLastUpTo olds news first its (upto + 1) place stop
last_still olds mids news first upto place its stop last so apart others elsewhere by =
    let new : Inferior = last.new in
    let is_there : slice_get news place ≡ Some new = others place elsewhere ∙ last.is_there in
    record {
      new = new;
      is_there = is_there;
      kept = kept_by olds mids news first upto last.kept (λ same. apart (sym same)) others;
      found = found_still olds mids news first upto place its stop last.found elsewhere others;
      others = λ k other below there far. ⊎_elim
          (λ less. last.others k other less there far)
          (λ same. by other new (so upto (λ less. omega (arith, less)) ∙ ap (slice_get olds) (sym same) ∙ there) is_there)
          (below_or k upto below);
      order = last.order;
    }

pub elsewhere_by : (first upto place : ℕ) → upto ≢ first → ((place ≡ first) ⊎ (place < upto)) → place ≢ upto
elsewhere_by first upto place apart (inl same) = λ is. apart (sym is ∙ same)
elsewhere_by first upto place apart (inr less) = λ is. omega (arith, less, is)

-- the next one was looked at too
pub last_next : (olds mids news : List Inferior) (first upto place : ℕ) (its stop : Stop) (later : ℕ) (new_stop : Stop) → IsLastUpTo olds mids first its upto place stop → AreUntouched olds mids upto → upto ≢ first
    → ((place ≡ first) ⊎ (place < upto)) → AreBack mids news → IsLaterOf mids news place stop upto later new_stop → ((k : ℕ) → k ≢ upto → slice_get news k ≡ slice_get mids k)
    → IsLastUpTo olds news first its (upto + 1) later new_stop
last_next olds mids news first upto place its stop later new_stop last so apart before back (inl own) others =
    subst (λ p. IsLastUpTo olds news first its (upto + 1) p new_stop) (sym own.which)
    (last_later olds mids news first upto place its stop new_stop last so apart back own.run others (elsewhere_by first upto place apart before) own.order)
last_next olds mids news first upto place its stop later new_stop last so apart before back (inr still) others =
    subst (λ p. IsLastUpTo olds news first its (upto + 1) p new_stop) (sym still.which)
    (subst (λ s. IsLastUpTo olds news first its (upto + 1) place s) (sym still.same)
    (last_still olds mids news first upto place its stop last so apart others (elsewhere_by first upto place apart before) still.by))

pub before_next : (mids news : List Inferior) (first upto place : ℕ) (stop : Stop) (later : ℕ) (new_stop : Stop) → ((place ≡ first) ⊎ (place < upto)) → IsLaterOf mids news place stop upto later new_stop
    → (later ≡ first) ⊎ (later < upto + 1)
before_next mids news first upto place stop later new_stop before (inl own) = let is = own.which in inr (omega (arith, is))
before_next mids news first upto place stop later new_stop (inl same) (inr still) = inl (still.which ∙ same)
before_next mids news first upto place stop later new_stop (inr less) (inr still) = let is = still.which in inr (omega (arith, less, is))

pub before_over : (first upto place : ℕ) → ((place ≡ first) ⊎ (place < upto)) → (place ≡ first) ⊎ (place < upto + 1)
before_over first upto place (inl same) = inl same
before_over first upto place (inr less) = inr (omega (arith, less))

-- where two stand, as it is read
pub behind_at : (all : List Inferior) (one other : ℕ) (x y : Inferior) (e k f l : ℕ) → one < length all → other < length all → x ≡ get_or all one x → y ≡ get_or all other y
    → e ≡ x.debugger.timeline.event → k ≡ x.debugger.timeline.turns → f ≡ y.debugger.timeline.event → l ≡ y.debugger.timeline.turns → IsUpTo e k f l → IsBehindAt all one other
behind_at all one other x y e k f l less also is_x is_y at_e at_k at_f at_l order = λ here there a b.
    let first : here ≡ x = same_some here x (sym a ∙ get_there all one x less ∙ ap Some (sym is_x)) in
    let second : there ≡ y = same_some there y (sym b ∙ get_there all other y also ∙ ap Some (sym is_y)) in
    subst (λ (h : Inferior). IsUpTo h.debugger.timeline.event h.debugger.timeline.turns there.debugger.timeline.event there.debugger.timeline.turns) (sym first)
    (subst (λ (t : Inferior). IsUpTo x.debugger.timeline.event x.debugger.timeline.turns t.debugger.timeline.event t.debugger.timeline.turns) (sym second)
    (subst (λ n. IsUpTo n x.debugger.timeline.turns y.debugger.timeline.event y.debugger.timeline.turns) at_e
    (subst (λ n. IsUpTo e n y.debugger.timeline.event y.debugger.timeline.turns) at_k
    (subst (λ n. IsUpTo e k n y.debugger.timeline.turns) at_f
    (subst (λ n. IsUpTo e k f n) at_l order)))))

-- ---- one that looked back
pub looked_run : (olds news : List Inferior) (place event : ℕ) (stop : Stop) → IsLookedBackAt olds news place event (Some stop) → IsRunBackAt olds news place stop
looked_run olds news place event stop looked = record { old = looked.old; new = looked.new; was = looked.was; is = looked.is; back = looked.back }

-- ---- nothing stops behind another one
up_before : (e k f l : ℕ) → IsBefore e k f 0 → IsUpTo e k f l
up_before e k f l (inl less) = inl less
up_before e k f l (inr same) = let none = same.1 in absurd (omega (arith, none))

-- nothing stops from before an event on
quiet_by : (old : Inferior) (e k : ℕ) → IsQuiet old.debugger.breaks old.debugger.watches old.debugger.timeline e 0 old.debugger.timeline.event old.debugger.timeline.turns → StopsBy old e k
quiet_by old e k quiet = elim (order old.debugger.timeline.event old.debugger.timeline.turns e 0) [
  | inl h ↦ record {
    there = old.debugger;
    stop = stops.Paused;
    same = refl;
    back = inl (inr (refl, omega arith), run_start old.debugger);
    order = up_before old.debugger.timeline.event old.debugger.timeline.turns e k h;
  }
  | inr h ↦ record { there = standing old.debugger e 0; stop = stops.Paused; same = refl; back = inl (h, quiet); order = inr (refl, omega arith) }
]

pub looked_by : (olds news : List Inferior) (last place event : ℕ) → ((there : Inferior) → slice_get olds last ≡ Some there → event ≡ there.debugger.timeline.event) → last ≢ place
    → ((k : ℕ) → k ≢ place → slice_get news k ≡ slice_get olds k) → IsLookedBackAt olds news place event None
    → (old new : Inferior) → slice_get olds place ≡ Some old → slice_get news last ≡ Some new → StopsBy old new.debugger.timeline.event new.debugger.timeline.turns
looked_by olds news last place event at apart others looked old new was is =
    let own : old ≡ looked.old = same_some old looked.old (sym was ∙ looked.was) in
    let by : StopsBy looked.old event new.debugger.timeline.turns = quiet_by looked.old event new.debugger.timeline.turns looked.back in
    subst (λ e. StopsBy old e new.debugger.timeline.turns) (at new (sym (others last apart) ∙ is))
    (subst (λ (o : Inferior). StopsBy o event new.debugger.timeline.turns) (sym own) by)

-- nor does the own stop of one who found it
pub still_by : (olds news : List Inferior) (last place : ℕ) (stop : Stop) → AreBack olds news → IsRunBackAt olds news place stop → IsBehindAt news place last
    → (old new : Inferior) → slice_get olds place ≡ Some old → slice_get news last ≡ Some new → StopsBy old new.debugger.timeline.event new.debugger.timeline.turns
still_by olds news last place stop back run order old new was is =
    subst (λ (o : Inferior). StopsBy o new.debugger.timeline.event new.debugger.timeline.turns) (same_some run.old old (sym run.was ∙ was))
    (record {
      there = run.new.debugger;
      stop = stop;
      same = same_back olds news place run.old run.new back run.was run.is;
      back = inl run.back;
      order = order run.new new run.is is;
    })

-- ---- the one that is meant
-- behind an access it stayed, and then it has gone back
pub run_from_step : (olds mids news : List Inferior) (place : ℕ) (stop : Stop) (watch : Watch) → IsStepBackAt olds mids place (stops.Watched watch) → IsRunBackAt mids news place stop → IsRunBackAt olds news place stop
run_from_step olds mids news place stop watch step run =
    let same : run.old.debugger ≡ step.old.debugger = ap (λ (i : Inferior). i.debugger) (same_some run.old step.new (sym run.was ∙ step.is)) ∙ step.back.0 in
    record {
      old = step.old;
      new = run.new;
      was = step.was;
      is = run.is;
      back = subst (λ (d : DebugState). IsRunBack d run.new.debugger stop) same run.back;
    }

-- ---- all of them
told_by : (olds starts news : List Inferior) (first place : ℕ) (its stop : Stop) → IsToldBack olds starts first its → IsFoundAt starts news first its place stop → slice_get news first ≡ slice_get starts first
    → ((k : ℕ) → k ≢ first → slice_get starts k ≡ slice_get olds k) → IsToldBack olds news place stop
told_by olds starts news first place its stop (inl run) (inl same) kept others =
    subst (λ p. IsToldBack olds news p stop) (sym same.0) (subst (λ s. IsToldBack olds news first s) (sym same.1)
    (inl (record { old = run.old; new = run.new; was = run.was; is = kept ∙ run.is; back = run.back })))
told_by olds starts news first place its stop (inr step) (inl same) kept others =
    subst (λ p. IsToldBack olds news p stop) (sym same.0) (subst (λ s. IsToldBack olds news first s) (sym same.1)
    (inr (record { old = step.old; new = step.new; was = step.was; is = kept ∙ step.is; back = step.back })))
told_by olds starts news first place its stop told (inr found) kept others =
    inl (run_from olds starts news place stop (others place found.0) found.1)

own_by : (olds starts : List Inferior) (first : ℕ) (its : Stop) (f : Inferior) (e k : ℕ) → AreBack olds starts → IsToldBack olds starts first its → slice_get olds first ≡ Some f
    → ((g : Inferior) → slice_get starts first ≡ Some g → IsUpTo g.debugger.timeline.event g.debugger.timeline.turns e k) → StopsBy f e k
own_by olds starts first its f e k back (inl run) there order =
    subst (λ (o : Inferior). StopsBy o e k) (same_some run.old f (sym run.was ∙ there))
    (record { there = run.new.debugger; stop = its; same = same_back olds starts first run.old run.new back run.was run.is; back = inl run.back; order = order run.new run.is })
own_by olds starts first its f e k back (inr step) there order =
    subst (λ (o : Inferior). StopsBy o e k) (same_some step.old f (sym step.was ∙ there))
    (record { there = step.new.debugger; stop = its; same = same_back olds starts first step.old step.new back step.was step.is; back = inr step.back; order = order step.new step.is })

within_of : {A : Type 0} (xs : List A) (i : ℕ) (x : A) → slice_get xs i ≡ Some x → i < length xs
within_of [] i x is = cc
within_of (y ∷ xs) zero x is = omega arith
within_of (y ∷ xs) (suc i) x is = let less = within_of xs i x is in omega (arith, less)

same_or : (a b : ℕ) → (a ≡ b) ⊎ (a ≢ b)
same_or a b = ⊎_elim (λ same. inl same) (λ order. ⊎_elim (λ less. inr (λ same. omega (arith, less, same))) (λ more. inr (λ same. omega (arith, more, same))) order) (cases_order a b)

-- the first has gone to its own stop, and then each other one
pub last_of_all : (olds starts news : List Inferior) (first place : ℕ) (its stop : Stop) → AreBack olds starts → IsToldBack olds starts first its → ((k : ℕ) → k ≢ first → slice_get starts k ≡ slice_get olds k)
    → IsLastUpTo starts news first its (length starts) place stop → IsLastOf olds news place stop
last_of_all olds starts news first place its stop back told others last =
    let long = length_back olds starts back in
    let e = last.new.debugger.timeline.event in
    let t = last.new.debugger.timeline.turns in
    record {
      new = last.new;
      is_there = last.is_there;
      told = told_by olds starts news first place its stop told last.found last.kept others;
      others = λ k other there apart. ⊎_elim
          (λ same. own_by olds starts first its other e t back told (ap (slice_get olds) (sym same) ∙ there) last.order)
          (λ far.
          let less = within_of olds k other there in
          last.others k other (omega (arith, less, long)) (others k far ∙ there) far)
          (same_or k first);
    }

told_still : (olds mids news : List Inferior) (place : ℕ) (stop : Stop) → IsToldBack olds mids place stop → slice_get news place ≡ slice_get mids place → IsToldBack olds news place stop
told_still olds mids news place stop (inl run) same = inl (record { old = run.old; new = run.new; was = run.was; is = same ∙ run.is; back = run.back })
told_still olds mids news place stop (inr step) same = inr (record { old = step.old; new = step.new; was = step.was; is = same ∙ step.is; back = step.back })

-- and the others then go where it stands
pub last_stands : (olds mids news : List Inferior) (place : ℕ) (stop : Stop) → IsLastOf olds mids place stop → slice_get news place ≡ slice_get mids place → IsLastOf olds news place stop
last_stands olds mids news place stop last same = record {
  new = last.new;
  is_there = same ∙ last.is_there;
  told = told_still olds mids news place stop last.told same;
  others = last.others;
}

-- ---- who is told is there
pub within_next : (mids news : List Inferior) (place upto : ℕ) (stop : Stop) (later : ℕ) (new_stop : Stop) → AreBack mids news → place < length mids → upto < length mids
    → IsLaterOf mids news place stop upto later new_stop → later < length news
within_next mids news place upto stop later new_stop back less also (inl own) =
    let long = length_back mids news back in let is = own.which in omega (arith, long, is, also)
within_next mids news place upto stop later new_stop back less also (inr still) =
    let long = length_back mids news back in let is = still.which in omega (arith, long, is, less)

-- ---- nobody has moved
same_lists : {A : Type 0} (xs ys : List A) → ((k : ℕ) → slice_get xs k ≡ slice_get ys k) → xs ≡ ys
same_lists [] [] same = refl
same_lists [] (y ∷ ys) same = let none = same 0 in cc
same_lists (x ∷ xs) [] same = let none = same 0 in cc
same_lists (x ∷ xs) (y ∷ ys) same = let head = same_some x y (same 0) in let rest = same_lists xs ys (λ k. same (suc k)) in cc

unmoved : (o n : Inferior) → IsBack o n → n.debugger ≡ o.debugger → n ≡ o
unmoved o n back same = back ∙ ap (with_debugger o) (sym (ap (λ (i : Inferior). i.debugger) back) ∙ same)

pub nobody_moved : (olds news : List Inferior) (who : ℕ) → AreBack olds news → ((k : ℕ) → k ≢ who → slice_get news k ≡ slice_get olds k) → IsStepBackAt olds news who stops.Begin → news ≡ olds
nobody_moved olds news who back others step = same_lists news olds (λ k. ⊎_elim
    (λ same. subst (λ i. slice_get news i ≡ slice_get olds i) (sym same)
    (step.is ∙ ap Some (unmoved step.old step.new (back_at olds news who step.old step.new back step.was step.is) step.back.0) ∙ sym step.was))
    (λ apart. others k apart)
    (same_or k who))

-- ---- the last of all, of what is answered
pub last_after : (olds starts news : List Inferior) (first : ℕ) (its : Stop) (r : Result Stopped PlayFault) → AreBack olds starts → IsToldBack olds starts first its
    → ((k : ℕ) → k ≢ first → slice_get starts k ≡ slice_get olds k)
    → IfOk r (λ s. (mids : List Inferior) × IsLastUpTo starts mids first its (length starts) s.place s.stop × (slice_get news s.place ≡ slice_get mids s.place))
    → IfOk r (λ s. IsLastOf olds news s.place s.stop ⊎ IsNoStepBack olds news s.place s.stop)
last_after olds starts news first its (Ok s) back told others last =
    inl (last_stands olds last.0 news s.place s.stop (last_of_all olds starts last.0 first s.place its s.stop back told others last.1) last.2)
last_after olds starts news first its (Err fault) back told others last = tt
