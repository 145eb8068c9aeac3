-- Events that are played part by part.
use Rattle.std.proofs.Common.{◌≡◌, ◌≢◌, ◌+◌, ◌-◌, ◌<◌, ◌≤◌, ℕ, zero, suc, List, [], ◌∷◌, ◌++◌, take, drop, length, slice_get, Some, Result, Ok, Err, arith, refl, sym, ap, subst, ◌∙◌}
use Rattle.std.specs.List.{between}
use Rattle.std.specs.Prelude.{All, OnOk}
use Rattle.std.proofs.Math.Seq.{take-add}
use Rattle.std.proofs.lemmas.List.{append-nil, take_all}
use Rattle.std.proofs.lemmas.List.Elements.{All-append, All-nil}
use Rattle.om_world.specs.Happened.{Happened}
use Rattle.om_world.specs.Played.{IsFaultless, Played}
use Rattle.om_world.specs.World.{WorldState}
use Rattle.om_world.specs.declared.event.Answer.{Answer}
use Rattle.om_world.specs.declared.event.Answer.TheVariants as answers
use Rattle.om_world.specs.declared.event.Event.{Event}
use Rattle.om_world.specs.declared.event.Event.TheVariants as events
use Rattle.om_commands.specs.Sim.{PlayedLines}
use Rattle.om_commands.specs.SimText.{answer_line}
use Rattle.om_commands.specs.steps.Lines.{answers_text}
use Rattle.om_commands.specs.steps.Parts.{ArePlayed, EndsPart}

-- a restart alone is answered so
only_restarts : (old new : WorldState) (e : Event) → Happened old e answers.Restarted new → e ≢ events.Restart → ⊥
only_restarts old new (events.Run p fuel) h other = h
only_restarts old new (events.Give p f) h other = h
only_restarts old new (events.Flush p) h other = h
only_restarts old new (events.FlushFirst p k) h other = h
only_restarts old new (events.Checkpoint p) h other = h
only_restarts old new (events.Spell p) h other = h
only_restarts old new (events.Resend p) h other = h
only_restarts old new (events.Trim p) h other = h
only_restarts old new (events.Fail p) h other = h
only_restarts old new (events.Join p) h other = h
only_restarts old new (events.Resume p) h other = h
only_restarts old new events.Prune h other = h
only_restarts old new events.Restart h other = other refl

-- the line of another answer does not tell the recovery state
line_any : (old new : WorldState) (e : Event) (a : Answer) (one other : List ℕ) → Happened old e a new → e ≢ events.Restart
    → answer_line a one ≡ answer_line a other
line_any old new e (answers.Ran steps status sent made) one other h apart = refl
line_any old new e (answers.Given accept) one other h apart = refl
line_any old new e (answers.Noted count) one other h apart = refl
line_any old new e (answers.Resent count) one other h apart = refl
line_any old new e answers.Trimmed one other h apart = refl
line_any old new e answers.Pruned one other h apart = refl
line_any old new e (answers.Gathered answer) one other h apart = refl
line_any old new e answers.Down one other h apart = refl
line_any old new e (answers.Back interval inc) one other h apart = refl
line_any old new e answers.GoesOn one other h apart = refl
line_any old new e answers.Restarted one other h apart = absurd (only_restarts old new e h apart)
line_any old new e (answers.Refused why) one other h apart = refl

-- the lines of a part are those with the recovery state at its end
part_lines : (old new : WorldState) (es : List Event) (told : List Answer) → Played old es told new → EndsPart es
    → PlayedLines old es told new (answers_text new.manager.recovery told)
part_lines old new [] [] p ends = (p, refl)
part_lines old new (e ∷ []) (a ∷ []) p ends = (
  p.0,
  p.1,
  [],
  (p.2, refl),
  ap (λ (w : WorldState). answer_line a w.manager.recovery ++ []) p.2,
)
part_lines old new (e ∷ f ∷ es) (a ∷ told) p ends = (
  p.0,
  p.1,
  answers_text new.manager.recovery told,
  part_lines p.0 new (f ∷ es) told p.2 (λ i less. ends (suc i) (omega (arith, less))),
  ap (λ line. line ++ answers_text new.manager.recovery told)
      (line_any old p.0 e a new.manager.recovery p.0.manager.recovery p.1.happened (λ is. ends 0 (omega arith) (ap Some is))),
)
part_lines old new [] (a ∷ told) p ends = absurd p
part_lines old new (e ∷ es) [] p ends = absurd p
part_lines old new (e ∷ []) (a ∷ b ∷ told) p ends = absurd p.2

append_assoc : (xs ys zs : List ℕ) → xs ++ (ys ++ zs) ≡ (xs ++ ys) ++ zs
append_assoc [] ys zs = refl
append_assoc (x ∷ xs) ys zs = ap (λ l. x ∷ l) (append_assoc xs ys zs)

-- one part behind another
pub lines_then : (old mid new : WorldState) (xs ys : List Event) (told more : List Answer) (one two : List ℕ)
    → PlayedLines old xs told mid one → PlayedLines mid ys more new two → PlayedLines old (xs ++ ys) (told ++ more) new (one ++ two)
lines_then old mid new [] ys [] more one two p q =
    subst (λ l. PlayedLines old ys more new (l ++ two)) (sym p.1) (subst (λ w. PlayedLines w ys more new two) p.0 q)
lines_then old mid new (x ∷ xs) ys (a ∷ told) more one two p q = (
  p.0,
  p.1,
  p.2 ++ two,
  lines_then p.0 mid new xs ys told more p.2 two p.3 q,
  ap (λ l. l ++ two) p.4 ∙ sym (append_assoc (answer_line a p.0.manager.recovery) p.2 two),
)
lines_then old mid new [] ys (a ∷ told) more one two p q = absurd p
lines_then old mid new (x ∷ xs) ys [] more one two p q = absurd p

-- a part is played, and a line is written for each of its events
pub part_played : {E : Type 0} (old new : WorldState) (es : List Event) (told shown : List Answer) (state was text : List ℕ) (r : Result (Unit {0}) E)
    → Played old es told new → All IsFaultless told → EndsPart es → shown ≡ told → state ≡ new.manager.recovery
    → OnOk r (text ≡ was ++ answers_text state shown) → OnOk r (ArePlayed old es new was text)
part_played old new es told shown state was text (Ok x) played faultless ends same at written = record {
  answers = told;
  lines = answers_text new.manager.recovery told;
  played = part_lines old new es told played ends;
  faultless = faultless;
  written = written ∙ ap (λ answers. was ++ answers_text state answers) same ∙ ap (λ s. was ++ answers_text s told) at;
}
part_played old new es told shown state was text (Err e) played faultless ends same at written = tt

pub none_played : (w : WorldState) (es : List Event) (text : List ℕ) → ArePlayed w (take 0 es) w text text
none_played w es text = record {
  answers = [];
  lines = [];
  played = (refl, refl);
  faultless = All-nil IsFaultless;
  written = sym (append-nil text);
}

pub more_played : (old mid new : WorldState) (es : List Event) (done next : ℕ) (was now text : List ℕ) → done ≤ next
    → ArePlayed old (take done es) mid was now → ArePlayed mid (between done next es) new now text
    → ArePlayed old (take next es) new was text
more_played old mid new es done next was now text up first more =
    let parts : take done es ++ between done next es ≡ take next es =
    sym (take-add done (next - done) es) ∙ ap (λ k. take k es) (omega (arith, up)) in
    record {
      answers = first.answers ++ more.answers;
      lines = first.lines ++ more.lines;
      played = subst (λ l. PlayedLines old l (first.answers ++ more.answers) new (first.lines ++ more.lines)) parts
          (lines_then old mid new (take done es) (between done next es) first.answers more.answers first.lines more.lines first.played more.played);
      faultless = All-append IsFaultless first.answers more.answers first.faultless more.faultless;
      written = more.written ∙ ap (λ t. t ++ more.lines) first.written ∙ sym (append_assoc was first.lines more.lines);
    }

pub all_played : (old new : WorldState) (es : List Event) (done : ℕ) (was text : List ℕ) → length es ≤ done
    → ArePlayed old (take done es) new was text → ArePlayed old es new was text
all_played old new es done was text all played = subst (λ l. ArePlayed old l new was text) (take_all done es all) played

-- ---- where parts end
take_get : (es : List Event) (k i : ℕ) → i < k → slice_get (take k es) i ≡ slice_get es i
take_get [] (suc k) i less = refl
take_get (e ∷ es) (suc k) zero less = refl
take_get (e ∷ es) (suc k) (suc i) less = take_get es k i (omega (arith, less))
take_get es zero i less = absurd (not_below i less)
  where
    not_below : (i : ℕ) → i < 0 → ⊥
    not_below i less = omega (arith, less)

drop_get : (es : List Event) (k i : ℕ) → slice_get (drop k es) i ≡ slice_get es (k + i)
drop_get es zero i = let same : i ≡ 0 + i = omega arith in ap (slice_get es) same
drop_get [] (suc k) i = refl
drop_get (e ∷ es) (suc k) i = let same : suc (k + i) ≡ suc k + i = omega arith in drop_get es k i ∙ ap (slice_get (e ∷ es)) same

take_short : (k : ℕ) (es : List Event) → length (take k es) ≤ k
take_short zero es = omega arith
take_short (suc k) [] = omega arith
take_short (suc k) (e ∷ es) = let short = take_short k es in omega (arith, short)

pub part_ends : (es : List Event) (from next : ℕ) → ((i : ℕ) → from ≤ i → i + 1 < next → slice_get es i ≢ Some events.Restart)
    → EndsPart (between from next es)
part_ends es from next only i less is =
    let short = take_short (next - from) (drop from es) in
    let below : i < next - from = omega (arith, less, short) in
    only (from + i) (omega arith) (omega (arith, less, short))
    (sym (drop_get es from i) ∙ sym (take_get (drop from es) (next - from) i below) ∙ is)
