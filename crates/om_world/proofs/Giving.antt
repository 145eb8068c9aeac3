-- Frames that are offered.
use Rattle.std.proofs.Common.{◌≡◌, ◌≢◌, ℕ, zero, suc, List, [], ◌∷◌, ◌++◌, Option, Some, Result, Err, refl, sym, ap, ◌∙◌, subst, set, length-set}
use Rattle.std.specs.Prelude.{slice_get}
use Rattle.om_format.specs.declared.message.Message.{Message}
use Rattle.om_process.specs.declared.accept.Accept.{Accept}
use Rattle.om_process.specs.declared.accept.Accept.TheVariants as accepts
use Rattle.om_process.specs.Accepts.{Answers, taken}
use Rattle.om_process.specs.Core.{CoreState}
use Rattle.om_world.specs.declared.entry.Entry.{Entry}
use Rattle.om_world.specs.declared.event.Answer.{Answer}
use Rattle.om_world.specs.declared.event.Event.{Event}
use Rattle.om_world.specs.declared.event.Refusal.{Refusal}
use Rattle.om_world.specs.declared.event.Refusal.TheVariants as refusals
use Rattle.om_world.specs.declared.process_state.ProcessState.{ProcessState}
use Rattle.om_world.specs.Changes.{IsUp}
use Rattle.om_world.specs.Happened.{GiveHappened, Happened}
use Rattle.om_world.specs.World.{WorldState, entry_of}
use Rattle.om_world.specs.steps.Moves.{IsOfferedAt, after_offer, answered}
use Rattle.om_world.specs.steps.Sound.{IsWorld, HasShape, before_of}
use Rattle.om_world.proofs.Between.{between_given}
use Rattle.om_world.proofs.Kept.{remade, shape_core, sound_taken}
use Rattle.om_world.proofs.Lists.{once}
use Rattle.om_world.proofs.Raising.{recovery_within}

offered_as : (cs : List (Option CoreState)) (p : ℕ) (c d : CoreState) (m : Message) (a : Accept) → slice_get cs p ≡ Some (Some c) → set cs p (Some c) ≡ cs → Answers c m a
    → ((x : ℕ) → a ≡ accepts.Taken x → d ≡ taken c m) → (((x : ℕ) → a ≢ accepts.Taken x) → d ≡ c) → set cs p (Some d) ≡ after_offer cs p c m a
offered_as cs p c d m (accepts.Taken x) at back ans took other = ap (λ (e : CoreState). set cs p (Some e)) (took x refl)
offered_as cs p c d m accepts.Stranger at back ans took other = ap (λ (e : CoreState). set cs p (Some e)) (other (λ x e. cc)) ∙ back
offered_as cs p c d m accepts.Orphan at back ans took other = ap (λ (e : CoreState). set cs p (Some e)) (other (λ x e. cc)) ∙ back
offered_as cs p c d m accepts.Repeat at back ans took other = ap (λ (e : CoreState). set cs p (Some e)) (other (λ x e. cc)) ∙ back
offered_as cs p c d m accepts.Ahead at back ans took other = ap (λ (e : CoreState). set cs p (Some e)) (other (λ x e. cc)) ∙ back
offered_as cs p c d m accepts.NotWaiting at back ans took other = ap (λ (e : CoreState). set cs p (Some e)) (other (λ x e. cc)) ∙ back
offered_as cs p c d m accepts.Full at back ans took other = ap (λ (e : CoreState). set cs p (Some e)) (other (λ x e. cc)) ∙ back
offered_as cs p c d m accepts.Memory at back ans took other = ap (λ (e : CoreState). set cs p (Some e)) (other (λ x e. cc)) ∙ back

pub offered : (cs : List (Option CoreState)) (p : ℕ) (c d : CoreState) (m : Message) (a : Accept) → slice_get cs p ≡ Some (Some c) → set cs p (Some c) ≡ cs → Answers c m a
    → ((x : ℕ) → a ≡ accepts.Taken x → d ≡ taken c m) → (((x : ℕ) → a ≢ accepts.Taken x) → d ≡ c) → IsOfferedAt cs p m a (set cs p (Some d))
offered cs p c d m a at back ans took other = record { core = c; there = at; answers = ans; cores = offered_as cs p c d m a at back ans took other }

pub given_at : (cs : List (Option CoreState)) (p : ℕ) (c : CoreState) → slice_get cs p ≡ Some (Some c) → set cs p (Some c) ≡ cs
given_at [] p c at = refl
given_at (x ∷ cs) zero c at = ap (λ y. y ∷ cs) (sym (once x (Some c) at))
given_at (x ∷ cs) (suc p) c at = ap (λ l. x ∷ l) (given_at cs p c at)

pub after_give : {S : Type 0} (IsSound : S → Type 0) (xs : List S) (w : WorldState) (p f x : ℕ) (m : Message) (e : Entry) (cs : List (Option CoreState)) (live : List Entry) → IsWorld IsSound xs w → IsUp w p
    → slice_get w.frames f ≡ Some m → e ≡ entry_of m → IsOfferedAt w.cores p m (accepts.Taken x) cs → live ≡ w.live ++ e ∷ [] → IsWorld IsSound xs (remade w live w.frames cs w.manager w.contents w.health)
after_give IsSound xs w p f x m e cs live i up frame is offer more =
    let c = offer.core in let at = offer.there in let due = offer.answers.0 in
    let mine : p ≡ e.to = sym (i.shape.own p c at).own ∙ sym due.next.no_orphan.no_stranger.to ∙ ap (λ (d : Entry). d.to) (sym is) in
    subst (λ l. IsWorld IsSound xs (remade w l w.frames cs w.manager w.contents w.health)) (sym more)
    (subst (λ l. IsWorld IsSound xs (remade w (w.live ++ e ∷ []) w.frames l w.manager w.contents w.health)) (sym (offer.cores ∙ ap (λ o. set w.cores o (Some (taken c m))) mine))
    (record {
      shape = shape_core w e.to c (taken c m) (w.live ++ e ∷ []) w.frames w.manager w.contents w.health i.shape (subst (λ o. slice_get w.cores o ≡ Some (Some c)) mine at) refl (length-set _ c.own _ ∙ length-set c.now.vec m.from _) refl i.shape.manager refl;
      clean = λ all. let s = i.clean all in (s.0, sound_taken w f m e c i.shape s.1 (recovery_within w i.shape s.1) frame is (subst (λ o. slice_get w.places o ≡ Some ProcessState.Up) mine up) (subst (λ o. slice_get w.cores o ≡ Some (Some c)) mine at) due);
      between = λ all free. between_given (before_of w) w.live w.contents e (recovery_within w i.shape (i.clean all).1) (i.between all free);
    }))

pub given_taken : (w : WorldState) (p f x : ℕ) (m : Message) (e : Entry) (cs : List (Option CoreState)) (live : List Entry) → IsUp w p
    → slice_get w.frames f ≡ Some m → e ≡ entry_of m → IsOfferedAt w.cores p m (accepts.Taken x) cs → live ≡ w.live ++ e ∷ [] → GiveHappened w p f (accepts.Taken x) (remade w live w.frames cs w.manager w.contents w.health)
given_taken w p f x m e cs live up frame is offer more = (
  m,
  offer.core,
  record { up = up; frame = frame; core = offer.there },
  offer.answers,
  ap (λ l. remade w l w.frames cs w.manager w.contents w.health) (more ∙ ap (λ (d : Entry). w.live ++ d ∷ []) is) ∙ ap (λ l. remade w (w.live ++ entry_of m ∷ []) w.frames l w.manager w.contents w.health) offer.cores,
)

pub not_given : (w : WorldState) (p f : ℕ) (m : Message) (a : Accept) (cs : List (Option CoreState)) → IsUp w p → slice_get w.frames f ≡ Some m → ((x : ℕ) → a ≢ accepts.Taken x) → a ≢ accepts.Memory → IsOfferedAt w.cores p m a cs
    → GiveHappened w p f a (remade w w.live w.frames cs w.manager w.contents w.health)
not_given w p f m (accepts.Taken x) cs up frame nt nm o = absurd (nt x refl)
not_given w p f m accepts.Memory cs up frame nt nm o = absurd (nm refl)
not_given w p f m accepts.Stranger cs up frame nt nm o = (m, o.core, record { up = up; frame = frame; core = o.there }, o.answers, ap (λ l. remade w w.live w.frames l w.manager w.contents w.health) o.cores)
not_given w p f m accepts.Orphan cs up frame nt nm o = (m, o.core, record { up = up; frame = frame; core = o.there }, o.answers, ap (λ l. remade w w.live w.frames l w.manager w.contents w.health) o.cores)
not_given w p f m accepts.Repeat cs up frame nt nm o = (m, o.core, record { up = up; frame = frame; core = o.there }, o.answers, ap (λ l. remade w w.live w.frames l w.manager w.contents w.health) o.cores)
not_given w p f m accepts.Ahead cs up frame nt nm o = (m, o.core, record { up = up; frame = frame; core = o.there }, o.answers, ap (λ l. remade w w.live w.frames l w.manager w.contents w.health) o.cores)
not_given w p f m accepts.NotWaiting cs up frame nt nm o = (m, o.core, record { up = up; frame = frame; core = o.there }, o.answers, ap (λ l. remade w w.live w.frames l w.manager w.contents w.health) o.cores)
not_given w p f m accepts.Full cs up frame nt nm o = (m, o.core, record { up = up; frame = frame; core = o.there }, o.answers, ap (λ l. remade w w.live w.frames l w.manager w.contents w.health) o.cores)

-- memory is refused
pub no_room : (w v : WorldState) (p f : ℕ) (m : Message) (r : Result Answer Refusal) → IsUp w p → HasShape w → slice_get w.frames f ≡ Some m → r ≡ Err refusals.Memory → v ≡ w → Happened w (Event.Give p f) (answered r) v
no_room w v p f m r up h frame is same = let c = h.there p up in subst (λ a. Happened w (Event.Give p f) (answered a) v) (sym is) (up, (m, c.0, record { up = up; frame = frame; core = c.1 }, same))

-- ---- it is not taken
pub none_taken : (cs new : List (Option CoreState)) (p : ℕ) (m : Message) (a : Accept) → ((x : ℕ) → a ≢ accepts.Taken x) → IsOfferedAt cs p m a new → new ≡ cs
none_taken cs new p m (accepts.Taken x) nt o = absurd (nt x refl)
none_taken cs new p m accepts.Stranger nt o = o.cores
none_taken cs new p m accepts.Orphan nt o = o.cores
none_taken cs new p m accepts.Repeat nt o = o.cores
none_taken cs new p m accepts.Ahead nt o = o.cores
none_taken cs new p m accepts.NotWaiting nt o = o.cores
none_taken cs new p m accepts.Full nt o = o.cores
none_taken cs new p m accepts.Memory nt o = o.cores

pub after_none : {S : Type 0} (IsSound : S → Type 0) (xs : List S) (w : WorldState) (live : List Entry) (cs : List (Option CoreState)) → IsWorld IsSound xs w → live ≡ w.live → cs ≡ w.cores → IsWorld IsSound xs (remade w live w.frames cs w.manager w.contents w.health)
after_none IsSound xs w live cs i same still =
    subst (λ l. IsWorld IsSound xs (remade w l w.frames cs w.manager w.contents w.health)) (sym same)
    (subst (λ l. IsWorld IsSound xs (remade w w.live w.frames l w.manager w.contents w.health)) (sym still) i)

-- what was received is as it was, and so is each core
pub none_given : (w : WorldState) (live : List Entry) (cs : List (Option CoreState)) → live ≡ w.live → cs ≡ w.cores → remade w live w.frames cs w.manager w.contents w.health ≡ w
none_given w live cs same still = ap (λ l. remade w l w.frames cs w.manager w.contents w.health) same ∙ ap (λ l. remade w w.live w.frames l w.manager w.contents w.health) still

pub given_none : (w : WorldState) (live : List Entry) (p f : ℕ) (m : Message) (a : Accept) (cs : List (Option CoreState)) → live ≡ w.live → IsUp w p → slice_get w.frames f ≡ Some m → ((x : ℕ) → a ≢ accepts.Taken x) → a ≢ accepts.Memory → IsOfferedAt w.cores p m a cs
    → GiveHappened w p f a (remade w live w.frames cs w.manager w.contents w.health)
given_none w live p f m a cs same up frame nt nm o = subst (λ l. GiveHappened w p f a (remade w l w.frames cs w.manager w.contents w.health)) (sym same) (not_given w p f m a cs up frame nt nm o)
