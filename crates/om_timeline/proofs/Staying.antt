-- What an event leaves of the machine of a process.
use Rattle.std.proofs.Common.{◌≡◌, ◌≢◌, ◌⊎◌, inl, inr, ℕ, zero, suc, length, replicate, set, Option, Some, None, Bool, true, false, refl, sym, ap, ◌∙◌, subst}
use Rattle.std.specs.Prelude.{if◌then◌else◌, nat_eq, slice_get}
use Rattle.std.proofs.lemmas.Bool.Decides.{nat_tests}
use Rattle.std.proofs.Common.{arith}
use Rattle.om_process.specs.declared.accept.Accept.{Accept}
use Rattle.om_process.specs.declared.accept.Accept.TheVariants as accepts
use Rattle.om_process.specs.Core.{CoreState}
use Rattle.om_member.specs.declared.batch.Batch.{Batch}
use Rattle.om_member.specs.declared.batch.Batch.TheVariants.{Checkpoint, First, Log}
use Rattle.om_world.specs.declared.event.Answer.{Answer}
use Rattle.om_world.specs.declared.event.Answer.TheVariants as answers
use Rattle.om_world.specs.declared.event.Event.{Event}
use Rattle.om_world.specs.declared.event.Event.TheVariants as events
use Rattle.om_world.specs.declared.event.Refusal.{Refusal}
use Rattle.om_world.specs.declared.event.Refusal.TheVariants as refusals
use Rattle.om_world.specs.Changes.{StoreStopped}
use Rattle.om_world.specs.Failures.{BackStopped, HasHanded}
use Rattle.om_world.specs.Happened.{GiveRefused, Happened, JoinRefused, StoreRefused, UnlessUp}
use Rattle.om_world.specs.World.{WorldState}
use Rattle.om_world.proofs.Lists.{at_change, once}
use Rattle.om_timeline.specs.declared.kind.Kind.{Kind}
use Rattle.om_timeline.specs.declared.kind.Kind.TheVariants as kinds
use Rattle.om_timeline.specs.steps.Kinds.{kind_of}

-- if the process is up behind the event, it was before it, with this machine
abbrev pub StaysFor : ℕ → WorldState → WorldState → Type 0
StaysFor p old new = (d : CoreState) → slice_get new.cores p ≡ Some (Some d)
    → (c : CoreState) × (slice_get old.cores p ≡ Some (Some c)) × (d.now.machine ≡ c.now.machine)

stays_cores : (p : ℕ) (old new : WorldState) → new.cores ≡ old.cores → StaysFor p old new
stays_cores p old new same d at = (d, ap (λ cores. slice_get cores p) (sym same) ∙ at, refl)

stays_same : (p : ℕ) (old new : WorldState) → new ≡ old → StaysFor p old new
stays_same p old new same = stays_cores p old new (ap (λ (w : WorldState). w.cores) same)

stays_set : (p q : ℕ) (old new : WorldState) (c c' : CoreState) → slice_get old.cores q ≡ Some (Some c) → new.cores ≡ set old.cores q (Some c') → c'.now.machine ≡ c.now.machine → StaysFor p old new
stays_set p q old new c c' there cores same d at =
    elim (at_change old.cores q p (Some d) (Some c') (ap (λ cores. slice_get cores p) (sym cores) ∙ at)) [
      | inl e ↦ (c, ap (slice_get old.cores) e.0 ∙ there, ap (λ (x : CoreState). x.now.machine) (once d c' e.1) ∙ same)
      | inr e ↦ (d, e.1, refl)
    ]

stays_apart : (p q : ℕ) (old new : WorldState) (c' : Option CoreState) → q ≢ p → new.cores ≡ set old.cores q c' → StaysFor p old new
stays_apart p q old new c' apart cores d at =
    elim (at_change old.cores q p (Some d) c' (ap (λ cores. slice_get cores p) (sym cores) ∙ at)) [
      | inl e ↦ absurd (apart (sym e.0))
      | inr e ↦ (d, e.1, refl)
    ]

none_some : (d : CoreState) → Some d ≡ None → ⊥
none_some d e = cc

stays_down : (p q : ℕ) (old new : WorldState) → new.cores ≡ set old.cores q None → StaysFor p old new
stays_down p q old new cores d at =
    elim (at_change old.cores q p (Some d) None (ap (λ cores. slice_get cores p) (sym cores) ∙ at)) [
      | inl e ↦ absurd (none_some d e.1)
      | inr e ↦ (d, e.1, refl)
    ]

-- ---- kinds
other_if : (b : Bool) (kind : Kind) → (if b then kind else kinds.Nothing) ≡ kinds.Nothing → kind ≢ kinds.Nothing → b ≡ false
other_if true kind k some = absurd (some k)
other_if false kind k some = refl

apart : (q p : ℕ) → nat_eq q p ≡ false → q ≢ p
apart q p test same = grind (arith, nat_tests)

ran_some : (steps : ℕ) → kinds.Ran steps ≢ kinds.Nothing
ran_some steps e = cc

took_some : (frame : ℕ) → kinds.Took frame ≢ kinds.Nothing
took_some frame e = cc

back_some : kinds.Back ≢ kinds.Nothing
back_some e = cc

not_memory : kinds.NoMemory ≡ kinds.Nothing → ⊥
not_memory e = cc

stays_given : (p q f : ℕ) (old new : WorldState) (accept : Accept) → Happened old (events.Give q f) (answers.Given accept) new → kind_of p (answers.Given accept) (events.Give q f) ≡ kinds.Nothing → StaysFor p old new
stays_given p q f old new (accepts.Taken x) h k = stays_apart p q old new _ (apart q p (other_if (nat_eq q p) (kinds.Took f) k (took_some f))) (ap (λ (w : WorldState). w.cores) h.4)
stays_given p q f old new accepts.Stranger h k = stays_same p old new h.4
stays_given p q f old new accepts.Orphan h k = stays_same p old new h.4
stays_given p q f old new accepts.Repeat h k = stays_same p old new h.4
stays_given p q f old new accepts.Ahead h k = stays_same p old new h.4
stays_given p q f old new accepts.NotWaiting h k = stays_same p old new h.4
stays_given p q f old new accepts.Full h k = stays_same p old new h.4
stays_given p q f old new accepts.Memory h k = absurd h

stays_stopped : (p q : ℕ) (old new : WorldState) → BackStopped old q new → StaysFor p old new
stays_stopped p q old new h = elim h.1 [
  | inl t ↦ stays_cores p old new (ap (λ (w : WorldState). w.cores) t.2)
  | inr t ↦ stays_down p q old new (ap (λ (w : WorldState). w.cores) t.1)
]

-- ---- refusals
-- what is of no kind was not refused for memory
told_else : (p : ℕ) (e : Event) (why : Refusal) → kind_of p (answers.Refused why) e ≡ kinds.Nothing → why ≢ refusals.Memory
told_else p e why k is = not_memory (subst (λ w. kind_of p (answers.Refused w) e ≡ kinds.Nothing) is k)

-- a process that has to be up: there is none, it is not up, or there is another reason
stays_unless : (p q : ℕ) (old new : WorldState) (why : Refusal) (Else : Type 0) → (Else → StaysFor p old new) → UnlessUp old q why new Else → StaysFor p old new
stays_unless p q old new refusals.NoProcess Else by h = stays_same p old new h.1
stays_unless p q old new refusals.NotUp Else by h = stays_same p old new h.2
stays_unless p q old new why Else by h = by h.1

-- a store that keeps no record, for another reason than memory
stays_unstored : (kind : Batch) (p q : ℕ) (old new : WorldState) (why : Refusal) (Left : Type 0) → why ≢ refusals.Memory → StoreRefused kind old q why new Left → StaysFor p old new
stays_unstored kind p q old new refusals.Memory Left other r = absurd (other refl)
stays_unstored kind p q old new refusals.Fault Left other r = stays_cores p old new (ap (λ (w : WorldState). w.cores) r.1)
stays_unstored Checkpoint p q old new refusals.Present Left other r = stays_cores p old new (ap (λ (w : WorldState). w.cores) r.1)
stays_unstored kind p q old new why Left other r = absurd r

-- ---- events
refused_run : (p : ℕ) (q : ℕ) (fuel : ℕ) (old new : WorldState) (why : Refusal) → Happened old (events.Run q fuel) (answers.Refused why) new → kind_of p (answers.Refused why) (events.Run q fuel) ≡ kinds.Nothing → StaysFor p old new
refused_run p q fuel old new why h k = stays_unless p q old new why _ (λ r. absurd (told_else p (events.Run q fuel) why k r.0)) h

stays_run : (p : ℕ) (q : ℕ) (fuel : ℕ) (old new : WorldState) (a : Answer) → Happened old (events.Run q fuel) a new → kind_of p a (events.Run q fuel) ≡ kinds.Nothing → StaysFor p old new
stays_run p q fuel old new (answers.Ran steps status sent made) h k = stays_apart p q old new (Some h.after) (apart q p (other_if (nat_eq q p) (kinds.Ran steps) k (ran_some steps))) h.changes.cores
stays_run p q fuel old new (answers.Refused why) h k = refused_run p q fuel old new why h k
stays_run p q fuel old new a h k = absurd h

refused_give : (p : ℕ) (q : ℕ) (f : ℕ) (old new : WorldState) (why : Refusal) → Happened old (events.Give q f) (answers.Refused why) new → kind_of p (answers.Refused why) (events.Give q f) ≡ kinds.Nothing → StaysFor p old new
refused_give p q f old new why h k = stays_unless p q old new why _ (by why k) h
  where
    by : (why : Refusal) → kind_of p (answers.Refused why) (events.Give q f) ≡ kinds.Nothing → GiveRefused old q f why new → StaysFor p old new
    by refusals.NoFrame k r = stays_same p old new r.1
    by refusals.Memory k r = absurd (not_memory k)
    by why k r = absurd r

stays_give : (p : ℕ) (q : ℕ) (f : ℕ) (old new : WorldState) (a : Answer) → Happened old (events.Give q f) a new → kind_of p a (events.Give q f) ≡ kinds.Nothing → StaysFor p old new
stays_give p q f old new (answers.Given accept) h k = stays_given p q f old new accept h k
stays_give p q f old new (answers.Refused why) h k = refused_give p q f old new why h k
stays_give p q f old new a h k = absurd h

refused_flush : (p : ℕ) (q : ℕ) (old new : WorldState) (why : Refusal) → Happened old (events.Flush q) (answers.Refused why) new → kind_of p (answers.Refused why) (events.Flush q) ≡ kinds.Nothing → StaysFor p old new
refused_flush p q old new why h k = stays_unless p q old new why _ (stays_unstored Log p q old new why _ (told_else p (events.Flush q) why k)) h

stays_flush : (p : ℕ) (q : ℕ) (old new : WorldState) (a : Answer) → Happened old (events.Flush q) a new → kind_of p a (events.Flush q) ≡ kinds.Nothing → StaysFor p old new
stays_flush p q old new (answers.Noted count) h k = stays_set p q old new h.0 _ h.2.changes.before h.2.changes.cores refl
stays_flush p q old new (answers.Refused why) h k = refused_flush p q old new why h k
stays_flush p q old new a h k = absurd h

refused_flush_first : (p : ℕ) (q n : ℕ) (old new : WorldState) (why : Refusal) → Happened old (events.FlushFirst q n) (answers.Refused why) new → kind_of p (answers.Refused why) (events.FlushFirst q n) ≡ kinds.Nothing → StaysFor p old new
refused_flush_first p q n old new why h k = stays_unless p q old new why _ (stays_unstored (First n) p q old new why _ (told_else p (events.FlushFirst q n) why k)) h

stays_flush_first : (p : ℕ) (q n : ℕ) (old new : WorldState) (a : Answer) → Happened old (events.FlushFirst q n) a new → kind_of p a (events.FlushFirst q n) ≡ kinds.Nothing → StaysFor p old new
stays_flush_first p q n old new (answers.Noted count) h k = stays_set p q old new h.0 _ h.2.changes.before h.2.changes.cores refl
stays_flush_first p q n old new (answers.Refused why) h k = refused_flush_first p q n old new why h k
stays_flush_first p q n old new a h k = absurd h

refused_checkpoint : (p : ℕ) (q : ℕ) (old new : WorldState) (why : Refusal) → Happened old (events.Checkpoint q) (answers.Refused why) new → kind_of p (answers.Refused why) (events.Checkpoint q) ≡ kinds.Nothing → StaysFor p old new
refused_checkpoint p q old new why h k = stays_unless p q old new why _ (stays_unstored Checkpoint p q old new why _ (told_else p (events.Checkpoint q) why k)) h

stays_checkpoint : (p : ℕ) (q : ℕ) (old new : WorldState) (a : Answer) → Happened old (events.Checkpoint q) a new → kind_of p a (events.Checkpoint q) ≡ kinds.Nothing → StaysFor p old new
stays_checkpoint p q old new (answers.Noted count) h k = stays_set p q old new h.0 _ h.2.changes.before h.2.changes.cores refl
stays_checkpoint p q old new (answers.Refused why) h k = refused_checkpoint p q old new why h k
stays_checkpoint p q old new a h k = absurd h

refused_spell : (p : ℕ) (q : ℕ) (old new : WorldState) (why : Refusal) → Happened old (events.Spell q) (answers.Refused why) new → kind_of p (answers.Refused why) (events.Spell q) ≡ kinds.Nothing → StaysFor p old new
refused_spell p q old new why h k = stays_unless p q old new why _ (stays_unstored Checkpoint p q old new why _ (told_else p (events.Spell q) why k)) h

stays_spell : (p : ℕ) (q : ℕ) (old new : WorldState) (a : Answer) → Happened old (events.Spell q) a new → kind_of p a (events.Spell q) ≡ kinds.Nothing → StaysFor p old new
stays_spell p q old new (answers.Noted count) h k = stays_set p q old new h.1.core _ h.1.changes.before h.1.changes.cores refl
stays_spell p q old new (answers.Refused why) h k = refused_spell p q old new why h k
stays_spell p q old new a h k = absurd h

refused_resend : (p : ℕ) (q : ℕ) (old new : WorldState) (why : Refusal) → Happened old (events.Resend q) (answers.Refused why) new → kind_of p (answers.Refused why) (events.Resend q) ≡ kinds.Nothing → StaysFor p old new
refused_resend p q old new why h k = stays_unless p q old new why _ (λ r. absurd (told_else p (events.Resend q) why k r.0)) h

stays_resend : (p : ℕ) (q : ℕ) (old new : WorldState) (a : Answer) → Happened old (events.Resend q) a new → kind_of p a (events.Resend q) ≡ kinds.Nothing → StaysFor p old new
stays_resend p q old new (answers.Resent count) h k = stays_cores p old new (ap (λ (w : WorldState). w.cores) h.4)
stays_resend p q old new (answers.Refused why) h k = refused_resend p q old new why h k
stays_resend p q old new a h k = absurd h

refused_trim : (p : ℕ) (q : ℕ) (old new : WorldState) (why : Refusal) → Happened old (events.Trim q) (answers.Refused why) new → kind_of p (answers.Refused why) (events.Trim q) ≡ kinds.Nothing → StaysFor p old new
refused_trim p q old new why h k = stays_unless p q old new why _ (λ r. absurd r) h

stays_trim : (p : ℕ) (q : ℕ) (old new : WorldState) (a : Answer) → Happened old (events.Trim q) a new → kind_of p a (events.Trim q) ≡ kinds.Nothing → StaysFor p old new
stays_trim p q old new answers.Trimmed h k = stays_set p q old new h.1 _ h.2 (ap (λ (w : WorldState). w.cores) h.5) refl
stays_trim p q old new (answers.Refused why) h k = refused_trim p q old new why h k
stays_trim p q old new a h k = absurd h

refused_fail : (p : ℕ) (q : ℕ) (old new : WorldState) (why : Refusal) → Happened old (events.Fail q) (answers.Refused why) new → kind_of p (answers.Refused why) (events.Fail q) ≡ kinds.Nothing → StaysFor p old new
refused_fail p q old new refusals.NoProcess h k = stays_same p old new h.1
refused_fail p q old new refusals.NotUp h k = stays_same p old new h.1
refused_fail p q old new refusals.Spent h k = stays_down p q old new (ap (λ (w : WorldState). w.cores) h.2)
refused_fail p q old new refusals.Memory h k = absurd (not_memory k)
refused_fail p q old new why h k = absurd h

stays_fail : (p : ℕ) (q : ℕ) (old new : WorldState) (a : Answer) → Happened old (events.Fail q) a new → kind_of p a (events.Fail q) ≡ kinds.Nothing → StaysFor p old new
stays_fail p q old new (answers.Gathered answer) h k = stays_down p q old new (ap (λ (w : WorldState). w.cores) h.2)
stays_fail p q old new answers.Down h k = stays_down p q old new (ap (λ (w : WorldState). w.cores) h.2)
stays_fail p q old new (answers.Refused why) h k = refused_fail p q old new why h k
stays_fail p q old new a h k = absurd h

refused_join : (p : ℕ) (q : ℕ) (old new : WorldState) (why : Refusal) → Happened old (events.Join q) (answers.Refused why) new → kind_of p (answers.Refused why) (events.Join q) ≡ kinds.Nothing → StaysFor p old new
refused_join p q old new why h k = stays_unless p q old new why _ (by why (told_else p (events.Join q) why k)) h
  where
    by : (why : Refusal) → why ≢ refusals.Memory → JoinRefused old q why new → StaysFor p old new
    by refusals.NoRound other r = stays_same p old new r.1
    by why other r = stays_unstored Log p q old new why (StoreStopped Log old q new ⊎ ((core : CoreState) × HasHanded old q core new)) other r.1

stays_join : (p : ℕ) (q : ℕ) (old new : WorldState) (a : Answer) → Happened old (events.Join q) a new → kind_of p a (events.Join q) ≡ kinds.Nothing → StaysFor p old new
stays_join p q old new (answers.Gathered answer) h k = stays_set p q old new h.core _ h.handed.changes.before (ap (λ (w : WorldState). w.cores) h.others ∙ h.handed.changes.cores) refl
stays_join p q old new (answers.Refused why) h k = refused_join p q old new why h k
stays_join p q old new a h k = absurd h

refused_resume : (p : ℕ) (q : ℕ) (old new : WorldState) (why : Refusal) → Happened old (events.Resume q) (answers.Refused why) new → kind_of p (answers.Refused why) (events.Resume q) ≡ kinds.Nothing → StaysFor p old new
refused_resume p q old new refusals.NoProcess h k = stays_same p old new h.1
refused_resume p q old new refusals.NotIn h k = stays_same p old new h.2
refused_resume p q old new refusals.Fault h k = stays_stopped p q old new h.1
refused_resume p q old new refusals.Memory h k = absurd (not_memory k)
refused_resume p q old new why h k = absurd h

stays_resume : (p : ℕ) (q : ℕ) (old new : WorldState) (a : Answer) → Happened old (events.Resume q) a new → kind_of p a (events.Resume q) ≡ kinds.Nothing → StaysFor p old new
stays_resume p q old new (answers.Back interval inc) h k = stays_apart p q old new (Some h.core) (apart q p (other_if (nat_eq q p) kinds.Back k back_some)) (ap (λ (w : WorldState). w.cores) h.others)
stays_resume p q old new answers.GoesOn h k = stays_set p q old new h.1.0 _ h.1.1 (ap (λ (w : WorldState). w.cores) h.1.2) refl
stays_resume p q old new (answers.Refused why) h k = refused_resume p q old new why h k
stays_resume p q old new a h k = absurd h

refused_prune : (p : ℕ) (old new : WorldState) (why : Refusal) → Happened old events.Prune (answers.Refused why) new → kind_of p (answers.Refused why) events.Prune ≡ kinds.Nothing → StaysFor p old new
refused_prune p old new refusals.Fault h k = stays_cores p old new (ap (λ (w : WorldState). w.cores) h.1.others)
refused_prune p old new refusals.Memory h k = absurd (not_memory k)
refused_prune p old new why h k = absurd h

stays_prune : (p : ℕ) (old new : WorldState) (a : Answer) → Happened old events.Prune a new → kind_of p a events.Prune ≡ kinds.Nothing → StaysFor p old new
stays_prune p old new answers.Pruned h k = stays_cores p old new (ap (λ (w : WorldState). w.cores) h.others)
stays_prune p old new (answers.Refused why) h k = refused_prune p old new why h k
stays_prune p old new a h k = absurd h

no_core : (n p : ℕ) (d : CoreState) → slice_get (replicate n None) p ≡ Some (Some d) → ⊥
no_core zero p d at = cc
no_core (suc n) zero d at = none_some d (once (Some d) None (sym at))
no_core (suc n) (suc p) d at = no_core n p d at

refused_restart : (p : ℕ) (old new : WorldState) (why : Refusal) → Happened old events.Restart (answers.Refused why) new → kind_of p (answers.Refused why) events.Restart ≡ kinds.Nothing → StaysFor p old new
refused_restart p old new refusals.Fault h k = stays_cores p old new (ap (λ (w : WorldState). w.cores) h.1)
refused_restart p old new refusals.Unsettled h k = stays_same p old new h.1
refused_restart p old new refusals.Memory h k = absurd (not_memory k)
refused_restart p old new why h k = absurd h

stays_restart : (p : ℕ) (old new : WorldState) (a : Answer) → Happened old events.Restart a new → kind_of p a events.Restart ≡ kinds.Nothing → StaysFor p old new
stays_restart p old new answers.Restarted h k = λ d at. absurd (no_core (length old.programs) p d (ap (λ (w : WorldState). slice_get w.cores p) (sym h.others) ∙ at))
stays_restart p old new (answers.Refused why) h k = refused_restart p old new why h k
stays_restart p old new a h k = absurd h

-- an event that is of no kind which changes it leaves a process its machine, or takes its process down
pub stays : (p : ℕ) (old new : WorldState) (e : Event) (a : Answer) → Happened old e a new → kind_of p a e ≡ kinds.Nothing → StaysFor p old new
stays p old new (events.Run q fuel) a h k = stays_run p q fuel old new a h k
stays p old new (events.Give q f) a h k = stays_give p q f old new a h k
stays p old new (events.Flush q) a h k = stays_flush p q old new a h k
stays p old new (events.FlushFirst q n) a h k = stays_flush_first p q n old new a h k
stays p old new (events.Checkpoint q) a h k = stays_checkpoint p q old new a h k
stays p old new (events.Spell q) a h k = stays_spell p q old new a h k
stays p old new (events.Resend q) a h k = stays_resend p q old new a h k
stays p old new (events.Trim q) a h k = stays_trim p q old new a h k
stays p old new (events.Fail q) a h k = stays_fail p q old new a h k
stays p old new (events.Join q) a h k = stays_join p q old new a h k
stays p old new (events.Resume q) a h k = stays_resume p q old new a h k
stays p old new events.Prune a h k = stays_prune p old new a h k
stays p old new events.Restart a h k = stays_restart p old new a h k
