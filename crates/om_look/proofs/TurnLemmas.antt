-- Turns with their lines.
use Rattle.std.proofs.Common.{◌≡◌, ◌≢◌, ℕ, zero, suc, ◌+◌, ◌<◌, List, [], ◌++◌, length, refl, sym, ap, ◌∙◌, subst, append_assoc, append-nil, add-one, cond, arith}
use Rattle.std.specs.Prelude.{Some, None, Result, Err, Bool, true, false, codes, decimal, nat_le, nat_lt}
use Rattle.std.proofs.lemmas.Bool.Decides.{nat_tests}
use Rattle.om_isa.specs.derived.Decoded.{decoded}
use Rattle.om_isa.specs.Rows.{Decodes}
use Rattle.om_isa.specs.declared.inst.Inst.{Inst}
use Rattle.om_machine.specs.State.{State, word_at}
use Rattle.om_machine.specs.derived.NextStep.{after_fetch, fetched, next_of}
use Rattle.om_machine.specs.declared.event.Event.{Event}
use Rattle.om_machine.specs.declared.event.Event.TheVariants.{Call, Trap}
use Rattle.om_machine.specs.declared.event.EnvCall.TheVariants.{Send}
use Rattle.om_machine.specs.declared.event.Cause.{Cause}
use Rattle.om_machine.specs.declared.event.Cause.TheVariants.{CountFull, FetchOutside, Illegal}
use Rattle.om_machine.specs.declared.limits.TheConstants.{LAST_COUNT}
use Rattle.om_format.specs.Queues.{QueueRecord}
use Rattle.om_process.specs.Core.{CoreState, cluster_size, with_now}
use Rattle.om_process.specs.Kept.{queue_at}
use Rattle.om_process.specs.Process.{Process, made, moved}
use Rattle.om_process.specs.Turns.{Turns, after_event, next_move, next_turn}
use Rattle.om_process.proofs.Basics.{some_none}
use Rattle.om_process.proofs.Going.{turns_add}
use Rattle.om_look.specs.Trace.{IsTrace, IsTurnText, emission_text, gained_text, instruction_text}
use Rattle.om_look.specs.steps.Emitted.{kept_in, made_text, place_of}
use Rattle.om_look.specs.steps.Writes.{address_in, line_text, writes_of}
use Rattle.om_look.specs.declared.tracing.Before.{Before}
use Rattle.om_look.specs.steps.Before.{IsBefore}
use Rattle.om_look.proofs.WritingLemmas.{line_is}

-- ---- where there is no instruction the machine traps
abbrev Fails : State → Type 0
Fails m = (cause : Cause) × (fetched m ≡ Err cause)

not_le : (a b : ℕ) → b < a → nat_le a b ≡ false
not_le a b h = grind (arith, nat_tests)

abbrev Tried : Bool → Result Inst Cause → Type 0
Tried full r = (cause : Cause) × (cond full (Err CountFull) r ≡ Err cause)

tried : (full : Bool) (cause : Cause) → Tried full (Err cause)
tried true cause = (CountFull, refl)
tried false cause = (cause, refl)

tried_next : (full inside : Bool) → Tried full (cond inside (Err Illegal) (Err FetchOutside))
tried_next full true = tried full Illegal
tried_next full false = tried full FetchOutside

outside : (m : State) → length m.memory < m.pc + 4 → Fails m
unfolding fetched
outside m lt = rw (not_le (m.pc + 4) (length m.memory) lt) (tried (nat_le LAST_COUNT m.count) FetchOutside)

illegal : (m : State) → decoded m.ext (word_at m.memory m.pc) ≡ None → Fails m
unfolding fetched
illegal m none = rw none (tried_next (nat_le LAST_COUNT m.count) (nat_le (m.pc + 4) (length m.memory)))

traps : (m : State) → Fails m → (cause : Cause) × ((next_of m).0 ≡ Trap cause)
unfolding next_of
traps m fails = (fails.0, ap (λ (r : Result Inst Cause). (after_fetch m r).0) fails.1)

pub traps_outside : (m : State) → length m.memory < m.pc + 4 → (cause : Cause) × ((next_of m).0 ≡ Trap cause)
traps_outside m lt = traps m (outside m lt)

pub traps_illegal : (m : State) → decoded m.ext (word_at m.memory m.pc) ≡ None → (cause : Cause) × ((next_of m).0 ≡ Trap cause)
traps_illegal m none = traps m (illegal m none)

pub no_turn : (own n : ℕ) (p : Process) (cause : Cause) → (next_of p.machine).0 ≡ Trap cause → next_turn own n p ≡ None
unfolding next_move
no_turn own n p cause at = ap (λ (e : Event). moved p (after_event own n p.machine (made p.queues) e (next_of p.machine).1)) at

-- a turn is none of a trap
goes_on : (own n : ℕ) (p t : Process) → next_turn own n p ≡ Some t → (cause : Cause) → (next_of p.machine).0 ≢ Trap cause
goes_on own n p t turn cause at = some_none t (sym turn ∙ no_turn own n p cause at)

-- ---- one turn
made_emits : (n : ℕ) (event : Event) (before after : List QueueRecord) → made_text event (place_of n event) (kept_in before (place_of n event)) after ≡ emission_text n event before after
made_emits n (Call (Send to addr len)) before after = by (nat_lt to n)
  where
    by : (b : Bool) → made_text (Call (Send to addr len)) (cond b (Some to) None) (kept_in before (cond b (Some to) None)) after
        ≡ cond b (gained_text (codes "send " ++ decimal to) (length (queue_at before to).entries) (queue_at after to)) []
    by true = refl
    by false = refl
made_emits n event before after = refl

pub traced_once : (own n : ℕ) (s t : Process) (b : Before) (old mid new : List ℕ) (kept : ℕ) → Turns own n 1 s t → IsBefore s.machine b → kept ≡ kept_in s.queues (place_of n b.event)
    → mid ≡ old ++ line_text b.count b.pc b.word b.inst b.address b.event t.machine → new ≡ mid ++ made_text b.event (place_of n b.event) kept t.queues
    → (lines : List ℕ) × IsTrace own n 1 s t lines × (new ≡ old ++ lines)
traced_once own n s t b old mid new kept turn is kept_is first second =
    let line : List ℕ = instruction_text s.machine b.inst t.machine in
    let made : List ℕ = made_text (next_of s.machine).0 (place_of n (next_of s.machine).0) (kept_in s.queues (place_of n (next_of s.machine).0)) t.queues in
    let told : Decodes s.machine.ext (word_at s.machine.memory s.machine.pc) b.inst = subst (λ w. Decodes s.machine.ext w b.inst) is.word is.decodes in
    let no_trap : (cause : Cause) → (next_of s.machine).0 ≢ Trap cause = goes_on own n s turn.0 turn.1 in
    let line_told : line_text b.count b.pc b.word b.inst b.address b.event t.machine ≡ line = same_line b s.machine t.machine is told no_trap in
    let kept_at : kept ≡ kept_in s.queues (place_of n (next_of s.machine).0) = kept_is ∙ ap (λ e. kept_in s.queues (place_of n e)) is.event in
    let made_is : made_text b.event (place_of n b.event) kept t.queues ≡ made = ap (λ e. made_text e (place_of n e) kept t.queues) is.event ∙ ap (λ k. made_text (next_of s.machine).0 (place_of n (next_of s.machine).0) k t.queues) kept_at in
    let text : IsTurnText n s t (line ++ made) = (b.inst, told, ap (λ l. line ++ l) (made_emits n (next_of s.machine).0 s.queues t.queues)) in (
      (line ++ made) ++ [],
      (t, subst (λ m. next_turn own n s ≡ Some m) (sym turn.2) turn.1, line ++ made, text, [], (refl, refl), refl),
      second ∙ ap (λ l. mid ++ l) made_is ∙ ap (λ l. l ++ made) (first ∙ ap (λ l. old ++ l) line_told) ∙ append_assoc old line made ∙ ap (λ l. old ++ l) (sym (append-nil (line ++ made))),
    )
  where
    same_line : (b : Before) (m after : State) → IsBefore m b → Decodes m.ext (word_at m.memory m.pc) b.inst → ((cause : Cause) → (next_of m).0 ≢ Trap cause)
        → line_text b.count b.pc b.word b.inst b.address b.event after ≡ instruction_text m b.inst after
    same_line b m after is told no_trap =
        ap (λ k. line_text k b.pc b.word b.inst b.address b.event after) is.count
        ∙ ap (λ k. line_text m.count k b.word b.inst b.address b.event after) is.pc
        ∙ ap (λ k. line_text m.count m.pc k b.inst b.address b.event after) is.word
        ∙ ap (λ k. line_text m.count m.pc (word_at m.memory m.pc) b.inst k b.event after) is.address
        ∙ ap (λ e. line_text m.count m.pc (word_at m.memory m.pc) b.inst (address_in m (writes_of b.inst)) e after) is.event
        ∙ line_is m after b.inst told no_trap

-- ---- turns one after another
pub traced_more : (own n k : ℕ) (s m t : Process) (before lines : List ℕ) → IsTrace own n k s m before → IsTrace own n 1 m t lines → IsTrace own n (suc k) s t (before ++ lines)
traced_more own n zero s m t before lines first one =
    subst (λ (x : Process). IsTrace own n 1 x t (before ++ lines)) first.0 (subst (λ l. IsTrace own n 1 m t (l ++ lines)) (sym first.1) one)
traced_more own n (suc k) s m t before lines first one =
    let rest = traced_more own n k first.0 m t first.4 lines first.5 one in
    (first.0, first.1, first.2, first.3, first.4 ++ lines, rest, ap (λ l. l ++ lines) first.6 ∙ append_assoc first.2 first.4 lines)

pub traced_turns : (own n k : ℕ) (s t : Process) (lines : List ℕ) → IsTrace own n k s t lines → Turns own n k s t
traced_turns own n zero s t lines traced = traced.0
traced_turns own n (suc k) s t lines traced = (traced.0, traced.1, traced_turns own n k traced.0 t traced.4 traced.5)

-- ---- turns of a core
same_own : (start mid : CoreState) → mid ≡ with_now start mid.now → mid.own ≡ start.own
same_own start mid rest = ap (λ (c : CoreState). c.own) rest

pub core_traced : (start mid : CoreState) (k : ℕ) (t : Process) (before lines : List ℕ) → mid ≡ with_now start mid.now → cluster_size mid.now ≡ cluster_size start.now → IsTrace start.own (cluster_size start.now) k start.now mid.now before
    → IsTrace mid.own (cluster_size mid.now) 1 mid.now t lines → IsTrace start.own (cluster_size start.now) (k + 1) start.now t (before ++ lines)
core_traced start mid k t before lines rest size first one =
    let here : IsTrace start.own (cluster_size start.now) 1 mid.now t lines = subst (λ n. IsTrace start.own n 1 mid.now t lines) size (subst (λ o. IsTrace o (cluster_size mid.now) 1 mid.now t lines) (same_own start mid rest) one) in
    rw add-one (traced_more start.own (cluster_size start.now) k start.now mid.now t before lines first here)

pub core_turns : (start mid : CoreState) (k j : ℕ) (t : Process) → mid ≡ with_now start mid.now → cluster_size mid.now ≡ cluster_size start.now → Turns start.own (cluster_size start.now) k start.now mid.now
    → Turns mid.own (cluster_size mid.now) j mid.now t → Turns start.own (cluster_size start.now) (k + j) start.now t
core_turns start mid k j t rest size first next =
    let here : Turns start.own (cluster_size start.now) j mid.now t = subst (λ n. Turns start.own n j mid.now t) size (subst (λ o. Turns o (cluster_size mid.now) j mid.now t) (same_own start mid rest) next) in
    turns_add start.own (cluster_size start.now) k j start.now mid.now t first here
