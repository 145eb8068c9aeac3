-- One process with its store, and what its acts do to it.
use Rattle.std.specs.Prelude.{◌≡◌, ◌≢◌, ℕ, ◌≤◌, List, [], ◌∷◌, ◌++◌, length, drop, take, Bool, IsTrue, IsSome, true, Option, None, Some, Result, Ok, Err, OnErr, IfOk}
use Rattle.std.specs.FinMap.{get}
use Rattle.om_interval.specs.declared.verdict.Verdict.{Verdict}
use Rattle.om_format.specs.declared.message.Message.{Message}
use Rattle.om_stable.specs.Content.{Content, IsTaken, kept_by_cut, kept_by_prune}
use Rattle.om_stable.specs.Calls.{UsesStore}
use Rattle.om_stable.specs.declared.error.StoreError.{StoreError}
use Rattle.om_stable.specs.declared.error.StoreError.TheVariants.{Fault, Present}
use Rattle.om_process.specs.Accepts.{Answers, taken}
use Rattle.om_process.specs.Core.{CoreState, CoreTurns, cluster_size, settled, with_now, with_pending, RunsTo}
use Rattle.om_process.specs.Stored.{CanReplay, IsNoMatterOfContent, IsReplay, the_process}
use Rattle.om_process.specs.Stores.{HasGainedCheckpoint, HasGainedFirst, HasGainedLog, checkpointed, first_logged, flushed, flushed_first}
use Rattle.om_process.specs.Trims.{trimmed}
use Rattle.om_process.specs.declared.accept.Accept.{Accept}
use Rattle.om_process.specs.declared.accept.Accept.TheVariants as accepts
use Rattle.om_process.specs.declared.down.Down.{Down}
use Rattle.om_process.specs.declared.replay.ReplayFault.{ReplayFault}
use Rattle.om_process.specs.declared.replay.ReplayFault.TheVariants as replays
use Rattle.om_process.specs.declared.turns.RunEnd.{RunEnd}
use Rattle.om_manager.specs.Rounds.{Failing, Joining}
use Rattle.om_manager.specs.State.{ManagerState}
use Rattle.om_manager.specs.declared.answers.FailError.{FailError}
use Rattle.om_manager.specs.declared.answers.Gathered.{Gathered}
use Rattle.om_manager.specs.declared.answers.JoinError.{JoinError}
use Rattle.om_manager.specs.declared.answers.RecordError.{RecordError}
use Rattle.om_member.specs.declared.batch.Batch.{Batch}
use Rattle.om_member.specs.declared.batch.Batch.TheVariants.{Checkpoint, First, Log}
use Rattle.om_member.specs.declared.member.Member.{Member}
use Rattle.om_member.specs.declared.member.MemberState.{MemberState}
use Rattle.om_member.specs.declared.member.MemberState.TheVariants as stands
use Rattle.om_member.specs.Keeps.{Keeps}
use Rattle.om_member.specs.Told.{IsToldUpTo}

-- the process, where it is not down
abbrev pub core_of : MemberState → Option CoreState
core_of (stands.Up core) = Some core
core_of (stands.In core) = Some core
core_of (stands.Down declared) = None

abbrev pub IsNotUp : MemberState → Type 0
IsNotUp standing = (core : CoreState) → standing ≢ stands.Up core

abbrev pub IsNotIn : MemberState → Type 0
IsNotIn standing = (core : CoreState) → standing ≢ stands.In core

-- ---- its store
-- a store took a call, which did this to its content where that is known; where the call failed, the store counts it
pub record WasCalled {S : Type 0} (content : S → Content) (failed : S → ℕ) (is_clean : S → Bool) (IsSound : S → Type 0)
    (HasFailed : Type 0) (before after : S) (Did : Content → Content → Type 0) : Type 0 where
  pub used : UsesStore failed is_clean IsSound before HasFailed after
  pub did : IsTrue (is_clean after) → IsSound before → Did (content before) (content after)

-- the store has gained a batch of what the core keeps: receipts of its log, or a checkpoint of now, where none was
abbrev pub HasGained : Batch → CoreState → Content → Content → Type 0
HasGained Log c before after = HasGainedLog c before after
HasGained (First k) c before after = HasGainedFirst k c before after
HasGained Checkpoint c before after = (get before.checkpoints c.now.interval ≡ None) × HasGainedCheckpoint c before after

-- the core once that is stored
abbrev pub stored : Batch → CoreState → CoreState
stored Log c = flushed c
stored (First k) c = flushed_first k c
stored Checkpoint c = checkpointed c

-- what a store answered: it gained what was put there, or nothing, and then it was present only where one was there
abbrev pub Gained : Batch → CoreState → Result (Unit {0}) StoreError → Content → Content → Type 0
Gained kind c (Ok done) before after = HasGained kind c before after
Gained Log c (Err fault) before after = (after ≡ before) × (fault ≡ Present → IsTaken before.receipts (first_logged c) (length c.log))
Gained (First k) c (Err fault) before after =
    (after ≡ before) × (fault ≡ Present → IsTaken before.receipts (first_logged c) (length (take k c.log)))
Gained Checkpoint c (Err fault) before after = (after ≡ before) × (fault ≡ Present → IsSome (get before.checkpoints c.now.interval))

abbrev pub after_store : Batch → CoreState → Result (Unit {0}) StoreError → CoreState
after_store kind c (Ok done) = stored kind c
after_store kind c (Err why) = c

-- a process that is up stored a batch of what it keeps, or its store refused
pub record HasStored {S : Type 0} (content : S → Content) (failed : S → ℕ) (is_clean : S → Bool) (IsSound : S → Type 0)
    (kind : Batch) (old : Member S) (answer : Result (Unit {0}) StoreError) (new : Member S) : Type 0 where
  pub core : CoreState
  pub up : old.standing ≡ stands.Up core
  pub others : new ≡ record old { standing = stands.Up (after_store kind core answer); store = new.store }
  pub called : WasCalled content failed is_clean IsSound (answer ≡ Err Fault) old.store new.store (Gained kind core answer)

-- the store was pruned to this checkpoint, or refused
abbrev pub WasPruned : ℕ → Result (Unit {0}) StoreError → Content → Content → Type 0
WasPruned c (Ok done) before after = after ≡ kept_by_prune before c
WasPruned c (Err refusal) before after = after ≡ before

-- ---- how it runs
-- a process that is up takes some turns
pub record TakesTurns {S : Type 0} (old : Member S) (fuel : ℕ) (new : Member S) : Type 0 where
  pub before : CoreState
  pub after : CoreState
  pub up : old.standing ≡ stands.Up before
  pub turns : (k : ℕ) × (k ≤ fuel) × CoreTurns k before after
  pub rest : after ≡ with_now before after.now
  pub size : cluster_size after.now ≡ cluster_size before.now
  pub others : new ≡ record old { standing = stands.Up after }

-- a process that is up has run: as many turns as there are, up to the fuel
pub record HasRun {S : Type 0} (old : Member S) (fuel : ℕ) (ran : RunEnd) (new : Member S) : Type 0 where
  pub before : CoreState
  pub after : CoreState
  pub up : old.standing ≡ stands.Up before
  pub run : RunsTo before fuel ran.steps ran.status after
  pub others : new ≡ record old { standing = stands.Up after }

-- a process that is up answers to a message
pub record IsOffered {S : Type 0} (old : Member S) (m : Message) (answer : Accept) (new : Member S) : Type 0 where
  pub before : CoreState
  pub after : CoreState
  pub up : old.standing ≡ stands.Up before
  pub answers : Answers before m answer
  pub took : (x : ℕ) → answer ≡ accepts.Taken x → after ≡ taken before m
  pub refused : ((x : ℕ) → answer ≢ accepts.Taken x) → after ≡ before
  pub others : new ≡ record old { standing = stands.Up after }

-- a core that keeps nothing below these numbers
abbrev pub trimmed_core : CoreState → List ℕ → ℕ → CoreState
trimmed_core c got released = with_now c (trimmed (got ++ released ∷ []) c.now)

-- a process that is up keeps nothing below these numbers
pub record HasTrimmed {S : Type 0} (old : Member S) (got : List ℕ) (released : ℕ) (new : Member S) : Type 0 where
  pub core : CoreState
  pub up : old.standing ≡ stands.Up core
  pub others : new ≡ record old { standing = stands.Up (trimmed_core core got released) }

-- ---- what it tells the manager
-- the pending rows of a process that is up were offered up to the first that was refused; those before it are pending no longer
pub record HasNoted {S : Type 0} (before : ManagerState) (pid : ℕ) (old : Member S) (count : ℕ) (end : Result (Unit {0}) RecordError)
    (after : ManagerState) (new : Member S) : Type 0 where
  pub core : CoreState
  pub up : old.standing ≡ stands.Up core
  pub told : IsToldUpTo before core.round pid core.pending count end after
  pub keeps : Keeps before after
  pub others : new ≡ record old { standing = stands.Up (with_pending core (drop count core.pending)) }

-- a process that was up joined the gathering, or was refused and is up
pub record HasJoined {S : Type 0} (before : ManagerState) (pid : ℕ) (old : Member S) (answer : Result Gathered JoinError)
    (after : ManagerState) (new : Member S) : Type 0 where
  pub core : CoreState
  pub up : old.standing ≡ stands.Up core
  pub joining : Joining before pid core.round core.now.interval answer after
  pub keeps : Keeps before after
  pub joined : IfOk answer (λ gathered. new ≡ record old { standing = stands.In core })
  pub refused : OnErr answer (new ≡ old)

-- the failure of a member is declared, and it is down; or that was refused
pub record HasDeclared {S : Type 0} (before : ManagerState) (pid : ℕ) (old : Member S) (answer : Result Gathered FailError)
    (after : ManagerState) (new : Member S) : Type 0 where
  pub failing : Failing before pid old.round answer after
  pub keeps : Keeps before after
  pub declared : IfOk answer (λ gathered. new ≡ record old { standing = stands.Down true })
  pub refused : OnErr answer (new ≡ old)

-- ---- how it comes up again
-- a process that was replayed to where a round cut it, and whose store is cut to there; or the store refused, and stays
abbrev pub IsRolledBack : Down → Verdict → Result CoreState ReplayFault → Content → Content → Type 0
IsRolledBack who verdict (Ok core) before after = IsReplay before verdict.r core × (after ≡ kept_by_cut before verdict.r)
IsRolledBack who verdict (Err fault) before after =
    (after ≡ before) × (CanReplay (the_process who.pid who.n) before verdict.r → IsNoMatterOfContent fault)

-- the process is up, as it was in the verdict's interval, with nothing volatile; and knows the round and its starts
pub record HasComeBack {S : Type 0} (content : S → Content) (failed : S → ℕ) (is_clean : S → Bool) (IsSound : S → Type 0)
    (who : Down) (starts : List (List ℕ)) (verdict : Verdict) (old : Member S) (at : ℕ × ℕ) (new : Member S) : Type 0 where
  pub core : CoreState
  pub size : cluster_size core.now ≡ who.n
  pub fresh : core ≡ settled who.pid core.now verdict.inc verdict.round starts
  pub told : at ≡ (core.now.interval, core.inc)
  pub others : new ≡ record old { standing = stands.Up core; round = verdict.round; store = new.store }
  pub called : WasCalled content failed is_clean IsSound ⊥ old.store new.store (IsRolledBack who verdict (Ok core))

-- the process stands as before, and its store holds what it held
pub record StaysDown {S : Type 0} (content : S → Content) (failed : S → ℕ) (is_clean : S → Bool) (IsSound : S → Type 0)
    (who : Down) (verdict : Verdict) (old : Member S) (fault : ReplayFault) (new : Member S) : Type 0 where
  pub others : new ≡ record old { store = new.store }
  pub called : WasCalled content failed is_clean IsSound (fault ≡ replays.Fault) old.store new.store (IsRolledBack who verdict (Err fault))
