-- What a turn of a worker does.
use Rattle.std.specs.Prelude.{◌≡◌, ℕ, Bool, IsTrue, Option, length, ◌≢◌, ◌↔◌, [], true, false, ◌⊎◌, ◌-◌, ◌+◌, IfOk, Result}
use Rattle.om_process.specs.declared.status.Status.{Status}
use Rattle.om_node.specs.Ends.{IsWholeRun}
use Rattle.om_process.specs.Core.{IsEnd, CoreState, settled, RunsTo}
use Rattle.om_worker.specs.declared.turns.AfterTurn.{AfterTurn}
use Rattle.om_worker.specs.declared.turns.AfterTurn.TheVariants.{On, Over}
use Rattle.om_node.specs.Nodes.{Member, NodeState}
use Rattle.om_worker_parts.specs.Places.{IsLanded, member_of}
use Rattle.om_process.specs.Resumes.{resumed}
use Rattle.om_member.specs.Handed.{outputs_from}
use Rattle.om_node.specs.declared.keeping.Limits.{Limits}
use Rattle.om_worker_parts.specs.declared.manager_link.RoundOutcome.{RoundOutcome}
use Rattle.om_worker_parts.specs.declared.manager_link.ManagerPhase.{ManagerPhase}
use Rattle.om_format.specs.declared.message.Message.{Message}
use Rattle.om_process.specs.Accepts.{Answers, taken}
use Rattle.om_process.specs.Process.{Process, Program}
use Rattle.om_process.specs.declared.accept.Accept.{Accept}
use Rattle.om_process.specs.declared.accept.Accept.TheVariants as accepts
use Rattle.om_process.specs.Stores.{flushed}
use Rattle.om_process.specs.declared.status.Status.TheVariants as statuses
use Rattle.om_worker_parts.specs.declared.manager_link.ManagerPhase.TheVariants as phases
use Rattle.om_worker_parts.specs.declared.worker_state.WorkerState.{WorkerState}
use Rattle.om_worker_parts.specs.declared.worker_state.WorkerState.TheVariants.{Up, MustJoin, Joined, Failed, Down, AllQuiet}
use Rattle.om_pacing.specs.declared.idle.Pause.{Pause}
use Rattle.om_pacing.specs.declared.idle.Pause.TheVariants.{Woken, Slept}
use Rattle.om_pacing.specs.declared.idle.TheConstants.{IDLE_TURNS}
use Rattle.om_worker.specs.declared.worker.TheConstants.{ALL_TURNS}
use Rattle.om_worker_parts.specs.Acts.{HasDeclared, HasHeard, HasJoined, HasMet, HasWaited, HasWithdrawn}
use Rattle.om_report.specs.Locks.{UnderLock}
use Rattle.om_report.specs.declared.fault.RunFault.{RunFault}
use Rattle.om_cluster.specs.declared.finished.Finished.{Finished}
use Rattle.om_cluster.specs.Ends.{IsEndOf}
use Rattle.om_links.specs.Links.{EndsState}

-- a turn leaves the process the member that it is, with no flight under way where it does not run on, or it has ended so
abbrev pub IsTurned : {K J S : Type 0} → (S → Bool) → Member → AfterTurn K J S → Type 0
IsTurned is_clean m (On state pass) = (member_of state ≡ m) × IsLanded state
IsTurned is_clean m (Over status harvest store) =
    IsEnd status × (harvest.own ≡ m.own)
    × (IsTrue (is_clean store) → IsWholeRun m.program m.own m.n status (length harvest.outputs.items))

-- what becomes of a process by a finished round: it comes back as it was in its verdict's interval, with nothing volatile, or
-- goes on as it was; and it knows the round and the starts
pub record HasHeeded (outcome : RoundOutcome) (own : ℕ) (old new : CoreState) : Type 0 where
  pub back : outcome.verdict.back ≡ true → new ≡ settled own new.now outcome.verdict.inc outcome.verdict.round outcome.starts
  pub on : outcome.verdict.back ≡ false → new ≡ resumed old outcome.verdict.round outcome.starts

-- there was nothing to hand over, nor had the process ended; the manager had these many outputs of it
pub record HasNothingToSay (handed : ℕ) (status : Status) (old : CoreState) (phase : ManagerPhase) (new : CoreState) : Type 0 where
  pub runs : IsEnd status → ⊥
  pub told : old.pending ≡ []
  pub made : outputs_from old handed ≡ []
  pub phase_is : phase ≡ phases.Closed
  pub same : new ≡ old

-- a process that is up met the manager, with all that it had
abbrev pub HasReported : ℕ → ℕ → ℕ → Status → CoreState → ManagerPhase → Type 0
HasReported n p round status old phase =
    (ended : Bool) × (IsTrue ended ↔ IsEnd status) × (limits : Option Limits) × (core : CoreState)
    × UnderLock n (λ before after. HasMet before p round ended old phase limits after core)

-- the manager told a process of the last finished round
abbrev pub WasTold : ℕ → ℕ → RoundOutcome → Type 0
WasTold n p outcome = UnderLock n (λ before after. HasHeard before.manager p outcome × (after ≡ before))

-- a process that was in is up after a round: it goes on, or comes back where it is told to
abbrev pub HasRisen : {J S : Type 0} → RoundOutcome → NodeState → WorkerState J S → Type 0
HasRisen outcome old next = (new : NodeState) × (next ≡ Up new) × (new.member ≡ old.member) × HasHeeded outcome old.member.own old.core new.core

-- a process that was down comes back after a round, with nothing volatile
abbrev pub HasComeBack : {J S : Type 0} → RoundOutcome → Member → WorkerState J S → Type 0
HasComeBack outcome m next =
    (new : NodeState) × (next ≡ Up new) × (new.member ≡ m)
    × (new.core ≡ settled m.own new.core.now outcome.verdict.inc outcome.verdict.round outcome.starts)

-- a process that was called is in, once it stored its log and handed over all; the failure of one that failed in this round
-- is declared. One that waits for a round to be finished waits on, or it was told of it, and is up again as the round has it
abbrev pub IsTurnOf : {J S : Type 0} → ℕ → ℕ → WorkerState J S → WorkerState J S → Type 0
IsTurnOf n round (MustJoin old) next =
    (new : NodeState) × (next ≡ Joined new)
    × UnderLock n (λ before after. HasJoined before.manager old.member.own (flushed old.core) after.manager new.core)
IsTurnOf n round (Failed down_node) next =
    (next ≡ Down down_node) × UnderLock n (λ before after. HasDeclared before.manager down_node.own round after.manager)
IsTurnOf n round (Joined old) next = (next ≡ Joined old) ⊎ ((outcome : RoundOutcome) × WasTold n old.member.own outcome × HasRisen outcome old next)
IsTurnOf n round (Down down_node) next =
    (next ≡ Down down_node) ⊎ ((outcome : RoundOutcome) × WasTold n down_node.own outcome × HasComeBack outcome down_node next)
IsTurnOf n round (Up node) next = Unit {0}
IsTurnOf n round (AllQuiet node) next = next ≡ AllQuiet node

-- how many turns a pause counts as, after so many idle ones
abbrev pub pause_turns : ℕ → Pause → ℕ
pause_turns idle Woken = 1
pause_turns idle Slept = IDLE_TURNS - idle

-- the worker spent all turns, as all wait; or it slept while the board knew that its process waits, has taken that back, and the
-- pause counts as it does after so many idle turns
abbrev pub HasRested : ℕ → ℕ → ℕ → ℕ → Pause → ℕ → Type 0
HasRested n p round idle pause extra =
    ((extra ≡ ALL_TURNS) × (put : ℕ) × (taken : ℕ) × UnderLock n (λ before after. HasWaited before p round put taken true after))
    ⊎ ((extra + 1 ≡ pause_turns idle pause) × UnderLock n (λ before after. HasWithdrawn before p after))

-- a message was offered to the process: it answered as it does, and took it or is as it was
pub record IsOffered (old : CoreState) (message : Message) (new : Process) : Type 0 where
  pub answer : Accept
  pub answers : Answers old message answer
  pub took : (x : ℕ) → answer ≡ accepts.Taken x → new ≡ (taken old message).now
  pub refused : ((x : ℕ) → answer ≢ accepts.Taken x) → new ≡ old.now

-- the process took as many turns as there are, up to the fuel; or it took none, as it has rows to be noted first
abbrev pub HasRun : CoreState → ℕ → Status → Process → Type 0
HasRun old fuel status new =
    ((old.pending ≢ []) × (status ≡ statuses.Ready) × (new ≡ old.now))
    ⊎ ((count : ℕ) × (core : CoreState) × RunsTo old fuel count status core × (new ≡ core.now))

-- how a process ended where its worker ended well, by the ends of inboxes that it had
abbrev pub EndsOf : {K S : Type 0} → (S → Bool) → Program → EndsState → Result (Finished K S) RunFault → Type 0
EndsOf is_clean program l result = IfOk result (λ f. IsEndOf is_clean program l.lines l.own l.n f)
