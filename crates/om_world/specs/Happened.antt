-- What each event does to a world, by its answer.
use Rattle.std.specs.Prelude.{◌≡◌, ◌≢◌, ◌⊎◌, ℕ, ◌+◌, ◌<◌, ◌≤◌, List, [], ◌∷◌, ◌++◌, length, slice_get, slice_set, IsSome, Some, None, true, false}
use Rattle.std.specs.FinMap.{get}
use Rattle.om_format.specs.declared.message.Message.{Message}
use Rattle.om_stable.specs.Content.{Content, kept_by_prune}
use Rattle.om_process.specs.declared.accept.Accept.{Accept}
use Rattle.om_process.specs.declared.accept.Accept.TheVariants as accepts
use Rattle.om_process.specs.declared.status.Status.{Status}
use Rattle.om_process.specs.Core.{CoreState, CoreTurns, with_now, RunsTo}
use Rattle.om_process.specs.Accepts.{Answers, taken}
use Rattle.om_recover.specs.Cutting.{IsEffective, IsPruned}
use Rattle.om_manager.specs.Bounds.{AreGotFrom}
use Rattle.om_manager.specs.Gatherings.{AreAllIn}
use Rattle.om_manager.specs.Rounds.{Gathers, IsSpent, with_presence}
use Rattle.om_manager.specs.State.{held_by, process_count, released_by}
use Rattle.om_manager.specs.declared.presence.Presence.TheVariants as presences
use Rattle.om_member.specs.declared.batch.Batch.{Batch}
use Rattle.om_member.specs.declared.batch.Batch.TheVariants.{Checkpoint, First, Log}
use Rattle.om_member.specs.Members.{trimmed_core}
use Rattle.om_world.specs.declared.event.Event.{Event}
use Rattle.om_world.specs.declared.event.Answer.{Answer}
use Rattle.om_world.specs.declared.event.Answer.TheVariants as answers
use Rattle.om_world.specs.declared.event.Refusal.{Refusal}
use Rattle.om_world.specs.declared.process_state.ProcessState.{ProcessState}
use Rattle.om_world.specs.declared.event.Refusal.TheVariants as refusals
use Rattle.om_world.specs.World.{WorldState, recovered, entry_of}
use Rattle.om_world.specs.Restarted.{HasRestarted}
use Rattle.om_world.specs.Failures.{BackHappened, BackStopped, FailRefused, HasGoneOn, HasHanded, HasNews, IsDeclared, IsToDeclare, IsToGoOn, JoinHappened, gathered, taken_down}
use Rattle.om_world.specs.Changes.{HasFailed, IsSame, IsUp, Changes, new_messages, all_messages, made_by, HoldsMore, stored, HasStored, HasNoted, StoreStopped}

-- ---- a run
pub record RunHappened (old : WorldState) (p fuel steps : ℕ) (status : Status) (sent made : ℕ) (new : WorldState) : Type 0 where
  pub before : CoreState
  pub after : CoreState
  pub changes : Changes old p before after new
  pub run : RunsTo before fuel steps status after
  pub frames : new.frames ≡ old.frames ++ new_messages before after
  pub count : sent ≡ length (new_messages before after)
  pub outputs : made_by after ≡ made_by before + made
  pub handed_in : made_by after ≤ length (held_by new.manager p)
  pub manager : HoldsMore old.manager p new.manager
  pub contents : new.contents ≡ old.contents
  pub since : new.since ≡ old.since

-- a run that memory was refused: the turns before stand, and all new messages are frames or none is
pub record RunStopped (old : WorldState) (p fuel : ℕ) (new : WorldState) : Type 0 where
  pub before : CoreState
  pub after : CoreState
  pub changes : Changes old p before after new
  pub turns : (k : ℕ) × (k ≤ fuel) × CoreTurns k before after
  pub rest : after ≡ with_now before after.now
  pub frames : (new.frames ≡ old.frames) ⊎ (new.frames ≡ old.frames ++ new_messages before after)
  pub manager : HoldsMore old.manager p new.manager
  pub contents : new.contents ≡ old.contents
  pub since : new.since ≡ old.since

-- ---- a frame that is offered
-- the frame, and the core to which it is offered
pub record IsOffer (w : WorldState) (p f : ℕ) (m : Message) (c : CoreState) : Type 0 where
  pub up : IsUp w p
  pub frame : slice_get w.frames f ≡ Some m
  pub core : slice_get w.cores p ≡ Some (Some c)

-- once it is taken, the message is an entry of live
abbrev pub GiveHappened : WorldState → ℕ → ℕ → Accept → WorldState → Type 0
GiveHappened old p f (accepts.Taken x) new =
    (m : Message) × (c : CoreState) × IsOffer old p f m c × Answers c m (accepts.Taken x)
    × (new ≡ record old { live = old.live ++ entry_of m ∷ []; cores = slice_set old.cores p (Some (taken c m)) })
GiveHappened old p f accepts.Memory new = ⊥
GiveHappened old p f answer new = (m : Message) × (c : CoreState) × IsOffer old p f m c × Answers c m answer × (new ≡ old)

-- ---- records that are stored and noted
abbrev pub StoreHappened : Batch → WorldState → ℕ → ℕ → WorldState → Type 0
StoreHappened kind old p count new =
    (c : CoreState) × HasStored kind old p c new × HasNoted old p c (stored kind c) count new × (count ≡ length (stored kind c).pending)

-- the store of process p has a checkpoint of its interval
pub record HasCheckpoint (w : WorldState) (p : ℕ) : Type 0 where
  pub core : CoreState
  pub is_core : slice_get w.cores p ≡ Some (Some core)
  pub held : Content
  pub is_held : slice_get w.contents p ≡ Some held
  pub there : IsSome (get held.checkpoints core.now.interval)

-- the store of process p has a checkpoint more, of what the process is now, whose row is the last that is pending; no row is noted
pub record HasSpelled (old : WorldState) (p : ℕ) (new : WorldState) : Type 0 where
  pub core : CoreState
  pub gained : HasStored Checkpoint old p core new
  pub changes : Changes old p core (stored Checkpoint core) new
  pub manager : new.manager ≡ old.manager
  pub frames : new.frames ≡ old.frames

-- ---- what is sent again, and what is dropped
abbrev pub ResendHappened : WorldState → ℕ → ℕ → WorldState → Type 0
ResendHappened old p count new =
    IsUp old p × (c : CoreState) × (slice_get old.cores p ≡ Some (Some c))
    × (count ≡ length (all_messages c)) × (new ≡ record old { frames = old.frames ++ all_messages c })

abbrev pub TrimHappened : WorldState → ℕ → WorldState → Type 0
TrimHappened old p new =
    IsUp old p × (c : CoreState) × (slice_get old.cores p ≡ Some (Some c))
    × (got : List ℕ) × AreGotFrom old.manager.rows old.manager.recovery p got
    × (new ≡ record old { cores = slice_set old.cores p (Some (trimmed_core c got (length (released_by old.manager p)))) })

-- a store is pruned to its effective checkpoint
abbrev pub StorePruned : WorldState → ℕ → Content → Content → Type 0
StorePruned new p before after = (c : ℕ) × IsEffective new.manager.rows p (recovered new.manager p) c × (after ≡ kept_by_prune before c)

-- the manager is pruned, and each store as is said
pub record Prunes (Did : ℕ → Content → Content → Type 0) (old new : WorldState) : Type 0 where
  pub rows : IsPruned old.manager.rows old.manager.recovery new.manager.rows
  pub stores : (p : ℕ) (before : Content) → slice_get old.contents p ≡ Some before
      → (after : Content) × (slice_get new.contents p ≡ Some after) × Did p before after
  pub others : new ≡ record old { manager = record old.manager { rows = new.manager.rows }; contents = new.contents; health = new.health }

-- a store refused: the manager is pruned, and some of the stores
abbrev pub PruneStopped : WorldState → WorldState → Type 0
PruneStopped old new = Prunes (λ p before after. (after ≡ before) ⊎ StorePruned new p before after) old new

-- ---- why an event is refused, and what it leaves
-- Each of these says it of one event, or of a few that are alike. A fault is that of a store which counts it. Where all stores are clean,
-- no event is told that something is damaged.

-- an event of a process that has to be up: there is none, or it is not up, and all stays; or it is up, and there is another reason
abbrev pub UnlessUp : WorldState → ℕ → Refusal → WorldState → Type 0 → Type 0
UnlessUp old p refusals.NoProcess new Else = (length old.programs ≤ p) × (new ≡ old)
UnlessUp old p refusals.NotUp new Else = (p < length old.programs) × (IsUp old p → ⊥) × (new ≡ old)
UnlessUp old p why new Else = IsUp old p × Else

-- a store keeps no record: memory ran out, which leaves as much as is said; or it failed; or it has that checkpoint
abbrev pub StoreRefused : Batch → WorldState → ℕ → Refusal → WorldState → Type 0 → Type 0
StoreRefused kind old p refusals.Memory new Left = Left
StoreRefused kind old p refusals.Fault new Left = HasFailed old p new × IsSame old new
StoreRefused Checkpoint old p refusals.Present new Left = HasCheckpoint old p × IsSame old new
StoreRefused kind old p why new Left = ⊥

-- a process that is up stores no record of a kind
abbrev pub RecordRefused : Batch → WorldState → ℕ → Refusal → WorldState → Type 0
RecordRefused kind old p why new = UnlessUp old p why new (StoreRefused kind old p why new (StoreStopped kind old p new))

-- a frame is not offered
abbrev pub GiveRefused : WorldState → ℕ → ℕ → Refusal → WorldState → Type 0
GiveRefused old p f refusals.NoFrame new = (length old.frames ≤ f) × (new ≡ old)
GiveRefused old p f refusals.Memory new = (m : Message) × (c : CoreState) × IsOffer old p f m c × (new ≡ old)
GiveRefused old p f why new = ⊥

-- a process that is up does not join
abbrev pub JoinRefused : WorldState → ℕ → Refusal → WorldState → Type 0
JoinRefused old p refusals.NoRound new = (old.manager.gathering ≡ None) × (new ≡ old)
JoinRefused old p why new =
    (old.manager.gathering ≢ None)
    × StoreRefused Log old p why new (StoreStopped Log old p new ⊎ ((core : CoreState) × HasHanded old p core new))

-- a failure is not declared: it was before, or the manager refused it, and the process is down
abbrev pub DeclareRefused : WorldState → ℕ → Refusal → WorldState → Type 0
DeclareRefused old p refusals.NoProcess new = (length old.programs ≤ p) × (new ≡ old)
DeclareRefused old p refusals.NotUp new = IsDeclared old p × (new ≡ old)
DeclareRefused old p refusals.Spent new = FailRefused (IsSpent old.manager) old p new
DeclareRefused old p refusals.Memory new =
    FailRefused (AreAllIn (process_count old.manager) (with_presence old.manager p presences.Failed)) old p new
DeclareRefused old p why new = ⊥

-- a process does not come back
abbrev pub ResumeRefused : WorldState → ℕ → Refusal → WorldState → Type 0
ResumeRefused old p refusals.NoProcess new = (length old.programs ≤ p) × (new ≡ old)
ResumeRefused old p refusals.NotIn new = (p < length old.programs) × (HasNews old p → ⊥) × (new ≡ old)
ResumeRefused old p refusals.Memory new = BackStopped old p new ⊎ (IsToGoOn old p × (new ≡ old))
ResumeRefused old p refusals.Fault new = HasFailed old p new × BackStopped old p new
ResumeRefused old p why new = ⊥

-- not all stores are pruned
abbrev pub PruneRefused : WorldState → Refusal → WorldState → Type 0
PruneRefused old refusals.Memory new = PruneStopped old new
PruneRefused old refusals.Fault new = ((p : ℕ) × HasFailed old p new) × PruneStopped old new
PruneRefused old why new = ⊥

-- the whole does not start anew, and all stays but how the stores stand. It is unsettled where a process is not back from the last
-- finished round, and another may have stored since
abbrev pub RestartRefused : WorldState → Refusal → WorldState → Type 0
RestartRefused old refusals.Unsettled new = ((p : ℕ) × (p < length old.programs) × HasNews old p) × (new ≡ old) × (old.since.stored ≡ true)
RestartRefused old refusals.Fault new = ((p : ℕ) × HasFailed old p new) × IsSame old new
RestartRefused old refusals.Memory new = IsSame old new
RestartRefused old why new = ⊥

abbrev pub Refused : WorldState → Event → Refusal → WorldState → Type 0
Refused old (Event.Run p fuel) why new = UnlessUp old p why new ((why ≡ refusals.Memory) × RunStopped old p fuel new)
Refused old (Event.Give p f) why new = UnlessUp old p why new (GiveRefused old p f why new)
Refused old (Event.Flush p) why new = RecordRefused Log old p why new
Refused old (Event.FlushFirst p k) why new = RecordRefused (First k) old p why new
Refused old (Event.Checkpoint p) why new = RecordRefused Checkpoint old p why new
Refused old (Event.Spell p) why new = UnlessUp old p why new (StoreRefused Checkpoint old p why new (IsSame old new))
Refused old (Event.Resend p) why new = UnlessUp old p why new ((why ≡ refusals.Memory) × (new ≡ old))
Refused old (Event.Trim p) why new = UnlessUp old p why new ⊥
Refused old (Event.Fail p) why new = DeclareRefused old p why new
Refused old (Event.Join p) why new = UnlessUp old p why new (JoinRefused old p why new)
Refused old (Event.Resume p) why new = ResumeRefused old p why new
Refused old Event.Prune why new = PruneRefused old why new
Refused old Event.Restart why new = RestartRefused old why new

-- ---- all events
-- What an event does, by its answer. A process goes down and nothing is declared where it was in, and the gathering that it joined had finished
abbrev pub Happened : WorldState → Event → Answer → WorldState → Type 0
Happened old event (answers.Refused why) new = Refused old event why new
Happened old (Event.Run p fuel) (answers.Ran steps status sent made) new = RunHappened old p fuel steps status sent made new
Happened old (Event.Give p f) (answers.Given answer) new = GiveHappened old p f answer new
Happened old (Event.Flush p) (answers.Noted count) new = StoreHappened Log old p count new
Happened old (Event.FlushFirst p k) (answers.Noted count) new = StoreHappened (First k) old p count new
Happened old (Event.Checkpoint p) (answers.Noted count) new = StoreHappened Checkpoint old p count new
Happened old (Event.Spell p) (answers.Noted count) new = (count ≡ 0) × HasSpelled old p new
Happened old (Event.Resend p) (answers.Resent count) new = ResendHappened old p count new
Happened old (Event.Trim p) answers.Trimmed new = TrimHappened old p new
Happened old Event.Prune answers.Pruned new = Prunes (StorePruned new) old new
Happened old (Event.Fail p) (answers.Gathered answer) new =
    IsToDeclare old p × Gathers (with_presence old.manager p presences.Failed) old.manager answer new.manager
    × (new ≡ gathered (taken_down old p true) answer new.manager)
Happened old (Event.Fail p) answers.Down new = (slice_get old.places p ≡ Some ProcessState.In) × HasNews old p × (new ≡ taken_down old p false)
Happened old (Event.Join p) (answers.Gathered answer) new = JoinHappened old p answer new
Happened old (Event.Resume p) (answers.Back interval inc) new = BackHappened old p interval inc new
Happened old (Event.Resume p) answers.GoesOn new = IsToGoOn old p × HasGoneOn old p new
Happened old Event.Restart answers.Restarted new = HasRestarted old new
Happened old event answer new = ⊥
