-- What each process's start does.
use Rattle.std.specs.Prelude.{◌≡◌, ℕ, ◌<◌, ◌≤◌, List, length, ◌++◌, drop, map, replicate, slice_get, Bool, IsTrue, Option, None, Some, Result, IfOk, IfErr, OnOk}
use Rattle.std.specs.FinMap.{get}
use Rattle.om_stable.specs.Calls.{IsCleanCall}
use Rattle.om_stable.specs.Content.{Content}
use Rattle.om_process.specs.declared.start.StartFault.{StartFault}
use Rattle.om_process.specs.Process.{Program}
use Rattle.om_process.specs.Core.{CoreState}
use Rattle.om_process.specs.Starting.{started_core}
use Rattle.om_process.specs.Stores.{HasGainedCheckpoint}
use Rattle.om_member.specs.declared.member.Member.{Member}
use Rattle.om_world.specs.declared.process_state.ProcessState.{ProcessState}
use Rattle.om_world.specs.Started.{IsLoadable, IsWhy}
use Rattle.om_world.specs.steps.Members.{core_in, place_in, round_in, store_in}

-- a core was started over this store
pub record IsStartedOver {S : Type 0} (content : S → Content) (is_clean : S → Bool) (IsSound : S → Type 0)
    (core : CoreState) (before after : S) : Type 0 where
  pub stored : IsCleanCall is_clean IsSound before after → HasGainedCheckpoint core (content before) (content after)
  pub free : IsCleanCall is_clean IsSound before after → get (content before).checkpoints 0 ≡ None
  pub clean : IsTrue (is_clean after) → IsTrue (is_clean before)
  pub sound : IsTrue (is_clean after) → IsSound before → IsSound after

-- process p of n was to be started over a store
pub record IsStart {S : Type 0} (content : S → Content) (failed : S → ℕ) (is_clean : S → Bool) (IsSound : S → Type 0)
    (program : Program) (p n : ℕ) (before after : S) (result : Result CoreState StartFault) : Type 0 where
  pub core : IfOk result (λ core. core ≡ started_core program p n)
  pub loadable : OnOk result (IsLoadable program)
  pub over : IfOk result (λ core. IsStartedOver content is_clean IsSound core before after)
  pub why : IfErr result (λ fault. IsWhy content failed is_clean IsSound program fault before after)

-- the first k of n processes are started, and the other stores are as they were
pub record AreStarted {S : Type 0} (content : S → Content) (is_clean : S → Bool) (IsSound : S → Type 0)
    (programs : List Program) (n k : ℕ) (started : List (Option CoreState)) (old new : List S) : Type 0 where
  pub many : length started ≡ k
  pub size : length new ≡ length old
  pub cores : (p : ℕ) (program : Program) → p < k → slice_get programs p ≡ Some program
      → slice_get started p ≡ Some (Some (started_core program p n))
  pub loadable : (p : ℕ) (program : Program) → p < k → slice_get programs p ≡ Some program → IsLoadable program
  pub done : (p : ℕ) (program : Program) (before : S) → p < k → slice_get programs p ≡ Some program → slice_get old p ≡ Some before
      → (after : S) × (slice_get new p ≡ Some after) × IsStartedOver content is_clean IsSound (started_core program p n) before after
  pub left : (p : ℕ) → k ≤ p → slice_get new p ≡ slice_get old p

-- the first k of n processes are started, each a member that is up over its store
pub record AreSeated {S : Type 0} (content : S → Content) (is_clean : S → Bool) (IsSound : S → Type 0)
    (programs : List Program) (n k : ℕ) (stores : List S) (members : List (Member S)) : Type 0 where
  pub started : AreStarted content is_clean IsSound programs n k (map core_in members) stores (map store_in members ++ drop k stores)
  pub places : map place_in members ≡ replicate k ProcessState.Up
  pub rounds : map round_in members ≡ replicate k 0
