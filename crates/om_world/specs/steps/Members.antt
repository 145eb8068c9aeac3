-- A world's members, as they are seen.
use Rattle.std.specs.Prelude.{ℕ, List, Option, Bool, true, map}
use Rattle.om_format.specs.declared.message.Message.{Message}
use Rattle.om_stable.specs.Content.{Content}
use Rattle.om_process.specs.Core.{CoreState}
use Rattle.om_process.specs.Process.{Program}
use Rattle.om_manager.specs.State.{ManagerState}
use Rattle.om_member.specs.Members.{core_of}
use Rattle.om_member.specs.declared.member.Member.{Member}
use Rattle.om_member.specs.declared.member.MemberState.{MemberState}
use Rattle.om_member.specs.declared.member.MemberState.TheVariants as stands
use Rattle.om_world.specs.declared.entry.Entry.{Entry}
use Rattle.om_world.specs.declared.process_state.ProcessState.{ProcessState}
use Rattle.om_world.specs.World.{Health, SinceState, WorldState}

-- how a store of some type stands
abbrev pub health_of : {S : Type 0} → (S → Bool) → (S → ℕ) → S → Health
health_of is_clean failed store = record { clean = is_clean store; failed = failed store }

abbrev pub place_of : MemberState → ProcessState
place_of (stands.Up core) = ProcessState.Up
place_of (stands.In core) = ProcessState.In
place_of (stands.Down declared) = ProcessState.Down declared

abbrev pub core_in : {S : Type 0} → Member S → Option CoreState
core_in m = core_of m.standing

abbrev pub place_in : {S : Type 0} → Member S → ProcessState
place_in m = place_of m.standing

-- a member that is down, and declared, as before any round
abbrev pub downed : {S : Type 0} → Member S → Member S
downed m = record m { standing = stands.Down true; round = 0 }

abbrev pub round_in : {S : Type 0} → Member S → ℕ
round_in m = m.round

abbrev pub store_in : {S : Type 0} → Member S → S
store_in m = m.store

-- a store's content, health and soundness, as those of its member
abbrev pub content_in : {S : Type 0} → (S → Content) → Member S → Content
content_in content m = content m.store

abbrev pub health_in : {S : Type 0} → (S → Health) → Member S → Health
health_in health m = health m.store

abbrev pub sound_in : {S : Type 0} → (S → Type 0) → Member S → Type 0
sound_in IsSound m = IsSound m.store

-- what is seen of a world besides its members and their manager
pub record Besides : Type 0 where
  pub origins : List Content
  pub since : SinceState

-- what is seen of a world's parts
abbrev pub seen : {S : Type 0} → (S → Content) → (S → Health) → List Program → List Entry → List Message → List (Member S)
    → ManagerState → Besides → WorldState
seen content health programs live frames members manager besides = record {
  programs = programs;
  live = live;
  frames = frames;
  cores = map core_in members;
  places = map place_in members;
  rounds = map round_in members;
  manager = manager;
  contents = map (content_in content) members;
  health = map (health_in health) members;
  origins = besides.origins;
  since = besides.since;
}
