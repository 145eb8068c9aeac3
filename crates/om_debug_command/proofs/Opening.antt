-- A script that is opened, and why it is not.
use Rattle.std.proofs.Common.{◌≡◌, ◌⊎◌, ℕ, ◌<◌, ◌≤◌, Option, Some, None, Result, Ok, Err, Bool, false, List, [], length, map, refl, ap, sym, subst, ◌∙◌, ⊎_elim, inl, inr, zero, suc, ◌+◌, ◌∷◌, ◌++◌, length-append, arith}
use Rattle.std.specs.Prelude.{IfErr, IfOk, IfSome, slice_get}
use Rattle.std.specs.Str.{bytes_eq}
use Rattle.std.proofs.lemmas.List.Quantifiers.{position-Some}
use Rattle.std.specs.Io.KnownBytes.{Appends, Consumes, IsAtEnd}
use Rattle.om_scripts.specs.Named.{place_of}
use Rattle.om_scripts.specs.Programs.{Cluster, program_at, programs_of}
use Rattle.om_world.specs.World.{WorldState}
use Rattle.om_world.specs.declared.event.Event.{Event}
use Rattle.om_commands.specs.Command.{IsScript}
use Rattle.om_commands.specs.Sim.{IsBegun}
use Rattle.om_commands.specs.SimScript.{EventScript, event_script_line, no_events}
use Rattle.om_commands.specs.declared.error.CommandError.{CommandError}
use Rattle.om_commands.specs.declared.error.CommandError.TheVariants as errors
use Rattle.om_world.proofs.Lists.{length-map, there}
use Rattle.om_timeline.specs.Timeline.{CanBegin, IsBegin, TimelineState}
use Rattle.om_inferiors.specs.Serving.{SessionState, Takes, session}
use Rattle.om_inferiors.specs.declared.inferior.Inferior.{Inferior}
use Rattle.om_inferiors.specs.declared.inferiors.Inferiors.{Inferiors}
use Rattle.om_inferiors.specs.declared.shown.Shown.TheVariants.{One, All}
use Rattle.om_debug.specs.Stops.{DebugState}
use Rattle.om_debug_command.specs.Debug.{AreBegun, IsAllOpened, IsMember, IsBegunAll, IsBegunAt, IsErrorOfAll, IsErrorOfDebug, IsOpened, IsPlaced, IsServed}
use Rattle.om_debug_command.specs.Symbols.{IsUnknown}
use Rattle.om_debug_command.specs.declared.error.DebugError.{DebugError}
use Rattle.om_debug_command.specs.declared.error.DebugError.TheVariants.{NoSuchName, Refused}
use Rattle.om_debug_command.specs.declared.symbols.Symbols.{Symbols}

-- a process stands before the first event of a script
pub placed_at : (script : EventScript) (cluster : Cluster) (place p : ℕ) (world : WorldState) (events read : List Event) (t : TimelineState) (d : DebugState) → cluster ≡ script.cluster
    → IsBegun (programs_of cluster) world → events ≡ read → read ≡ script.events → p ≡ place → IsBegin t p world events → d.timeline ≡ t → IsPlaced script place d
placed_at script cluster place p world events read t d same is_begun copied same_events here begins shown =
    let at_place : IsBegin t place world events = subst (λ q. IsBegin t q world events) here begins in
    let of_script : IsBegin t place world script.events = subst (λ es. IsBegin t place world es) (copied ∙ same_events) at_place in
    record {
      begun = world;
      is_begun = subst (λ c. IsBegun (programs_of c) world) same is_begun;
      begins = subst (λ s. IsBegin s place world script.events) (sym shown) of_script;
    }

-- so it does that has the name
pub begun_at : (script : EventScript) (cluster : Cluster) (name : List ℕ) (found : Option ℕ) (place : ℕ) (d : DebugState) → cluster ≡ script.cluster → found ≡ place_of name cluster.processes
    → found ≡ Some place → IsPlaced script place d → IsBegunAt script name d
begun_at script cluster name found place d same looked is placed =
    let named : place_of name cluster.processes ≡ Some place = sym looked ∙ is in
    record {
      place = place;
      named = subst (λ c. place_of name c.processes ≡ Some place) same named;
      begun = placed.begun;
      is_begun = placed.is_begun;
      begins = placed.begins;
    }

-- each process of a script is up at the start, and has finished nothing
place_within : {V : Type 0} (name : List ℕ) (named : List (List ℕ × V)) (place : ℕ) → place_of name named ≡ Some place → place < length named
place_within name named place is =
    let found = position-Some (λ other. bytes_eq name other) (map (λ e. e.0) named) place [] is in
    subst (λ n. place < n) (length-map (λ e. e.0) named) found.0

-- so it stands at a place of the script
pub named_within : (script : EventScript) (cluster : Cluster) (name : List ℕ) (found : Option ℕ) (place : ℕ) → cluster ≡ script.cluster → found ≡ place_of name cluster.processes → found ≡ Some place
    → place < length script.cluster.processes
named_within script cluster name found place same looked is =
    subst (λ (c : Cluster). place < length c.processes) same (place_within name cluster.processes place (sym looked ∙ is))

pub begun_can : (script : EventScript) (cluster : Cluster) (place p : ℕ) (w : WorldState) → cluster ≡ script.cluster → place < length script.cluster.processes → IsBegun (programs_of cluster) w
    → p ≡ place → CanBegin w p
begun_can script cluster place p w same less begun here =
    let within : place < length cluster.processes = subst (λ (c : Cluster). place < length c.processes) (sym same) less in
    let many : length (programs_of cluster) ≡ length cluster.processes = length-map (λ e. program_at cluster e.1) cluster.processes in
    let one = there (programs_of cluster) place (subst (λ n. place < n) (sym many) within) in
    subst (CanBegin w) (sym here) (record { core = _; is_core = begun.0.cores place one.0 one.1; few = omega arith })

-- what is opened of a script is opened of the bytes that it is read from
pub opened_of : (remaining : Option (List ℕ)) (start script : EventScript) (name : List ℕ) (r : Result DebugState CommandError) → start ≡ no_events
    → IfSome remaining (λ bytes. IsScript event_script_line start bytes script) → IfOk r (IsBegunAt script name)
    → IfSome remaining (λ bytes. IfOk r (IsOpened bytes name))
opened_of None start script name r is read begun = tt
opened_of (Some bytes) start script name (Ok d) is read begun =
    record { script = script; is_script = subst (λ s. IsScript event_script_line s bytes script) is read; begins = begun }
opened_of (Some bytes) start script name (Err e) is read begun = tt

-- why a script is not opened
of_script : (bytes name : List ℕ) (script : EventScript) (error : CommandError) → IsScript event_script_line no_events bytes script
    → (error ≡ errors.NoMemory) ⊎ (((error ≡ errors.NoSuchProcess) × (1 ≤ length script.cluster.processes) × (place_of name script.cluster.processes ≡ None))
    ⊎ ((error ≡ errors.EmptyScript) × (length script.cluster.processes ≡ 0))) → IsErrorOfDebug bytes name error
of_script bytes name script error read told = ⊎_elim
    (λ memory. subst (IsErrorOfDebug bytes name) (sym memory) tt)
    (λ rest. ⊎_elim
    (λ none. subst (IsErrorOfDebug bytes name) (sym none.0) (record { script = script; is_script = read; some = none.1; none = none.2 }))
    (λ empty. subst (IsErrorOfDebug bytes name) (sym empty.0) (script, read, empty.1))
    rest)
    told

pub error_of_opening : (remaining : Option (List ℕ)) (start script : EventScript) (name : List ℕ) (r : Result DebugState CommandError) → start ≡ no_events
    → IfSome remaining (λ bytes. IsScript event_script_line start bytes script)
    → IfErr r (λ error. (error ≡ errors.NoMemory) ⊎ (((error ≡ errors.NoSuchProcess) × (1 ≤ length script.cluster.processes) × (place_of name script.cluster.processes ≡ None))
    ⊎ ((error ≡ errors.EmptyScript) × (length script.cluster.processes ≡ 0))))
    → IfSome remaining (λ bytes. IfErr r (IsErrorOfDebug bytes name))
error_of_opening None start script name r is read error = tt
error_of_opening (Some bytes) start script name (Ok x) is read error = tt
error_of_opening (Some bytes) start script name (Err e) is read error =
    of_script bytes name script e (subst (λ s. IsScript event_script_line s bytes script) is read) error

-- what is served is about what was opened
pub served_of : (remaining had left before after : Option (List ℕ)) (name : List ℕ) (d : DebugState) → IfSome remaining (λ bytes. IsOpened bytes name d)
    → ((bytes : List ℕ) × (written : List ℕ) × (over : Bool) × (last : SessionState) × Takes (session (One d)) bytes written over last
    × Appends before after written × Consumes had left bytes × (over ≡ false → IsAtEnd left))
    → IfSome remaining (λ bytes. (e : DebugState) × IsOpened bytes name e × IsServed (One e) had left before after)
served_of None had left before after name d opened served = tt
served_of (Some bytes) had left before after name d opened s = (
  d,
  opened,
  record { bytes = s.0; written = s.1; over = s.2; last = s.3; takes = s.4; consumes = s.6; appends = s.5; ended = s.7 },
)

-- ---- the same of all processes
pub all_opened : (remaining : Option (List ℕ)) (start script : EventScript) (symbols : List Symbols) (r : Result Inferiors DebugError) → start ≡ no_events
    → IfSome remaining (λ bytes. IsScript event_script_line start bytes script) → IfOk r (IsBegunAll script symbols)
    → IfSome remaining (λ bytes. IfOk r (IsAllOpened bytes symbols))
all_opened None start script symbols r is read begun = tt
all_opened (Some bytes) start script symbols (Ok d) is read begun =
    record { script = script; is_script = subst (λ s. IsScript event_script_line s bytes script) is read; begins = begun }
all_opened (Some bytes) start script symbols (Err e) is read begun = tt

of_all : (bytes : List ℕ) (symbols : List Symbols) (script : EventScript) (error : DebugError) → IsScript event_script_line no_events bytes script
    → (error ≡ Refused errors.NoMemory) ⊎ (((error ≡ Refused errors.EmptyScript) × (length script.cluster.processes ≡ 0)) ⊎ ((error ≡ NoSuchName) × IsUnknown script.cluster symbols))
    → IsErrorOfAll bytes symbols error
of_all bytes symbols script error read told = ⊎_elim
    (λ memory. subst (IsErrorOfAll bytes symbols) (sym memory) tt)
    (λ rest. ⊎_elim
    (λ empty. subst (IsErrorOfAll bytes symbols) (sym empty.0) (script, read, empty.1))
    (λ unknown. subst (IsErrorOfAll bytes symbols) (sym unknown.0) (record { script = script; is_script = read; unknown = unknown.1 }))
    rest)
    told

pub error_of_all : (remaining : Option (List ℕ)) (start script : EventScript) (symbols : List Symbols) (r : Result Inferiors DebugError) → start ≡ no_events
    → IfSome remaining (λ bytes. IsScript event_script_line start bytes script)
    → IfErr r (λ error. (error ≡ Refused errors.NoMemory) ⊎ (((error ≡ Refused errors.EmptyScript) × (length script.cluster.processes ≡ 0)) ⊎ ((error ≡ NoSuchName) × IsUnknown script.cluster symbols)))
    → IfSome remaining (λ bytes. IfErr r (IsErrorOfAll bytes symbols))
error_of_all None start script symbols r is read error = tt
error_of_all (Some bytes) start script symbols (Ok x) is read error = tt
error_of_all (Some bytes) start script symbols (Err e) is read error =
    of_all bytes symbols script e (subst (λ s. IsScript event_script_line s bytes script) is read) error

pub served_of_all : (remaining had left before after : Option (List ℕ)) (symbols : List Symbols) (d : Inferiors) → IfSome remaining (λ bytes. IsAllOpened bytes symbols d)
    → ((bytes : List ℕ) × (written : List ℕ) × (over : Bool) × (last : SessionState) × Takes (session (All d)) bytes written over last
    × Appends before after written × Consumes had left bytes × (over ≡ false → IsAtEnd left))
    → IfSome remaining (λ bytes. (e : Inferiors) × IsAllOpened bytes symbols e × IsServed (All e) had left before after)
served_of_all None had left before after symbols d opened served = tt
served_of_all (Some bytes) had left before after symbols d opened s = (
  d,
  opened,
  record { bytes = s.0; written = s.1; over = s.2; last = s.3; takes = s.4; consumes = s.6; appends = s.5; ended = s.7 },
)

-- ---- one process more
split_last : {A : Type 0} (xs : List A) (m i : A) (k : ℕ) → slice_get (xs ++ m ∷ []) k ≡ Some i → (slice_get xs k ≡ Some i) ⊎ ((k ≡ length xs) × (Some m ≡ Some i))
split_last [] m i zero is = inr (refl, is)
split_last [] m i (suc k) is = inl is
split_last (x ∷ xs) m i zero is = inl is
split_last (x ∷ xs) m i (suc k) is = ⊎_elim (λ before. inl before) (λ last. inr (ap suc last.0, last.1)) (split_last xs m i k is)

same_some : {A : Type 0} (m i : A) → Some m ≡ Some i → m ≡ i
same_some m i is = cc

pub members_more : (script : EventScript) (symbols : List Symbols) (items : List Inferior) (m : Inferior) (place : ℕ) → length items ≡ place → AreBegun script symbols items → IsMember script symbols place m
    → AreBegun script symbols (items ++ m ∷ [])
members_more script symbols items m place count before member = λ k i is. ⊎_elim
    (λ there. before k i there)
    (λ last. subst (λ n. IsMember script symbols n i) (sym (last.0 ∙ count)) (subst (IsMember script symbols place) (same_some m i last.1) member))
    (split_last items m i k is)

pub length_more : {A : Type 0} (xs ys : List A) (m : A) (n : ℕ) → ys ≡ xs ++ m ∷ [] → length xs ≡ n → length ys ≡ n + 1
length_more xs ys m n is count = ap length is ∙ length-append xs (m ∷ []) ∙ ap (λ k. k + 1) count
