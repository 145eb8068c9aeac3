-- What is read of the outputs of a process, and why a world is not begun.
use Rattle.std.proofs.Common.{◌≡◌, ◌⊎◌, ℕ, ◌<◌, ◌≤◌, ◌%◌, ◌==◌, nat_le, Option, Some, None, Result, Ok, Err, Bool, true, false, ◌&&◌, List, [], ◌++◌, length, get_or, map, refl, ap, sym, subst, ◌∙◌, ⊎_elim, arith}
use Rattle.std.specs.Prelude.{All, IfErr, IfOk, IfSome, IsSome}
use Rattle.std.specs.FinMap.{get, get-empty}
use Rattle.std.specs.Ordering.{nat_cmp}
use Rattle.std.proofs.lemmas.Bool.{eqb-true, leb-true}
use Rattle.std.proofs.lemmas.Option.{none-some}
use Rattle.std.proofs.lemmas.List.{get_or-map}
use Rattle.std.proofs.lemmas.List.Elements.{All-map}
use Rattle.om_stable.specs.Count.{Rose}
use Rattle.om_isa.specs.Memory.{IsMemorySize, is_memory_size}
use Rattle.om_manager.specs.Outputs.{held_of}
use Rattle.om_manager.specs.declared.output_log.Output.{Output}
use Rattle.om_process.specs.Process.{Program}
use Rattle.om_process.specs.declared.start.StartFault.{StartFault}
use Rattle.om_process.specs.declared.start.StartFault.TheVariants.{BadPlace, BadSize, ImageTooLong, Present, Fault, Memory}
use Rattle.om_scripts.specs.Programs.{Cluster, IsProgram, programs_of}
use Rattle.om_stable.specs.Content.{Content}
use Rattle.om_world.proofs.Beginning.{all_at}
use Rattle.om_world.specs.Started.{IsRefusedAt, IsWhy}
use Rattle.om_world.specs.World.{WorldState, IsEmpty, IsKnown}
use Rattle.om_world.specs.declared.event.Event.{Event}
use Rattle.om_commands.specs.Command.{IsScript}
use Rattle.om_commands.specs.Sim.{IsBegun, IsErrorOfSim, IsPlayed, IsSim, IsSimAnswer, PlayedLines}
use Rattle.om_commands.specs.SimScript.{EventScript, event_script_line, no_events}
use Rattle.om_commands.specs.SimText.{end_text}
use Rattle.om_commands.specs.steps.Parts.{ArePlayed}
use Rattle.om_commands.specs.steps.Lines.{bytes_at}
use Rattle.om_commands.specs.declared.bytes_text.BytesForm.{BytesForm}
use Rattle.om_commands.specs.declared.error.CommandError.{CommandError}
use Rattle.om_commands.specs.declared.error.CommandError.TheVariants.{EmptyScript, NoMemory}

-- the bytes of an output at its place
pub held-bytes : (outputs : List Output) (number : ℕ) (o : Output) (bytes : List ℕ) → number < length outputs
    → bytes ≡ (get_or outputs number o).bytes → bytes ≡ bytes_at (map held_of outputs) number
held-bytes outputs number o bytes lt same =
    same
    ∙ ap (λ held. held.bytes) (sym (get_or-map held_of outputs number o (record { interval = 0; bytes = [] }) lt))

both : (a b : Bool) → (a && b) ≡ true → (a ≡ true) × (b ≡ true)
both true b h = (refl, h)
both false b h = cc

is_size : (size : ℕ) → is_memory_size size ≡ true → IsMemorySize size
is_size size h =
    let outer = both (nat_le 4 size && nat_le size 65536) (size % 4 == 0) h in
    let inner = both (nat_le 4 size) (nat_le size 65536) outer.0 in
    record {
      least = leb-true 4 size inner.0;
      greatest = leb-true size 65536 inner.1;
      in_words = eqb-true (size % 4) 0 outer.1;
    }

not_less : (a b : ℕ) → a ≤ b → b < a → ⊥
not_less a b le lt = omega (arith, le, lt)

none_there : {A : Type 0} (o : Option A) → o ≡ None → IsSome o → ⊥
none_there None is some = cc
none_there (Some x) is some = absurd (none-some x (sym is))

not_risen : Rose 0 0 → ⊥
not_risen rose = ⊎_elim (λ lt. not_less 0 0 (omega arith) lt) (λ last. let no = last.0 in omega (arith, no)) rose

by_why : (fault : StartFault) (program : Program) (before after : Content) → IsProgram program → IsEmpty before
    → IsWhy (λ s. s) (λ _. 0) (λ _. true) (λ _. Unit {0}) program fault before after → fault ≡ Memory
by_why BadPlace program before after right empty why = absurd why
by_why BadSize program before after right empty why = absurd (why (is_size program.size right.size))
by_why ImageTooLong program before after right empty why = absurd (not_less (length program.image) program.size right.fits why.1)
by_why Present program before after right empty why =
    absurd (none_there (get before.checkpoints 0) (ap (λ held. get held.checkpoints 0) empty ∙ get-empty nat_cmp 0) (why (refl, tt)))
by_why Fault program before after right empty why = absurd (not_risen why)
by_why Memory program before after right empty why = refl

-- no other fault than want of memory
pub only_memory : (programs : List Program) (stores : List Content) (fault : StartFault) → All IsProgram programs → All IsEmpty stores
    → (fault ≡ Memory) ⊎ IsRefusedAt (λ s. s) (λ _. 0) (λ _. true) (λ _. Unit {0}) programs stores fault → fault ≡ Memory
only_memory programs stores fault sizes empty told = ⊎_elim (λ is. is)
    (λ r. by_why fault r.program r.store r.after
    (all_at IsProgram programs r.place r.program sizes r.is_program) (all_at IsEmpty stores r.place r.store empty r.is_store) r.why)
    told

-- stores in memory are what they hold
pub all_same : (stores : List Content) → All IsEmpty stores → All IsEmpty (map (λ s. s) stores)
all_same stores all = All-map IsEmpty (λ s. s) stores all

-- a script is told by what its events give
pub is_played : (form : BytesForm) (script : EventScript) (cluster : Cluster) (begun end : WorldState) (events : List Event) (n : ℕ) (first now text : List ℕ)
    → cluster ≡ script.cluster → events ≡ script.events → n ≡ length cluster.processes → first ≡ [] → ArePlayed begun events end first now → IsKnown end
    → text ≡ now ++ end_text form cluster n end → IsPlayed form script begun text
is_played form script cluster begun end events n first now text same_cluster same_events number none played known written = (
  end,
  played.answers,
  played.lines,
  subst (λ es. PlayedLines begun es played.answers end played.lines) same_events played.played,
  known,
  played.faultless,
  written
      ∙ ap (λ t. t ++ end_text form cluster n end) (played.written ∙ ap (λ f. f ++ played.lines) none)
      ∙ ap (λ k. played.lines ++ end_text form cluster k end) number
      ∙ ap (λ c. played.lines ++ end_text form c (length c.processes) end) same_cluster,
)

-- a script is answered by what is played from the start of its world
pub is_answer : (form : BytesForm) (script : EventScript) (cluster : Cluster) (begun : WorldState) (text : List ℕ) → cluster ≡ script.cluster
    → IsBegun (programs_of cluster) begun → IsPlayed form script begun text → IsSimAnswer form script text
is_answer form script cluster begun text same is_begun played =
    (begun, subst (λ c. IsBegun (programs_of c) begun) same is_begun, played)

-- the answer to a script is that to the bytes that it is read from
pub text_of_answer : {A : Type 0} (form : BytesForm) (spelled : A → List ℕ) (remaining : Option (List ℕ)) (start script : EventScript) (r : Result A CommandError)
    → start ≡ no_events → IfSome remaining (λ bytes. IsScript event_script_line start bytes script)
    → IfOk r (λ text. IsSimAnswer form script (spelled text)) → IfSome remaining (λ bytes. IfOk r (λ text. IsSim form bytes (spelled text)))
text_of_answer form spelled None start script r is read answer = tt
text_of_answer form spelled (Some bytes) start script (Ok text) is read answer =
    record { script = script; is_script = subst (λ s. IsScript event_script_line s bytes script) is read; answer = answer }
text_of_answer form spelled (Some bytes) start script (Err e) is read answer = tt

-- the error of a script is that of the bytes that it is read from
of_script : (bytes : List ℕ) (script : EventScript) (error : CommandError) → IsScript event_script_line no_events bytes script
    → (error ≡ NoMemory) ⊎ ((error ≡ EmptyScript) × (length script.cluster.processes ≡ 0)) → IsErrorOfSim bytes error
of_script bytes script error read told = ⊎_elim
    (λ memory. subst (IsErrorOfSim bytes) (sym memory) tt)
    (λ none. subst (IsErrorOfSim bytes) (sym none.0) (script, read, none.1))
    told

pub error_of_answer : {A : Type 0} (remaining : Option (List ℕ)) (start script : EventScript) (r : Result A CommandError) → start ≡ no_events
    → IfSome remaining (λ bytes. IsScript event_script_line start bytes script)
    → IfErr r (λ error. (error ≡ NoMemory) ⊎ ((error ≡ EmptyScript) × (length script.cluster.processes ≡ 0)))
    → IfSome remaining (λ bytes. IfErr r (IsErrorOfSim bytes))
error_of_answer None start script r is read error = tt
error_of_answer (Some bytes) start script (Ok x) is read error = tt
error_of_answer (Some bytes) start script (Err e) is read error =
    of_script bytes script e (subst (λ s. IsScript event_script_line s bytes script) is read) error
