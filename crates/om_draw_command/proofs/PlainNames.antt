-- The names of a script that was read need no escape.
use Rattle.std.proofs.Common.{◌≡◌, ◌+◌, ◌*◌, ◌&&◌, ◌||◌, ℕ, Bool, true, false, not, List, [], ◌∷◌, ◌++◌, Result, Ok, Err, IfOk, is_some, length, map, nat_le, nat_lt, refl, sym, subst, ◌∙◌, if◌then◌else◌, codes}
use Rattle.std.specs.List.{list_all}
use Rattle.std.specs.Str.{bytes_eq}
use Rattle.om_interval.specs.declared.pid.TheConstants.{MAX_PROCESSES}
use Rattle.om_isa.specs.declared.ext.Ext.{Ext}
use Rattle.om_isa.specs.declared.ext.Ext.TheVariants.{I, Im}
use Rattle.om_isa.specs.Memory.{is_memory_size}
use Rattle.std.specs.Str.Lines.{lines as lines_in}
use Rattle.om_text.specs.Numbers.{number_of, hex_word}
use Rattle.std.specs.Option.{ok_or}
use Rattle.std.specs.Result.{result_map_both}
use Rattle.om_text.specs.Reading.{◌>>=◌, refused, all_read}
use Rattle.om_text.specs.Script.{numbered, script_from}
use Rattle.om_text.specs.Words.{words_of}
use Rattle.om_text.proofs.FirstFaulty.{script-cons}
use Rattle.om_text.specs.declared.error.LineError.{LineError}
use Rattle.om_text.specs.declared.error.ScriptError.{ScriptError}
use Rattle.om_text.specs.declared.error.LineError.TheVariants.{BadNumber, BadName, NameTaken, NoSuchName, OutOfPlace, TooMany, BadSize, ImageTooLong, BadWord}
use Rattle.om_scripts.specs.Named.{is_name, place_of}
use Rattle.om_scripts.specs.Programs.{Cluster, process_line, program_in, program_line}
use Rattle.om_world.specs.declared.event.Event.{Event}
use Rattle.om_svg.specs.Plain.{HasPlainNames, is_plain_text}
use Rattle.om_svg.proofs.PlainLemmas.{plain-name}
use Rattle.om_commands.specs.Command.{IsScript}
use Rattle.om_commands.specs.Events.{event_line}
use Rattle.om_commands.specs.SimScript.{EventScript, event_script_line, no_events, with_event}

both : (a b : Bool) → a ≡ true → b ≡ true → (a && b) ≡ true
both a b p q = rw p q

parts : (a b : Bool) → (a && b) ≡ true → (a ≡ true) × (b ≡ true)
parts true b p = (refl, p)
parts false b p = cc

one_more : {B : Type 0} (es : List (List ℕ × B)) (name : List ℕ) (value : B) → list_all (λ e. is_plain_text e.0) es ≡ true
    → is_plain_text name ≡ true
    → list_all (λ e. is_plain_text e.0) (es ++ (name, value) ∷ []) ≡ true
one_more [] name value all plain = both (is_plain_text name) true plain refl
one_more (e ∷ es) name value all plain =
    let rest = parts (is_plain_text e.0) (list_all (λ e. is_plain_text e.0) es) all in
    both (is_plain_text e.0) (list_all (λ e. is_plain_text e.0) (es ++ (name, value) ∷ [])) rest.0 (one_more es name value rest.1 plain)

-- a cluster that two tests let pass
unless_refused : (cluster : Cluster) (a b : Bool) (e f : LineError) → HasPlainNames cluster
    → IfOk (refused a e >>= λ _. refused b f >>= λ _. Ok cluster) HasPlainNames
unless_refused cluster true b e f plain = tt
unless_refused cluster false true e f plain = tt
unless_refused cluster false false e f plain = plain

program_kept : (ext : Ext) (cluster : Cluster) (name : List ℕ) (size : Result ℕ LineError) (words : Result (List ℕ) LineError)
    (named taken closed : Bool)
    → is_name name ≡ named → HasPlainNames cluster
    → IfOk (size >>= λ bytes. words >>= λ image. refused (not named) BadName >>= λ _. refused taken NameTaken >>= λ _.
    refused closed OutOfPlace >>= λ _.
    refused (not (is_memory_size bytes)) BadSize >>= λ _. refused (nat_lt bytes (4 * length image)) ImageTooLong >>= λ _.
    Ok (record cluster { programs = cluster.programs ++ (name, program_in ext bytes image) ∷ [] })) HasPlainNames
program_kept ext cluster name (Err e) words named taken closed is plain = tt
program_kept ext cluster name (Ok bytes) (Err e) named taken closed is plain = tt
program_kept ext cluster name (Ok bytes) (Ok image) false taken closed is plain = tt
program_kept ext cluster name (Ok bytes) (Ok image) true true closed is plain = tt
program_kept ext cluster name (Ok bytes) (Ok image) true false true is plain = tt
program_kept ext cluster name (Ok bytes) (Ok image) true false false is plain =
    unless_refused (record cluster { programs = cluster.programs ++ (name, program_in ext bytes image) ∷ [] }) (not (is_memory_size bytes))
    (nat_lt bytes (4 * length image)) BadSize ImageTooLong
    (record {
      processes = plain.processes;
      programs =
          one_more cluster.programs name (program_in ext bytes image) plain.programs (plain-name name is);
    })

program_line_kept : (ext : Ext) (cluster : Cluster) (words : List (List ℕ)) → HasPlainNames cluster
    → IfOk (program_line ext cluster words) HasPlainNames
program_line_kept ext cluster [] plain = tt
program_line_kept ext cluster (name ∷ []) plain = tt
program_line_kept ext cluster (name ∷ size ∷ words) plain =
    program_kept ext cluster name (ok_or (number_of size) BadNumber) (all_read hex_word BadWord words) (is_name name)
    (is_some (place_of name cluster.programs))
    cluster.is_closed refl plain

process_kept : (cluster : Cluster) (name : List ℕ) (named known taken : Bool) (place : Result ℕ LineError) → is_name name ≡ named
    → HasPlainNames cluster
    → IfOk (refused (not named || not known) BadName >>= λ _. refused taken NameTaken >>= λ _. place >>= λ p.
    refused cluster.is_closed OutOfPlace >>= λ _.
    refused (nat_le MAX_PROCESSES (length cluster.processes)) TooMany >>= λ _.
    Ok (record cluster { processes = cluster.processes ++ (name, p) ∷ [] })) HasPlainNames
process_kept cluster name false known taken place is plain = tt
process_kept cluster name true false taken place is plain = tt
process_kept cluster name true true true place is plain = tt
process_kept cluster name true true false (Err e) is plain = tt
process_kept cluster name true true false (Ok p) is plain =
    unless_refused (record cluster {
      processes =
          cluster.processes ++ (name, p) ∷ [];
    }) cluster.is_closed (nat_le MAX_PROCESSES (length cluster.processes))
    OutOfPlace TooMany
    (record { processes = one_more cluster.processes name p plain.processes (plain-name name is); programs = plain.programs })

process_line_kept : (cluster : Cluster) (words : List (List ℕ)) → HasPlainNames cluster → IfOk (process_line cluster words) HasPlainNames
process_line_kept cluster [] plain = tt
process_line_kept cluster (name ∷ []) plain = tt
process_line_kept cluster (name ∷ program ∷ []) plain =
    process_kept cluster name (is_name name) (is_name program) (is_some (place_of name cluster.processes))
    (ok_or (place_of program cluster.programs) NoSuchName) refl plain
process_line_kept cluster (name ∷ program ∷ word ∷ words) plain = tt

-- a line of a script

abbrev cluster_line : EventScript → Result Cluster LineError → Result EventScript LineError
cluster_line script read = read >>= λ cluster. Ok (record script { cluster = cluster })

cluster_kept : (script : EventScript) (read : Result Cluster LineError) → IfOk read HasPlainNames
    → IfOk (cluster_line script read) (λ next. HasPlainNames next.cluster)
cluster_kept script (Ok cluster) plain = plain
cluster_kept script (Err e) plain = tt

event_kept : (script : EventScript) (read : Result Event LineError) → HasPlainNames script.cluster
    → IfOk (read >>= λ event. Ok (with_event script event)) (λ next. HasPlainNames next.cluster)
event_kept script (Ok event) plain = record { processes = plain.processes; programs = plain.programs }
event_kept script (Err e) plain = tt

by_word : (a b c : Bool) (w x y z : Result EventScript LineError) → IfOk w (λ next. HasPlainNames next.cluster)
    → IfOk x (λ next. HasPlainNames next.cluster)
    → IfOk y (λ next. HasPlainNames next.cluster) → IfOk z (λ next. HasPlainNames next.cluster)
    → IfOk (if a then w else (if b then x else (if c then y else z))) (λ next. HasPlainNames next.cluster)
by_word true b c w x y z p q r s = p
by_word false true c w x y z p q r s = q
by_word false false true w x y z p q r s = r
by_word false false false w x y z p q r s = s

line_kept : (script : EventScript) (words : List (List ℕ)) → HasPlainNames script.cluster
    → IfOk (event_script_line script words) (λ next. HasPlainNames next.cluster)
line_kept script [] plain = tt
line_kept script (first ∷ words) plain =
    by_word (bytes_eq first (codes "program")) (bytes_eq first (codes "program-m")) (bytes_eq first (codes "proc"))
    (cluster_line script (program_line I script.cluster words)) (cluster_line script (program_line Im script.cluster words))
    (cluster_line script (process_line script.cluster words)) (event_line first words >>= λ event. Ok (with_event script event))
    (cluster_kept script (program_line I script.cluster words) (program_line_kept I script.cluster words plain))
    (cluster_kept script (program_line Im script.cluster words) (program_line_kept Im script.cluster words plain))
    (cluster_kept script (process_line script.cluster words) (process_line_kept script.cluster words plain))
    (event_kept script (event_line first words) plain)

-- and of all its lines

abbrev told : ℕ → Result EventScript LineError → Result EventScript ScriptError
told number read = result_map_both (λ next. next) (λ error. record { line = number; error = error }) read

passed : (number : ℕ) (end : EventScript) (lines : List (ℕ × List (List ℕ))) (next : Result EventScript LineError)
    → ((s : EventScript) → HasPlainNames s.cluster → script_from event_script_line s lines ≡ Ok end → HasPlainNames end.cluster)
    → IfOk next (λ s. HasPlainNames s.cluster)
    → (told number next >>= λ s. script_from event_script_line s lines) ≡ Ok end
    → HasPlainNames end.cluster
passed number end lines (Ok s) rest kept read = rest s kept read
passed number end lines (Err e) rest kept read = cc

lines_kept : (lines : List (ℕ × List (List ℕ))) (script end : EventScript) → HasPlainNames script.cluster
    → script_from event_script_line script lines ≡ Ok end → HasPlainNames end.cluster
lines_kept [] script end plain read =
    let same : script ≡ end = cc in
    subst (λ (s : EventScript). HasPlainNames s.cluster) same plain
lines_kept (line ∷ lines) script end plain read =
    passed line.0 end lines (event_script_line script line.1)
    (λ (s : EventScript) (p : HasPlainNames s.cluster) (r : script_from event_script_line s lines ≡ Ok end). lines_kept lines s end p r)
    (line_kept script line.1 plain) (sym (script-cons event_script_line script line lines) ∙ read)

no_names : HasPlainNames no_events.cluster
no_names = record { processes = refl; programs = refl }

-- the names of a script
pub names_are_plain : (bytes : List ℕ) (script : EventScript) → IsScript event_script_line no_events bytes script → HasPlainNames script.cluster
names_are_plain bytes script is = lines_kept (numbered 1 (map words_of (lines_in bytes))) no_events script no_names is.read
