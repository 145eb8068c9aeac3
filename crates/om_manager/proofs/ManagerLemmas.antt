use Rattle.std.proofs.Common.{◌≡◌, ◌≢◌, ℕ, ◌+◌, ◌-◌, ◌*◌, ◌^◌, ◌<◌, ◌≤◌, ◌⊎◌, inl, inr, refl, sym, ◌∙◌, ap, subst, arith, Bool, true, false, List, [], ◌∷◌, ◌++◌, length, map, All, get_or, sum, slice_index, slice_index_or, slice_set, replicate, Option, None, Some, zero, suc, nat_le, IsTrue, ◌↔◌, true≢false, Result, Ok, Err, slice_get, take}
use Rattle.std.specs.Prelude.{OnOk, OnErr, IfErr}
use Rattle.std.proofs.lemmas.List.Kept.{AllPairs-filter}
use Rattle.std.proofs.lemmas.Bool.{cases_order}
use Rattle.std.proofs.lemmas.List.{get_or_default, get_or_append_left, get_or_push, length_push, length-map, length-set, map-set, get_or-set_same, get_or-set_other, length-replicate, get_or-replicate, set-get_or, same_lists}
use Rattle.std.proofs.lemmas.List.Sums.{sum_by-le}
use Rattle.std.proofs.lemmas.List.Quantifiers.{all_pairs_push}
use Rattle.std.proofs.Math.Seq.{map-set_same}
use Rattle.om_interval.specs.Vectors.{IsBelow}
use Rattle.om_interval.specs.Starts.{AreStarts, starts_of, newest_of, is_named, MayBegin, BeginIncarnations}
use Rattle.om_interval.specs.declared.pid.TheConstants.{MAX_PROCESSES}
use Rattle.om_recover.specs.Records.{Kept, IsSound}
use Rattle.om_recover.proofs.LawLemmas.{unique_greatest}
use Rattle.om_recover.proofs.StableLemmas.{record_of_stable}
use Rattle.om_interval.proofs.VectorLemmas.{sum_falls, below_through, below_itself}
use Rattle.om_manager.specs.Outputs.{HeldOutput, AreRising, within}
use Rattle.om_manager.proofs.LogLemmas.{within_begins, within_higher, within_within, within_push, same_begins}
use mathlib.Core.List.{IsPrefix}
use Rattle.std.specs.Option.{is_some}
use Rattle.om_manager.specs.Rounds.{Finishes}
use Rattle.om_manager.specs.steps.OutputLog.{LogState, log_with, log_within, IsUpTo, MayPush, Clashes, LogNotes}
use Rattle.om_manager.specs.State.{ManagerState, held_by, open_count, process_count, released_by}
use Rattle.om_recover.specs.Rows.{Rows}
use Rattle.om_recover.specs.Offered.{AreOffered, AreOfferedUpTo, offered, TellsChange}
use Rattle.om_recover.proofs.FreshLemmas.{process_at}
use Rattle.om_recover.specs.declared.row.Row.{Row}
use Rattle.om_recover.specs.declared.note.Note.{Note}
use Rattle.om_recover.specs.declared.note.Note.TheVariants.{Noted, Known}
use Rattle.om_recover.specs.declared.note.NoteError.{NoteError}
use Rattle.om_recover.specs.declared.note.NoteError.TheVariants as fault
use Rattle.om_manager.specs.declared.answers.RecordError.{RecordError}
use Rattle.om_manager.specs.declared.answers.RecordError.TheVariants.{Refused, Stale}
use Rattle.om_manager.specs.Notes.{Notes, NotesUpTo, after_note, IsCurrent, IsNext, IsDifferent, NotesOutput, refused_as, with_output}
use Rattle.om_manager.specs.steps.Offers.{Offer}
use Rattle.om_manager.specs.declared.answers.OutputNote.{OutputNote}
use Rattle.om_manager.specs.declared.answers.OutputNote.TheVariants as kept
use Rattle.om_manager.specs.declared.answers.OutputError.{OutputError}
use Rattle.om_manager.specs.declared.answers.OutputError.TheVariants as refused
use Rattle.om_manager.specs.Sound.{AreBegun, AreRounds, IsLast, IsManager, KeepsReleased}
use Rattle.om_manager.specs.steps.Parts.{AreParts}
use Rattle.om_manager.specs.declared.presence.Presence.{Presence}

-- each place of the recovery state is a number of 32 bits
pub numbered_place : (kept : Kept) → IsSound kept → (p : ℕ) → p < length kept.state → slice_index kept.state p < 2 ^ 32
numbered_place kept sound p below =
    let has = (record_of_stable kept.rows p (slice_index kept.state p) (sound.greatest.recoverable.stable p below)).1 in
    omega (arith, sound.lawful.numbered has.row has.there, has.interval_is)

pub one_open : (gathering : Option (List Presence)) → open_count gathering ≤ 1
one_open None = omega arith
one_open (Some presences) = omega arith

pub none_open : (gathering : Option (List Presence)) → is_some gathering ≡ false → open_count gathering ≡ 0
none_open None closed = refl
none_open (Some presences) closed = absurd (cc)

-- the version never reaches the end of its 64 bits
pub room_for_version : (kept : Kept) (round : ℕ) (gathering : Option (List Presence)) (version : ℕ) → IsSound kept → length kept.state ≤ MAX_PROCESSES → AreRounds kept.state round gathering version → version + 1 < 18446744073709551616
room_for_version kept round gathering version sound few rounds =
    let all : All (λ (x : ℕ). x ≤ 4294967295) kept.state = λ k d below.
    let small = numbered_place kept sound k below in
    let same : get_or kept.state k d ≡ slice_index kept.state k = get_or_default kept.state k d 0 below in omega arith in
    let bound : sum kept.state ≤ length kept.state * 4294967295 = sum_by-le (λ (x : ℕ). x) 4294967295 kept.state all in
    let most = one_open gathering in
    let sixteen : length kept.state ≤ 16 = few in
    omega (arith, rounds.numbered, rounds.bounded)

-- a higher recovery state has room for one version more
pub rounds_raised : (old new : List ℕ) (round : ℕ) (gathering : Option (List Presence)) (version : ℕ) → AreRounds old round gathering version → IsBelow old new → old ≢ new → AreRounds new round gathering (version + 1)
rounds_raised old new round gathering version rounds below raised = record {
  numbered = rounds.numbered;
  room = rounds.room;
  bounded = omega (arith, rounds.bounded, sum_falls old new below raised);
}

pub begun_raised : (starts : List (List ℕ)) (old new : List ℕ) (round : ℕ) → AreBegun starts old round → IsBelow old new → AreBegun starts new round
begun_raised starts old new round begun below = record {
  places = begun.places ∙ below.same_places;
  lawful = λ p here. begun.lawful p (omega (arith, here, below.same_places));
  within = λ p inc here there.
      let in_old : p < length old = omega (arith, here, below.same_places) in
      omega (arith, begun.within p inc in_old there, below.each p in_old);
  few = λ p here. begun.few p (omega (arith, here, below.same_places));
}

-- the parts after a note that left the recovery state
pub parts_level : (kept after : Kept) (logs : List LogState) (starts : List (List ℕ)) (round : ℕ) (gathering : Option (List Presence)) (last : List ℕ) (backs : List Bool) (version : ℕ)
    → AreParts kept logs starts round gathering last backs version → IsSound after → kept.state ≡ after.state → AreParts after logs starts round gathering last backs version
parts_level kept after logs starts round gathering last backs version parts sound same = record {
  some = subst (λ (s : List ℕ). 0 < length s) same parts.some;
  few = subst (λ (s : List ℕ). length s ≤ MAX_PROCESSES) same parts.few;
  records = sound;
  limits = parts.limits ∙ same;
  rising = parts.rising;
  begun = subst (λ (s : List ℕ). AreBegun starts s round) same parts.begun;
  rounds = subst (λ (s : List ℕ). AreRounds s round gathering version) same parts.rounds;
  last = subst (λ (s : List ℕ). IsLast s round last backs) same parts.last;
}

-- the parts after a note that raised the recovery state
pub parts_raised : (kept after : Kept) (logs new : List LogState) (starts : List (List ℕ)) (round : ℕ) (gathering : Option (List Presence)) (last : List ℕ) (backs : List Bool) (version : ℕ)
    → AreParts kept logs starts round gathering last backs version → IsSound after → IsBelow kept.state after.state → kept.state ≢ after.state
    → map (λ (log : LogState). log.held) new ≡ map (λ (log : LogState). log.held) logs → map (λ (log : LogState). log.limit) new ≡ after.state → AreParts after new starts round gathering last backs (version + 1)
parts_raised kept after logs new starts round gathering last backs version parts sound below raised held limits = record {
  some = omega (arith, parts.some, below.same_places);
  few = omega (arith, parts.few, below.same_places);
  records = sound;
  limits = limits;
  rising = λ p. subst (λ (all : List (List HeldOutput)). AreRising (slice_index_or all p [])) (sym held) (parts.rising p);
  begun = begun_raised starts kept.state after.state round parts.begun below;
  rounds = rounds_raised kept.state after.state round gathering version parts.rounds below raised;
  last = record {
    below = below_through last kept.state after.state parts.last.below below;
    no_state = λ none. parts.last.no_state none ∙ ap (λ n. replicate n 0) below.same_places;
    no_backs = parts.last.no_backs;
  };
}

-- the manager that has these parts
abbrev pub made_of : Kept → List LogState → List (List ℕ) → ℕ → Option (List Presence) → List ℕ → List Bool → ℕ → ManagerState
made_of kept logs starts round gathering last backs version = record { rows = kept.rows; recovery = kept.state; outputs = map (λ (log : LogState). log.held) logs; starts = starts; round = round; gathering = gathering; last = last; backs = backs; version = version }

-- the parts where a gathering is open, and the version has told that it opened
pub parts_gathering : (kept : Kept) (logs : List LogState) (starts : List (List ℕ)) (round : ℕ) (gathering : Option (List Presence)) (last : List ℕ) (backs : List Bool) (version told : ℕ) (presences : List Presence)
    → AreParts kept logs starts round gathering last backs version → round + 1 < 2 ^ 32 → told ≤ version + 1 - open_count gathering → AreParts kept logs starts round (Some presences) last backs told
parts_gathering kept logs starts round gathering last backs version told presences parts room bound = record {
  some = parts.some;
  few = parts.few;
  records = parts.records;
  limits = parts.limits;
  rising = parts.rising;
  begun = parts.begun;
  rounds = record { numbered = parts.rounds.numbered; room = room; bounded = let most = one_open gathering in omega (arith, parts.rounds.bounded) };
  last = parts.last;
}

-- what the parts say of the whole
pub whole : (kept : Kept) (logs : List LogState) (starts : List (List ℕ)) (round : ℕ) (gathering : Option (List Presence)) (last : List ℕ) (backs : List Bool) (version : ℕ) → AreParts kept logs starts round gathering last backs version
    → IsManager (made_of kept logs starts round gathering last backs version)
whole kept logs starts round gathering last backs version parts = record {
  some = parts.some;
  few = parts.few;
  lawful = parts.records.lawful;
  exact = record {
    greatest = parts.records.greatest;
    released = λ state other p below. ap (λ s. within (held_by (made_of kept logs starts round gathering last backs version) p) (slice_index s p)) (unique_greatest _ _ _ _ parts.records.greatest other);
  };
  places = length-map logs (λ (log : LogState). log.held) ∙ sym (length-map logs (λ (log : LogState). log.limit)) ∙ ap length parts.limits;
  rising = λ p below. parts.rising p;
  released = λ p below. within_begins _ _ (parts.rising p);
  begun = parts.begun;
  rounds = parts.rounds;
  last = parts.last;
}

-- the starts with one more, which is not below the last
starts_more : (starts : List ℕ) (start : ℕ) → AreStarts starts → slice_index starts (length starts - 1) ≤ start → length starts < 2 ^ 32 → AreStarts (starts ++ start ∷ [])
starts_more starts start lawful last room =
    let many : length (starts ++ start ∷ []) ≡ length starts + 1 = length_push starts start in
    record {
      some = omega arith;
      first = get_or_append_left starts (start ∷ []) 0 0 lawful.some ∙ lawful.first;
      rising = λ inc below.
          let before : slice_index (starts ++ start ∷ []) inc ≡ slice_index starts inc = get_or_append_left starts (start ∷ []) 0 inc (omega arith) in
          elim (cases_order (inc + 1) (length starts)) [
            | inl same ↦
                let newest : slice_index starts inc ≡ slice_index starts (length starts - 1) = ap (slice_index starts) (omega arith) in
                omega (arith, before, newest, last, get_or_push starts start 0 (inc + 1) (sym same))
            | inr apart ↦ elim apart [
              | inl inside ↦ omega (arith, before, lawful.rising inc inside, get_or_append_left starts (start ∷ []) 0 (inc + 1) inside)
              | inr past ↦ absurd (omega arith)
            ]
          ];
      numbered = omega arith;
    }

-- the starts of one process after a round
record AreStartsAfter (starts : List ℕ) (place round : ℕ) : Type 0 where
  pub lawful : AreStarts starts
  pub within : (inc : ℕ) → inc < length starts → slice_index starts inc ≤ place + 1
  pub few : length starts ≤ round + 1 + 1

starts_after : (starts : List ℕ) (place round : ℕ) → AreStarts starts → ((inc : ℕ) → inc < length starts → slice_index starts inc ≤ place + 1) → length starts ≤ round + 1 → round + 1 < 2 ^ 32
    → AreStartsAfter (starts ++ (place + 1) ∷ []) place round
starts_after starts place round lawful within few room =
    let many : length (starts ++ (place + 1) ∷ []) ≡ length starts + 1 = length_push starts (place + 1) in
    record {
      lawful = starts_more starts (place + 1) lawful (within (length starts - 1) (let some = lawful.some in omega arith)) (omega arith);
      within = λ inc below. elim (cases_order inc (length starts)) [
        | inl same ↦ omega (arith, get_or_push starts (place + 1) 0 inc (sym same))
        | inr apart ↦ elim apart [
          | inl inside ↦ omega (arith, get_or_append_left starts ((place + 1) ∷ []) 0 inc inside, within inc inside)
          | inr past ↦ absurd (omega arith)
        ]
      ];
      few = omega arith;
    }

-- the incarnations after a round
pub begun_after : (who : List Bool) (state : List ℕ) (old new : List (List ℕ)) (round : ℕ) → AreBegun old state round → BeginIncarnations who state old new → round + 1 < 2 ^ 32 → AreBegun new state (round + 1)
begun_after who state old new round begun begin room = record {
  places = begin.processes ∙ begun.places;
  lawful = λ p here. (each p here).lawful;
  within = λ p inc here below. (each p here).within inc below;
  few = λ p here. (each p here).few;
}
  where
    each : (p : ℕ) → p < length state → AreStartsAfter (starts_of new p) (slice_index state p) round
    each p here =
        let there : p < length old = omega (arith, here, begun.places) in
        elim (is_named who p) as (λ b. is_named who p ≡ b → AreStartsAfter (starts_of new p) (slice_index state p) round) [
          | true ↦ λ named. subst (λ (s : List ℕ). AreStartsAfter s (slice_index state p) round) (sym (begin.named p there named))
              (starts_after (starts_of old p) (slice_index state p) round (begun.lawful p here) (λ inc below. begun.within p inc here below) (begun.few p here) room)
          | false ↦ λ other. subst (λ (s : List ℕ). AreStartsAfter s (slice_index state p) round) (sym (begin.others p there other))
              (record { lawful = begun.lawful p here; within = λ inc below. begun.within p inc here below; few = omega (arith, begun.few p here) })
        ] refl

-- what began may begin again
pub may_begin : (who : List Bool) (state : List ℕ) (starts : List (List ℕ)) (round : ℕ) → AreBegun starts state round → round + 1 < 2 ^ 32 → MayBegin who state starts
may_begin who state starts round begun room = record {
  processes = sym begun.places;
  rising = λ p here _.
      let in_state : p < length state = omega (arith, here, begun.places) in
      begun.within p (newest_of starts p) in_state (let some = (begun.lawful p in_state).some in omega arith);
  numbered = λ p here _. let few = begun.few p (omega (arith, here, begun.places)) in omega arith;
}

pub get_or-map : {X Y : Type 0} (f : X → Y) (xs : List X) (k : ℕ) (d : Y) (e : X) → k < length xs → get_or (map f xs) k d ≡ f (get_or xs k e)
get_or-map f [] k d e below = absurd (omega arith)
get_or-map f (x ∷ xs) zero d e below = refl
get_or-map f (x ∷ xs) (suc k) d e below = get_or-map f xs k d e (omega arith)

-- logs of which the first p have the limits of the state, and the others their own
pub record AreRaised (old logs : List LogState) (state : List ℕ) (p : ℕ) : Type 0 where
  pub places : length logs ≡ length old
  pub held : map (λ (log : LogState). log.held) logs ≡ map (λ (log : LogState). log.held) old
  pub done : (q : ℕ) → q < p → slice_index (map (λ (log : LogState). log.limit) logs) q ≡ slice_index state q
  pub rest : (q : ℕ) → p ≤ q → slice_index (map (λ (log : LogState). log.limit) logs) q ≡ slice_index (map (λ (log : LogState). log.limit) old) q

pub may_raise : (old logs : List LogState) (state : List ℕ) (p : ℕ) (log : LogState) → IsBelow (map (λ (log : LogState). log.limit) old) state → AreRaised old logs state p
    → p < length state → log ≡ get_or logs p log → log.limit ≤ slice_index state p
may_raise old logs state p log below raised here is =
    let many : length (map (λ (log : LogState). log.limit) old) ≡ length old = length-map old (λ (log : LogState). log.limit) in
    let inside : p < length logs = omega (arith, raised.places, below.same_places) in
    omega (arith, raised.rest p (omega arith), below.each p (omega (arith, below.same_places)), get_or-map (λ (log : LogState). log.limit) logs p 0 log inside, ap (λ (log : LogState). log.limit) is)

pub raised_more : (old logs new : List LogState) (state : List ℕ) (p : ℕ) (log : LogState) → AreRaised old logs state p → p < length logs → log ≡ get_or logs p log
    → new ≡ slice_set logs p (record { held = log.held; limit = slice_index state p }) → AreRaised old new state (p + 1)
raised_more old logs new state p log raised inside is new_is =
    let limits : map (λ (log : LogState). log.limit) new ≡ slice_set (map (λ (log : LogState). log.limit) logs) p (slice_index state p) =
    ap (map (λ (log : LogState). log.limit)) new_is ∙ map-set (λ (log : LogState). log.limit) logs p (record { held = log.held; limit = slice_index state p }) in
    let many : length (map (λ (log : LogState). log.limit) logs) ≡ length logs = length-map logs (λ (log : LogState). log.limit) in
    record {
      places = ap length new_is ∙ length-set logs p _ ∙ raised.places;
      held = ap (map (λ (log : LogState). log.held)) new_is ∙ map-set_same (λ (log : LogState). log.held) logs p _ log (ap (λ (log : LogState). log.held) is) ∙ raised.held;
      done = λ q before. elim (cases_order q p) [
        | inl same ↦ ap (λ all. slice_index all q) limits ∙ ap (slice_index (slice_set (map (λ (log : LogState). log.limit) logs) p (slice_index state p))) same
            ∙ get_or-set_same (map (λ (log : LogState). log.limit) logs) p (slice_index state p) 0 (omega arith) ∙ ap (slice_index state) (sym same)
        | inr apart ↦ elim apart [
          | inl below ↦ ap (λ all. slice_index all q) limits ∙ get_or-set_other (map (λ (log : LogState). log.limit) logs) p q (slice_index state p) 0 (λ e. omega arith) ∙ raised.done q below
          | inr past ↦ absurd (omega arith)
        ]
      ];
      rest = λ q past. ap (λ all. slice_index all q) limits ∙ get_or-set_other (map (λ (log : LogState). log.limit) logs) p q (slice_index state p) 0 (λ e. omega arith) ∙ raised.rest q (omega arith);
    }

pub raised_all : (old logs : List LogState) (state : List ℕ) (p : ℕ) → IsBelow (map (λ (log : LogState). log.limit) old) state → AreRaised old logs state p → length state ≤ p → map (λ (log : LogState). log.limit) logs ≡ state
raised_all old logs state p below raised whole_state =
    let many : length (map (λ (log : LogState). log.limit) logs) ≡ length logs = length-map logs (λ (log : LogState). log.limit) in
    let many_old : length (map (λ (log : LogState). log.limit) old) ≡ length old = length-map old (λ (log : LogState). log.limit) in
    let as_long : length (map (λ (log : LogState). log.limit) logs) ≡ length state = omega (arith, raised.places, below.same_places) in
    same_lists (map (λ (log : LogState). log.limit) logs) state as_long (λ k d inside.
    get_or_default (map (λ (log : LogState). log.limit) logs) k d 0 inside ∙ raised.done k (omega arith) ∙ get_or_default state k 0 d (omega arith))

-- logs of which the first p are cut
pub record AreCut (old logs : List LogState) (p : ℕ) : Type 0 where
  pub places : length logs ≡ length old
  pub done : (q : ℕ) (d : LogState) → q < p → q < length old → get_or logs q d ≡ log_within (get_or old q d)
  pub rest : (q : ℕ) (d : LogState) → p ≤ q → get_or logs q d ≡ get_or old q d

pub cut_more : (old logs new : List LogState) (p : ℕ) (log : LogState) → AreCut old logs p → p < length logs → log ≡ get_or logs p log → new ≡ slice_set logs p (log_within log) → AreCut old new (p + 1)
cut_more old logs new p log cut inside is new_is = record {
  places = ap length new_is ∙ length-set logs p _ ∙ cut.places;
  done = λ q d before in_old. elim (cases_order q p) [
    | inl same ↦ ap (λ all. get_or all q d) new_is ∙ ap (λ j. get_or (slice_set logs p (log_within log)) j d) same ∙ get_or-set_same logs p (log_within log) d inside
        ∙ ap log_within (is ∙ cut.rest p log (omega arith) ∙ get_or_default old p log d (omega (arith, in_old)) ∙ ap (λ j. get_or old j d) (sym same))
    | inr apart ↦ elim apart [
      | inl below ↦ ap (λ all. get_or all q d) new_is ∙ get_or-set_other logs p q (log_within log) d (λ e. omega arith) ∙ cut.done q d below in_old
      | inr past ↦ absurd (omega arith)
    ]
  ];
  rest = λ q d past. ap (λ all. get_or all q d) new_is ∙ get_or-set_other logs p q (log_within log) d (λ e. omega arith) ∙ cut.rest q d (omega arith);
}

pub cut_whole : (old logs : List LogState) (p : ℕ) → AreCut old logs p → length old ≤ p → logs ≡ map log_within old
cut_whole old logs p cut all =
    same_lists logs (map log_within old) (cut.places ∙ sym (length-map old log_within)) (λ k d inside.
    let in_old : k < length old = omega (arith, cut.places) in
    cut.done k d (omega arith) in_old ∙ sym (get_or-map log_within old k d d in_old))

pub map-replicate : {X Y : Type 0} (f : X → Y) (n : ℕ) (x : X) → map f (replicate n x) ≡ replicate n (f x)
map-replicate f zero x = refl
map-replicate f (suc n) x = ap (λ rest. f x ∷ rest) (map-replicate f n x)

none_rise : AreRising []
none_rise = λ i j d earlier below. absurd (omega arith)

sum-zeros : (n : ℕ) → 0 ≤ sum (replicate n 0)
sum-zeros n = omega arith

-- the parts of a new manager
pub first_parts : (n : ℕ) (kept : Kept) (logs : List LogState) (starts : List (List ℕ)) (last : List ℕ) → 1 ≤ n → n ≤ MAX_PROCESSES → IsSound kept → kept.state ≡ replicate n 0
    → logs ≡ replicate n (record { held = []; limit = 0 }) → starts ≡ replicate n (0 ∷ []) → last ≡ kept.state → AreParts kept logs starts 0 None last (replicate MAX_PROCESSES false) 0
first_parts n kept logs starts last some few sound zeros none begins same =
    let places : length kept.state ≡ n = ap length zeros ∙ length-replicate n 0 in
    let one : (p : ℕ) → p < length kept.state → starts_of starts p ≡ 0 ∷ [] = λ p here. ap (λ all. starts_of all p) begins ∙ get_or-replicate n p (0 ∷ []) [] (omega arith) in
    record {
      some = omega arith;
      few = omega (arith, few);
      records = sound;
      limits = ap (map (λ (log : LogState). log.limit)) none ∙ map-replicate (λ (log : LogState). log.limit) n (record { held = []; limit = 0 }) ∙ sym zeros;
      rising = λ p. subst AreRising (sym (ap (λ (all : List LogState). slice_index_or (map (λ (log : LogState). log.held) all) p []) none
          ∙ ap (λ (all : List (List HeldOutput)). slice_index_or all p []) (map-replicate (λ (log : LogState). log.held) n (record { held = []; limit = 0 })) ∙ all_nil n p)) none_rise;
      begun = record {
        places = ap length begins ∙ length-replicate n (0 ∷ []) ∙ sym places;
        lawful = λ p here. subst AreStarts (sym (one p here)) (record { some = omega arith; first = refl; rising = λ inc below. absurd (omega arith); numbered = omega arith });
        within = λ p inc here. subst (λ (s : List ℕ). inc < length s → slice_index s inc ≤ slice_index kept.state p + 1) (sym (one p here)) (only_start inc (slice_index kept.state p));
        few = λ p here. subst (λ (s : List ℕ). length s ≤ 0 + 1) (sym (one p here)) (omega arith);
      };
      rounds = record { numbered = omega arith; room = tt; bounded = omega arith };
      last = record {
        below = subst (λ l. IsBelow l kept.state) (sym same) (below_itself kept.state);
        no_state = λ _. same ∙ zeros ∙ ap (λ k. replicate k 0) (sym places);
        no_backs = λ _. refl;
      };
    }
  where
    all_nil : (n p : ℕ) → slice_index_or (replicate {A = List HeldOutput} n []) p [] ≡ []
    all_nil zero p = refl
    all_nil (suc n) zero = refl
    all_nil (suc n) (suc p) = all_nil n p

    only_start : (inc place : ℕ) → inc < 1 → slice_index (0 ∷ []) inc ≤ place + 1
    only_start zero place below = omega arith
    only_start (suc inc) place below = absurd (omega arith)

within_rises : (xs : List HeldOutput) (limit : ℕ) → AreRising xs → AreRising (within xs limit)
within_rises xs limit rising = AllPairs-filter (λ (early : HeldOutput) (late : HeldOutput). early.interval ≤ late.interval) (λ (output : HeldOutput). nat_le output.interval limit) xs rising

-- the parts after a round
pub parts_finished : (kept after : Kept) (logs new : List LogState) (starts started : List (List ℕ)) (who : List Bool) (round : ℕ) (gathering : Option (List Presence)) (last state : List ℕ) (backs : List Bool) (version : ℕ)
    → AreParts kept logs starts round gathering last backs version → after.state ≡ kept.state → state ≡ kept.state → IsSound after → new ≡ map log_within logs → BeginIncarnations who kept.state starts started → round + 1 < 2 ^ 32
    → AreParts after new started (round + 1) None state who (version + 1)
parts_finished kept after logs new starts started who round gathering last state backs version parts same state_is sound cut begin room =
    let most = one_open gathering in
    record {
      some = omega (arith, parts.some, ap length same);
      few = omega (arith, parts.few, ap length same);
      records = sound;
      limits = ap (map (λ (log : LogState). log.limit)) cut ∙ limits_kept logs ∙ parts.limits ∙ sym same;
      rising = λ p. subst (λ (all : List LogState). AreRising (slice_index_or (map (λ (log : LogState). log.held) all) p [])) (sym cut) (rises logs p (parts.rising p));
      begun = subst (λ s. AreBegun started s (round + 1)) (sym same) (begun_after who kept.state starts started round parts.begun begin room);
      rounds = record { numbered = room; room = tt; bounded = omega (arith, parts.rounds.bounded, ap sum same) };
      last = record {
        below = subst (λ l. IsBelow l after.state) (sym (state_is ∙ sym same)) (below_itself after.state);
        no_state = λ none. absurd (omega arith);
        no_backs = λ none. absurd (omega arith);
      };
    }
  where
    limits_kept : (logs : List LogState) → map (λ (log : LogState). log.limit) (map log_within logs) ≡ map (λ (log : LogState). log.limit) logs
    limits_kept [] = refl
    limits_kept (log ∷ logs) = ap (λ rest. log.limit ∷ rest) (limits_kept logs)

    rises : (logs : List LogState) (p : ℕ) → AreRising (slice_index_or (map (λ (log : LogState). log.held) logs) p []) → AreRising (slice_index_or (map (λ (log : LogState). log.held) (map log_within logs)) p [])
    rises [] p rising = rising
    rises (log ∷ logs) zero rising = within_rises log.held log.limit rising
    rises (log ∷ logs) (suc p) rising = rises logs p rising

-- the outputs after a round are those that were released
pub released_after : (logs : List LogState) (state : List ℕ) (p : ℕ) → map (λ (log : LogState). log.limit) logs ≡ state → p < length state
    → slice_index_or (map (λ (log : LogState). log.held) (map log_within logs)) p [] ≡ within (slice_index_or (map (λ (log : LogState). log.held) logs) p []) (slice_index state p)
released_after logs state p limits here = subst (λ (s : List ℕ). p < length s → slice_index_or (map (λ (log : LogState). log.held) (map log_within logs)) p [] ≡ within (slice_index_or (map (λ (log : LogState). log.held) logs) p []) (slice_index s p)) limits (at logs p) here
  where
    at : (logs : List LogState) (p : ℕ) → p < length (map (λ (log : LogState). log.limit) logs) → slice_index_or (map (λ (log : LogState). log.held) (map log_within logs)) p [] ≡ within (slice_index_or (map (λ (log : LogState). log.held) logs) p []) (slice_index (map (λ (log : LogState). log.limit) logs) p)
    at [] p below = absurd (omega arith)
    at (log ∷ logs) zero below = refl
    at (log ∷ logs) (suc p) below = at logs p (omega arith)

-- the parts with one output more
pub parts_with_output : (kept : Kept) (logs : List LogState) (starts : List (List ℕ)) (round : ℕ) (gathering : Option (List Presence)) (last : List ℕ) (backs : List Bool) (version p : ℕ) (log new : LogState) (output : HeldOutput)
    → AreParts kept logs starts round gathering last backs version → p < length logs → log ≡ get_or logs p log → All (λ (held : HeldOutput). held.interval ≤ output.interval) log.held → new ≡ log_with log output
    → AreParts kept (slice_set logs p new) starts round gathering last backs version
parts_with_output kept logs starts round gathering last backs version p log new output parts inside is later new_is = record {
  some = parts.some;
  few = parts.few;
  records = parts.records;
  limits = map-set_same (λ (log : LogState). log.limit) logs p new log (ap (λ (log : LogState). log.limit) (new_is) ∙ ap (λ (log : LogState). log.limit) is) ∙ parts.limits;
  rising = λ q. subst (λ (all : List (List HeldOutput)). AreRising (slice_index_or all q [])) (sym (map-set (λ (log : LogState). log.held) logs p new)) (elim (cases_order q p) [
    | inl same ↦
        let many = length-map logs (λ (log : LogState). log.held) in
        let at : slice_index_or (slice_set (map (λ (log : LogState). log.held) logs) p new.held) q [] ≡ log.held ++ output ∷ [] =
        ap (λ j. slice_index_or (slice_set (map (λ (log : LogState). log.held) logs) p new.held) j []) same ∙ get_or-set_same (map (λ (log : LogState). log.held) logs) p new.held [] (omega arith) ∙ ap (λ (log : LogState). log.held) new_is in
        let old : AreRising log.held = subst AreRising (get_or-map (λ (log : LogState). log.held) logs p [] log inside ∙ ap (λ (log : LogState). log.held) (sym is)) (parts.rising p) in
        subst AreRising (sym at) (all_pairs_push (λ (early : HeldOutput) (late : HeldOutput). early.interval ≤ late.interval) log.held output old (λ k d below. later k d below))
    | inr apart ↦ subst AreRising (sym (get_or-set_other (map (λ (log : LogState). log.held) logs) p q new.held [] (λ e. elim apart [ inl less ↦ omega arith | inr more ↦ omega arith ]))) (parts.rising q)
  ]);
  begun = parts.begun;
  rounds = parts.rounds;
  last = parts.last;
}

-- the outputs with one more
pub outputs_with : (logs : List LogState) (p : ℕ) (log new : LogState) (output : HeldOutput) → p < length logs → log ≡ get_or logs p log → new ≡ log_with log output
    → map (λ (log : LogState). log.held) (slice_set logs p new) ≡ slice_set (map (λ (log : LogState). log.held) logs) p (slice_index_or (map (λ (log : LogState). log.held) logs) p [] ++ output ∷ [])
outputs_with logs p log new output inside is new_is =
    map-set (λ (log : LogState). log.held) logs p new
    ∙ ap (slice_set (map (λ (log : LogState). log.held) logs) p) (ap (λ (log : LogState). log.held) new_is ∙ ap (λ (held : List HeldOutput). held ++ output ∷ []) (ap (λ (log : LogState). log.held) is ∙ sym (get_or-map (λ (log : LogState). log.held) logs p [] log inside)))

-- the outputs of a process stand in its log
pub held_is : (logs : List LogState) (p : ℕ) (log : LogState) → p < length logs → log ≡ get_or logs p log → slice_index_or (map (λ (log : LogState). log.held) logs) p [] ≡ log.held
held_is logs p log inside is = get_or-map (λ (log : LogState). log.held) logs p [] log inside ∙ ap (λ (log : LogState). log.held) (sym is)

-- what an answer leaves of the log: what was there, with the output as the latest or without it
abbrev pub IsLogAfter : LogState → HeldOutput → LogState → Type 0
IsLogAfter log output new = (new ≡ log) ⊎ (IsUpTo log output.interval × (new ≡ log_with log output))

pub log_after : (log : LogState) (seq : ℕ) (output : HeldOutput) (answer : Result OutputNote OutputError) (new : LogState) → LogNotes log seq output answer new → IsLogAfter log output new
log_after log seq output (Ok kept.Known) new noted = inl noted.1
log_after log seq output (Ok kept.Released) new noted = inr (noted.0.latest, noted.2)
log_after log seq output (Ok kept.Held) new noted = inr (noted.0.latest, noted.2)
log_after log seq output (Err refused.Stranger) new noted = absurd noted
log_after log seq output (Err (refused.Stale told)) new noted = absurd noted
log_after log seq output (Err refused.Differs) new noted = inl noted.1
log_after log seq output (Err (refused.Gap next)) new noted = inl noted.2
log_after log seq output (Err refused.Memory) new noted = inl noted.1

-- the parts where an output was pushed, or was refused
pub parts_pushed : (kept : Kept) (logs : List LogState) (starts : List (List ℕ)) (round : ℕ) (gathering : Option (List Presence)) (last : List ℕ) (backs : List Bool) (version p : ℕ) (log new : LogState) (output : HeldOutput)
    → AreParts kept logs starts round gathering last backs version → p < length logs → log ≡ get_or logs p log → IsLogAfter log output new
    → AreParts kept (slice_set logs p new) starts round gathering last backs version
parts_pushed kept logs starts round gathering last backs version p log new output parts inside is pushed = elim pushed [
  | inl same ↦ subst (λ all. AreParts kept all starts round gathering last backs version) (sym (ap (slice_set logs p) (same ∙ is) ∙ set-get_or logs p log)) parts
  | inr more ↦ parts_with_output kept logs starts round gathering last backs version p log new output parts inside is more.0 more.1
]

-- a log is that of a process of the manager
pub record IsLogOf (m : ManagerState) (p : ℕ) (log : LogState) : Type 0 where
  pub held : held_by m p ≡ log.held
  pub limit : log.limit ≡ slice_index m.recovery p

may_push : (m : ManagerState) (offer : Offer) (log : LogState) → IsCurrent m offer.pid offer.round → IsLogOf m offer.pid log → MayPush log offer.seq offer.output → IsNext m offer.pid offer.round offer.seq offer.output
may_push m offer log current of may = record {
  current = current;
  next = may.next ∙ ap length (sym of.held);
  latest = subst (All (λ (output : HeldOutput). output.interval ≤ offer.output.interval)) (sym of.held) may.latest;
}

clashes : (m : ManagerState) (offer : Offer) (log : LogState) → IsLogOf m offer.pid log → Clashes log offer.seq offer.output → IsDifferent m offer.pid offer.seq offer.output
clashes m offer log of (Clashes.other below is_not) = IsDifferent.other (subst (λ (held : List HeldOutput). offer.seq < length held) (sym of.held) below) (λ is. is_not (subst (λ (held : List HeldOutput). slice_get held offer.seq ≡ Some offer.output) of.held is))
clashes m offer log of (Clashes.earlier next later) = IsDifferent.earlier (next ∙ ap length (sym of.held)) (λ latest. later (subst (All (λ (output : HeldOutput). output.interval ≤ offer.output.interval)) of.held latest))

-- what the log of the process answers is what the manager answers
pub answer_of_log : (old new : ManagerState) (log after : LogState) (offer : Offer) (answer : Result OutputNote OutputError) → IsCurrent old offer.pid offer.round → IsLogOf old offer.pid log
    → (after ≡ log → new ≡ old) → (after ≡ log_with log offer.output → new ≡ with_output old offer.pid offer.output) → LogNotes log offer.seq offer.output answer after → NotesOutput old offer.pid offer.round offer.seq offer.output answer new
answer_of_log old new log after offer (Ok kept.Known) current of same more noted = (current, ap (λ (held : List HeldOutput). slice_get held offer.seq) of.held ∙ noted.0, same noted.1)
answer_of_log old new log after offer (Ok kept.Released) current of same more noted = (may_push old offer log current of noted.0, omega (arith, noted.1, of.limit), more noted.2)
answer_of_log old new log after offer (Ok kept.Held) current of same more noted = (may_push old offer log current of noted.0, omega (arith, noted.1, of.limit), more noted.2)
answer_of_log old new log after offer (Err refused.Stranger) current of same more noted = absurd noted
answer_of_log old new log after offer (Err (refused.Stale told)) current of same more noted = absurd noted
answer_of_log old new log after offer (Err refused.Differs) current of same more noted = (current, clashes old offer log of noted.0, same noted.1)
answer_of_log old new log after offer (Err (refused.Gap next)) current of same more noted = (current, noted.0 ∙ ap length (sym of.held), noted.1, same noted.2)
answer_of_log old new log after offer (Err refused.Memory) current of same more noted = (may_push old offer log current of noted.0, same noted.1)

-- a log of the parts is that of its process
pub log_is_of : (kept : Kept) (logs : List LogState) (starts : List (List ℕ)) (round : ℕ) (gathering : Option (List Presence)) (last : List ℕ) (backs : List Bool) (version p : ℕ) (log : LogState)
    → AreParts kept logs starts round gathering last backs version → p < length logs → log ≡ get_or logs p log → IsLogOf (made_of kept logs starts round gathering last backs version) p log
log_is_of kept logs starts round gathering last backs version p log parts inside is = record {
  held = held_is logs p log inside is;
  limit = ap (λ (log : LogState). log.limit) is ∙ sym (get_or-map (λ (log : LogState). log.limit) logs p 0 log inside) ∙ ap (λ (s : List ℕ). slice_index s p) parts.limits;
}

-- each process of the manager has a log
pub has_log : (kept : Kept) (logs : List LogState) (starts : List (List ℕ)) (round : ℕ) (gathering : Option (List Presence)) (last : List ℕ) (backs : List Bool) (version p : ℕ)
    → AreParts kept logs starts round gathering last backs version → p < length kept.state → p < length logs
has_log kept logs starts round gathering last backs version p parts here = omega (arith, here, ap length parts.limits, length-map logs (λ (log : LogState). log.limit))

-- the answer to an output where the log of its process answered
pub output_answered : (kept : Kept) (logs : List LogState) (starts : List (List ℕ)) (round : ℕ) (gathering : Option (List Presence)) (last : List ℕ) (backs : List Bool) (version p : ℕ) (log after : LogState) (offer : Offer) (answer : Result OutputNote OutputError)
    → AreParts kept logs starts round gathering last backs version → IsCurrent (made_of kept logs starts round gathering last backs version) offer.pid offer.round → p ≡ offer.pid → log ≡ get_or logs p log
    → LogNotes log offer.seq offer.output answer after
    → NotesOutput (made_of kept logs starts round gathering last backs version) offer.pid offer.round offer.seq offer.output answer (made_of kept (slice_set logs p after) starts round gathering last backs version)
output_answered kept logs starts round gathering last backs version p log after offer answer parts current place is noted =
    let of_outputs : List (List HeldOutput) → ManagerState = λ outputs. record { rows = kept.rows; recovery = kept.state; outputs = outputs; starts = starts; round = round; gathering = gathering; last = last; backs = backs; version = version } in
    let old = made_of kept logs starts round gathering last backs version in
    let outputs = map (λ (log : LogState). log.held) logs in
    let here : p < length kept.state = omega (arith, current.known, place) in
    let inside : p < length logs = has_log kept logs starts round gathering last backs version p parts here in
    answer_of_log old (made_of kept (slice_set logs p after) starts round gathering last backs version) log after offer answer current
    (subst (λ (q : ℕ). IsLogOf old q log) place (log_is_of kept logs starts round gathering last backs version p log parts inside is))
    (λ same. ap (λ (all : List LogState). of_outputs (map (λ (log : LogState). log.held) all)) (ap (slice_set logs p) (same ∙ is) ∙ set-get_or logs p log))
    (λ more. ap of_outputs (outputs_with logs p log after offer.output inside is more) ∙ ap (λ (q : ℕ). of_outputs (slice_set outputs q (slice_index_or outputs q [] ++ offer.output ∷ []))) place)
    noted

-- a finished round keeps what was released
pub finishes_keeps : (presences : List Presence) (old new : ManagerState) → Finishes presences old new → KeepsReleased old new
finishes_keeps presences old new finishes = λ p here.
    same_begins (released_by old p) (released_by new p) (sym
    (ap (λ outputs. within outputs (slice_index new.recovery p)) (finishes.outputs p here)
    ∙ ap (λ s. within (released_by old p) (slice_index s p)) finishes.recovery
    ∙ within_within (held_by old p) (slice_index old.recovery p)))

-- a raised recovery state keeps what was released
pub raised_keeps : (old new : ManagerState) → IsManager old → new.outputs ≡ old.outputs → IsBelow old.recovery new.recovery → KeepsReleased old new
raised_keeps old new sound same below = λ p here.
    subst (λ (outputs : List (List HeldOutput)). IsPrefix (released_by old p) (within (slice_index_or outputs p []) (slice_index new.recovery p))) (sym same)
    (within_higher (held_by old p) (slice_index old.recovery p) (slice_index new.recovery p) (sound.rising p here) (below.each p here))

-- refused rows stay as they were
refused_rows : (n : ℕ) (rows after : Rows) (row : Row) (fault : NoteError) → offered n rows row (Err fault) after → after ≡ rows
refused_rows n rows after row fault.Stranger told = told.1
refused_rows n rows after row fault.BadVector told = told.2
refused_rows n rows after row fault.Differs told = told.6
refused_rows n rows after row (fault.Disorder y) told = told.1
refused_rows n rows after row fault.Memory told = told.1

-- the manager's answer where the records refused a row
pub note_refused : (kept after : Kept) (logs : List LogState) (starts : List (List ℕ)) (round : ℕ) (gathering : Option (List Presence)) (last : List ℕ) (backs : List Bool) (version asked : ℕ) (row : Row) (fault : NoteError)
    → (row.pid < length kept.state → asked ≡ round) → offered (length kept.state) kept.rows row (Err fault) after.rows → kept.state ≡ after.state
    → Notes (made_of kept logs starts round gathering last backs version) asked row (Err (Refused fault)) (made_of after logs starts round gathering last backs version)
note_refused kept after logs starts round gathering last backs version asked row fault current told same =
    let rows : after.rows ≡ kept.rows = refused_rows _ _ _ _ _ told in
    let told_of : Rows → Type 0 = λ rows. offered (length kept.state) kept.rows row (Err fault) rows in
    let made : Rows → List ℕ → ManagerState = λ rows state. record { rows = rows; recovery = state; outputs = map (λ (log : LogState). log.held) logs; starts = starts; round = round; gathering = gathering; last = last; backs = backs; version = version } in
    (current, subst told_of rows told, ap (λ r. made r after.state) rows ∙ ap (made kept.rows) (sym same))

-- a row that was taken comes from a process of the cluster
taken_known : (n : ℕ) (rows after : Rows) (row : Row) (note : Note) → offered n rows row (Ok note) after → row.pid < n
taken_known n rows after row (Noted raised) told = told.0.offer.known
taken_known n rows after row Known told = told.0.known

pub level_state : (old new : List ℕ) (note : Note) → TellsChange (Ok note) old new → note ≢ Noted true → old ≡ new
level_state old new (Noted true) change level = absurd (level refl)
level_state old new (Noted false) change level = change
level_state old new Known change level = change

-- the manager's answer where the records took a row and their state stayed
pub note_level : (kept after : Kept) (logs : List LogState) (starts : List (List ℕ)) (round : ℕ) (gathering : Option (List Presence)) (last : List ℕ) (backs : List Bool) (version asked : ℕ) (row : Row) (note : Note)
    → (row.pid < length kept.state → asked ≡ round) → offered (length kept.state) kept.rows row (Ok note) after.rows → TellsChange (Ok note) kept.state after.state → note ≢ Noted true
    → Notes (made_of kept logs starts round gathering last backs version) asked row (Ok note) (made_of after logs starts round gathering last backs version)
note_level kept after logs starts round gathering last backs version asked row (Noted true) current told change level = absurd (level refl)
note_level kept after logs starts round gathering last backs version asked row (Noted false) current told change level =
    let made : List ℕ → ManagerState = λ state. record { rows = after.rows; recovery = state; outputs = map (λ (log : LogState). log.held) logs; starts = starts; round = round; gathering = gathering; last = last; backs = backs; version = version } in
    (current (taken_known (length kept.state) kept.rows after.rows row (Noted false) told), told, change, ap made (sym change))
note_level kept after logs starts round gathering last backs version asked row Known current told change level =
    let made : Rows → List ℕ → ManagerState = λ rows state. record { rows = rows; recovery = state; outputs = map (λ (log : LogState). log.held) logs; starts = starts; round = round; gathering = gathering; last = last; backs = backs; version = version } in
    (current (taken_known (length kept.state) kept.rows after.rows row Known told), told, change, ap (λ r. made r after.state) told.3 ∙ ap (made kept.rows) (sym change))

-- the manager's answer where the records took a row and their state rose
pub note_raised : (kept after : Kept) (logs new : List LogState) (starts : List (List ℕ)) (round : ℕ) (gathering : Option (List Presence)) (last : List ℕ) (backs : List Bool) (version asked : ℕ) (row : Row) (note : Note)
    → (row.pid < length kept.state → asked ≡ round) → offered (length kept.state) kept.rows row (Ok note) after.rows → TellsChange (Ok note) kept.state after.state → note ≡ Noted true
    → map (λ (log : LogState). log.held) new ≡ map (λ (log : LogState). log.held) logs
    → Notes (made_of kept logs starts round gathering last backs version) asked row (Ok note) (made_of after new starts round gathering last backs (version + 1))
note_raised kept after logs new starts round gathering last backs version asked row note current told change raised held =
    let made : List (List HeldOutput) → ManagerState = λ outputs. record { rows = after.rows; recovery = after.state; outputs = outputs; starts = starts; round = round; gathering = gathering; last = last; backs = backs; version = version + 1 } in
    let old = made_of kept logs starts round gathering last backs version in
    let new_m = made_of after new starts round gathering last backs (version + 1) in (
      current (taken_known (length kept.state) kept.rows after.rows row note told),
      told,
      change,
      subst (λ (n : Note). new_m ≡ after_note old n after.rows after.state) (sym raised) (ap made held),
    )

-- a push keeps what was released
pub pushed_keeps : (logs : List LogState) (p q limit : ℕ) (log new : LogState) (output : HeldOutput) → p < length logs → log ≡ get_or logs p log → IsLogAfter log output new
    → IsPrefix (within (slice_index_or (map (λ (log : LogState). log.held) logs) q []) limit) (within (slice_index_or (map (λ (log : LogState). log.held) (slice_set logs p new)) q []) limit)
pushed_keeps logs p q limit log new output inside is pushed =
    let begins : IsPrefix (within log.held limit) (within new.held limit) = elim pushed [
      | inl same ↦ same_begins _ _ (ap (λ (log : LogState). within log.held limit) (sym same))
      | inr more ↦ subst (λ (log' : LogState). IsPrefix (within log.held limit) (within log'.held limit)) (sym more.1) (within_push log.held output limit)
    ] in
    subst (λ (outputs : List (List HeldOutput)). IsPrefix (within (slice_index_or (map (λ (log : LogState). log.held) logs) q []) limit) (within (slice_index_or outputs q []) limit)) (sym (map-set (λ (log : LogState). log.held) logs p new))
    (elim (cases_order q p) [
      | inl same ↦
          let many : length (map (λ (log : LogState). log.held) logs) ≡ length logs = length-map logs (λ (log : LogState). log.held) in
          subst (λ (k : ℕ). IsPrefix (within (slice_index_or (map (λ (log : LogState). log.held) logs) k []) limit) (within (slice_index_or (slice_set (map (λ (log : LogState). log.held) logs) p new.held) k []) limit)) (sym same)
          (subst (λ (held : List HeldOutput). IsPrefix (within held limit) (within (slice_index_or (slice_set (map (λ (log : LogState). log.held) logs) p new.held) p []) limit)) (sym (held_is logs p log inside is))
          (subst (λ (held : List HeldOutput). IsPrefix (within log.held limit) (within held limit)) (sym (get_or-set_same (map (λ (log : LogState). log.held) logs) p new.held [] (omega arith))) begins))
      | inr apart ↦ same_begins _ _ (ap (λ (held : List HeldOutput). within held limit) (sym (get_or-set_other (map (λ (log : LogState). log.held) logs) p q new.held [] (λ e. elim apart [ inl less ↦ omega arith | inr more ↦ omega arith ]))))
    ])

-- of rows that were taken, where there are any, the first comes from a process of the cluster
first_known : (n : ℕ) (rows : List Row) (count p : ℕ) (before after : Rows) → All (λ (row : Row). row.pid ≡ p) rows → 0 < count → count ≤ length rows → AreOffered n before (take count rows) after → p < n
first_known n [] count p before after of_one some within told = absurd (omega (arith, some, within))
first_known n (row ∷ rows) zero p before after of_one some within told = absurd (omega (arith, some))
first_known n (row ∷ rows) (suc count) p before after of_one some within told =
    let known : row.pid < n = taken_known n before told.1 row told.0 told.2 in
    let is : row.pid ≡ p = of_one 0 row (omega arith) in
    omega (arith, known, is)

-- why rows are refused, as the manager says it
refused_next : (m : ManagerState) (asked p count : ℕ) (rows : List Row) (end : Result (Unit {0}) NoteError) → (p < process_count m → asked ≡ m.round) → All (λ (row : Row). row.pid ≡ p) rows
    → IfErr end (λ fault. (row : Row) × (slice_get rows count ≡ Some row) × offered (process_count m) m.rows row (Err fault) m.rows)
    → IfErr (refused_as end) (λ why. (row : Row) × (slice_get rows count ≡ Some row) × Notes m asked row (Err why) m)
refused_next m asked p count rows (Ok done) current of_one refused = tt
refused_next m asked p count rows (Err fault) current of_one refused =
    (refused.0, refused.1, (λ known. current (omega (arith, known, process_at rows p count refused.0 of_one refused.1)), refused.2, refl))

all_as : (end : Result (Unit {0}) NoteError) (P : Type 0) → OnOk end P → OnOk (refused_as end) P
all_as (Ok done) P holds = holds
all_as (Err fault) P holds = tt

-- the manager's answer to rows of a process, where the records' state stayed
pub rows_level : (kept after : Kept) (logs : List LogState) (starts : List (List ℕ)) (round : ℕ) (gathering : Option (List Presence)) (last : List ℕ) (backs : List Bool) (version asked p count : ℕ) (rows : List Row) (end : Result (Unit {0}) NoteError)
    → (p < length kept.state → asked ≡ round) → All (λ (row : Row). row.pid ≡ p) rows → AreOfferedUpTo (length kept.state) kept.rows rows count end after.rows → kept.state ≡ after.state
    → NotesUpTo (made_of kept logs starts round gathering last backs version) asked rows count (refused_as end) (made_of after logs starts round gathering last backs version)
rows_level kept after logs starts round gathering last backs version asked p count rows end current of_one told same =
    let new = made_of after logs starts round gathering last backs version in
    let refused : IfErr end (λ fault. (row : Row) × (slice_get rows count ≡ Some row) × offered (length after.state) after.rows row (Err fault) after.rows) =
    subst (λ (s : List ℕ). IfErr end (λ fault. (row : Row) × (slice_get rows count ≡ Some row) × offered (length s) after.rows row (Err fault) after.rows)) same told.refused in
    record {
      within = told.within;
      in_round = λ some. current (first_known (length kept.state) rows count p kept.rows after.rows of_one some told.within told.taken);
      taken = told.taken;
      all = all_as end (count ≡ length rows) told.all;
      refused = refused_next new asked p count rows end (subst (λ (s : List ℕ). p < length s → asked ≡ round) same current) of_one refused;
      level = λ _. refl;
      raised = λ apart. absurd (apart same);
      others = refl;
    }

-- and where it rose
pub rows_raised : (kept after : Kept) (logs higher : List LogState) (starts : List (List ℕ)) (round : ℕ) (gathering : Option (List Presence)) (last : List ℕ) (backs : List Bool) (version asked p count : ℕ) (rows : List Row) (end : Result (Unit {0}) NoteError)
    → (p < length kept.state → asked ≡ round) → All (λ (row : Row). row.pid ≡ p) rows → AreOfferedUpTo (length kept.state) kept.rows rows count end after.rows → kept.state ≢ after.state → length kept.state ≡ length after.state
    → map (λ (log : LogState). log.held) higher ≡ map (λ (log : LogState). log.held) logs
    → NotesUpTo (made_of kept logs starts round gathering last backs version) asked rows count (refused_as end) (made_of after higher starts round gathering last backs (version + 1))
rows_raised kept after logs higher starts round gathering last backs version asked p count rows end current of_one told apart places held =
    let made : List (List HeldOutput) → ManagerState = λ outputs. record { rows = after.rows; recovery = after.state; outputs = outputs; starts = starts; round = round; gathering = gathering; last = last; backs = backs; version = version + 1 } in
    let new = made_of after higher starts round gathering last backs (version + 1) in
    let refused : IfErr end (λ fault. (row : Row) × (slice_get rows count ≡ Some row) × offered (length after.state) after.rows row (Err fault) after.rows) =
    subst (λ n. IfErr end (λ fault. (row : Row) × (slice_get rows count ≡ Some row) × offered n after.rows row (Err fault) after.rows)) places told.refused in
    record {
      within = told.within;
      in_round = λ some. current (first_known (length kept.state) rows count p kept.rows after.rows of_one some told.within told.taken);
      taken = told.taken;
      all = all_as end (count ≡ length rows) told.all;
      refused = refused_next new asked p count rows end (λ known. current (omega (arith, known, places))) of_one refused;
      level = λ same. absurd (apart same);
      raised = λ _. refl;
      others = ap made held;
    }

-- rows of another round
pub rows_stale : (m : ManagerState) (asked p : ℕ) (rows : List Row) (end : Result (Unit {0}) RecordError) → p < process_count m → asked ≢ m.round → All (λ (row : Row). row.pid ≡ p) rows
    → OnOk end (rows ≡ []) → IfErr end (λ why. why ≡ Stale m.round) → OnErr end (0 < length rows) → NotesUpTo m asked rows 0 end m
rows_stale m asked p rows (Ok done) process stale of_one none why some = record {
  within = omega arith;
  in_round = λ more. absurd (omega (arith, more));
  taken = refl;
  all = sym (ap length none);
  refused = tt;
  level = λ _. refl;
  raised = λ apart. absurd (apart refl);
  others = refl;
}
rows_stale m asked p rows (Err error) process stale of_one none why some =
    let first = some_first rows some in
    record {
      within = omega arith;
      in_round = λ more. absurd (omega (arith, more));
      taken = refl;
      all = tt;
      refused = (first.0, first.1, subst (λ (e : RecordError). Notes m asked first.0 (Err e) m) (sym why) (omega (arith, process, process_at rows p 0 first.0 of_one first.1), stale, refl, refl));
      level = λ _. refl;
      raised = λ apart. absurd (apart refl);
      others = refl;
    }
  where
    some_first : (rows : List Row) → 0 < length rows → (row : Row) × (slice_get rows 0 ≡ Some row)
    some_first [] some = absurd (omega (arith, some))
    some_first (row ∷ rows) some = (row, refl)

-- lists of numbers that are not apart are the same
pub same_unless : (old new : List ℕ) (raised : Bool) → (IsTrue raised ↔ (old ≢ new)) → raised ≡ false → old ≡ new
same_unless old new raised tells is = elim (same_or_apart old new) [ inl same ↦ same | inr apart ↦ absurd (true≢false (sym (tells.1 apart) ∙ is)) ]
  where
    first_apart : (x y : ℕ) → (x < y) ⊎ (y < x) → x ≡ y → ⊥
    first_apart x y apart is = elim apart [ inl less ↦ omega (arith, less, is) | inr more ↦ omega (arith, more, is) ]

    same_or_apart : (old new : List ℕ) → (old ≡ new) ⊎ (old ≢ new)
    same_or_apart [] [] = inl refl
    same_or_apart [] (y ∷ ys) = inr (λ is. cc)
    same_or_apart (x ∷ xs) [] = inr (λ is. cc)
    same_or_apart (x ∷ xs) (y ∷ ys) = elim (cases_order x y) [
      | inl here ↦ elim (same_or_apart xs ys) [
        | inl rest ↦ inl (cc)
        | inr apart ↦ inr (λ is. absurd (apart (cc)))
      ]
      | inr apart ↦ inr (λ is. absurd (first_apart x y apart (cc)))
    ]
