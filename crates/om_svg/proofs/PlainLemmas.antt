-- Numbers, names and fixed words need no escape.
use Rattle.std.proofs.Common.{◌≡◌, ◌<◌, ◌%◌, ◌/◌, ◌==◌, ℕ, zero, suc, Bool, true, false, List, [], ◌∷◌, ◌++◌, Option, Some, None, refl, arith, if◌then◌else◌, ◌&&◌, ◌-◌, nat_le, take, slice_get, slice_index, slice_index_or, codes}
use Rattle.std.specs.Fmt.{digits, digits_onto, digit_glyph, decimal}
use Rattle.std.specs.List.{flat_map, list_all}
use Rattle.std.specs.Option.{option_map, unwrap_or}
use Rattle.std.proofs.lemmas.Bool.Decides.{nat_tests}
use Rattle.hex.specs.Hex.{encode_lower, encode_with, lower_digits}
use Rattle.om_manager.specs.declared.answers.Gathered.TheVariants.{Waiting, Finished}
use Rattle.om_process.specs.declared.accept.Accept.{Accept}
use Rattle.om_process.specs.declared.accept.Accept.TheVariants as accepts
use Rattle.om_process.specs.declared.status.Status.{Status}
use Rattle.om_process.specs.declared.status.Status.TheVariants as statuses
use Rattle.om_machine.specs.Causes.{cause_number}
use Rattle.om_scripts.specs.Named.{is_name, is_name_byte}
use Rattle.om_scripts.specs.Programs.{Cluster, program_name}
use Rattle.om_world.specs.declared.event.Answer.{Answer}
use Rattle.om_world.specs.declared.event.Answer.TheVariants as answers
use Rattle.om_world.specs.declared.event.Event.{Event}
use Rattle.om_world.specs.declared.event.Event.TheVariants as events
use Rattle.om_world.specs.declared.event.Refusal.{Refusal}
use Rattle.om_world.specs.declared.event.Refusal.TheVariants as refusals
use Rattle.om_svg.specs.AnswerText.{recovery_text, why_word}
use Rattle.om_world.specs.Texts.{accept_word, answer_text, event_text, refusal_word, status_text}
use Rattle.om_svg.specs.Plain.{HasPlainNames, is_plain, is_plain_text}
use Rattle.om_svg.specs.ShapeText.{changed_text, detail_text, numbers_text, told_text}
use Rattle.om_svg.specs.WordText.{bytes_text, label_text, end_state_text, content_text}
use Rattle.om_sheet.specs.declared.sheet.TitleDetail.{TitleDetail}
use Rattle.om_sheet.specs.declared.sheet.TitleDetail.TheVariants as details
use Rattle.om_sheet.specs.declared.sheet.Numbers.{Numbers}
use Rattle.om_sheet.specs.declared.sheet.Title.{Title}
use Rattle.om_sheet.specs.declared.sheet.LabelContent.{LabelContent}
use Rattle.om_sheet.specs.declared.sheet.LabelContent.TheVariants as contents
use Rattle.om_sheet.specs.declared.step.Label.{Label}
use Rattle.om_sheet.specs.declared.step.EndState.{EndState}
use Rattle.om_sheet.specs.declared.step.TheConstants.{LABEL_BYTES}

both : (a b : Bool) → a ≡ true → b ≡ true → (a && b) ≡ true
both a b p q = rw p q

both_parts : (a b : Bool) → (a && b) ≡ true → (a ≡ true) × (b ≡ true)
both_parts true b p = (refl, p)
both_parts false b p = cc

pub plain-append : (xs ys : List ℕ) → is_plain_text xs ≡ true → is_plain_text ys ≡ true → is_plain_text (xs ++ ys) ≡ true
plain-append [] ys p q = q
plain-append (x ∷ xs) ys p q =
    let parts = both_parts (is_plain x) (is_plain_text xs) p in
    both (is_plain x) (is_plain_text (xs ++ ys)) parts.0 (plain-append xs ys parts.1 q)

plain-three : (xs ys zs : List ℕ) → is_plain_text xs ≡ true → is_plain_text ys ≡ true → is_plain_text zs ≡ true
    → is_plain_text (xs ++ ys ++ zs) ≡ true
plain-three xs ys zs p q r = plain-append (xs ++ ys) zs (plain-append xs ys p q) r

plain-if : (b : Bool) (xs ys : List ℕ) → is_plain_text xs ≡ true → is_plain_text ys ≡ true → is_plain_text (if b then xs else ys) ≡ true
plain-if true xs ys p q = p
plain-if false xs ys p q = q

-- numbers

plain-glyph : (d : ℕ) → d < 10 → is_plain (digit_glyph false d) ≡ true
plain-glyph d h = grind (arith, nat_tests)

plain-digits : (k n : ℕ) (acc : List ℕ) → is_plain_text acc ≡ true → is_plain_text (digits_onto k 10 false n acc) ≡ true
plain-digits zero n acc p = p
plain-digits (suc k) n acc p =
    let with_digit : is_plain_text (digit_glyph false (n % 10) ∷ acc) ≡ true =
    both (is_plain (digit_glyph false (n % 10))) (is_plain_text acc) (plain-glyph (n % 10) (omega arith)) p in
    plain-if (n / 10 == 0) _ _ with_digit (plain-digits k (n / 10) (digit_glyph false (n % 10) ∷ acc) with_digit)

pub plain-decimal : (n : ℕ) → is_plain_text (decimal n) ≡ true
unfolding digits
plain-decimal n = plain-digits 64 n [] refl

-- two numbers, parted by a space
plain-pair : (m n : ℕ) → is_plain_text (decimal m ++ 32 ∷ decimal n) ≡ true
plain-pair m n = plain-append (decimal m) (32 ∷ decimal n) (plain-decimal m) (plain-decimal n)

-- hexadecimal digits; none stands for what is no digit

plain-index : (digits : List ℕ) (k : ℕ) → is_plain_text digits ≡ true → is_plain (slice_index digits k) ≡ true
plain-index [] k p = refl
plain-index (d ∷ ds) zero p = (both_parts (is_plain d) (is_plain_text ds) p).0
plain-index (d ∷ ds) (suc k) p = plain-index ds k (both_parts (is_plain d) (is_plain_text ds) p).1

pub plain-hex : (bytes : List ℕ) → is_plain_text (encode_lower bytes) ≡ true
unfolding encode_with
plain-hex [] = refl
plain-hex (b ∷ bytes) =
    both _ _ (plain-index lower_digits (b / 16) refl) (both _ _ (plain-index lower_digits (b % 16) refl) (plain-hex bytes))

-- names

plain-name_byte : (b : ℕ) → is_name_byte b ≡ true → is_plain b ≡ true
plain-name_byte b p = grind (arith, nat_tests)

plain-name_bytes : (name : List ℕ) → list_all is_name_byte name ≡ true → is_plain_text name ≡ true
plain-name_bytes [] p = refl
plain-name_bytes (b ∷ bs) p =
    let parts = both_parts (is_name_byte b) (list_all is_name_byte bs) p in
    both _ _ (plain-name_byte b parts.0) (plain-name_bytes bs parts.1)

pub plain-name : (name : List ℕ) → is_name name ≡ true → is_plain_text name ≡ true
plain-name name p = plain-name_bytes name (both_parts _ (list_all is_name_byte name) p).1

plain-entry : {B : Type 0} (es : List (List ℕ × B)) (p : ℕ) → list_all (λ e. is_plain_text e.0) es ≡ true
    → is_plain_text (unwrap_or (option_map (λ e. e.0) (slice_get es p)) []) ≡ true
plain-entry [] p names = refl
plain-entry (e ∷ es) zero names = (both_parts _ _ names).0
plain-entry (e ∷ es) (suc p) names = plain-entry es p (both_parts _ _ names).1

plain-or : {B : Type 0} (es : List (List ℕ × B)) (p : ℕ) (d : List ℕ × B) → list_all (λ e. is_plain_text e.0) es ≡ true
    → is_plain_text d.0 ≡ true → is_plain_text (slice_index_or es p d).0 ≡ true
plain-or [] p d names q = q
plain-or (e ∷ es) zero d names q = (both_parts _ _ names).0
plain-or (e ∷ es) (suc p) d names q = plain-or es p d (both_parts _ _ names).1 q

plain-option : {A : Type 0} (o : Option A) (name : A → List ℕ) → ((a : A) → is_plain_text (name a) ≡ true)
    → is_plain_text (unwrap_or (option_map name o) []) ≡ true
plain-option None name p = refl
plain-option (Some a) name p = p a

-- events, answers and states

pub plain-event : (event : Event) → is_plain_text (event_text event) ≡ true
plain-event (events.Run process fuel) = plain-pair process fuel
plain-event (events.Give process frame) = plain-pair process frame
plain-event (events.Flush process) = plain-decimal process
plain-event (events.FlushFirst process count) = plain-pair process count
plain-event (events.Checkpoint process) = plain-decimal process
plain-event (events.Spell process) = plain-decimal process
plain-event (events.Resend process) = plain-decimal process
plain-event (events.Trim process) = plain-decimal process
plain-event (events.Fail process) = plain-decimal process
plain-event (events.Join process) = plain-decimal process
plain-event (events.Resume process) = plain-decimal process
plain-event events.Prune = refl
plain-event events.Restart = refl

pub plain-status : (status : Status) → is_plain_text (status_text status) ≡ true
plain-status statuses.Ready = refl
plain-status statuses.Waiting = refl
plain-status (statuses.Ended code) = plain-decimal code
plain-status (statuses.Trapped cause) = plain-decimal (cause_number cause)

plain-accept_word : (accept : Accept) → is_plain_text (accept_word accept) ≡ true
plain-accept_word (accepts.Taken x) = refl
plain-accept_word accepts.Repeat = refl
plain-accept_word accepts.Ahead = refl
plain-accept_word accepts.Orphan = refl
plain-accept_word accepts.NotWaiting = refl
plain-accept_word accepts.Stranger = refl
plain-accept_word accepts.Full = refl
plain-accept_word accepts.Memory = refl

plain-accept : (accept : Accept) → is_plain_text (answer_text (answers.Given accept)) ≡ true
plain-accept (accepts.Taken x) = plain-decimal x
plain-accept accepts.Repeat = refl
plain-accept accepts.Ahead = refl
plain-accept accepts.Orphan = refl
plain-accept accepts.NotWaiting = refl
plain-accept accepts.Stranger = refl
plain-accept accepts.Full = refl
plain-accept accepts.Memory = refl

plain-refusal : (why : Refusal) → is_plain_text (refusal_word why) ≡ true
plain-refusal refusals.NoProcess = refl
plain-refusal refusals.NotUp = refl
plain-refusal refusals.NoFrame = refl
plain-refusal refusals.NotIn = refl
plain-refusal refusals.NoRound = refl
plain-refusal refusals.Spent = refl
plain-refusal refusals.Present = refl
plain-refusal refusals.Fault = refl
plain-refusal refusals.Damaged = refl
plain-refusal refusals.Memory = refl
plain-refusal refusals.Unsettled = refl

pub plain-answer : (answer : Answer) → is_plain_text (answer_text answer) ≡ true
plain-answer (answers.Ran steps status sent made) =
    let begun = plain-append (decimal steps) (32 ∷ status_text status) (plain-decimal steps) (plain-status status) in
    let of_sent = plain-three (decimal steps ++ 32 ∷ status_text status) (codes " sent ") (decimal sent) begun refl (plain-decimal sent) in
    plain-three (decimal steps ++ 32 ∷ status_text status ++ codes " sent " ++ decimal sent) (codes " made ") (decimal made)
    of_sent refl (plain-decimal made)
plain-answer (answers.Given accept) = plain-accept accept
plain-answer (answers.Noted count) = plain-decimal count
plain-answer (answers.Resent count) = plain-decimal count
plain-answer answers.Trimmed = refl
plain-answer answers.Pruned = refl
plain-answer (answers.Gathered Waiting) = refl
plain-answer (answers.Gathered Finished) = refl
plain-answer answers.Down = refl
plain-answer (answers.Back interval inc) = plain-three (decimal interval) (codes " inc ") (decimal inc) (plain-decimal interval) refl (plain-decimal inc)
plain-answer answers.GoesOn = refl
plain-answer answers.Restarted = refl
plain-answer (answers.Refused why) = plain-refusal why

plain-places : (state : List ℕ) → is_plain_text (flat_map (λ place. 32 ∷ decimal place) state) ≡ true
plain-places [] = refl
plain-places (place ∷ state) = plain-append (decimal place) _ (plain-decimal place) (plain-places state)

pub plain-recovery : (state : List ℕ) → is_plain_text (recovery_text state) ≡ true
plain-recovery state = plain-places state

-- titles

plain-numbers : (what : List ℕ) (numbers : Numbers) → is_plain_text what ≡ true → is_plain_text (numbers_text what numbers) ≡ true
unfolding numbers_text
plain-numbers what numbers p =
    let one = plain-append what (32 ∷ decimal numbers.first) p (plain-decimal numbers.first) in
    let first = plain-three what (codes "s ") (decimal numbers.first) p refl (plain-decimal numbers.first) in
    let more = plain-three (what ++ codes "s " ++ decimal numbers.first) (codes " to ") (decimal numbers.last)
    first refl (plain-decimal numbers.last) in
    let some = plain-if (numbers.count == 1) (codes ", " ++ what ++ 32 ∷ decimal numbers.first)
    (codes ", " ++ what ++ codes "s " ++ decimal numbers.first ++ codes " to " ++ decimal numbers.last) one more in
    plain-if (numbers.count == 0) [] (if numbers.count == 1 then codes ", " ++ what ++ 32 ∷ decimal numbers.first
    else codes ", " ++ what ++ codes "s " ++ decimal numbers.first ++ codes " to " ++ decimal numbers.last) refl some

plain-changed : (changed : Option (List ℕ)) → is_plain_text (changed_text changed) ≡ true
plain-changed None = refl
plain-changed (Some state) = plain-recovery state

plain-detail : (more : TitleDetail) → is_plain_text (detail_text more) ≡ true
plain-detail details.Nothing = refl
plain-detail (details.Made outputs frames) =
    plain-append (numbers_text (codes "output") outputs) (numbers_text (codes "frame") frames)
    (plain-numbers (codes "output") outputs refl) (plain-numbers (codes "frame") frames refl)
plain-detail (details.Interval interval) = plain-decimal interval
plain-detail (details.Released changed) = plain-append (changed_text changed) (codes ": released") (plain-changed changed) refl
plain-detail (details.Round changed round state) =
    let begun = plain-three (changed_text changed) (codes ": round ") (decimal round) (plain-changed changed) refl (plain-decimal round) in
    plain-three (changed_text changed ++ codes ": round " ++ decimal round) (codes ", ") (recovery_text state) begun refl (plain-recovery state)

pub plain-told : (title : Title) → is_plain_text (told_text title) ≡ true
unfolding told_text
plain-told title =
    let begun = plain-append (decimal title.line) (32 ∷ event_text title.event) (plain-decimal title.line) (plain-event title.event) in
    let answered = plain-three (decimal title.line ++ 32 ∷ event_text title.event) (codes ": ") (answer_text title.answer)
    begun refl (plain-answer title.answer) in
    plain-append (decimal title.line ++ 32 ∷ event_text title.event ++ codes ": " ++ answer_text title.answer) (detail_text title.more)
    answered (plain-detail title.more)

-- words

plain-why : (answer : Answer) → is_plain_text (why_word answer) ≡ true
plain-why (answers.Ran steps status sent made) = refl
plain-why (answers.Given accept) = plain-accept_word accept
plain-why (answers.Noted count) = refl
plain-why (answers.Resent count) = refl
plain-why answers.Trimmed = refl
plain-why answers.Pruned = refl
plain-why (answers.Gathered gathered) = refl
plain-why answers.Down = refl
plain-why (answers.Back interval inc) = refl
plain-why answers.GoesOn = refl
plain-why answers.Restarted = refl
plain-why (answers.Refused why) = plain-refusal why

plain-bytes : (label : Label) → is_plain_text (bytes_text label) ≡ true
plain-bytes label =
    let whole = encode_lower (take label.size label.bytes) in
    let some = encode_lower (take (LABEL_BYTES - 1) label.bytes) in
    let cut = plain-append some (codes "..") (plain-hex (take (LABEL_BYTES - 1) label.bytes)) refl in
    plain-if (label.size == 0) (codes "-") (if nat_le label.size LABEL_BYTES then whole else some ++ codes "..") refl
    (plain-if (nat_le label.size LABEL_BYTES) whole (some ++ codes "..") (plain-hex (take label.size label.bytes)) cut)

plain-label : (label : Label) (more : ℕ) → is_plain_text (label_text label more) ≡ true
plain-label label more =
    plain-append (bytes_text label) (if more == 0 then [] else codes "+" ++ decimal more) (plain-bytes label)
    (plain-if (more == 0) [] (codes "+" ++ decimal more) refl (plain-decimal more))

plain-end-state : (end_state : Option EndState) → is_plain_text (end_state_text end_state) ≡ true
plain-end-state None = refl
plain-end-state (Some now) =
    let begun = plain-three (decimal now.inc) (codes " interval ") (decimal now.interval)
    (plain-decimal now.inc) refl (plain-decimal now.interval) in
    plain-append (decimal now.inc ++ codes " interval " ++ decimal now.interval) (32 ∷ status_text now.status) begun (plain-status now.status)

pub plain-content : (cluster : Cluster) → HasPlainNames cluster → (what : LabelContent) → is_plain_text (content_text cluster what) ≡ true
plain-content cluster names (contents.Number number) = plain-decimal number
plain-content cluster names (contents.Inc inc) = plain-decimal inc
plain-content cluster names (contents.Round round) = plain-decimal round
plain-content cluster names contents.Gathering = refl
plain-content cluster names (contents.Recovery state) = plain-recovery state
plain-content cluster names (contents.Place place) = plain-decimal place
plain-content cluster names (contents.Output label more) = plain-label label more
plain-content cluster names (contents.End status) = plain-status status
plain-content cluster names (contents.Why answer) = plain-why answer
plain-content cluster names (contents.EndState end_state) = plain-end-state end_state
plain-content cluster names (contents.Name p) = plain-entry cluster.processes p names.processes
plain-content cluster names (contents.Program p) =
    plain-option (slice_get cluster.processes p) (λ e. program_name cluster e.1) (λ e. plain-or cluster.programs e.1 _ names.programs refl)
plain-content cluster names contents.Line = refl
