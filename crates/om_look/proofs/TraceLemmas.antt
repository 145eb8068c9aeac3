-- What a turn makes, as lines.
use Rattle.std.proofs.Common.{◌≡◌, ℕ, ◌+◌, ◌-◌, ◌<◌, ◌≤◌, List, [], ◌∷◌, ◌++◌, length, drop, get_or, refl, sym, ap, ◌∙◌, subst, append_assoc, append-nil, arith}
use Rattle.std.specs.Prelude.{Some, decimal, max, slice_get}
use Rattle.std.proofs.lemmas.Bool.{lt-ltb}
use Rattle.om_format.specs.declared.queue.QueueEntry.{QueueEntry}
use Rattle.om_format.specs.Queues.{QueueRecord}
use Rattle.om_machine.specs.declared.event.Event.{Event}
use Rattle.om_machine.specs.declared.event.Event.TheVariants.{Call}
use Rattle.om_machine.specs.declared.event.EnvCall.TheVariants.{Send, Output}
use Rattle.om_process.specs.Kept.{made_as, numbered, queue_at, sent_as}
use Rattle.om_process.specs.declared.queues.Made.{Made}
use Rattle.om_process.specs.declared.queues.Sent.{Sent}
use Rattle.om_process.proofs.Numbering.{length-numbered, nothing_at, numbered_at}
use Rattle.om_look.specs.Trace.{body_text, gained_text}
use Rattle.om_look.specs.steps.Emitted.{kept_in, place_of}

-- all outputs are those from number 0 on
pub all_made : (q : QueueRecord) → numbered made_as (max q.first 0) (drop (0 - q.first) q.entries) ≡ numbered made_as q.first q.entries
all_made q =
    let none : 0 - q.first ≡ 0 = omega arith in
    let from : max q.first 0 ≡ q.first = omega arith in
    rw (none, from) refl

pub kept_sent : (n to addr len : ℕ) (event : Event) (queues : List QueueRecord) (sent : List Sent) → event ≡ Call (Send to addr len) → to < n
    → sent ≡ numbered sent_as (queue_at queues to).first (queue_at queues to).entries → length sent ≡ kept_in queues (place_of n event)
kept_sent n to addr len event queues sent is within all =
    let q = queue_at queues to in
    let long : length sent ≡ length q.entries = ap length all ∙ length-numbered sent_as q.first q.entries in
    subst (λ (e : Event). length sent ≡ kept_in queues (place_of n e)) (sym is) (rw (lt-ltb to n within) long)

pub kept_made : (n addr len : ℕ) (event : Event) (queues : List QueueRecord) (made : List Made) → event ≡ Call (Output addr len)
    → made ≡ numbered made_as (max (queue_at queues n).first 0) (drop (0 - (queue_at queues n).first) (queue_at queues n).entries) → length made ≡ kept_in queues (place_of n event)
kept_made n addr len event queues made is all =
    let q = queue_at queues n in
    let long : length made ≡ length q.entries = ap length (all ∙ all_made q) ∙ length-numbered made_as q.first q.entries in
    subst (λ (e : Event). length made ≡ kept_in queues (place_of n e)) (sym is) long

-- nothing was made
pub nothing_gained : (words : List ℕ) (kept : ℕ) (q : QueueRecord) (text : List ℕ) → length q.entries ≤ kept → text ≡ text ++ gained_text words kept q
nothing_gained words kept q text le = rw (nothing_at kept q.entries le) (sym (append-nil text))

-- an entry was
gained : (words : List ℕ) (kept number : ℕ) (body : List ℕ) (q : QueueRecord) (e : QueueEntry) (old mid new : List ℕ) → slice_get q.entries kept ≡ Some e → number ≡ q.first + kept → body ≡ e.body
    → mid ≡ old ++ words → new ≡ mid ++ 32 ∷ decimal number ++ 32 ∷ body_text body ++ 10 ∷ [] → new ≡ old ++ gained_text words kept q
gained words kept number body q e old mid new at is same first second =
    rw at (second ∙ ap (λ t. t ++ 32 ∷ decimal number ++ 32 ∷ body_text body ++ 10 ∷ []) first
    ∙ regroup old words (32 ∷ decimal number) (32 ∷ body_text body) (10 ∷ [])
    ∙ ap (λ k. old ++ (words ++ 32 ∷ decimal k ++ 32 ∷ body_text body ++ 10 ∷ [])) is
    ∙ ap (λ b. old ++ (words ++ 32 ∷ decimal (q.first + kept) ++ 32 ∷ body_text b ++ 10 ∷ [])) same)
  where
    regroup : (a b c d e : List ℕ) → a ++ b ++ c ++ d ++ e ≡ a ++ (b ++ c ++ d ++ e)
    regroup a b c d e = simp append_assoc

pub gained_sent : (words : List ℕ) (kept number : ℕ) (body : List ℕ) (q : QueueRecord) (sent : List Sent) (s : Sent) (old mid new : List ℕ) → sent ≡ numbered sent_as q.first q.entries → kept < length sent → s ≡ get_or sent kept s
    → number ≡ s.ssn → body ≡ s.body → mid ≡ old ++ words → new ≡ mid ++ 32 ∷ decimal number ++ 32 ∷ body_text body ++ 10 ∷ [] → new ≡ old ++ gained_text words kept q
gained_sent words kept number body q sent s old mid new all within at is same first second =
    let long : length sent ≡ length q.entries = ap length all ∙ length-numbered sent_as q.first q.entries in
    let there = numbered_at sent_as q.first kept q.entries s (omega arith) (subst (λ l. s ≡ get_or l kept s) all at) in
    gained words kept number body q there.0 old mid new there.1 (is ∙ ap (λ (x : Sent). x.ssn) there.2) (same ∙ ap (λ (x : Sent). x.body) there.2) first second

pub gained_made : (words : List ℕ) (kept number : ℕ) (body : List ℕ) (q : QueueRecord) (made : List Made) (m : Made) (old mid new : List ℕ) → made ≡ numbered made_as (max q.first 0) (drop (0 - q.first) q.entries) → kept < length made → m ≡ get_or made kept m
    → number ≡ m.seq → body ≡ m.bytes → mid ≡ old ++ words → new ≡ mid ++ 32 ∷ decimal number ++ 32 ∷ body_text body ++ 10 ∷ [] → new ≡ old ++ gained_text words kept q
gained_made words kept number body q made m old mid new all within at is same first second =
    let every : made ≡ numbered made_as q.first q.entries = all ∙ all_made q in
    let long : length made ≡ length q.entries = ap length every ∙ length-numbered made_as q.first q.entries in
    let there = numbered_at made_as q.first kept q.entries m (omega arith) (subst (λ l. m ≡ get_or l kept m) every at) in
    gained words kept number body q there.0 old mid new there.1 (is ∙ ap (λ (x : Made). x.seq) there.2) (same ∙ ap (λ (x : Made). x.bytes) there.2) first second

pub sent_length : (q : QueueRecord) (sent : List Sent) → sent ≡ numbered sent_as q.first q.entries → length sent ≡ length q.entries
sent_length q sent all = ap length all ∙ length-numbered sent_as q.first q.entries

pub made_length : (q : QueueRecord) (made : List Made) → made ≡ numbered made_as (max q.first 0) (drop (0 - q.first) q.entries) → length made ≡ length q.entries
made_length q made all = ap length (all ∙ all_made q) ∙ length-numbered made_as q.first q.entries

-- the line of an instruction, piece by piece
pub line_grows : (old count pc word inst what answer a b c new : List ℕ) → a ≡ old ++ count ++ 32 ∷ pc ++ 32 ∷ word ++ 32 ∷ inst → b ≡ a ++ what → c ≡ b ++ answer → new ≡ c ++ 10 ∷ []
    → new ≡ old ++ (count ++ 32 ∷ pc ++ 32 ∷ word ++ 32 ∷ inst ++ what ++ answer ++ 10 ∷ [])
line_grows old count pc word inst what answer a b c new first second third fourth =
    fourth ∙ ap (λ t. t ++ 10 ∷ []) (third ∙ ap (λ t. t ++ answer) (second ∙ ap (λ t. t ++ what) first))
    ∙ regroup old count (32 ∷ pc) (32 ∷ word) (32 ∷ inst) what answer (10 ∷ [])
  where
    regroup : (a b c d e f g h : List ℕ) → a ++ b ++ c ++ d ++ e ++ f ++ g ++ h ≡ a ++ (b ++ c ++ d ++ e ++ f ++ g ++ h)
    regroup a b c d e f g h = simp append_assoc
