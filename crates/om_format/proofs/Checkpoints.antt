-- Reading a checkpoint is reading the fields of its format.
use Rattle.std.proofs.Common.{◌≡◌, ℕ, ◌+◌, ◌*◌, Bool, true, false, cond, eqb, List, [], ◌∷◌, ◌++◌, length, Some, Result, Ok, Err, refl, sym, ap, subst, ◌∙◌, ◌⊎◌, inl, inr, append_assoc, arith}
use Rattle.std.specs.Prelude.{map, nat_le, ◌||◌, IsOk}
use Rattle.std.specs.List.{flat_map}
use Rattle.std.proofs.lemmas.Bool.{eqb-true, false≢true}
use Rattle.std.proofs.lemmas.List.{append-nil}
use Rattle.om_isa.specs.declared.ext.Ext.{Ext}
use Rattle.om_isa.specs.declared.ext.Ext.TheVariants.{I, Im}
use Rattle.om_format.specs.declared.checkpoint_reading.Front.{Front}
use Rattle.om_format.specs.declared.head.Head.{Head}
use Rattle.om_format.specs.declared.error.DecodeError.{DecodeError}
use Rattle.om_format.specs.declared.error.DecodeError.TheVariants.{Field}
use Rattle.om_format.specs.declared.offsets.TheConstants.{VECTOR}
use Rattle.om_format.specs.declared.queue.QueueEntry.{QueueEntry}
use Rattle.om_format.specs.declared.version.Version.{Version}
use Rattle.om_format.specs.declared.version.Version.TheVariants.{V1, V2}
use Rattle.om_format.specs.Formats.{Format, end, two, eight}
use Rattle.om_pages.specs.Pages.{Page, page_count, kept_pages}
use Rattle.om_format.specs.Pages.{page_values}
use Rattle.om_format.specs.Queues.{QueueRecord, queue_end, entry_values, queue_values, queue, queues}
use Rattle.om_format.specs.Versions.{kind_of, is_kind, version_number, is_version, version_of, memory_in, before_memory, memory_values}
use Rattle.om_format.specs.steps.Kinds.{ext_of}
use Rattle.om_format.specs.Checkpoints.{CheckpointRecord, front, checkpoint_format, checkpoint_values, checkpoint_fault, AreEnded, SpellsCheckpoint, IsSpelled, IsFrontRead, IsCheckpoint}
use Rattle.om_format.specs.steps.Offsets.{got_offset, made_offset, memory_offset}
use Rattle.om_format.specs.steps.Reading.{◌>>=◌, allow, number_at, fields_at, opening_at, end_at}
use Rattle.om_format.specs.steps.CheckpointReading.{place_at, progress_at, vectors_at, made_at, front_at, before_memory_at, memory_at, rest_at, checkpoint_of, checkpoint_at}
use Rattle.om_format.proofs.Numbers.{IsBytes}
use Rattle.om_format.proofs.Formats.{bind_ok, allow_ok, ok_is, found, again, faulty, read_all}
use Rattle.om_format.proofs.Holding.{of_ok, holding_same, opening_hold}
use Rattle.om_format.proofs.Parts.{one_number, opening_is, ends, bind_assoc, bind_same}
use Rattle.om_format.proofs.Queues.{queues_is, last_queue_is}
use Rattle.om_format.proofs.KeptPages.{same_memory}
use Rattle.om_format.proofs.MemoryReading.{memory_is, memory_hold}
use Rattle.om_format.proofs.Lawful.{checkpoint_holds}

-- ---- kinds and versions

kind_again : (kind : ℕ) → is_kind kind ≡ true → kind_of (ext_of kind) ≡ kind
kind_again kind h = by_test (eqb kind (kind_of I)) (eqb kind (kind_of Im)) refl refl h
  where
    by_test : (a b : Bool) → eqb kind (kind_of I) ≡ a → eqb kind (kind_of Im) ≡ b → (a || b) ≡ true → kind_of (cond a I Im) ≡ kind
    by_test true b is_a is_b h = sym (eqb-true _ _ is_a)
    by_test false true is_a is_b h = sym (eqb-true _ _ is_b)
    by_test false false is_a is_b h = absurd (false≢true h)

number_again : (number : ℕ) → is_version number ≡ true → version_number (version_of number) ≡ number
number_again number h = by_test (eqb number (version_number V1)) (eqb number (version_number V2)) refl refl h
  where
    by_test : (a b : Bool) → eqb number (version_number V1) ≡ a → eqb number (version_number V2) ≡ b → (a || b) ≡ true → version_number (cond a V1 V2) ≡ number
    by_test true b is_a is_b h = sym (eqb-true _ _ is_a)
    by_test false true is_a is_b h = sym (eqb-true _ _ is_b)
    by_test false false is_a is_b h = absurd (false≢true h)

same_kind : (a b : Ext) → kind_of a ≡ kind_of b → a ≡ b
same_kind I I h = refl
same_kind I Im h = absurd (omega arith)
same_kind Im I h = absurd (omega arith)
same_kind Im Im h = refl

pub same_number : (v w : Version) → version_number v ≡ version_number w → v ≡ w
same_number V1 V1 h = refl
same_number V1 V2 h = absurd (omega arith)
same_number V2 V1 h = absurd (omega arith)
same_number V2 V2 h = refl

-- ---- fields

at_got : (n : ℕ) → VECTOR + n * 4 ≡ got_offset n
at_got n = omega arith

at_made : (n : ℕ) → got_offset n + n * 4 + n * 4 ≡ made_offset n
at_made n = omega arith

-- the values of the fields before the memory
abbrev front_values : Front → List (List ℕ)
front_values f =
    (kind_of f.head.ext ∷ []) ∷ (version_number f.version ∷ []) ∷ (f.n ∷ []) ∷ (f.head.pid ∷ []) ∷ (f.head.interval ∷ []) ∷ (f.head.count ∷ []) ∷ (f.head.pc ∷ []) ∷ f.head.regs ∷ f.head.vec ∷ f.head.got ∷ f.head.sent ∷ (f.head.made ∷ []) ∷ (f.size ∷ []) ∷ []

front_is : (behind : Version → ℕ → List ℕ → ℕ → ℕ → Format) (bytes : List ℕ)
    → fields_at (front behind) 0 bytes ≡ (front_at bytes >>= λ f. fields_at (behind f.0.version f.0.head.interval f.0.head.sent f.0.head.made f.0.size) (memory_offset f.0.n) f.1 >>= λ vs. Ok (front_values f.0 ++ vs))
unfolding front front_at place_at progress_at vectors_at made_at
front_is behind bytes =
    simp (opening_is, one_number, bind_assoc, at_got, at_made) (holding_same (λ x. (is_kind x.0 ≡ true) × (is_version x.1 ≡ true)) (opening_at is_kind is_version bytes) _ _ (opening_hold is_kind is_version bytes) (λ x h. rw (kind_again x.0 h.0, number_again x.1 h.1) refl))

rest_is : (f : Front) (bytes : List ℕ)
    → (fields_at (memory_in f.version f.size (queues f.head.interval f.head.sent (queue eight f.head.interval f.head.made end))) (memory_offset f.n) bytes >>= λ vs. Ok (front_values f ++ vs))
    ≡ (rest_at f bytes >>= λ r. Ok (checkpoint_values f.version (checkpoint_of f r.0 r.1 r.2)))
unfolding rest_at
rest_is f bytes =
    simp (memory_is, queues_is, last_queue_is, bind_assoc) (holding_same (λ x. length x.0 ≡ f.size) (memory_at f.version f.size (memory_offset f.n) bytes) _ _ (memory_hold f.version f.size (memory_offset f.n) bytes) (λ x whole. rw whole refl))

pub checkpoint_is : (bytes : List ℕ) → fields_at checkpoint_format 0 bytes ≡ (checkpoint_at bytes >>= λ r. Ok (checkpoint_values r.0 r.1))
unfolding checkpoint_format checkpoint_at
checkpoint_is bytes =
    front_is (λ version interval sent made size. memory_in version size (queues interval sent (queue eight interval made end))) bytes
    ∙ bind_same (front_at bytes) _ _ (λ f. rest_is f.0 f.1 ∙ sym (bind_assoc (rest_at f.0 f.1) _ _))
    ∙ sym (bind_assoc (front_at bytes) _ _)

-- what stands before the bytes of the memory is read
before_fields : (size offset : ℕ) (bytes : List ℕ) (count : ℕ × List ℕ) → number_at two bytes ≡ Ok count → nat_le count.0 (page_count size) ≡ true → fields_at (before_memory V2 size) offset bytes ≡ (end_at count.1 >>= λ u. Ok ((count.0 ∷ []) ∷ []))
before_fields size offset bytes count e fine =
    rw (one_number two bytes, e, fine) (ap (λ (r : Result (List (List ℕ)) DecodeError). r >>= λ rest. Ok ((count.0 ∷ []) ∷ rest)) (ends (offset + 2) count.1) ∙ bind_assoc (end_at count.1) _ _)

before_read : (version : Version) (size offset : ℕ) (bytes : List ℕ) (x : ℕ × List ℕ) → before_memory_at version size offset bytes ≡ Ok x → (rest : List ℕ) × (vs : List (List ℕ)) × (fields_at (before_memory version size) offset bytes ≡ (end_at rest >>= λ u. Ok vs))
unfolding before_memory_at
before_read V1 size offset bytes x e = (bytes, [], ends offset bytes)
before_read V2 size offset bytes x e =
    let a = bind_ok (number_at two bytes) (λ count. allow (nat_le count.0 (page_count size)) (Field offset) >>= λ fine. Ok count) x e in
    let b = bind_ok (allow (nat_le a.0.0 (page_count size)) (Field offset)) (λ fine. Ok a.0) x a.2 in
    (a.0.1, (a.0.0 ∷ []) ∷ [], before_fields size offset bytes a.0 a.1 (allow_ok (nat_le a.0.0 (page_count size)) (Field offset) b.0 b.1))

-- the fields before the bytes of the memory are read
front_read_from : (bytes behind : List ℕ) (f : Front) (r : Result (ℕ × List ℕ) DecodeError) → front_at bytes ≡ Ok (f, behind) → before_memory_at f.version f.size (memory_offset f.n) behind ≡ r → IsOk r → IsFrontRead bytes
front_read_from bytes behind f (Err d) e g ok = absurd (false≢true ok)
front_read_from bytes behind f (Ok x) e g ok =
    let m = before_read f.version f.size (memory_offset f.n) behind x g in
    read_all (front (λ version interval sent made size. before_memory version size)) bytes m.0 (front_values f ++ m.1) (
    front_is (λ version interval sent made size. before_memory version size) bytes
    ∙ ap (λ (r : Result (Front × List ℕ) DecodeError). r >>= λ g. fields_at (before_memory g.0.version g.0.size) (memory_offset g.0.n) g.1 >>= λ vs. Ok (front_values g.0 ++ vs)) e
    ∙ ap (λ (r : Result (List (List ℕ)) DecodeError). r >>= λ vs. Ok (front_values f ++ vs)) m.2
    ∙ bind_assoc (end_at m.0) _ _)

pub front_read : (bytes behind : List ℕ) (f : Front) → front_at bytes ≡ Ok (f, behind) → IsOk (before_memory_at f.version f.size (memory_offset f.n) behind) → IsFrontRead bytes
front_read bytes behind f e ok = front_read_from bytes behind f (before_memory_at f.version f.size (memory_offset f.n) behind) e refl ok

-- ---- values that are the same

entry_made : ℕ → List ℕ → QueueEntry
entry_made interval body = record { interval = interval; body = body }

same_entry : (a b : QueueEntry) → a.interval ≡ b.interval → a.body ≡ b.body → a ≡ b
unfolding entry_made
same_entry a b p q = (let same : entry_made a.interval a.body ≡ entry_made b.interval b.body = cc in same)

page_made : ℕ → List ℕ → Page
page_made index bytes = record { index = index; bytes = bytes }

same_page : (a b : Page) → a.index ≡ b.index → a.bytes ≡ b.bytes → a ≡ b
unfolding page_made
same_page a b p q = (let same : page_made a.index a.bytes ≡ page_made b.index b.bytes = cc in same)

same_entries : (a b : List QueueEntry) (x y : List (List ℕ)) → length a ≡ length b → flat_map entry_values a ++ x ≡ flat_map entry_values b ++ y → (a ≡ b) × (x ≡ y)
same_entries [] [] x y len e = (refl, e)
same_entries [] (b ∷ more_b) x y len e = absurd (omega arith)
same_entries (a ∷ more_a) [] x y len e = absurd (omega arith)
same_entries (a ∷ more_a) (b ∷ more_b) x y len e =
    let interval : a.interval ≡ b.interval = cc in
    let body : a.body ≡ b.body = cc in
    let rest : flat_map entry_values more_a ++ x ≡ flat_map entry_values more_b ++ y = cc in
    let more = same_entries more_a more_b x y (omega arith) rest in
    let here = same_entry a b interval body in
    ((let first = more.0 in cc), more.1)

queue_made : ℕ → List QueueEntry → QueueRecord
queue_made first entries = record { first = first; entries = entries }

same_queue : (q p : QueueRecord) (x y : List (List ℕ)) → queue_end q ≡ queue_end p → queue_values q ++ x ≡ queue_values p ++ y → (q ≡ p) × (x ≡ y)
unfolding queue_made
same_queue q p x y ended e =
    let first : q.first ≡ p.first = cc in
    let rest : flat_map entry_values q.entries ++ x ≡ flat_map entry_values p.entries ++ y = cc in
    let more = same_entries q.entries p.entries x y (omega arith) rest in
    let entries = more.0 in
    ((let same : queue_made q.first q.entries ≡ queue_made p.first p.entries = cc in same), more.1)

same_queues : (qs ps : List QueueRecord) (x y : List (List ℕ)) → map queue_end qs ≡ map queue_end ps → flat_map queue_values qs ++ x ≡ flat_map queue_values ps ++ y → (qs ≡ ps) × (x ≡ y)
same_queues [] [] x y ended e = (refl, e)
same_queues [] (p ∷ ps) x y ended e = absurd cc
same_queues (q ∷ qs) [] x y ended e = absurd cc
same_queues (q ∷ qs) (p ∷ ps) x y ended e =
    let first : queue_end q ≡ queue_end p = cc in
    let others : map queue_end qs ≡ map queue_end ps = cc in
    let here = same_queue q p (flat_map queue_values qs ++ x) (flat_map queue_values ps ++ y) first (sym (append_assoc (queue_values q) (flat_map queue_values qs) x) ∙ e ∙ append_assoc (queue_values p) (flat_map queue_values ps) y) in
    let more = same_queues qs ps x y others here.1 in
    let q_is = here.0 in
    let qs_are = more.0 in
    ((cc), more.1)

-- ---- the memory of the values

same_pages : (a b : List Page) (x y : List (List ℕ)) → length a ≡ length b → flat_map page_values a ++ x ≡ flat_map page_values b ++ y → (a ≡ b) × (x ≡ y)
same_pages [] [] x y len e = (refl, e)
same_pages [] (b ∷ more_b) x y len e = absurd (omega arith)
same_pages (a ∷ more_a) [] x y len e = absurd (omega arith)
same_pages (a ∷ more_a) (b ∷ more_b) x y len e =
    let index : a.index ≡ b.index = cc in
    let bytes : a.bytes ≡ b.bytes = cc in
    let rest : flat_map page_values more_a ++ x ≡ flat_map page_values more_b ++ y = cc in
    let more = same_pages more_a more_b x y (omega arith) rest in
    let here = same_page a b index bytes in
    ((let first = more.0 in cc), more.1)

same_memories : (version : Version) (a b : List ℕ) (x y : List (List ℕ)) → length a ≡ length b → memory_values version a ++ x ≡ memory_values version b ++ y → (a ≡ b) × (x ≡ y)
same_memories V1 a b x y len e = (cc, cc)
same_memories V2 a b x y len e =
    let count : length (kept_pages a) ≡ length (kept_pages b) = cc in
    let rest : flat_map page_values (kept_pages a) ++ x ≡ flat_map page_values (kept_pages b) ++ y = cc in
    let pages = same_pages (kept_pages a) (kept_pages b) x y count rest in
    (same_memory a b len pages.0, pages.1)

-- ---- no bytes spell two checkpoints

head_made : Ext → ℕ → ℕ → ℕ → ℕ → List ℕ → List ℕ → List ℕ → List ℕ → ℕ → Head
head_made ext pid interval count pc regs vec got sent outputs_made = record { ext = ext; pid = pid; interval = interval; count = count; pc = pc; regs = regs; vec = vec; got = got; sent = sent; made = outputs_made }

made : ℕ → Head → List ℕ → List QueueRecord → QueueRecord → CheckpointRecord
made n head memory kept outputs = record { n = n; head = head; memory = memory; kept = kept; outputs = outputs }

same_version : (v w : Version) (r s : CheckpointRecord) → checkpoint_values v r ≡ checkpoint_values w s → v ≡ w
same_version v w r s e = same_number v w cc

same_checkpoint : (v : Version) (r s : CheckpointRecord) → AreEnded r → AreEnded s → checkpoint_values v r ≡ checkpoint_values v s → r ≡ s
unfolding head_made made
same_checkpoint v r s r_ended s_ended e =
    let ext : r.head.ext ≡ s.head.ext = same_kind r.head.ext s.head.ext cc in
    let n : r.n ≡ s.n = cc in
    let pid : r.head.pid ≡ s.head.pid = cc in
    let interval : r.head.interval ≡ s.head.interval = cc in
    let count : r.head.count ≡ s.head.count = cc in
    let pc : r.head.pc ≡ s.head.pc = cc in
    let regs : r.head.regs ≡ s.head.regs = cc in
    let vec : r.head.vec ≡ s.head.vec = cc in
    let got : r.head.got ≡ s.head.got = cc in
    let sent : r.head.sent ≡ s.head.sent = cc in
    let outputs_made : r.head.made ≡ s.head.made = cc in
    let size : length r.memory ≡ length s.memory = cc in
    let behind : memory_values v r.memory ++ (flat_map queue_values r.kept ++ queue_values r.outputs) ≡ memory_values v s.memory ++ (flat_map queue_values s.kept ++ queue_values s.outputs) = cc in
    let memories = same_memories v r.memory s.memory (flat_map queue_values r.kept ++ queue_values r.outputs) (flat_map queue_values s.kept ++ queue_values s.outputs) size behind in
    let memory = memories.0 in
    let queues = same_queues r.kept s.kept (queue_values r.outputs) (queue_values s.outputs) (r_ended.kept ∙ sent ∙ sym s_ended.kept) memories.1 in
    let kept = queues.0 in
    let last = same_queue r.outputs s.outputs [] [] (r_ended.outputs ∙ outputs_made ∙ sym s_ended.outputs) (append-nil (queue_values r.outputs) ∙ queues.1 ∙ sym (append-nil (queue_values s.outputs))) in
    let outputs = last.0 in
    let head : head_made r.head.ext r.head.pid r.head.interval r.head.count r.head.pc r.head.regs r.head.vec r.head.got r.head.sent r.head.made ≡ head_made s.head.ext s.head.pid s.head.interval s.head.count s.head.pc s.head.regs s.head.vec s.head.got s.head.sent s.head.made = cc in
    let same : made r.n r.head r.memory r.kept r.outputs ≡ made s.n s.head s.memory s.kept s.outputs = cc in
    same

module _ (bytes : List ℕ) where
  ended_of : (x : Version × CheckpointRecord) → checkpoint_at bytes ≡ Ok x → AreEnded x.1
  ended_of x e = (let h = of_ok (λ (y : Version × CheckpointRecord). IsCheckpoint y.1) (checkpoint_at bytes) x (checkpoint_holds bytes) e in record { kept = h.kept; outputs = h.outputs })

  -- what is read spells the bytes
  pub checkpoint_found : (x : Version × CheckpointRecord) → IsBytes bytes → checkpoint_at bytes ≡ Ok x → SpellsCheckpoint x.0 x.1 bytes
  checkpoint_found x fits e = record {
    fields = found checkpoint_format 0 bytes (checkpoint_values x.0 x.1) fits (checkpoint_is bytes ∙ ap (λ (r : Result (Version × CheckpointRecord) DecodeError). r >>= λ s. Ok (checkpoint_values s.0 s.1)) e);
    ended = ended_of x e;
  }

  -- what the bytes spell is read
  pub checkpoint_again : (v : Version) (r : CheckpointRecord) → SpellsCheckpoint v r bytes → checkpoint_at bytes ≡ Ok (v, r)
  checkpoint_again v r h =
      let b = bind_ok (checkpoint_at bytes) (λ s. Ok (checkpoint_values s.0 s.1)) (checkpoint_values v r) (sym (checkpoint_is bytes) ∙ again checkpoint_format 0 bytes (checkpoint_values v r) h.fields) in
      let values = ok_is (checkpoint_values b.0.0 b.0.1) (checkpoint_values v r) b.2 in
      let version = same_version b.0.0 v b.0.1 r values in
      let record_is = same_checkpoint v b.0.1 r (ended_of b.0 b.1) h.ended (subst (λ (w : Version). checkpoint_values w b.0.1 ≡ checkpoint_values v r) version values) in
      b.1 ∙ ap (λ (w : Version). Ok (w, b.0.1)) version ∙ ap (λ (s : CheckpointRecord). Ok (v, s)) record_is

  -- what is not read has a first fault
  pub checkpoint_faulty : (e : DecodeError) → checkpoint_at bytes ≡ Err e → checkpoint_fault bytes ≡ Some e
  checkpoint_faulty e h = faulty checkpoint_format 0 bytes e (checkpoint_is bytes ∙ ap (λ (r : Result (Version × CheckpointRecord) DecodeError). r >>= λ s. Ok (checkpoint_values s.0 s.1)) h)

  -- bytes are spelled or have a first fault
  pub checkpoint_or_fault : IsBytes bytes → ((r : CheckpointRecord) × IsSpelled r bytes) ⊎ ((e : DecodeError) × (checkpoint_fault bytes ≡ Some e))
  checkpoint_or_fault fits = by_reading (checkpoint_at bytes) refl
    where
      by_reading : (x : Result (Version × CheckpointRecord) DecodeError) → checkpoint_at bytes ≡ x → ((r : CheckpointRecord) × IsSpelled r bytes) ⊎ ((e : DecodeError) × (checkpoint_fault bytes ≡ Some e))
      by_reading (Ok r) h = inl (r.1, (r.0, checkpoint_found r fits h))
      by_reading (Err e) h = inr (e, checkpoint_faulty e h)

  -- bytes spell at most one
  pub one_checkpoint : (v w : Version) (r s : CheckpointRecord) → SpellsCheckpoint v r bytes → SpellsCheckpoint w s bytes → (v ≡ w) × (r ≡ s)
  one_checkpoint v w r s p q =
      let same = ok_is (v, r) (w, s) (sym (checkpoint_again v r p) ∙ checkpoint_again w s q) in
      (ap (λ (x : Version × CheckpointRecord). x.0) same, ap (λ (x : Version × CheckpointRecord). x.1) same)

  -- the parts that were read
  pub parts_are : (f : Front) (behind : List ℕ) (r : Result (List ℕ × List QueueRecord × QueueRecord) DecodeError) → front_at bytes ≡ Ok (f, behind) → rest_at f behind ≡ r → checkpoint_at bytes ≡ (r >>= λ x. Ok (f.version, checkpoint_of f x.0 x.1 x.2))
  unfolding checkpoint_at
  parts_are f behind r e g = rw (e, g) refl

  pub no_front : (e : DecodeError) → front_at bytes ≡ Err e → checkpoint_at bytes ≡ Err e
  unfolding checkpoint_at
  no_front e h = rw h refl
