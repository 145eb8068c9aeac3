-- What is read is lawful.
use Rattle.std.proofs.Common.{◌≡◌, ℕ, zero, suc, ◌+◌, ◌-◌, ◌%◌, ◌<◌, ◌≤◌, true, eqb, ltb, List, [], ◌∷◌, length, Ok, refl, ap, ◌∙◌, arith}
use Rattle.std.specs.Prelude.{map, sum, slice_index, nat_le}
use Rattle.std.proofs.lemmas.Bool.{and_from, and_parts, ltb-true, leb-true, le-leb, eqb-true}
use Rattle.om_format.specs.declared.checkpoint_reading.Front.{Front}
use Rattle.om_format.specs.declared.limits.TheConstants.{MAX_PROCESSES_OF_VERSION_1}
use Rattle.om_isa.specs.declared.registers.TheConstants.{WRITABLE_REGISTERS}
use Rattle.om_interval.specs.declared.pid.TheConstants.{MAX_PROCESSES}
use Rattle.om_format.specs.declared.version.Version.{Version}
use Rattle.om_format.specs.declared.version.Version.TheVariants.{V1, V2}
use Rattle.om_format.specs.Formats.{Size, one, two, four, eight, bytes_in, is_body_size}
use Rattle.om_format.specs.Queues.{QueueRecord, queue_end, is_between, are_entries, all_entries}
use Rattle.om_format.specs.Versions.{is_kind, is_version, version_of, is_cluster_size}
use Rattle.om_format.specs.Checkpoints.{IsCheckpoint}
use Rattle.om_isa.specs.Memory.{is_memory_size}
use Rattle.om_format.specs.steps.Offsets.{memory_offset}
use Rattle.om_format.specs.steps.Reading.{number_at, numbers_at, opening_at, counted_at, end_at}
use Rattle.om_format.specs.steps.CheckpointReading.{place_at, progress_at, vectors_at, made_at, front_at, memory_at, entry_at, entries_at, queue_at, queues_at, rest_at, checkpoint_of, checkpoint_at}
use Rattle.om_format.proofs.Holding.{Holds, of_ok, then_holds, any_holds, allow_holds, numbers_hold, counted_hold}
use Rattle.om_format.proofs.MemoryReading.{memory_hold}

entry_hold : (newest low offset : ℕ) (bytes : List ℕ) → Holds (λ x. (is_between low newest x.0.interval ≡ true) × (is_body_size (length x.0.body) ≡ true)) (entry_at newest low offset bytes)
unfolding entry_at
entry_hold newest low offset bytes =
    any_holds _ (number_at four bytes) _ (λ n. allow_holds _ (is_between low newest n.0) _ _ (λ between.
    then_holds _ (λ x. is_body_size (length x.0) ≡ true) (counted_at two is_body_size (offset + 4) n.1) _ (counted_hold two is_body_size (offset + 4) n.1) (λ content fits. (between, fits))))

entries_hold : (newest low count offset : ℕ) (bytes : List ℕ) → Holds (λ x. (length x.0 ≡ count) × (are_entries newest low x.0 ≡ true)) (entries_at newest low count offset bytes)
unfolding entries_at
entries_hold newest low zero offset bytes = (refl, refl)
entries_hold newest low (suc count) offset bytes =
    then_holds _ (λ x. (is_between low newest x.0.interval ≡ true) × (is_body_size (length x.0.body) ≡ true)) (entry_at newest low offset bytes) _ (entry_hold newest low offset bytes) (λ e h.
    then_holds _ (λ x. (length x.0 ≡ count) × (are_entries newest e.0.interval x.0 ≡ true)) (entries_at newest e.0.interval count e.1 e.2) _ (entries_hold newest e.0.interval count e.1 e.2) (λ more m.
    (ap suc m.0, and_from _ _ (and_from _ _ h.0 h.1) m.1)))

queue_hold : (size : Size) (newest stop offset : ℕ) (bytes : List ℕ) → Holds (λ x. (queue_end x.0 ≡ stop) × (are_entries newest 0 x.0.entries ≡ true)) (queue_at size newest stop offset bytes)
unfolding queue_at
queue_hold size newest stop offset bytes =
    any_holds _ (number_at size bytes) _ (λ first. allow_holds _ (nat_le first.0 stop) _ _ (λ below.
    then_holds _ (λ x. (length x.0 ≡ stop - first.0) × (are_entries newest 0 x.0 ≡ true)) (entries_at newest 0 (stop - first.0) (offset + bytes_in size) first.1) _ (entries_hold newest 0 (stop - first.0) (offset + bytes_in size) first.1) (λ x h.
    (let le : first.0 ≤ stop = leb-true _ _ below in omega (arith, h.0), h.1))))

queues_hold : (newest : ℕ) (stops : List ℕ) (offset : ℕ) (bytes : List ℕ) → Holds (λ x. (map queue_end x.0 ≡ stops) × (all_entries newest x.0 ≡ true)) (queues_at newest stops offset bytes)
unfolding queues_at
queues_hold newest [] offset bytes = (refl, refl)
queues_hold newest (stop ∷ stops) offset bytes =
    then_holds _ (λ x. (queue_end x.0 ≡ stop) × (are_entries newest 0 x.0.entries ≡ true)) (queue_at four newest stop offset bytes) _ (queue_hold four newest stop offset bytes) (λ q h.
    then_holds _ (λ x. (map queue_end x.0 ≡ stops) × (all_entries newest x.0 ≡ true)) (queues_at newest stops q.1 q.2) _ (queues_hold newest stops q.1 q.2) (λ more m.
    (rw (h.0, m.0) refl, and_from _ _ h.1 m.1)))

-- a number of processes of any version
cluster_of_any : (version : Version) (n : ℕ) → is_cluster_size version n ≡ true → is_cluster_size V2 n ≡ true
cluster_of_any V1 n h =
    let p = and_parts _ _ h in
    let most : n ≤ MAX_PROCESSES_OF_VERSION_1 = leb-true _ _ p.1 in
    and_from (nat_le 1 n) (nat_le n MAX_PROCESSES) p.0 (le-leb _ _ (omega (arith, most)))
cluster_of_any V2 n h = h

place_hold : (version : Version) (bytes : List ℕ) → Holds (λ x. (is_cluster_size version x.0 ≡ true) × (x.1 < x.0)) (place_at version bytes)
unfolding place_at
place_hold version bytes =
    let P : ℕ × ℕ × List ℕ → Type 0 = λ x. (is_cluster_size version x.0 ≡ true) × (x.1 < x.0) in
    any_holds P (number_at one bytes) _ (λ n. allow_holds P (is_cluster_size version n.0) _ _ (λ is_cluster.
    any_holds P (number_at one n.1) _ (λ pid. allow_holds P (ltb pid.0 n.0) _ _ (λ is_below.
    (is_cluster, ltb-true _ _ is_below)))))

progress_hold : (bytes : List ℕ) → Holds (λ x. (x.0 ≤ x.1) × (x.2 % 4 ≡ 0)) (progress_at bytes)
unfolding progress_at
progress_hold bytes =
    let P : ℕ × ℕ × ℕ × List ℕ → Type 0 = λ x. (x.0 ≤ x.1) × (x.2 % 4 ≡ 0) in
    any_holds P (number_at four bytes) _ (λ interval.
    any_holds P (number_at eight interval.1) _ (λ count. allow_holds P (nat_le interval.0 count.0) _ _ (λ is_counted.
    any_holds P (number_at four count.1) _ (λ pc. allow_holds P (eqb (pc.0 % 4) 0) _ _ (λ is_aligned.
    (leb-true _ _ is_counted, eqb-true _ _ is_aligned))))))

-- the vectors fit the fields before them
record FitVectors (n pid interval : ℕ) (vec got sent : List ℕ) : Type 0 where
  vec_len : length vec ≡ n
  own : slice_index vec pid ≡ interval
  got_len : length got ≡ n
  received : sum got ≡ interval
  sent_len : length sent ≡ n

vectors_hold : (n pid interval : ℕ) (bytes : List ℕ) → Holds (λ x. FitVectors n pid interval x.0 x.1 x.2) (vectors_at n pid interval bytes)
unfolding vectors_at
vectors_hold n pid interval bytes =
    let P : List ℕ × List ℕ × List ℕ × List ℕ → Type 0 = λ x. FitVectors n pid interval x.0 x.1 x.2 in
    then_holds P (λ x. length x.0 ≡ n) (numbers_at four n bytes) _ (numbers_hold four n bytes) (λ vec vec_len. allow_holds P (eqb (slice_index vec.0 pid) interval) _ _ (λ is_own.
    then_holds P (λ x. length x.0 ≡ n) (numbers_at four n vec.1) _ (numbers_hold four n vec.1) (λ got got_len. allow_holds P (eqb (sum got.0) interval) _ _ (λ is_sum.
    then_holds P (λ x. length x.0 ≡ n) (numbers_at four n got.1) _ (numbers_hold four n got.1) (λ sent sent_len.
    record { vec_len = vec_len; own = eqb-true _ _ is_own; got_len = got_len; received = eqb-true _ _ is_sum; sent_len = sent_len })))))

made_hold : (n count : ℕ) (bytes : List ℕ) → Holds (λ x. (x.0 ≤ count) × (is_memory_size x.1 ≡ true)) (made_at n count bytes)
unfolding made_at
made_hold n count bytes =
    let P : ℕ × ℕ × List ℕ → Type 0 = λ x. (x.0 ≤ count) × (is_memory_size x.1 ≡ true) in
    any_holds P (number_at eight bytes) _ (λ made. allow_holds P (nat_le made.0 count) _ _ (λ is_made.
    any_holds P (number_at four made.1) _ (λ size. allow_holds P (is_memory_size size.0) _ _ (λ is_size.
    (leb-true _ _ is_made, is_size)))))

-- the fields before the memory fit each other
record FitsFront (f : Front) : Type 0 where
  n : is_cluster_size V2 f.n ≡ true
  pid : f.head.pid < f.n
  count : f.head.interval ≤ f.head.count
  pc : f.head.pc % 4 ≡ 0
  regs : length f.head.regs ≡ WRITABLE_REGISTERS
  vectors : FitVectors f.n f.head.pid f.head.interval f.head.vec f.head.got f.head.sent
  made : f.head.made ≤ f.head.count
  size : is_memory_size f.size ≡ true

front_hold : (bytes : List ℕ) → Holds (λ x. FitsFront x.0) (front_at bytes)
unfolding front_at
front_hold bytes =
    let P : Front × List ℕ → Type 0 = λ x. FitsFront x.0 in
    any_holds P (opening_at is_kind is_version bytes) _ (λ opened.
    then_holds P (λ x. (is_cluster_size (version_of opened.1) x.0 ≡ true) × (x.1 < x.0)) (place_at (version_of opened.1) opened.2) _ (place_hold (version_of opened.1) opened.2) (λ place at.
    then_holds P (λ x. (x.0 ≤ x.1) × (x.2 % 4 ≡ 0)) (progress_at place.2) _ (progress_hold place.2) (λ progress on.
    then_holds P (λ x. length x.0 ≡ WRITABLE_REGISTERS) (numbers_at four WRITABLE_REGISTERS progress.3) _ (numbers_hold four WRITABLE_REGISTERS progress.3) (λ regs regs_len.
    then_holds P (λ x. FitVectors place.0 place.1 progress.0 x.0 x.1 x.2) (vectors_at place.0 place.1 progress.0 regs.1) _ (vectors_hold place.0 place.1 progress.0 regs.1) (λ vectors v.
    then_holds P (λ x. (x.0 ≤ progress.1) × (is_memory_size x.1 ≡ true)) (made_at place.0 progress.1 vectors.3) _ (made_hold place.0 progress.1 vectors.3) (λ made m.
    record {
      n = cluster_of_any (version_of opened.1) place.0 at.0;
      pid = at.1;
      count = on.0;
      pc = on.1;
      regs = regs_len;
      vectors = v;
      made = m.0;
      size = m.1;
    }))))))

-- what comes behind them fits
record FitsRest (f : Front) (memory : List ℕ) (kept : List QueueRecord) (outputs : QueueRecord) : Type 0 where
  size : length memory ≡ f.size
  kept_end : map queue_end kept ≡ f.head.sent
  messages : all_entries f.head.interval kept ≡ true
  outputs_end : queue_end outputs ≡ f.head.made
  out : are_entries f.head.interval 0 outputs.entries ≡ true

rest_hold : (f : Front) (bytes : List ℕ) → Holds (λ x. FitsRest f x.0 x.1 x.2) (rest_at f bytes)
unfolding rest_at
rest_hold f bytes =
    let P : List ℕ × List QueueRecord × QueueRecord → Type 0 = λ x. FitsRest f x.0 x.1 x.2 in
    then_holds P (λ x. length x.0 ≡ f.size) (memory_at f.version f.size (memory_offset f.n) bytes) _ (memory_hold f.version f.size (memory_offset f.n) bytes) (λ memory size.
    then_holds P (λ x. (map queue_end x.0 ≡ f.head.sent) × (all_entries f.head.interval x.0 ≡ true)) (queues_at f.head.interval f.head.sent memory.1 memory.2) _ (queues_hold f.head.interval f.head.sent memory.1 memory.2) (λ kept k.
    then_holds P (λ x. (queue_end x.0 ≡ f.head.made) × (are_entries f.head.interval 0 x.0.entries ≡ true)) (queue_at eight f.head.interval f.head.made kept.1 kept.2) _ (queue_hold eight f.head.interval f.head.made kept.1 kept.2) (λ outputs o.
    any_holds P (end_at outputs.2) _ (λ ended. record { size = size; kept_end = k.0; messages = k.1; outputs_end = o.0; out = o.1 }))))

fits : (f : Front) (memory : List ℕ) (kept : List QueueRecord) (outputs : QueueRecord) → FitsFront f → FitsRest f memory kept outputs → IsCheckpoint (checkpoint_of f memory kept outputs)
fits f memory kept outputs h r = record {
  n = h.n;
  pid = h.pid;
  count = h.count;
  pc = h.pc;
  regs = h.regs;
  vec = h.vectors.vec_len;
  own = h.vectors.own;
  got = h.vectors.got_len;
  received = h.vectors.received;
  sent = h.vectors.sent_len;
  made = h.made;
  memory = ap is_memory_size r.size ∙ h.size;
  kept = r.kept_end;
  outputs = r.outputs_end;
  messages = r.messages;
  out = r.out;
}

-- what the parts that were read make is a checkpoint
pub fit_together : (bytes behind : List ℕ) (f : Front) (memory : List ℕ) (kept : List QueueRecord) (outputs : QueueRecord) → front_at bytes ≡ Ok (f, behind) → rest_at f behind ≡ Ok (memory, kept, outputs) → IsCheckpoint (checkpoint_of f memory kept outputs)
fit_together bytes behind f memory kept outputs e g =
    fits f memory kept outputs (of_ok (λ (x : Front × List ℕ). FitsFront x.0) (front_at bytes) (f, behind) (front_hold bytes) e) (of_ok (λ (x : List ℕ × List QueueRecord × QueueRecord). FitsRest f x.0 x.1 x.2) (rest_at f behind) (memory, kept, outputs) (rest_hold f behind) g)

pub checkpoint_holds : (bytes : List ℕ) → Holds (λ x. IsCheckpoint x.1) (checkpoint_at bytes)
unfolding checkpoint_at
checkpoint_holds bytes =
    then_holds _ (λ x. FitsFront x.0) (front_at bytes) _ (front_hold bytes) (λ f h.
    then_holds _ (λ x. FitsRest f.0 x.0 x.1 x.2) (rest_at f.0 f.1) _ (rest_hold f.0 f.1) (λ r g. fits f.0 r.0 r.1 r.2 h g))
