-- What is written of a checkpoint spells it.
use Rattle.std.proofs.Common.{eq-eqb, lit<, ◌≡◌, ℕ, zero, suc, ◌+◌, ◌-◌, ◌*◌, ◌<◌, ◌≤◌, ◌^◌, Bool, true, false, cond, List, [], ◌∷◌, ◌++◌, length, take, drop, min, refl, sym, ap, subst, ◌∙◌, append_assoc, arith, Result, Ok, Err}
use Rattle.std.specs.Prelude.{map, IfOk}
use Rattle.std.specs.Global.{Vec}
use Rattle.std.specs.declared.alloc.AllocError.{AllocError}
use Rattle.std.specs.List.{flat_map, AllByRecursion}
use Rattle.std.specs.Int.{w16, w32, w64, to_le_bytes}
use Rattle.std.proofs.lemmas.Bool.{and_parts, and_from, leb-true, le-leb, lt-ltb}
use Rattle.std.proofs.lemmas.List.{append-nil, length-drop, length-take}
use Rattle.om_interval.specs.declared.pid.TheConstants.{MAX_PROCESSES}
use Rattle.om_format.specs.declared.queue.QueueEntry.{QueueEntry}
use Rattle.om_pages.specs.declared.pages.TheConstants.{PAGE}
use Rattle.om_format.specs.declared.limits.TheConstants.{MAX_BODY}
use Rattle.om_isa.specs.declared.memory.TheConstants.{MAX_MEMORY}
use Rattle.om_isa.specs.declared.registers.TheConstants.{WRITABLE_REGISTERS}
use Rattle.om_isa.specs.declared.ext.Ext.{Ext}
use Rattle.om_isa.specs.declared.ext.Ext.TheVariants.{I, Im}
use Rattle.om_format.specs.declared.version.Version.TheVariants.{V2}
use Rattle.om_pages.specs.Pages.{Page, page_count, page_size, is_kept, kept_pages}
use Rattle.om_format.specs.Pages.{pages, counted_pages, page_values}
use Rattle.om_format.specs.Versions.{kind_of, is_kind, version_number, memory_in, memory_values}
use Rattle.om_format.proofs.KeptPages.{kept_from, kept_by, kept_pages_are}
use Rattle.om_format.proofs.MemoryReading.{FitsPage}
use Rattle.om_format.specs.Formats.{Size, one, two, four, eight, Format, end, any, counted, opening, is_body_size, limit}
use Rattle.om_format.specs.Spelling.{numbers, IsField, Spells}
use Rattle.om_format.specs.Queues.{QueueRecord, queue_end, are_entries, all_entries, entries, queue, queues, entry_values, queue_values}
use Rattle.om_format.specs.Checkpoints.{CheckpointRecord, IsCheckpoint, SpellsCheckpoint, front, checkpoint_format, checkpoint_values}
use Rattle.om_format.specs.steps.CheckpointBytes.{page_bytes, entry_bytes, message_bytes, checkpoint_bytes, AreWords, AreWithin}
use Rattle.om_format.proofs.Numbers.{IsBytes, within_bytes, numbers-bytes}
use Rattle.om_format.proofs.Receipts.{field_of, byte_cell}

-- the bytes behind others are bytes
bytes_behind : (front rest : List ℕ) → IsBytes (front ++ rest) → IsBytes rest
bytes_behind [] rest h = h
bytes_behind (b ∷ front) rest h = bytes_behind front rest (λ i. h (suc i))

cons_bytes : (b : ℕ) (bytes : List ℕ) → b < 256 → IsBytes bytes → IsBytes (b ∷ bytes)
cons_bytes b bytes lt h zero = lt
cons_bytes b bytes lt h (suc i) = h i

bytes_before : (front rest : List ℕ) → IsBytes (front ++ rest) → IsBytes front
bytes_before [] rest h = λ i. lit< tt
bytes_before (b ∷ front) rest h = cons_bytes b front (h 0) (bytes_before front rest (λ i. h (suc i)))

words_within : (words : List ℕ) → AreWords words → AllByRecursion (λ value. value < limit four) words
words_within [] h = tt
words_within (w ∷ words) h = (h 0, words_within words (λ i. h (suc i)))

-- a length and so many bytes
counted_spells : (size : Size) (allowed : ℕ → Bool) (bytes : List ℕ) (behind : Format) (rest : List (List ℕ)) (after : List ℕ) → length bytes < limit size → allowed (length bytes) ≡ true → IsBytes bytes → Spells behind rest after
    → Spells (counted size allowed behind) ((length bytes ∷ []) ∷ bytes ∷ rest) (numbers size (length bytes ∷ []) ++ (bytes ++ after))
unfolding counted
counted_spells size allowed bytes behind rest after within fine fits h =
    let here : IsField one (length bytes) any bytes = record { whole = refl; within = within_bytes bytes fits; allowed = refl } in (
      field_of size _ (length bytes) within fine,
      bytes ++ after,
      refl,
      (here, after, ap (λ (x : List ℕ). x ++ after) (sym (numbers-bytes bytes fits)), h),
    )

-- ---- pages

-- the pages are allowed, each behind the one before
abbrev AreFit : ℕ → ℕ → List Page → Type 0
AreFit size low [] = Unit {0}
AreFit size low (page ∷ pages) = FitsPage size low page × AreFit size (page.index + 1) pages

from_before : (size low : ℕ) (pages : List Page) → AreFit size (low + 1) pages → AreFit size low pages
from_before size low [] h = tt
from_before size low (page ∷ pages) h = (record { above = (let above = h.0.above in omega arith); below = h.0.below; whole = h.0.whole; kept = h.0.kept }, h.1)

kept_fit : (size low count : ℕ) (bytes : List ℕ) → low + count ≡ page_count size → length bytes ≡ size - low * PAGE → AreFit size low (kept_from low count bytes)
kept_fit size low zero bytes all whole = tt
kept_fit size low (suc count) bytes all whole =
    by_test (is_kept (take PAGE bytes)) refl (kept_fit size (low + 1) count (drop PAGE bytes) (omega arith) (omega (arith, length-drop PAGE bytes)))
  where
    by_test : (b : Bool) → is_kept (take PAGE bytes) ≡ b → AreFit size (low + 1) (kept_from (low + 1) count (drop PAGE bytes)) → AreFit size low (cond b (record { index = low; bytes = take PAGE bytes } ∷ kept_from (low + 1) count (drop PAGE bytes)) (kept_from (low + 1) count (drop PAGE bytes)))
    by_test true kept more = (record { above = omega arith; below = omega arith; whole = length-take PAGE bytes ∙ ap (λ (n : ℕ). min PAGE n) whole; kept = kept }, more)
    by_test false kept more = from_before size low _ more

kept_few : (size low count : ℕ) (bytes : List ℕ) → length (kept_by size low count bytes) ≤ count
kept_few size low zero bytes = omega arith
kept_few size low (suc count) bytes = by_test (is_kept (take size bytes)) (kept_few size (low + 1) count (drop size bytes))
  where
    by_test : (b : Bool) → length (kept_by size (low + 1) count (drop size bytes)) ≤ count → length (cond b (record { index = low; bytes = take size bytes } ∷ kept_by size (low + 1) count (drop size bytes)) (kept_by size (low + 1) count (drop size bytes))) ≤ suc count
    by_test true few = omega arith
    by_test false few = omega arith

pages_spell : (size low : ℕ) (ps : List Page) (behind : Format) (rest : List (List ℕ)) (after : List ℕ) → size ≤ MAX_MEMORY → AreFit size low ps → IsBytes (flat_map page_bytes ps ++ after) → Spells behind rest after
    → Spells (pages size low (length ps) behind) (flat_map page_values ps ++ rest) (flat_map page_bytes ps ++ after)
unfolding pages
pages_spell size low [] behind rest after most fit fits h = h
pages_spell size low (p ∷ ps) behind rest after most fit fits h =
    let tail = flat_map page_bytes ps ++ after in
    let regrouped : flat_map page_bytes (p ∷ ps) ++ after ≡ to_le_bytes w16 p.index ++ (p.bytes ++ tail) = rw (append_assoc p.bytes (flat_map page_bytes ps) after) refl in
    let page_fits : IsBytes (p.bytes ++ tail) = subst IsBytes (append_assoc p.bytes (flat_map page_bytes ps) after) (bytes_behind (to_le_bytes w16 p.index) ((p.bytes ++ flat_map page_bytes ps) ++ after) fits) in
    let above = fit.0.above in
    let below = fit.0.below in
    let bytes_fit : IsBytes p.bytes = bytes_before p.bytes tail page_fits in
    let more = pages_spell size (p.index + 1) ps behind rest after most fit.1 (bytes_behind p.bytes tail page_fits) h in
    let here : IsField one (page_size size p.index) is_kept p.bytes = record { whole = fit.0.whole; within = within_bytes p.bytes bytes_fit; allowed = fit.0.kept } in
    let spelled : Spells (pages size low (suc (length ps)) behind) (flat_map page_values (p ∷ ps) ++ rest) (to_le_bytes w16 p.index ++ (p.bytes ++ tail)) = (
      field_of two _ p.index (omega arith) (and_from _ _ (le-leb _ _ above) (lt-ltb _ _ below)),
      p.bytes ++ tail,
      refl,
      (here, tail, ap (λ (x : List ℕ). x ++ tail) (sym (numbers-bytes p.bytes bytes_fit)), more),
    ) in
    subst (λ (bytes : List ℕ). Spells (pages size low (suc (length ps)) behind) (flat_map page_values (p ∷ ps) ++ rest) bytes) (sym regrouped) spelled

memory_spells : (memory : List ℕ) (behind : Format) (rest : List (List ℕ)) (after : List ℕ) → length memory ≤ MAX_MEMORY → IsBytes (flat_map page_bytes (kept_pages memory) ++ after) → Spells behind rest after
    → Spells (memory_in V2 (length memory) behind) (memory_values V2 memory ++ rest) (to_le_bytes w16 (length (kept_pages memory)) ++ (flat_map page_bytes (kept_pages memory) ++ after))
unfolding memory_in counted_pages
memory_spells memory behind rest after most fits h =
    let size = length memory in
    let same : kept_pages memory ≡ kept_from 0 (page_count size) memory = kept_pages_are memory size refl in
    let few : length (kept_pages memory) ≤ page_count size = subst (λ (ps : List Page). length ps ≤ page_count size) (sym same) (kept_few PAGE 0 (page_count size) memory) in
    let fit : AreFit size 0 (kept_pages memory) = subst (AreFit size 0) (sym same) (kept_fit size 0 (page_count size) memory (omega arith) (omega arith)) in (
      field_of two _ (length (kept_pages memory)) (omega arith) (le-leb _ _ few),
      flat_map page_bytes (kept_pages memory) ++ after,
      refl,
      pages_spell size 0 (kept_pages memory) behind rest after most fit fits h,
    )

-- ---- queues

entries_spell : (newest low : ℕ) (es : List QueueEntry) (behind : Format) (rest : List (List ℕ)) (after : List ℕ) → newest < 2 ^ 32 → are_entries newest low es ≡ true → IsBytes (flat_map entry_bytes es ++ after) → Spells behind rest after
    → Spells (entries newest low (length es) behind) (flat_map entry_values es ++ rest) (flat_map entry_bytes es ++ after)
unfolding entries
entries_spell newest low [] behind rest after lt fine fits h = h
entries_spell newest low (e ∷ es) behind rest after lt fine fits h =
    let p = and_parts _ _ fine in
    let q = and_parts _ _ p.0 in
    let tail = flat_map entry_bytes es ++ after in
    let regrouped : flat_map entry_bytes (e ∷ es) ++ after ≡ to_le_bytes w32 e.interval ++ (to_le_bytes w16 (length e.body) ++ (e.body ++ tail)) = rw (append_assoc e.body (flat_map entry_bytes es) after) refl in
    let tail_fits : IsBytes (e.body ++ tail) = subst IsBytes (append_assoc e.body (flat_map entry_bytes es) after) (bytes_behind (to_le_bytes w32 e.interval ++ to_le_bytes w16 (length e.body)) ((e.body ++ flat_map entry_bytes es) ++ after) fits) in
    let small : length e.body ≤ MAX_BODY = leb-true _ _ q.1 in
    let more = entries_spell newest e.interval es behind rest after lt p.1 (bytes_behind e.body tail tail_fits) h in
    let bodies = counted_spells two is_body_size e.body (entries newest e.interval (length es) behind) (flat_map entry_values es ++ rest) tail (omega arith) q.1 (bytes_before e.body tail tail_fits) more in
    let newest_last : e.interval ≤ newest = leb-true _ _ (and_parts _ _ q.0).1 in
    let within : e.interval < limit four = omega (arith, newest_last, lt) in
    let spelled : Spells (entries newest low (suc (length es)) behind) (flat_map entry_values (e ∷ es) ++ rest) (to_le_bytes w32 e.interval ++ (to_le_bytes w16 (length e.body) ++ (e.body ++ tail))) = (field_of four _ e.interval within q.0, _, refl, bodies) in
    subst (λ (bytes : List ℕ). Spells (entries newest low (suc (length es)) behind) (flat_map entry_values (e ∷ es) ++ rest) bytes) (sym regrouped) spelled

queue_spells : (size : Size) (newest stop : ℕ) (q : QueueRecord) (behind : Format) (rest : List (List ℕ)) (after : List ℕ) → newest < 2 ^ 32 → queue_end q ≡ stop → stop < limit size → are_entries newest 0 q.entries ≡ true
    → IsBytes (numbers size (q.first ∷ []) ++ (flat_map entry_bytes q.entries ++ after)) → Spells behind rest after
    → Spells (queue size newest stop behind) (queue_values q ++ rest) (numbers size (q.first ∷ []) ++ (flat_map entry_bytes q.entries ++ after))
unfolding queue
queue_spells size newest stop q behind rest after lt ended small fine fits h =
    let tail = flat_map entry_bytes q.entries ++ after in
    let kept : length q.entries ≡ stop - q.first = omega (arith, ended) in
    let le : q.first ≤ stop = omega (arith, ended) in
    let within : q.first < limit size = omega (arith, le, small) in
    let more = entries_spell newest 0 q.entries behind rest after lt fine (bytes_behind (numbers size (q.first ∷ [])) tail fits) h in
    (field_of size _ q.first within (le-leb _ _ le), tail, refl, subst (λ (count : ℕ). Spells (entries newest 0 count behind) (flat_map entry_values q.entries ++ rest) tail) kept more)

queues_spell : (newest : ℕ) (qs : List QueueRecord) (stops : List ℕ) (behind : Format) (rest : List (List ℕ)) (after : List ℕ) → newest < 2 ^ 32 → map queue_end qs ≡ stops → AreWords stops → all_entries newest qs ≡ true
    → IsBytes (flat_map message_bytes qs ++ after) → Spells behind rest after
    → Spells (queues newest stops behind) (flat_map queue_values qs ++ rest) (flat_map message_bytes qs ++ after)
unfolding queues
queues_spell newest [] [] behind rest after lt ended small fine fits h = h
queues_spell newest [] (stop ∷ stops) behind rest after lt ended small fine fits h = absurd cc
queues_spell newest (q ∷ qs) [] behind rest after lt ended small fine fits h = absurd cc
queues_spell newest (q ∷ qs) (stop ∷ stops) behind rest after lt ended small fine fits h =
    let here : queue_end q ≡ stop = cc in
    let others : map queue_end qs ≡ stops = cc in
    let p = and_parts _ _ fine in
    let tail = flat_map message_bytes qs ++ after in
    let whole = numbers four (q.first ∷ []) ++ (flat_map entry_bytes q.entries ++ tail) in
    let regrouped : whole ≡ flat_map message_bytes (q ∷ qs) ++ after = rw (← append_assoc (flat_map entry_bytes q.entries) (flat_map message_bytes qs) after) refl in
    let whole_fits : IsBytes whole = subst IsBytes (sym regrouped) fits in
    let tail_fits : IsBytes tail = bytes_behind (flat_map entry_bytes q.entries) tail (bytes_behind (numbers four (q.first ∷ [])) (flat_map entry_bytes q.entries ++ tail) whole_fits) in
    let more = queues_spell newest qs stops behind rest after lt others (λ i. small (suc i)) p.1 tail_fits h in
    let spelled = queue_spells four newest stop q (queues newest stops behind) (flat_map queue_values qs ++ rest) tail lt here (small 0) p.0 whole_fits more in
    let fields : List (List ℕ) = flat_map queue_values (q ∷ qs) ++ rest in
    let moved : Spells (queue four newest stop (queues newest stops behind)) fields whole = subst (λ (vs : List (List ℕ)). Spells (queue four newest stop (queues newest stops behind)) vs whole) (sym (append_assoc (queue_values q) (flat_map queue_values qs) rest)) spelled in
    subst (λ (bytes : List ℕ). Spells (queue four newest stop (queues newest stops behind)) fields bytes) regrouped moved

words_of : (count : ℕ) (allowed : List ℕ → Bool) (words : List ℕ) → length words ≡ count → AreWords words → allowed words ≡ true → IsField four count allowed words
words_of count allowed words len within fine = record { whole = len; within = words_within words within; allowed = fine }

kind_small : (ext : Ext) → kind_of ext < 256
kind_small I = lit< tt
kind_small Im = lit< tt

kind_fine : (ext : Ext) → is_kind (kind_of ext) ≡ true
kind_fine I = refl
kind_fine Im = refl

pub checkpoint_spells : (r : CheckpointRecord) → IsCheckpoint r → AreWithin r.head → IsBytes (checkpoint_bytes r) → SpellsCheckpoint V2 r (checkpoint_bytes r)
unfolding checkpoint_format front opening
checkpoint_spells r h w fits =
    let n_parts = and_parts _ _ h.n in
    let n_most : r.n ≤ MAX_PROCESSES = leb-true _ _ n_parts.1 in
    let n_byte : r.n < 256 = omega (arith, n_most) in
    let pid_byte : r.head.pid < 256 = omega (arith, h.pid, n_byte) in
    let size_most : length r.memory ≤ MAX_MEMORY = leb-true _ _ (and_parts _ _ (and_parts _ _ h.memory).0).1 in
    let t_out = numbers eight (r.outputs.first ∷ []) ++ (flat_map entry_bytes r.outputs.entries ++ []) in
    let t_queues = flat_map message_bytes r.kept ++ t_out in
    let t_pages = flat_map page_bytes (kept_pages r.memory) ++ t_queues in
    let t_kept = to_le_bytes w16 (length (kept_pages r.memory)) ++ t_pages in
    let t_size = numbers four (length r.memory ∷ []) ++ t_kept in
    let t_made = to_le_bytes w64 r.head.made ++ t_size in
    let t_sent = numbers four r.head.sent ++ t_made in
    let t_got = numbers four r.head.got ++ t_sent in
    let t_vec = numbers four r.head.vec ++ t_got in
    let t_regs = numbers four r.head.regs ++ t_vec in
    let t_pc = to_le_bytes w32 r.head.pc ++ t_regs in
    let t_count = to_le_bytes w64 r.head.count ++ t_pc in
    let t_interval = to_le_bytes w32 r.head.interval ++ t_count in
    let t_pid = r.head.pid ∷ t_interval in
    let t_n = r.n ∷ t_pid in
    let t_version = version_number V2 ∷ t_n in
    let whole = kind_of r.head.ext ∷ t_version in
    let ended : whole ≡ checkpoint_bytes r = simp (append_assoc, append-nil) in
    let whole_fits : IsBytes whole = subst IsBytes (sym ended) fits in
    let regs_fit : IsBytes t_regs = bytes_behind ((kind_of r.head.ext ∷ version_number V2 ∷ r.n ∷ r.head.pid ∷ []) ++ to_le_bytes w32 r.head.interval ++ to_le_bytes w64 r.head.count ++ to_le_bytes w32 r.head.pc) t_regs whole_fits in
    let vec_fits : IsBytes t_vec = bytes_behind (numbers four r.head.regs) t_vec regs_fit in
    let got_fits : IsBytes t_got = bytes_behind (numbers four r.head.vec) t_got vec_fits in
    let sent_fits : IsBytes t_sent = bytes_behind (numbers four r.head.got) t_sent got_fits in
    let made_fits : IsBytes t_made = bytes_behind (numbers four r.head.sent) t_made sent_fits in
    let pages_fit : IsBytes t_pages = bytes_behind (to_le_bytes w64 r.head.made ++ to_le_bytes w32 (length r.memory) ++ to_le_bytes w16 (length (kept_pages r.memory))) t_pages made_fits in
    let queues_fit : IsBytes t_queues = bytes_behind (flat_map page_bytes (kept_pages r.memory)) t_queues pages_fit in
    let out_fits : IsBytes t_out = bytes_behind (flat_map message_bytes r.kept) t_out queues_fit in
    let last = queue_spells eight r.head.interval r.head.made r.outputs end [] [] w.interval h.outputs w.made h.out out_fits refl in
    let outputs : Spells (queue eight r.head.interval r.head.made end) (queue_values r.outputs) t_out = subst (λ (vs : List (List ℕ)). Spells (queue eight r.head.interval r.head.made end) vs t_out) (append-nil (queue_values r.outputs)) last in
    let kept = queues_spell r.head.interval r.kept r.head.sent (queue eight r.head.interval r.head.made end) (queue_values r.outputs) t_out w.interval h.kept w.sent h.messages queues_fit outputs in
    let memory = memory_spells r.memory (queues r.head.interval r.head.sent (queue eight r.head.interval r.head.made end)) (flat_map queue_values r.kept ++ queue_values r.outputs) t_queues size_most pages_fit kept in
    let spelled : Spells checkpoint_format (checkpoint_values V2 r) whole = (
      field_of one _ (kind_of r.head.ext) (kind_small r.head.ext) (kind_fine r.head.ext),
      t_version,
      byte_cell (kind_of r.head.ext) t_version (kind_small r.head.ext),
      (
        field_of one _ (version_number V2) (lit< tt) refl,
        t_n,
        refl,
        (
          field_of one _ r.n n_byte h.n,
          t_pid,
          byte_cell r.n t_pid n_byte,
          (
            field_of one _ r.head.pid pid_byte (lt-ltb _ _ h.pid),
            t_interval,
            byte_cell r.head.pid t_interval pid_byte,
            (
              field_of four any r.head.interval w.interval refl,
              t_count,
              refl,
              (
                field_of eight _ r.head.count w.count (le-leb _ _ h.count),
                t_pc,
                refl,
                (
                  field_of four _ r.head.pc w.pc (eq-eqb _ _ h.pc),
                  t_regs,
                  refl,
                  (
                    words_of WRITABLE_REGISTERS any r.head.regs h.regs w.regs refl,
                    t_vec,
                    refl,
                    (
                      words_of r.n _ r.head.vec h.vec w.vec (eq-eqb _ _ h.own),
                      t_got,
                      refl,
                      (
                        words_of r.n _ r.head.got h.got w.got (eq-eqb _ _ h.received),
                        t_sent,
                        refl,
                        (
                          words_of r.n any r.head.sent h.sent w.sent refl,
                          t_made,
                          refl,
                          (
                            field_of eight _ r.head.made w.made (le-leb _ _ h.made),
                            t_size,
                            refl,
                            (field_of four _ (length r.memory) (omega (arith, size_most)) h.memory, t_kept, refl, memory),
                          ),
                        ),
                      ),
                    ),
                  ),
                ),
              ),
            ),
          ),
        ),
      ),
    ) in
    record {
      fields = subst (λ (bytes : List ℕ). Spells checkpoint_format (checkpoint_values V2 r) bytes) ended spelled;
      ended = record { kept = h.kept; outputs = h.outputs };
    }

pub checkpoint_is_spelled : (r : CheckpointRecord) (v : Result (Vec ℕ) AllocError) → IfOk v (λ x. IsBytes x.items) → IfOk v (λ x. x.items ≡ checkpoint_bytes r) → IsCheckpoint r → IfOk v (λ x. AreWithin r.head) → IfOk v (λ x. SpellsCheckpoint V2 r x.items)
checkpoint_is_spelled r (Ok v) fits e h w = rw e (checkpoint_spells r h w (subst IsBytes e fits))
checkpoint_is_spelled r (Err x) fits e h w = tt
