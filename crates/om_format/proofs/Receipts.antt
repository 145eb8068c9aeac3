-- Reading a receipt is reading the fields of its format.
use Rattle.std.proofs.Common.{lit<, ◌≡◌, ℕ, ◌<◌, ◌≤◌, Bool, true, List, [], ◌∷◌, ◌++◌, length, Some, Result, Ok, Err, refl, sym, ap, subst, ◌∙◌, arith, ◌⊎◌, inl, inr}
use Rattle.std.proofs.lemmas.Bool.{le-leb, lt-ltb, eqb-true, false≢true}
use Rattle.std.proofs.lemmas.List.{append-nil}
use Rattle.om_format.specs.declared.error.DecodeError.{DecodeError}
use Rattle.om_format.specs.declared.error.DecodeError.TheVariants.{Memory}
use Rattle.om_format.specs.declared.receipt.Receipt.{Receipt}
use Rattle.std.specs.Prelude.{IfOk, IfErr, ◌==◌, IsOk}
use Rattle.std.specs.declared.alloc.AllocError.{AllocError}
use Rattle.std.specs.Global.{Vec}
use Rattle.std.specs.Int.{w16, w32, w64, to_le_bytes}
use Rattle.om_format.specs.Formats.{any, Size, one, two, four, eight, limit, Format, end, counted, body, opening}
use Rattle.om_format.specs.declared.limits.TheConstants.{MAX_BODY, RECEIPT_KIND, RECEIPT_VERSION}
use Rattle.om_format.specs.Spelling.{IsField, numbers, Spells}
use Rattle.om_format.specs.Receipts.{ReceiptRecord, receipt_record, receipt_format, receipt_values, SpellsReceipt, receipt_fault}
use Rattle.om_format.specs.steps.ReceiptBytes.{receipt_bytes, IsReceipt}
use Rattle.om_format.specs.Outcomes.{Gives}
use Rattle.om_format.specs.FirstFault.{AreRead}
use Rattle.om_format.specs.steps.Reading.{◌>>=◌, fields_at, opening_at, end_at, pid_at, ends_at, order_at, receipt_fields_at, receipt_at}
use Rattle.om_format.proofs.Numbers.{IsBytes, within_bytes, numbers-bytes}
use Rattle.om_format.proofs.Parts.{one_number, last_body_is, opening_is, bind_assoc}
use Rattle.om_format.proofs.Formats.{bind_ok, ok_is, found, again, faulty, read_all, fault_or_memory}
use Rattle.om_format.proofs.Holding.{holding_same, opening_hold}

pub receipt_is : (bytes : List ℕ) → fields_at receipt_format 0 bytes ≡ (receipt_at bytes >>= λ r. Ok (receipt_values r))
unfolding receipt_format receipt_at receipt_fields_at ends_at order_at pid_at
receipt_is bytes =
    simp (opening_is, one_number, last_body_is, bind_assoc) (holding_same (λ x. ((x.0 == RECEIPT_KIND) ≡ true) × ((x.1 == RECEIPT_VERSION) ≡ true)) (opening_at (λ kind. kind == RECEIPT_KIND) (λ version. version == RECEIPT_VERSION) bytes) _ _ (opening_hold (λ kind. kind == RECEIPT_KIND) (λ version. version == RECEIPT_VERSION) bytes) (λ x h.
    (let kind : x.0 ≡ RECEIPT_KIND = eqb-true _ _ h.0 in
    let version : x.1 ≡ RECEIPT_VERSION = eqb-true _ _ h.1 in
    rw (kind, version) refl)))

-- its fields, and then the end
receipt_fields : (bytes : List ℕ) → fields_at receipt_format 0 bytes ≡ (receipt_fields_at bytes >>= λ x. end_at x.1 >>= λ u. Ok (receipt_values x.0))
unfolding receipt_at
receipt_fields bytes = receipt_is bytes ∙ simp bind_assoc

made : ℕ → ℕ → ℕ → ℕ → ℕ → ℕ → List ℕ → ReceiptRecord
made to from interval sender_interval ssn count body = record { to = to; from = from; interval = interval; sender_interval = sender_interval; ssn = ssn; count = count; body = body }

same_receipt : (r s : ReceiptRecord) → receipt_values r ≡ receipt_values s → r ≡ s
unfolding made
same_receipt r s e =
    let to : r.to ≡ s.to = cc in
    let from : r.from ≡ s.from = cc in
    let interval : r.interval ≡ s.interval = cc in
    let sender_interval : r.sender_interval ≡ s.sender_interval = cc in
    let ssn : r.ssn ≡ s.ssn = cc in
    let count : r.count ≡ s.count = cc in
    let body : r.body ≡ s.body = cc in
    let same : made r.to r.from r.interval r.sender_interval r.ssn r.count r.body ≡ made s.to s.from s.interval s.sender_interval s.ssn s.count s.body = cc in
    same

module _ (bytes : List ℕ) where
  -- what is read spells the bytes
  pub receipt_found : (r : ReceiptRecord) → IsBytes bytes → receipt_at bytes ≡ Ok r → SpellsReceipt r bytes
  receipt_found r fits e = found receipt_format 0 bytes (receipt_values r) fits (receipt_is bytes ∙ ap (λ (x : Result ReceiptRecord DecodeError). x >>= λ s. Ok (receipt_values s)) e)

  -- what the bytes spell is read
  pub receipt_again : (r : ReceiptRecord) → SpellsReceipt r bytes → receipt_at bytes ≡ Ok r
  receipt_again r h =
      let b = bind_ok (receipt_at bytes) (λ s. Ok (receipt_values s)) (receipt_values r) (sym (receipt_is bytes) ∙ again receipt_format 0 bytes (receipt_values r) h) in
      b.1 ∙ ap (λ (s : ReceiptRecord). Ok s) (same_receipt b.0 r (ok_is (receipt_values b.0) (receipt_values r) b.2))

  -- what is not read has a first fault
  pub receipt_faulty : (e : DecodeError) → receipt_at bytes ≡ Err e → receipt_fault bytes ≡ Some e
  receipt_faulty e h = faulty receipt_format 0 bytes e (receipt_is bytes ∙ ap (λ (x : Result ReceiptRecord DecodeError). x >>= λ s. Ok (receipt_values s)) h)

  -- the same of what a function returned
  pub is_found : (r : Result Receipt DecodeError) → IsBytes bytes → Gives receipt_record r (receipt_at bytes) → IfOk r (λ v. SpellsReceipt (receipt_record v) bytes)
  is_found (Ok v) fits given = receipt_found (receipt_record v) fits given
  is_found (Err e) fits given = tt

  fields_read : (r : Result (ReceiptRecord × List ℕ) DecodeError) → receipt_fields_at bytes ≡ r → IsOk r → AreRead receipt_format bytes
  fields_read (Ok x) e ok = read_all receipt_format bytes x.1 (receipt_values x.0) (receipt_fields bytes ∙ ap (λ (r : Result (ReceiptRecord × List ℕ) DecodeError). r >>= λ y. end_at y.1 >>= λ u. Ok (receipt_values y.0)) e)
  fields_read (Err d) e ok = absurd (false≢true ok)

  pub is_faulty : (r : Result Receipt DecodeError) → Gives receipt_record r (receipt_at bytes) → IfErr r (λ e. e ≡ Memory → IsOk (receipt_fields_at bytes)) → IfErr r (λ e. (receipt_fault bytes ≡ Some e) ⊎ ((e ≡ Memory) × AreRead receipt_format bytes))
  is_faulty (Ok v) given may = tt
  is_faulty (Err e) given may = fault_or_memory e (receipt_fault bytes) (AreRead receipt_format bytes) (λ other. receipt_faulty e (given other)) (λ h. fields_read (receipt_fields_at bytes) refl (may h))

  -- bytes are spelled or have a first fault
  pub receipt_or_fault : IsBytes bytes → ((r : ReceiptRecord) × SpellsReceipt r bytes) ⊎ ((e : DecodeError) × (receipt_fault bytes ≡ Some e))
  receipt_or_fault fits = by_reading (receipt_at bytes) refl
    where
      by_reading : (x : Result ReceiptRecord DecodeError) → receipt_at bytes ≡ x → ((r : ReceiptRecord) × SpellsReceipt r bytes) ⊎ ((e : DecodeError) × (receipt_fault bytes ≡ Some e))
      by_reading (Ok r) h = inl (r, receipt_found r fits h)
      by_reading (Err e) h = inr (e, receipt_faulty e h)

  -- bytes spell at most one
  pub one_receipt : (r s : ReceiptRecord) → SpellsReceipt r bytes → SpellsReceipt s bytes → r ≡ s
  one_receipt r s p q = ok_is r s (sym (receipt_again r p) ∙ receipt_again s q)

-- ---- writing

pub byte_cell : (n : ℕ) (after : List ℕ) → n < 256 → n ∷ after ≡ numbers one (n ∷ []) ++ after
byte_cell n after lt = ap (λ (b : ℕ). b ∷ after) (omega arith)

pub field_of : (size : Size) (allowed : List ℕ → Bool) (n : ℕ) → n < limit size → allowed (n ∷ []) ≡ true → IsField size 1 allowed (n ∷ [])
field_of size allowed n within fine = record { whole = refl; within = (within, tt); allowed = fine }

body_spells : (bytes : List ℕ) (behind : Format) (rest : List (List ℕ)) (after : List ℕ) → length bytes ≤ MAX_BODY → IsBytes bytes → Spells behind rest after
    → Spells (body behind) ((length bytes ∷ []) ∷ bytes ∷ rest) (to_le_bytes w16 (length bytes) ++ (bytes ++ after))
unfolding counted
body_spells bytes behind rest after len fits h =
    let here : IsField one (length bytes) any bytes = record { whole = refl; within = within_bytes bytes fits; allowed = refl } in (
      field_of two _ (length bytes) (omega arith) (le-leb _ _ len),
      bytes ++ after,
      refl,
      (here, after, ap (λ (x : List ℕ). x ++ after) (sym (numbers-bytes bytes fits)), h),
    )

receipt_spells : (r : ReceiptRecord) → IsReceipt r → SpellsReceipt r (receipt_bytes r)
unfolding receipt_format opening
receipt_spells r h =
    let t9 = to_le_bytes w16 (length r.body) ++ (r.body ++ []) in
    let t8 = to_le_bytes w64 r.count ++ t9 in
    let t7 = to_le_bytes w32 r.ssn ++ t8 in
    let t6 = to_le_bytes w32 r.sender_interval ++ t7 in
    let t5 = to_le_bytes w32 r.interval ++ t6 in
    let t4 = r.from ∷ t5 in
    let t3 = r.to ∷ t4 in
    let t2 = RECEIPT_VERSION ∷ t3 in
    let last = body_spells r.body end [] [] h.len h.body refl in
    let spelled : SpellsReceipt r (RECEIPT_KIND ∷ t2) = (
      field_of one _ RECEIPT_KIND (lit< tt) refl,
      t2,
      refl,
      (
        field_of one _ RECEIPT_VERSION (lit< tt) refl,
        t3,
        refl,
        (
          field_of one _ r.to (omega (arith, h.to)) (lt-ltb _ _ h.to),
          t4,
          byte_cell r.to t4 (omega (arith, h.to)),
          (
            field_of one _ r.from (omega (arith, h.from)) (lt-ltb _ _ h.from),
            t5,
            byte_cell r.from t5 (omega (arith, h.from)),
            (
              field_of four _ r.interval h.interval (le-leb _ _ (omega (arith, h.ssn))),
              t6,
              refl,
              (
                field_of four any r.sender_interval h.sender_interval refl,
                t7,
                refl,
                (
                  field_of four _ r.ssn (omega (arith, h.ssn, h.interval)) (lt-ltb _ _ h.ssn),
                  t8,
                  refl,
                  (field_of eight any r.count h.count refl, t9, refl, last),
                ),
              ),
            ),
          ),
        ),
      ),
    ) in
    let ended : RECEIPT_KIND ∷ t2 ≡ receipt_bytes r = rw (append-nil r.body) refl in
    subst (λ (bytes : List ℕ). SpellsReceipt r bytes) ended spelled

pub is_spelled : (r : ReceiptRecord) (v : Result (Vec ℕ) AllocError) → IfOk v (λ x. x.items ≡ receipt_bytes r) → IfOk v (λ x. IsReceipt r) → IfOk v (λ x. SpellsReceipt r x.items)
is_spelled r (Ok v) e h = rw e (receipt_spells r h)
is_spelled r (Err x) e h = tt
