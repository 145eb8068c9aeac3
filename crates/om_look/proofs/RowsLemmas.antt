-- The rows of a store, a segment at a time.
use Rattle.std.proofs.Common.{◌≡◌, ◌≢◌, ℕ, zero, suc, ◌+◌, ◌<◌, ◌≤◌, List, [], ◌∷◌, ◌++◌, length, get_or, take, drop, refl, sym, ap, ◌∙◌, subst, inl, inr, arith, Vec}
use Rattle.std.specs.Prelude.{Option, Some, None, Result, Ok, IsSome, is_some, slice_index}
use Rattle.std.specs.List.{AllZip, slice_get}
use Rattle.std.specs.FinMap.{get}
use Rattle.std.specs.declared.alloc.Global.{Global}
use Rattle.std.proofs.lemmas.List.{append_assoc, append-nil, map_more}
use Rattle.om_format.specs.Receipts.{ReceiptRecord, SpellsReceipt}
use Rattle.om_format.specs.Checkpoints.{CheckpointRecord, IsSpelled, SpellsCheckpoint}
use Rattle.om_format.specs.Outcomes.{Fails}
use Rattle.om_format.specs.declared.error.DecodeError.{DecodeError}
use Rattle.om_format.specs.declared.error.DecodeError.TheVariants as decoding
use Rattle.om_format.specs.declared.version.Version.{Version}
use Rattle.om_stable.specs.Content.{Content, between, rows_of}
use Rattle.om_process.specs.Stored.{IsCheckpointAt, IsReceiptAt}
use Rattle.om_process.specs.declared.row.PendingRow.{PendingRow}
use Rattle.om_look.specs.declared.rows.RowsFault.{RowsFault}
use Rattle.om_stable.specs.steps.Between.{AreAllBetween}
use Rattle.om_stable.proofs.BetweenLemmas.{between-AreAllBetween}
use Rattle.om_process.proofs.RowLemmas.{rows_from}
use Rattle.om_look.specs.declared.rows.RowsFault.TheVariants.{Damaged, Mismatch, Fault, Memory}
use Rattle.om_look.specs.Rows.{AreSegments, FollowOn, IsBase, IsNoReceipt, IsReceiptOf, IsSenderOf, Lead, RefusesRows, RefusesSenders, base_row, next_row, rows_of_segments}
use Rattle.om_look.specs.steps.Rowing.{FindsSegment, IsIn, LeadTo, RefusesBase, RefusesFollowing, RefusesNext, RefusesOneOf, RefusesReceipt, damage_of}

-- bytes that are not decoded are no checkpoint
no_base : (own n x : ℕ) (bytes : List ℕ) (e : DecodeError) → ((version : Version) (c : CheckpointRecord) → SpellsCheckpoint version c bytes → Fails e (Ok c)) → RefusesBase own n x bytes (damage_of x e)
no_base own n x bytes decoding.Memory fails = tt
no_base own n x bytes decoding.Short fails = (refl, λ c spelled base. let e = fails spelled.0 c spelled.1 (λ m. cc) in cc)
no_base own n x bytes decoding.Kind fails = (refl, λ c spelled base. let e = fails spelled.0 c spelled.1 (λ m. cc) in cc)
no_base own n x bytes decoding.Version fails = (refl, λ c spelled base. let e = fails spelled.0 c spelled.1 (λ m. cc) in cc)
no_base own n x bytes (decoding.Field place) fails = (refl, λ c spelled base. let e = fails spelled.0 c spelled.1 (λ m. cc) in cc)
no_base own n x bytes decoding.Trailing fails = (refl, λ c spelled base. let e = fails spelled.0 c spelled.1 (λ m. cc) in cc)

pub base_damaged : (own n x : ℕ) (bytes : List ℕ) (fault : RowsFault) (e : DecodeError) → fault ≡ damage_of x e → ((version : Version) (c : CheckpointRecord) → SpellsCheckpoint version c bytes → Fails e (Ok c)) → RefusesBase own n x bytes fault
base_damaged own n x bytes fault e is fails = subst (RefusesBase own n x bytes) (sym is) (no_base own n x bytes e fails)

-- the record that is read is the one that is spelled
pub same_base : (own n x : ℕ) (found c : CheckpointRecord) → ◌≡◌ {A = Result CheckpointRecord DecodeError} (Ok c) (Ok found) → IsBase own n x c → IsBase own n x found
same_base own n x found c same base = let equal : c ≡ found = cc in subst (IsBase own n x) equal base

abbrev pub Segments : Type 0
Segments = List (CheckpointRecord × List PendingRow)

-- ---- the rows that follow on one
some_same : (a b : List ℕ) → ◌≡◌ {A = Option (List ℕ)} (Some a) (Some b) → a ≡ b
some_same a b same = cc

abbrev pub Found : Type 0
Found = List (ℕ × Vec ℕ Global)

abbrev pub row_of : ℕ × Vec ℕ Global → ℕ × List ℕ
row_of e = (e.0, e.1.items)

pub row_at : (found : Found) (i : ℕ) (x : ℕ × Vec ℕ Global) → i < length found → x ≡ get_or found i x → slice_get (rows_of found) i ≡ Some (row_of x)
row_at [] i x within at = absurd (omega arith)
row_at (e ∷ es) zero x within at = ap (λ y. Some (row_of y)) (sym at)
row_at (e ∷ es) (suc i) x within at = row_at es i x (omega arith) at

none_behind : (found : Found) (i : ℕ) → length found ≤ i → rows_of (drop i found) ≡ []
none_behind [] zero long = refl
none_behind [] (suc i) long = refl
none_behind (e ∷ es) zero long = absurd (omega arith)
none_behind (e ∷ es) (suc i) long = none_behind es i (omega arith)

-- the row of the receipt that bytes spell, which follows on a row
abbrev pub IsNextOf : ℕ → ℕ → PendingRow → List ℕ → PendingRow → Type 0
IsNextOf own n before bytes row =
    (r : ReceiptRecord) × SpellsReceipt r bytes × IsReceiptOf own n (before.x + 1) r
    × (r.ssn ≡ slice_index before.got r.from) × (row ≡ next_row own before r)

-- rows that follow on a row behind the first i records are to be added to those so far
abbrev pub GoesOn : ℕ → ℕ → PendingRow → PendingRow → Found → ℕ → List PendingRow → Type 0
GoesOn own n base before found i so_far =
    (rest : List PendingRow) → FollowOn own n before (rows_of (drop i found)) rest → FollowOn own n base (rows_of found) (so_far ++ rest)

-- one row more
pub follow_more : (own n : ℕ) (base before row : PendingRow) (found : Found) (i : ℕ) (item : ℕ × Vec ℕ Global) (bytes : List ℕ) (so_far : List PendingRow)
    → i < length found → item ≡ get_or found i item → item.0 ≡ before.x + 1 → bytes ≡ item.1.items → IsNextOf own n before bytes row
    → GoesOn own n base before found i so_far → GoesOn own n base row found (i + 1) (so_far ++ row ∷ [])
follow_more own n base before row found i item bytes so_far within here next is one past rest follow =
    let whole : FollowOn own n before (row_of item ∷ rows_of (drop (i + 1) found)) (row ∷ rest) =
    (one.0, subst (SpellsReceipt one.0) is one.1, subst (λ x. IsReceiptOf own n x one.0) (sym next) one.2, next, one.3, one.4, follow) in
    let there : FollowOn own n before (rows_of (drop i found)) (row ∷ rest) =
    subst (λ rows. FollowOn own n before rows (row ∷ rest)) (sym (rows_from found i item within here)) whole in
    subst (FollowOn own n base (rows_of found)) (sym (append_assoc so_far (row ∷ []) rest)) (past (row ∷ rest) there)

-- none behind them
pub follow_all : (own n : ℕ) (base before : PendingRow) (found : Found) (i : ℕ) (so_far : List PendingRow) → length found ≤ i
    → GoesOn own n base before found i so_far → FollowOn own n base (rows_of found) so_far
follow_all own n base before found i so_far long past =
    let none : FollowOn own n before (rows_of (drop i found)) [] = subst (λ rows. FollowOn own n before rows []) (sym (none_behind found i long)) tt in
    subst (FollowOn own n base (rows_of found)) (append-nil so_far) (past [] none)

pub follow_gap : (own n : ℕ) (base before : PendingRow) (found : Found) (i : ℕ) (item : ℕ × Vec ℕ Global) (so_far : List PendingRow)
    → i < length found → item ≡ get_or found i item → item.0 ≢ before.x + 1
    → GoesOn own n base before found i so_far → FollowOn own n base (rows_of found) so_far
follow_gap own n base before found i item so_far within here gap past =
    let none : FollowOn own n before (rows_of (drop i found)) [] = subst (λ rows. FollowOn own n before rows []) (sym (rows_from found i item within here)) gap in
    subst (FollowOn own n base (rows_of found)) (append-nil so_far) (past [] none)

-- ---- the records that lead to a row
lead_on : (own n : ℕ) (IsAt : ℕ → ReceiptRecord → Type 0) (first last : PendingRow) (rs : List ReceiptRecord) (r : ReceiptRecord)
    → Lead own n IsAt first rs last → IsAt (last.x + 1) r → IsReceiptOf own n (last.x + 1) r → r.ssn ≡ slice_index last.got r.from
    → Lead own n IsAt first (rs ++ r ∷ []) (next_row own last r)
lead_on own n IsAt first last [] r same at is_of next = subst (λ (row : PendingRow). Lead own n IsAt row (r ∷ []) (next_row own last r)) (sym same) (at, is_of, next, refl)
lead_on own n IsAt first last (s ∷ rs) r lead at is_of next = (lead.0, lead.1, lead.2, lead_on own n IsAt (next_row own first s) last rs r lead.3 at is_of next)

lead_weaker : (own n : ℕ) (IsAt IsThere : ℕ → ReceiptRecord → Type 0) (first last : PendingRow) (rs : List ReceiptRecord)
    → ((x : ℕ) (r : ReceiptRecord) → IsReceiptOf own n x r → IsAt x r → IsThere x r) → Lead own n IsAt first rs last → Lead own n IsThere first rs last
lead_weaker own n IsAt IsThere first last [] more same = same
lead_weaker own n IsAt IsThere first last (r ∷ rs) more lead = (more (first.x + 1) r lead.1 lead.0, lead.1, lead.2, lead_weaker own n IsAt IsThere (next_row own first r) last rs more lead.3)

pub lead_none : (own n : ℕ) (found : Found) (base : PendingRow) → LeadTo own n (rows_of found) base base
lead_none own n found base = ([], refl)

pub lead_more : (own n : ℕ) (base before row : PendingRow) (found : Found) (i : ℕ) (item : ℕ × Vec ℕ Global) (bytes : List ℕ)
    → i < length found → item ≡ get_or found i item → item.0 ≡ before.x + 1 → bytes ≡ item.1.items → IsNextOf own n before bytes row
    → LeadTo own n (rows_of found) base before → LeadTo own n (rows_of found) base row
lead_more own n base before row found i item bytes within here next is one lead = (
  lead.0 ++ one.0 ∷ [],
  subst (Lead own n (IsIn (rows_of found)) base (lead.0 ++ one.0 ∷ [])) (sym one.4)
      (lead_on own n (IsIn (rows_of found)) base before lead.0 one.0 lead.1 (i, row_of item, row_at found i item within here, next, subst (SpellsReceipt one.0) is one.1) one.2 one.3),
)

pub follow_refused : (own n : ℕ) (base before : PendingRow) (found : Found) (i : ℕ) (item : ℕ × Vec ℕ Global) (bytes : List ℕ) (fault : RowsFault)
    → i < length found → item ≡ get_or found i item → item.0 ≡ before.x + 1 → bytes ≡ item.1.items → LeadTo own n (rows_of found) base before → RefusesNext own n before bytes fault
    → RefusesFollowing own n base (rows_of found) fault
follow_refused own n base before found i item bytes fault within here next is lead why =
    inr (record {
      before = before;
      lead = lead;
      place = i;
      record_at = row_of item;
      there = row_at found i item within here;
      next = next;
      why = subst (λ bs. RefusesNext own n before bs fault) is why;
    })

pub sender_refused : (own n : ℕ) (found : Found) (i : ℕ) (item : ℕ × Vec ℕ Global) (bytes : List ℕ) (fault : RowsFault)
    → i < length found → item ≡ get_or found i item → bytes ≡ item.1.items → RefusesReceipt own n item.0 bytes fault → RefusesOneOf own n (rows_of found) fault
sender_refused own n found i item bytes fault within here is why =
    inr (i, row_of item, row_at found i item within here, subst (λ bs. RefusesReceipt own n item.0 bs fault) is why)

-- ---- why the records of a store stand for no rows
pub base_refuses : (own n x : ℕ) (held : Content) (bytes : List ℕ) (fault : RowsFault) → get held.checkpoints x ≡ Some bytes → RefusesBase own n x bytes fault → RefusesRows own n held fault
base_refuses own n x held bytes (Damaged y) there why = subst (λ z. RefusesRows own n held (Damaged z)) (sym why.0) (inl (record {
  there = ap is_some there;
  none = λ c at base.
      let same : at.0 ≡ bytes = some_same at.0 bytes (sym at.1 ∙ there) in
      why.1 c (subst (IsSpelled c) same at.2) base;
}))
base_refuses own n x held bytes (Mismatch y) there why = absurd why
base_refuses own n x held bytes Fault there why = absurd why
base_refuses own n x held bytes Memory there why = tt

no_receipt : (own n x : ℕ) (held : Content) (bytes : List ℕ) → 0 < x → get held.receipts x ≡ Some bytes → ((r : ReceiptRecord) → SpellsReceipt r bytes → IsReceiptOf own n x r → ⊥) → IsNoReceipt own n x held
no_receipt own n x held bytes begun there none = record {
  begun = begun;
  there = ap is_some there;
  none = λ r at is_of.
      let same : at.0 ≡ bytes = some_same at.0 bytes (sym at.1 ∙ there) in
      none r (subst (SpellsReceipt r) same at.2) is_of;
}

next_refuses : (own n : ℕ) (held : Content) (c : CheckpointRecord) (rs : List ReceiptRecord) (before : PendingRow) (bytes : List ℕ) (fault : RowsFault)
    → IsCheckpointAt held.checkpoints c.head.interval c → IsBase own n c.head.interval c → Lead own n (IsReceiptAt held.receipts) (base_row c) rs before
    → get held.receipts (before.x + 1) ≡ Some bytes → RefusesNext own n before bytes fault → RefusesRows own n held fault
next_refuses own n held c rs before bytes (Damaged y) stored base lead there why =
    inr (subst (λ z. IsNoReceipt own n z held) (sym why.0) (no_receipt own n (before.x + 1) held bytes (omega arith) there why.1))
next_refuses own n held c rs before bytes (Mismatch y) stored base lead there why = record {
  checkpoint = c;
  stored = stored;
  base = base;
  receipts = rs;
  before = before;
  lead = lead;
  next = why.0;
  receipt = why.1.0;
  there = subst (λ z. IsReceiptAt held.receipts z why.1.0) (sym why.0) (bytes, there, why.1.1, why.1.2.interval);
  is_of = subst (λ z. IsReceiptOf own n z why.1.0) (sym why.0) why.1.2;
  other = why.1.3;
}
next_refuses own n held c rs before bytes Fault stored base lead there why = absurd why
next_refuses own n held c rs before bytes Memory stored base lead there why = tt

pub following_refuses : (own n after to : ℕ) (held : Content) (c : CheckpointRecord) (fault : RowsFault) → IsCheckpointAt held.checkpoints c.head.interval c → IsBase own n c.head.interval c
    → RefusesFollowing own n (base_row c) (between held.receipts after to) fault → RefusesRows own n held fault
following_refuses own n after to held c fault stored base why = elim why [
  | inl memory ↦ subst (RefusesRows own n held) (sym memory) tt
  | inr stop ↦
      next_refuses own n held c stop.lead.0 stop.before stop.record_at.1 fault stored base
      (lead_weaker own n (IsIn rows) (IsReceiptAt held.receipts) (base_row c) stop.before stop.lead.0 are_at stop.lead.1)
      (subst (λ x. get held.receipts x ≡ Some stop.record_at.1) stop.next (all.are_held stop.place stop.record_at stop.there)) stop.why
]
  where
    rows : List (ℕ × List ℕ)
    rows = between held.receipts after to

    all : AreAllBetween held.receipts after to rows
    all = between-AreAllBetween held.receipts after to

    are_at : (x : ℕ) (r : ReceiptRecord) → IsReceiptOf own n x r → IsIn rows x r → IsReceiptAt held.receipts x r
    are_at x r is_of there = (there.1.1, subst (λ y. get held.receipts y ≡ Some there.1.1) there.3 (all.are_held there.0 there.1 there.2), there.4, is_of.interval)

one_refuses : (own n x : ℕ) (held : Content) (bytes : List ℕ) (fault : RowsFault) → 0 < x → get held.receipts x ≡ Some bytes → RefusesReceipt own n x bytes fault → RefusesSenders own n held fault
one_refuses own n x held bytes (Damaged y) begun there why = subst (λ z. IsNoReceipt own n z held) (sym why.0) (no_receipt own n x held bytes begun there why.1)
one_refuses own n x held bytes (Mismatch y) begun there why = absurd why
one_refuses own n x held bytes Fault begun there why = absurd why
one_refuses own n x held bytes Memory begun there why = tt

pub senders_refuse : (own n after to : ℕ) (held : Content) (fault : RowsFault) → RefusesOneOf own n (between held.receipts after to) fault → RefusesSenders own n held fault
senders_refuse own n after to held fault why = elim why [
  | inl memory ↦ subst (RefusesSenders own n held) (sym memory) tt
  | inr one ↦
      let all = between-AreAllBetween held.receipts after to in
      let low = (all.within one.0 one.1 one.2).0 in
      one_refuses own n one.1.0 held one.1.1 fault (omega arith) (all.are_held one.0 one.1 one.2) one.3
]

-- ---- the senders
AllZip_more : {A B : Type 0} (R : A → B → Type 0) (xs : List A) (ys : List B) (x : A) (y : B) → AllZip R xs ys → R x y → AllZip R (xs ++ x ∷ []) (ys ++ y ∷ [])
AllZip_more R [] [] x y all one = (one, tt)
AllZip_more R [] (b ∷ ys) x y all one = absurd all
AllZip_more R (a ∷ xs) [] x y all one = absurd all
AllZip_more R (a ∷ xs) (b ∷ ys) x y all one = (all.0, AllZip_more R xs ys x y all.1 one)

pub senders_more : (own n : ℕ) (found : Found) (i : ℕ) (item : ℕ × Vec ℕ Global) (senders : List (ℕ × ℕ)) (sender : ℕ × ℕ) → i < length found → item ≡ get_or found i item
    → AllZip (IsSenderOf own n) (rows_of (take i found)) senders → IsSenderOf own n (row_of item) sender → AllZip (IsSenderOf own n) (rows_of (take (i + 1) found)) (senders ++ sender ∷ [])
senders_more own n found i item senders sender within here all one =
    let more : rows_of (take (i + 1) found) ≡ rows_of (take i found) ++ row_of item ∷ [] =
    map_more row_of found i item within ∙ ap (λ e. rows_of (take i found) ++ row_of e ∷ []) (sym here) in
    subst (λ rows. AllZip (IsSenderOf own n) rows (senders ++ sender ∷ [])) (sym more) (AllZip_more (IsSenderOf own n) (rows_of (take i found)) senders (row_of item) sender all one)

-- ---- the segments
rows_of_segments-push : (segments : Segments) (s : CheckpointRecord × List PendingRow) → rows_of_segments (segments ++ s ∷ []) ≡ rows_of_segments segments ++ (base_row s.0 ∷ s.1)
rows_of_segments-push [] s = append-nil (base_row s.0 ∷ s.1)
rows_of_segments-push (t ∷ more) s =
    ap (λ rows. (base_row t.0 ∷ t.1) ++ rows) (rows_of_segments-push more s)
    ∙ sym (append_assoc (base_row t.0 ∷ t.1) (rows_of_segments more) (base_row s.0 ∷ s.1))

none_left : (own n : ℕ) (held : Content) (rest : Segments) → AreSegments own n held None rest → rest ≡ []
none_left own n held [] left = refl
none_left own n held (s ∷ more) left = absurd left

-- the segments so far, with those that are left
abbrev pub AreSoFar : ℕ → ℕ → Content → Option ℕ → Option ℕ → List PendingRow → Type 0
AreSoFar own n held top next rows =
    (segments : Segments) × (rows ≡ rows_of_segments segments)
    × ((rest : Segments) → AreSegments own n held next rest → AreSegments own n held top (segments ++ rest))

pub nothing_so_far : (own n : ℕ) (held : Content) (top : Option ℕ) (rows : List PendingRow) → rows ≡ [] → AreSoFar own n held top top rows
nothing_so_far own n held top rows none = ([], none, λ rest left. left)

pub segments_more : (own n : ℕ) (held : Content) (top : Option ℕ) (to : ℕ) (next : Option ℕ) (old new : List PendingRow)
    → AreSoFar own n held top (Some to) old → FindsSegment own n held to old next new → AreSoFar own n held top next new
segments_more own n held top to next old new so_far found = elim found [
  | inl end ↦ (
    so_far.0,
    end.2 ∙ so_far.1,
    λ rest left.
        let none : rest ≡ [] = none_left own n held rest (subst (λ o. AreSegments own n held o rest) end.1 left) in
        subst (λ r. AreSegments own n held top (so_far.0 ++ r)) (sym none) (so_far.2 [] end.0),
  )
  | inr one ↦ (
    so_far.0 ++ (one.0, one.1) ∷ [],
    one.4 ∙ ap (λ rows. rows ++ (base_row one.0 ∷ one.1)) so_far.1 ∙ sym (rows_of_segments-push so_far.0 (one.0, one.1)),
    λ rest left.
        subst (AreSegments own n held top) (sym (append_assoc so_far.0 ((one.0, one.1) ∷ []) rest))
        (so_far.2 ((one.0, one.1) ∷ rest) (one.2, subst (λ o. AreSegments own n held o rest) one.3 left)),
  )
]

-- at the end they are all
pub segments_end : (own n : ℕ) (held : Content) (top next : Option ℕ) (rows : List PendingRow) → next ≡ None → AreSoFar own n held top next rows
    → (segments : Segments) × AreSegments own n held top segments × (rows ≡ rows_of_segments segments)
segments_end own n held top next rows none so_far =
    let left : AreSegments own n held next [] = subst (λ o. AreSegments own n held o []) (sym none) tt in
    (so_far.0, subst (AreSegments own n held top) (append-nil so_far.0) (so_far.2 [] left), so_far.1)
