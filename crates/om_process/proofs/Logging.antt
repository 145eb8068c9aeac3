-- What stands in a store once a log was put there.
use Rattle.std.proofs.Common.{◌≡◌, ℕ, zero, suc, ◌+◌, ◌-◌, ◌<◌, ◌≤◌, List, [], ◌∷◌, ◌++◌, Vec, length, map, take, drop, get_or, Some, refl, sym, ap, ◌∙◌, subst, arith}
use Rattle.std.specs.declared.alloc.Global.{Global}
use Rattle.std.specs.Prelude.{slice_get}
use Rattle.std.specs.FinMap.{get}
use Rattle.std.specs.List.{range_with_len}
use Rattle.std.proofs.lemmas.List.{map_more, map-append, length-map, take-map, drop-map, take_all, drop_all, append-nil}
use Rattle.om_format.specs.Receipts.{SpellsReceipt}
use Rattle.om_stable.specs.Content.{Content, bytes_of, with_receipts}
use Rattle.om_stable.proofs.RecordLemmas.{get-with_all_at}
use Rattle.om_process.specs.declared.log.Logged.{Logged}
use Rattle.om_process.specs.Core.{AreLast, CoreState, LoggedRecord}
use Rattle.om_process.specs.Stored.{IsReceiptAt}
use Rattle.om_process.specs.Stores.{HasGainedFirst, HasGainedLog, first_logged, flushed, flushed_first, log_row}
use Rattle.om_process.specs.steps.Pieces.{SpellLog}
use Rattle.om_process.specs.steps.Views.{logged_record}

spell_more : (ls : List LoggedRecord) (bs : List (List ℕ)) (l : LoggedRecord) (b : List ℕ) → SpellLog ls bs → SpellsReceipt l.receipt b → SpellLog (ls ++ l ∷ []) (bs ++ b ∷ [])
spell_more [] [] l b spell last = (last, tt)
spell_more [] (c ∷ bs) l b spell last = absurd spell
spell_more (k ∷ ls) [] l b spell last = absurd spell
spell_more (k ∷ ls) (c ∷ bs) l b spell last = (spell.0, spell_more ls bs l b spell.1 last)

-- one receipt more is spelled
pub spelled_more : (log : List Logged) (i : ℕ) (x : Logged) (all new : List (Vec ℕ Global)) (v : Vec ℕ Global) → i < length log → x ≡ get_or log i x → new ≡ all ++ v ∷ [] → SpellsReceipt (logged_record x).receipt v.items
    → SpellLog (map logged_record (take i log)) (bytes_of all) → SpellLog (map logged_record (take (i + 1) log)) (bytes_of new)
spelled_more log i x all new v within at is spells so_far =
    subst (λ bs. SpellLog (map logged_record (take (i + 1) log)) bs) (sym (ap bytes_of is ∙ map-append (λ (r : Vec ℕ Global). r.items) all (v ∷ [])))
    (subst (λ ls. SpellLog ls (bytes_of all ++ v.items ∷ [])) (sym (map_more logged_record log i x within))
    (spell_more (map logged_record (take i log)) (bytes_of all) (logged_record (get_or log i x)) v.items so_far (subst (λ l. SpellsReceipt (logged_record l).receipt v.items) at spells)))

pub spell_long : (ls : List LoggedRecord) (bs : List (List ℕ)) → SpellLog ls bs → length bs ≡ length ls
spell_long [] [] spell = refl
spell_long [] (b ∷ bs) spell = absurd spell
spell_long (l ∷ ls) [] spell = absurd spell
spell_long (l ∷ ls) (b ∷ bs) spell = ap suc (spell_long ls bs spell.1)

-- the bytes at the place of a receipt spell it
spelled_at : (ls : List LoggedRecord) (bs : List (List ℕ)) (i : ℕ) (l : LoggedRecord) → SpellLog ls bs → slice_get ls i ≡ Some l → (b : List ℕ) × (slice_get bs i ≡ Some b) × SpellsReceipt l.receipt b
spelled_at [] bs i l spell at = cc
spelled_at (k ∷ ls) [] i l spell at = absurd spell
spelled_at (k ∷ ls) (b ∷ bs) zero l spell at = let same : k ≡ l = cc in (b, refl, subst (λ (x : LoggedRecord). SpellsReceipt x.receipt b) same spell.0)
spelled_at (k ∷ ls) (b ∷ bs) (suc i) l spell at = spelled_at ls bs i l spell.1 at

interval_at : (ls : List LoggedRecord) (first i : ℕ) (l : LoggedRecord) → map (λ x. x.receipt.interval) ls ≡ range_with_len first (length ls) → slice_get ls i ≡ Some l → l.receipt.interval ≡ first + i
interval_at [] first i l all at = cc
interval_at (k ∷ ls) first zero l all at =
    let here : l.receipt.interval ≡ first = cc in
    omega arith
interval_at (k ∷ ls) first (suc i) l all at =
    let rest : map (λ (x : LoggedRecord). x.receipt.interval) ls ≡ range_with_len (first + 1) (length ls) = cc in
    let there : l.receipt.interval ≡ first + 1 + i = interval_at ls (first + 1) i l rest at in
    omega arith

-- the first receipt of a log is that of its first interval
pub first_interval : (interval : ℕ) (ls : List LoggedRecord) (l : LoggedRecord) → AreLast interval ls → slice_get ls 0 ≡ Some l → l.receipt.interval ≡ interval + 1 - length ls
first_interval interval ls l last at = let here : l.receipt.interval ≡ interval + 1 - length ls + 0 = interval_at ls (interval + 1 - length ls) 0 l last.intervals at in omega arith

-- each receipt of the log stands at its interval
pub are_logged : (c : CoreState) (old new : Content) → AreLast c.now.interval c.log → HasGainedLog c old new → (i : ℕ) (l : LoggedRecord) → slice_get c.log i ≡ Some l → IsReceiptAt new.receipts l.receipt.interval l.receipt
are_logged c old new last gained i l at =
    let here = spelled_at c.log gained.0 i l gained.1 at in
    (here.0, ap (λ (k : Content). get k.receipts l.receipt.interval) gained.2 ∙ ap (get (with_receipts old (first_logged c) gained.0).receipts) (interval_at c.log (first_logged c) i l last.intervals at) ∙ get-with_all_at old.receipts (first_logged c) gained.0 i here.0 here.1, here.2, refl)

-- ---- a log as it is put into a store
-- the first of its receipts is that of the first interval, and behind the last one is the next interval
pub placed : (s : CoreState) (interval : ℕ) (log : List Logged) (oldest : Logged) → interval ≡ s.now.interval → map logged_record log ≡ s.log → AreLast interval (map logged_record log)
    → Some oldest ≡ slice_get log 0 → (oldest.receipt.interval ≡ first_logged s) × (first_logged s + length s.log ≡ s.now.interval + 1)
placed s interval log oldest at is last first =
    let here : oldest.receipt.interval ≡ interval + 1 - length (map logged_record log) = first_interval interval (map logged_record log) (logged_record oldest) last (first_logged_record log first) in
    let long : length (map logged_record log) ≡ length s.log = ap length is in
    let within : length (map logged_record log) ≤ interval = last.within in
    (omega arith, omega arith)
  where
    first_logged_record : (log : List Logged) → Some oldest ≡ slice_get log 0 → slice_get (map logged_record log) 0 ≡ Some (logged_record oldest)
    first_logged_record [] first = cc
    first_logged_record (x ∷ xs) first = let same : x ≡ oldest = cc in ap (λ (l : Logged). Some (logged_record l)) same

pub spelled_long : (s : CoreState) (log : List Logged) (recs : List (Vec ℕ Global)) → map logged_record log ≡ s.log → SpellLog (map logged_record log) (bytes_of recs) → length recs ≡ length s.log
spelled_long s log recs is spell = sym (length-map recs (λ (r : Vec ℕ Global). r.items)) ∙ spell_long (map logged_record log) (bytes_of recs) spell ∙ ap length is

pub has_gained : (s : CoreState) (old new : Content) (log : List Logged) (recs put : List (Vec ℕ Global)) (first : ℕ) → map logged_record log ≡ s.log → SpellLog (map logged_record log) (bytes_of recs)
    → put ≡ recs → first ≡ first_logged s → new ≡ with_receipts old first (bytes_of put) → HasGainedLog s old new
has_gained s old new log recs put first is spell same at gained =
    (bytes_of recs, subst (λ ls. SpellLog ls (bytes_of recs)) is spell, gained ∙ ap (λ bs. with_receipts old first (bytes_of bs)) same ∙ ap (λ x. with_receipts old x (bytes_of recs)) at)

-- ---- the first receipts of a log
-- the log behind some of its receipts is that of the last intervals too
pub last_behind : (interval k : ℕ) (log : List LoggedRecord) → AreLast interval log → AreLast interval (drop k log)
last_behind interval zero log last = last
last_behind interval (suc k) [] last = last
last_behind interval (suc k) (l ∷ ls) last =
    let within : suc (length ls) ≤ interval = last.within in
    let rest : map (λ (x : LoggedRecord). x.receipt.interval) ls ≡ range_with_len (interval + 1 - suc (length ls) + 1) (length ls) = let all = last.intervals in cc in
    last_behind interval k ls (record { within = omega arith; intervals = rest ∙ ap (λ a. range_with_len a (length ls)) (omega arith) })

-- as many as there are among the first k
pub take_counted : {X : Type 0} (k : ℕ) (xs : List X) → take (length (take k xs)) xs ≡ take k xs
take_counted zero xs = refl
take_counted (suc k) [] = refl
take_counted (suc k) (x ∷ xs) = ap (λ ys. x ∷ ys) (take_counted k xs)

pub drop_counted : {X : Type 0} (k : ℕ) (xs : List X) → drop (length (take k xs)) xs ≡ drop k xs
drop_counted zero xs = refl
drop_counted (suc k) [] = refl
drop_counted (suc k) (x ∷ xs) = drop_counted k xs

-- where none is taken none is dropped
drop_none : {X : Type 0} (k : ℕ) (xs : List X) → take k xs ≡ [] → drop k xs ≡ xs
drop_none zero xs none = refl
drop_none (suc k) [] none = refl
drop_none (suc k) (x ∷ xs) none = cc

-- what stands among the first stands there in all
pub among_first : {X : Type 0} (k : ℕ) (xs : List X) (i : ℕ) (x : X) → slice_get (take k xs) i ≡ Some x → slice_get xs i ≡ Some x
among_first zero xs i x at = cc
among_first (suc k) [] i x at = cc
among_first (suc k) (y ∷ xs) zero x at = at
among_first (suc k) (y ∷ xs) (suc i) x at = among_first k xs i x at

-- the receipts that are due, as they are recorded
pub recorded : (s : CoreState) (log due : List Logged) (k : ℕ) → map logged_record log ≡ s.log → due ≡ take k log → map logged_record due ≡ take k s.log
recorded s log due k is first = ap (map logged_record) first ∙ sym (take-map logged_record k log) ∙ ap (take k) is

pub first_placed : (s : CoreState) (interval : ℕ) (log due : List Logged) (k : ℕ) (oldest : Logged) → interval ≡ s.now.interval → map logged_record log ≡ s.log → AreLast interval (map logged_record log)
    → due ≡ take k log → Some oldest ≡ slice_get due 0 → (oldest.receipt.interval ≡ first_logged s) × (first_logged s + length s.log ≡ s.now.interval + 1)
first_placed s interval log due k oldest at is last first oldest_is =
    placed s interval log oldest at is last (sym (among_first k log 0 oldest (sym (oldest_is ∙ ap (λ xs. slice_get xs 0) first))))

pub first_long : (s : CoreState) (log due : List Logged) (k : ℕ) (recs : List (Vec ℕ Global)) → map logged_record log ≡ s.log → due ≡ take k log → SpellLog (map logged_record due) (bytes_of recs) → length recs ≡ length (take k s.log)
first_long s log due k recs is first spell =
    sym (length-map recs (λ (r : Vec ℕ Global). r.items)) ∙ spell_long (map logged_record due) (bytes_of recs) spell ∙ ap length (recorded s log due k is first)

pub first_gained : (s : CoreState) (old new : Content) (log due : List Logged) (k : ℕ) (recs put : List (Vec ℕ Global)) (first : ℕ) → map logged_record log ≡ s.log → due ≡ take k log → SpellLog (map logged_record due) (bytes_of recs)
    → put ≡ recs → first ≡ first_logged s → new ≡ with_receipts old first (bytes_of put) → HasGainedFirst k s old new
first_gained s old new log due k recs put first is due_is spell same at gained =
    (bytes_of recs, subst (λ ls. SpellLog ls (bytes_of recs)) (recorded s log due k is due_is) spell, gained ∙ ap (λ bs. with_receipts old first (bytes_of bs)) same ∙ ap (λ x. with_receipts old x (bytes_of recs)) at)

-- each of the first receipts of the log stands at its interval
pub first_are_logged : (k : ℕ) (c : CoreState) (old new : Content) → AreLast c.now.interval c.log → HasGainedFirst k c old new → (i : ℕ) (l : LoggedRecord) → slice_get (take k c.log) i ≡ Some l → IsReceiptAt new.receipts l.receipt.interval l.receipt
first_are_logged k c old new last gained i l at =
    let here = spelled_at (take k c.log) gained.0 i l gained.1 at in
    (here.0, ap (λ (m : Content). get m.receipts l.receipt.interval) gained.2 ∙ ap (get (with_receipts old (first_logged c) gained.0).receipts) (interval_at c.log (first_logged c) i l last.intervals (among_first k c.log i l at)) ∙ get-with_all_at old.receipts (first_logged c) gained.0 i here.0 here.1, here.2, refl)

-- where none are due the core stays, and a store that stays has gained them
pub none_flushed : (k : ℕ) (c : CoreState) → take k c.log ≡ [] → c ≡ flushed_first k c
none_flushed k c none =
    ap (λ log. record c { log = log }) (sym (drop_none k c.log none))
    ∙ ap (λ rows. record c { log = drop k c.log; pending = rows }) (sym (append-nil c.pending) ∙ ap (λ ls. c.pending ++ map log_row ls) (sym none))

pub none_gained : (k : ℕ) (c : CoreState) (held : Content) → take k c.log ≡ [] → HasGainedFirst k c held held
none_gained k c held none = ([], subst (λ ls. SpellLog ls []) (sym none) tt, refl)

-- the whole log is as many of its first receipts as it has
pub whole_flushed : (c : CoreState) → flushed_first (length c.log) c ≡ flushed c
whole_flushed c =
    ap (λ log. record c { log = log; pending = c.pending ++ map log_row (take (length c.log) c.log) }) (drop_all (length c.log) c.log (omega arith))
    ∙ ap (λ ls. record c { log = []; pending = c.pending ++ map log_row ls }) (take_all (length c.log) c.log (omega arith))

pub whole_gained : (c : CoreState) (old new : Content) → HasGainedFirst (length c.log) c old new → HasGainedLog c old new
whole_gained c old new gained = (gained.0, subst (λ ls. SpellLog ls gained.0) (take_all (length c.log) c.log (omega arith)) gained.1, gained.2)

-- as many of the log's receipts as it has
pub all_long : (c : CoreState) (k : ℕ) → k ≡ length c.log → take k c.log ≡ c.log
all_long c k many = take_all k c.log (omega arith)

pub all_flushed : (c d : CoreState) (k : ℕ) → k ≡ length c.log → d ≡ flushed_first k c → d ≡ flushed c
all_flushed c d k many is = is ∙ ap (λ j. flushed_first j c) many ∙ whole_flushed c

pub all_gained : (c : CoreState) (old new : Content) (k : ℕ) → k ≡ length c.log → HasGainedFirst k c old new → HasGainedLog c old new
all_gained c old new k many gained = whole_gained c old new (subst (λ j. HasGainedFirst j c old new) many gained)

-- ---- as the code takes them from the log
pub taken_recorded : (k : ℕ) (log due : List Logged) → due ≡ take k log → map logged_record due ≡ take k (map logged_record log)
taken_recorded k log due first = ap (map logged_record) first ∙ sym (take-map logged_record k log)

pub dropped_recorded : (k : ℕ) (log due left : List Logged) → due ≡ take k log → left ≡ drop (length due) log → map logged_record left ≡ drop k (map logged_record log)
dropped_recorded k log due left first rest =
    ap (map logged_record) (rest ∙ ap (λ xs. drop (length xs) log) first ∙ drop_counted k log) ∙ sym (drop-map logged_record k log)

-- where there are no receipts there are no bytes of them
take_nothing : (k : ℕ) → take {A = LoggedRecord} k [] ≡ []
take_nothing zero = refl
take_nothing (suc k) = refl

none_spelled : (bs : List (List ℕ)) → SpellLog [] bs → bs ≡ []
none_spelled [] spell = refl
none_spelled (b ∷ bs) spell = absurd spell

pub first_carried : (k : ℕ) (c : CoreState) (bytes : List (List ℕ)) (first : ℕ) → SpellLog (take k c.log) bytes → ((c.log ≡ [] → ⊥) → first ≡ first_logged c) → (bytes ≡ [] → ⊥) → first ≡ first_logged c
first_carried k c bytes first spell at some = at (λ none. some (none_spelled bytes (subst (λ ls. SpellLog ls bytes) (ap (take k) none ∙ take_nothing k) spell)))
