-- What is left of the runs that there can be, as a walk goes on and back.
use Rattle.std.proofs.Common.{◌≡◌, ◌⊎◌, inl, inr, ℕ, ◌+◌, List, [], ◌∷◌, ◌++◌, length, Bool, true, false, refl, sym, ap, subst, ◌∙◌, arith, length-append}
use Rattle.std.specs.Prelude.{◌≢◌, if◌then◌else◌, nat_eq}
use Rattle.std.proofs.lemmas.Bool.Decides.{nat_tests}
use Rattle.std.proofs.lemmas.List.{append-nil, append_assoc, append_cancel_left}
use Rattle.om_format.specs.declared.queue.QueueEntry.{QueueEntry}
use Rattle.om_process.specs.Claims.{AtInterval, LeadsToWait, Makes}
use Rattle.om_process.specs.Dependencies.{count_from}
use Rattle.om_process.specs.Process.{Program, Received}
use Rattle.om_process.proofs.Making.{same_entry}
use Rattle.om_world.proofs.Handing.{made_in_order}
use Rattle.om_world.proofs.Legal.{at_more, one_more, received-append, received_more}
use Rattle.om_world.specs.Live.{Legal, MayFollow, program_at, receipt_of, received}
use Rattle.om_world.specs.declared.entry.Entry.{Entry}
use Rattle.om_check.specs.declared.exploring.Delivery.{Delivery}
use Rattle.om_check.specs.declared.walk.Choice.{Choice}
use Rattle.om_check.proofs.Lists.{head_is, last_of, not_none, snoc_same, tail_is}
use Rattle.om_check.specs.Orders.{IsOver, IsSameRun}
use Rattle.om_check.specs.steps.Walks.{AreElsewhere, IsElsewhere, IsExcluded, IsLeft, IsNextFromAnother, IsOpen, declining, deliveries_of, taken_of, taking}

-- ---- numbers that are the same or not
equal_or : (a b : ℕ) → (a ≡ b) ⊎ (a ≢ b)
equal_or a b = grind arith

is_equal : (a b : ℕ) → a ≡ b → nat_eq a b ≡ true
is_equal a b same = grind (arith, nat_tests)

is_other : (a b : ℕ) → a ≢ b → nat_eq a b ≡ false
is_other a b other = grind (arith, nat_tests)

-- ---- what one receipt more gives
received_here : (before : List Entry) (e : Entry) → received e.to (before ++ e ∷ []) ≡ received e.to before ++ receipt_of e ∷ []
received_here before e =
    received_more e.to before e ∙ ap (λ b. if b then received e.to before ++ receipt_of e ∷ [] else received e.to before) (is_equal e.to e.to refl)

received_there : (p : ℕ) (before : List Entry) (e : Entry) → e.to ≢ p → received p (before ++ e ∷ []) ≡ received p before
received_there p before e other =
    received_more p before e ∙ ap (λ b. if b then received p before ++ receipt_of e ∷ [] else received p before) (is_other e.to p other)

-- of entries of which these come first, each process receives the first first
received_first : (p : ℕ) (run before : List Entry) (e : Entry) (after : List Entry) → run ≡ before ++ e ∷ after
    → (rest : List Received) × (received p run ≡ received p before ++ rest)
received_first p run before e after is = (received p (e ∷ after), ap (received p) is ∙ received-append p before (e ∷ after))

received_next : (run before : List Entry) (e : Entry) (after : List Entry) → run ≡ before ++ e ∷ after
    → received e.to run ≡ received e.to before ++ receipt_of e ∷ received e.to after
received_next run before e after is =
    ap (received e.to) is ∙ received-append e.to before (e ∷ after)
    ∙ ap (λ b. received e.to before ++ (if b then receipt_of e ∷ received e.to after else received e.to after)) (is_equal e.to e.to refl)

-- the entry that a receipt is of
abbrev IsAt : ℕ → List Entry → List Received → Received → Type 0
IsAt p es first r = (before after : List Entry) × (e : Entry) × (es ≡ before ++ e ∷ after) × (received p before ≡ first) × (e.to ≡ p) × (receipt_of e ≡ r)

taken_here : (p : ℕ) (x : Entry) (es : List Entry) → x.to ≡ p → received p (x ∷ es) ≡ receipt_of x ∷ received p es
taken_here p x es here = ap (λ b. if b then receipt_of x ∷ received p es else received p es) (is_equal x.to p here)

passed_here : (p : ℕ) (x : Entry) (es : List Entry) → x.to ≢ p → received p (x ∷ es) ≡ received p es
passed_here p x es other = ap (λ b. if b then receipt_of x ∷ received p es else received p es) (is_other x.to p other)

at_here : (p : ℕ) (x : Entry) (es : List Entry) (first : List Received) (r : Received) (rest : List Received) → x.to ≡ p
    → receipt_of x ∷ received p es ≡ first ++ r ∷ rest
    → ((more : List Received) → received p es ≡ more ++ r ∷ rest → IsAt p es more r) → IsAt p (x ∷ es) first r
at_here p x es [] r rest here same later = ([], es, x, refl, refl, here, head_is (receipt_of x) r (received p es) rest same)
at_here p x es (s ∷ first) r rest here same later =
    let more = later first (tail_is (receipt_of x) s (received p es) (first ++ r ∷ rest) same) in
    let one : receipt_of x ≡ s = head_is (receipt_of x) s (received p es) (first ++ r ∷ rest) same in (
      x ∷ more.0,
      more.1,
      more.2,
      ap (λ us. x ∷ us) more.3,
      taken_here p x more.0 here ∙ ap (λ u. u ∷ received p more.0) one ∙ ap (λ us. s ∷ us) more.4,
      more.5,
      more.6,
    )

at_later : (p : ℕ) (x : Entry) (es : List Entry) (first : List Received) (r : Received) → x.to ≢ p → IsAt p es first r → IsAt p (x ∷ es) first r
at_later p x es first r other more =
    (x ∷ more.0, more.1, more.2, ap (λ us. x ∷ us) more.3, passed_here p x more.0 other ∙ more.4, more.5, more.6)

entry_by : (p : ℕ) (x : Entry) (es : List Entry) (first : List Received) (r : Received) (rest : List Received) → (x.to ≡ p) ⊎ (x.to ≢ p)
    → received p (x ∷ es) ≡ first ++ r ∷ rest
    → ((more : List Received) → received p es ≡ more ++ r ∷ rest → IsAt p es more r) → IsAt p (x ∷ es) first r
entry_by p x es first r rest (inl here) same later = at_here p x es first r rest here (sym (taken_here p x es here) ∙ same) later
entry_by p x es first r rest (inr other) same later =
    at_later p x es first r other (later first (sym (passed_here p x es other) ∙ same))

entry_at : (p : ℕ) (es : List Entry) (first : List Received) (r : Received) (rest : List Received) → received p es ≡ first ++ r ∷ rest → IsAt p es first r
entry_at p [] first r rest same = absurd (not_none first r rest same)
entry_at p (x ∷ es) first r rest same =
    entry_by p x es first r rest (equal_or x.to p) same (λ more is. entry_at p es more r rest is)

-- ---- under one number one message is made
entry_once : (program : Program) (own n place number : ℕ) (h : List Received) (a b : QueueEntry)
    → AtInterval h a.interval (Makes program own n place number a) → AtInterval h b.interval (Makes program own n place number b) → a ≡ b
entry_once program own n place number h a b left right =
    let le = made_in_order program own n place number number h a b (omega arith) left right in
    let ge = made_in_order program own n place number number h b a (omega arith) right left in
    same_entry program own n place number a.interval b.interval h a b left.0 right.0 (omega arith) (omega arith) left.1 right.1

-- what may follow, may where each process has received more, but its receiver
pub follows_on : (programs : List Program) (before later : List Entry) (e : Entry) → received e.to later ≡ received e.to before
    → ((rest : List Received) × (received e.from later ≡ received e.from before ++ rest)) → MayFollow programs before e → MayFollow programs later e
follows_on programs before later e same more may = record {
  to = may.to;
  from = may.from;
  number = may.number ∙ ap (count_from e.from) (sym same);
  said = subst (λ h. AtInterval h e.interval (Makes (program_at programs e.from) e.from (length programs) e.to e.ssn (record { interval = e.interval; body = e.body })))
      (sym more.1)
      (at_more (received e.from before) more.0 e.interval
      (Makes (program_at programs e.from) e.from (length programs) e.to e.ssn (record { interval = e.interval; body = e.body })) may.said);
  waits = subst (LeadsToWait (program_at programs e.to) e.to (length programs)) (sym same) may.waits;
}

-- the message of a number is one, however far its sender has come
message_once : (programs : List Program) (one other run : List Entry) (a b : Entry) → a.to ≡ b.to → a.from ≡ b.from
    → received a.to one ≡ received b.to other
    → ((rest : List Received) × (received a.from run ≡ received a.from one ++ rest))
    → ((rest : List Received) × (received b.from run ≡ received b.from other ++ rest))
    → MayFollow programs one a → MayFollow programs other b → a ≡ b
message_once programs one other run a b to from same far wide may might =
    whole (ap (λ (e : QueueEntry). e.interval) entries) (ap (λ (e : QueueEntry). e.body) entries)
  where
    numbers : a.ssn ≡ b.ssn
    numbers = may.number ∙ ap (λ q. count_from q (received a.to one)) from ∙ ap (count_from b.from) same ∙ sym might.number

    first : AtInterval (received a.from run) a.interval (Makes (program_at programs a.from) a.from (length programs) a.to a.ssn (record { interval = a.interval; body = a.body }))
    first = subst (λ h. AtInterval h a.interval (Makes (program_at programs a.from) a.from (length programs) a.to a.ssn (record { interval = a.interval; body = a.body })))
        (sym far.1)
        (at_more (received a.from one) far.0 a.interval
        (Makes (program_at programs a.from) a.from (length programs) a.to a.ssn (record { interval = a.interval; body = a.body })) may.said)

    second : AtInterval (received b.from run) b.interval (Makes (program_at programs b.from) b.from (length programs) b.to b.ssn (record { interval = b.interval; body = b.body }))
    second = subst (λ h. AtInterval h b.interval (Makes (program_at programs b.from) b.from (length programs) b.to b.ssn (record { interval = b.interval; body = b.body })))
        (sym wide.1)
        (at_more (received b.from other) wide.0 b.interval
        (Makes (program_at programs b.from) b.from (length programs) b.to b.ssn (record { interval = b.interval; body = b.body })) might.said)

    moved : AtInterval (received a.from run) b.interval (Makes (program_at programs a.from) a.from (length programs) a.to a.ssn (record { interval = b.interval; body = b.body }))
    moved = subst (λ to. AtInterval (received a.from run) b.interval (Makes (program_at programs a.from) a.from (length programs) to a.ssn (record { interval = b.interval; body = b.body }))) (sym to)
        (subst (λ ssn. AtInterval (received a.from run) b.interval (Makes (program_at programs a.from) a.from (length programs) b.to ssn (record { interval = b.interval; body = b.body }))) (sym numbers)
        (subst (λ q. AtInterval (received q run) b.interval (Makes (program_at programs q) q (length programs) b.to b.ssn (record { interval = b.interval; body = b.body }))) (sym from) second))

    entries : ◌≡◌ {A = QueueEntry} (record { interval = a.interval; body = a.body }) (record { interval = b.interval; body = b.body })
    entries = entry_once (program_at programs a.from) a.from (length programs) a.to a.ssn (received a.from run)
        (record { interval = a.interval; body = a.body }) (record { interval = b.interval; body = b.body }) first moved

    whole : a.interval ≡ b.interval → a.body ≡ b.body → a ≡ b
    whole intervals bodies =
        ap (λ (x : ℕ). record { to = x; from = a.from; ssn = a.ssn; interval = a.interval; body = a.body }) to
        ∙ ap (λ (x : ℕ). record { to = b.to; from = x; ssn = a.ssn; interval = a.interval; body = a.body }) from
        ∙ ap (λ (x : ℕ). record { to = b.to; from = b.from; ssn = x; interval = a.interval; body = a.body }) numbers
        ∙ ap (λ (x : ℕ). record { to = b.to; from = b.from; ssn = b.ssn; interval = x; body = a.body }) intervals
        ∙ ap (λ (x : List ℕ). record { to = b.to; from = b.from; ssn = b.ssn; interval = b.interval; body = x }) bodies

-- ---- who received from whom says all
abbrev delivery_of : Entry → Delivery
delivery_of e = record { from = e.from; to = e.to }

lives_after : (programs : List Program) (before xs ys : List Entry) → Legal programs (before ++ xs) → Legal programs (before ++ ys)
    → deliveries_of xs ≡ deliveries_of ys → xs ≡ ys
lives_after programs before [] [] left right same = refl
lives_after programs before [] (y ∷ ys) left right same = cc
lives_after programs before (x ∷ xs) [] left right same = cc
lives_after programs before (x ∷ xs) (y ∷ ys) left right same =
    let d : delivery_of x ≡ delivery_of y = head_is _ _ (deliveries_of xs) (deliveries_of ys) same in
    let to : x.to ≡ y.to = ap (λ (k : Delivery). k.to) d in
    let from : x.from ≡ y.from = ap (λ (k : Delivery). k.from) d in
    let one : x ≡ y = message_once programs before before before x y to from (ap (λ p. received p before) to)
    ([], sym (append-nil (received x.from before))) ([], sym (append-nil (received y.from before)))
    (left before xs x refl) (right before ys y refl) in
    let rest = lives_after programs (before ++ x ∷ []) xs ys
    (subst (Legal programs) (sym (append_assoc before (x ∷ []) xs)) left)
    (subst (Legal programs) (ap (λ z. before ++ z ∷ ys) (sym one) ∙ sym (append_assoc before (x ∷ []) ys)) right)
    (tail_is _ _ (deliveries_of xs) (deliveries_of ys) same) in
    ap (λ z. z ∷ xs) one ∙ ap (λ zs. y ∷ zs) rest

pub lives_once : (programs : List Program) (xs ys : List Entry) → Legal programs xs → Legal programs ys → deliveries_of xs ≡ deliveries_of ys → xs ≡ ys
lives_once programs xs ys left right same = lives_after programs [] xs ys left right same

-- ---- at the end of a walk
-- where nothing may follow but what was declined, all that the run receives was received
firsts_step : (programs : List Program) (run live before : List Entry) (e : Entry) (after : List Entry) (walk : List Choice) → Legal programs run
    → ((p : ℕ) → (rest : List Received) × (received p run ≡ received p live ++ rest))
    → ((d : Delivery) → IsExcluded walk d → IsNextFromAnother (received d.to run) (received d.to live) d.from)
    → ((x : Entry) → MayFollow programs live x → IsExcluded walk (delivery_of x))
    → run ≡ before ++ e ∷ after
    → ((p : ℕ) → (rest : List Received) × (received p live ≡ received p before ++ rest))
    → (p : ℕ) → (rest : List Received) × (received p live ≡ received p (before ++ e ∷ []) ++ rest)
firsts_step programs run live before e after walk legal begins declined leaf is firsts p = by (equal_or e.to p)
  where
    next : received e.to run ≡ received e.to before ++ receipt_of e ∷ received e.to after
    next = received_next run before e after is

    here : (rest : List Received) → received e.to live ≡ received e.to before ++ rest
        → (more : List Received) × (received e.to live ≡ received e.to (before ++ e ∷ []) ++ more)
    here [] same = absurd (off.3 (sym (ap (λ (r : Received). r.from) first)))
      where
        level : received e.to live ≡ received e.to before
        level = same ∙ append-nil (received e.to before)

        off : IsNextFromAnother (received e.to run) (received e.to live) e.from
        off = declined (delivery_of e) (leaf e (follows_on programs before live e level (firsts e.from) (legal before after e is)))

        first : receipt_of e ≡ off.0
        first = head_is (receipt_of e) off.0 (received e.to after) off.1
            (append_cancel_left (received e.to before) (receipt_of e ∷ received e.to after) (off.0 ∷ off.1)
            (sym next ∙ off.2 ∙ ap (λ h. h ++ off.0 ∷ off.1) level))
    here (r ∷ rest) same = (
      rest,
      same ∙ ap (λ s. received e.to before ++ s ∷ rest) (sym first) ∙ sym (append_assoc (received e.to before) (receipt_of e ∷ []) rest)
          ∙ ap (λ h. h ++ rest) (sym (received_here before e)),
    )
      where
        whole : received e.to run ≡ received e.to before ++ r ∷ (rest ++ (begins e.to).0)
        whole = (begins e.to).1 ∙ ap (λ h. h ++ (begins e.to).0) same ∙ append_assoc (received e.to before) (r ∷ rest) (begins e.to).0

        first : receipt_of e ≡ r
        first = head_is (receipt_of e) r (received e.to after) (rest ++ (begins e.to).0)
            (append_cancel_left (received e.to before) (receipt_of e ∷ received e.to after) (r ∷ (rest ++ (begins e.to).0)) (sym next ∙ whole))

    by : (e.to ≡ p) ⊎ (e.to ≢ p) → (rest : List Received) × (received p live ≡ received p (before ++ e ∷ []) ++ rest)
    by (inl to) = subst (λ q. (rest : List Received) × (received q live ≡ received q (before ++ e ∷ []) ++ rest)) to (here (firsts e.to).0 (firsts e.to).1)
    by (inr other) = ((firsts p).0, (firsts p).1 ∙ ap (λ h. h ++ (firsts p).0) (sym (received_there p before e other)))

firsts_all : (programs : List Program) (run live before after : List Entry) (walk : List Choice) → Legal programs run
    → ((p : ℕ) → (rest : List Received) × (received p run ≡ received p live ++ rest))
    → ((d : Delivery) → IsExcluded walk d → IsNextFromAnother (received d.to run) (received d.to live) d.from)
    → ((x : Entry) → MayFollow programs live x → IsExcluded walk (delivery_of x))
    → run ≡ before ++ after
    → ((p : ℕ) → (rest : List Received) × (received p live ≡ received p before ++ rest))
    → (p : ℕ) → (rest : List Received) × (received p live ≡ received p run ++ rest)
firsts_all programs run live before [] walk legal begins declined leaf is firsts p =
    ((firsts p).0, (firsts p).1 ∙ ap (λ es. received p es ++ (firsts p).0) (sym (is ∙ append-nil before)))
firsts_all programs run live before (e ∷ after) walk legal begins declined leaf is firsts p =
    firsts_all programs run live (before ++ e ∷ []) after walk legal begins declined leaf (is ∙ sym (append_assoc before (e ∷ []) after))
    (firsts_step programs run live before e after walk legal begins declined leaf is firsts) p

both_first : (xs ys us vs : List Received) → xs ≡ ys ++ us → ys ≡ xs ++ vs → xs ≡ ys
both_first xs ys us vs one other = none us one (long us one)
  where
    long : (us : List Received) → xs ≡ ys ++ us → length us ≡ 0
    long us one =
        let a : length xs ≡ length ys + length us = ap length one ∙ length-append ys us in
        let b : length ys ≡ length xs + length vs = ap length other ∙ length-append xs vs in
        omega arith

    none : (us : List Received) → xs ≡ ys ++ us → length us ≡ 0 → xs ≡ ys
    none [] one nought = one ∙ append-nil ys
    none (u ∷ us) one nought = absurd (omega (arith, nought))

pub comes_to_it : (programs : List Program) (run live : List Entry) (walk : List Choice) → Legal programs run → Legal programs live
    → deliveries_of live ≡ taken_of walk → ((x : Entry) → MayFollow programs live x → IsExcluded walk (delivery_of x))
    → IsOpen programs run walk → IsSameRun run live
comes_to_it programs run live walk legal mine taken leaf opened p =
    let same : opened.live ≡ live = lives_once programs opened.live live opened.legal mine (opened.taken ∙ sym taken) in
    let begins : (q : ℕ) → (rest : List Received) × (received q run ≡ received q live ++ rest) =
    subst (λ es. (q : ℕ) → (rest : List Received) × (received q run ≡ received q es ++ rest)) same opened.begins in
    let declined : (d : Delivery) → IsExcluded walk d → IsNextFromAnother (received d.to run) (received d.to live) d.from =
    subst (λ es. (d : Delivery) → IsExcluded walk d → IsNextFromAnother (received d.to run) (received d.to es) d.from) same opened.declined in
    let back = firsts_all programs run live [] run walk legal begins declined leaf refl (λ q. (received q live, refl)) p in
    both_first (received p run) (received p live) (begins p).0 back.0 (begins p).1 back.1

-- ---- one choice more
taken_more_by : (walk : List Choice) (c : Choice) (d : Delivery) (b : Bool) → c.taken ≡ b → taken_of (walk ++ taking d ∷ []) ≡ taken_of walk ++ d ∷ []
    → taken_of ((c ∷ walk) ++ taking d ∷ []) ≡ taken_of (c ∷ walk) ++ d ∷ []
taken_more_by walk c d true is more = rw is (ap (λ ds. c.delivery ∷ ds) more)
taken_more_by walk c d false is more = rw is more

pub taken_more : (walk : List Choice) (d : Delivery) → taken_of (walk ++ taking d ∷ []) ≡ taken_of walk ++ d ∷ []
taken_more [] d = refl
taken_more (c ∷ walk) d = taken_more_by walk c d c.taken refl (taken_more walk d)

declined_more_by : (walk : List Choice) (c : Choice) (d : Delivery) (b : Bool) → c.taken ≡ b → taken_of (walk ++ declining d ∷ []) ≡ taken_of walk
    → taken_of ((c ∷ walk) ++ declining d ∷ []) ≡ taken_of (c ∷ walk)
declined_more_by walk c d true is more = rw is (ap (λ ds. c.delivery ∷ ds) more)
declined_more_by walk c d false is more = rw is more

pub declined_more : (walk : List Choice) (d : Delivery) → taken_of (walk ++ declining d ∷ []) ≡ taken_of walk
declined_more [] d = refl
declined_more (c ∷ walk) d = declined_more_by walk c d c.taken refl (declined_more walk d)

pub deliveries_more : (live : List Entry) (e : Entry) → deliveries_of (live ++ e ∷ []) ≡ deliveries_of live ++ delivery_of e ∷ []
deliveries_more [] e = refl
deliveries_more (x ∷ live) e = ap (λ ds. delivery_of x ∷ ds) (deliveries_more live e)

elsewhere_apart : (to : ℕ) (cs : List Choice) (c : Choice) → AreElsewhere to (cs ++ c ∷ []) → AreElsewhere to cs × IsElsewhere to c
elsewhere_apart to [] c all = (tt, all.0)
elsewhere_apart to (x ∷ cs) c all = let rest = elsewhere_apart to cs c all.1 in ((all.0, rest.0), rest.1)

elsewhere_more : (to : ℕ) (cs : List Choice) (c : Choice) → AreElsewhere to cs → IsElsewhere to c → AreElsewhere to (cs ++ c ∷ [])
elsewhere_more to [] c all one = (one, tt)
elsewhere_more to (x ∷ cs) c all one = (all.0, elsewhere_more to cs c all.1 one)

-- what is excluded once a choice more was made
excluded_back : (walk : List Choice) (c : Choice) (d : Delivery) → IsExcluded (walk ++ c ∷ []) d
    → ((walk ≡ walk) × (c ≡ declining d)) ⊎ (IsElsewhere d.to c × IsExcluded walk d)
excluded_back walk c d ex = by (last_of ex.1)
  where
    by : (ex.1 ≡ []) ⊎ ((ys : List Choice) × (y : Choice) × (ex.1 ≡ ys ++ y ∷ [])) → ((walk ≡ walk) × (c ≡ declining d)) ⊎ (IsElsewhere d.to c × IsExcluded walk d)
    by (inl none) =
        inl (refl, (snoc_same walk ex.0 c (declining d) (ex.2 ∙ ap (λ after. ex.0 ++ declining d ∷ after) none)).1)
    by (inr some) =
        let parts = snoc_same walk (ex.0 ++ declining d ∷ some.0) c some.1
        (ex.2 ∙ ap (λ after. ex.0 ++ declining d ∷ after) some.2 ∙ sym (append_assoc ex.0 (declining d ∷ some.0) (some.1 ∷ []))) in
        let all = elsewhere_apart d.to some.0 some.1 (subst (AreElsewhere d.to) some.2 ex.3) in
        inr (subst (IsElsewhere d.to) (sym parts.1) all.1, (ex.0, some.0, parts.0, all.0))

pub excluded_on : (walk : List Choice) (c : Choice) (d : Delivery) → IsElsewhere d.to c → IsExcluded walk d → IsExcluded (walk ++ c ∷ []) d
excluded_on walk c d elsewhere ex = (
  ex.0,
  ex.1 ++ c ∷ [],
  ap (λ cs. cs ++ c ∷ []) ex.2 ∙ append_assoc ex.0 (declining d ∷ ex.1) (c ∷ []),
  elsewhere_more d.to ex.1 c ex.3 elsewhere,
)

pub excluded_now : (walk : List Choice) (d : Delivery) → IsExcluded (walk ++ declining d ∷ []) d
excluded_now walk d = (walk, [], refl, tt)

-- the run begins with the delivery that is taken, or not
pub goes_on : (programs : List Program) (run live : List Entry) (walk : List Choice) (e : Entry) → IsOver programs run → Legal programs live
    → deliveries_of live ≡ taken_of walk → MayFollow programs live e → IsOpen programs run walk
    → IsOpen programs run (walk ++ taking (delivery_of e) ∷ []) ⊎ IsOpen programs run (walk ++ declining (delivery_of e) ∷ [])
goes_on programs run live walk e over legal taken may opened = by (begins e.to).0 (begins e.to).1
  where
    same : opened.live ≡ live
    same = lives_once programs opened.live live opened.legal legal (opened.taken ∙ sym taken)

    begins : (q : ℕ) → (rest : List Received) × (received q run ≡ received q live ++ rest)
    begins = subst (λ es. (q : ℕ) → (rest : List Received) × (received q run ≡ received q es ++ rest)) same opened.begins

    declined : (d : Delivery) → IsExcluded walk d → IsNextFromAnother (received d.to run) (received d.to live) d.from
    declined = subst (λ es. (d : Delivery) → IsExcluded walk d → IsNextFromAnother (received d.to run) (received d.to es) d.from) same opened.declined

    takes : (r : Received) (rest : List Received) → received e.to run ≡ received e.to live ++ r ∷ rest → r.from ≡ e.from
        → IsOpen programs run (walk ++ taking (delivery_of e) ∷ [])
    takes r rest is from = record {
      live = live ++ e ∷ [];
      legal = one_more programs live e legal may;
      taken = deliveries_more live e ∙ ap (λ ds. ds ++ delivery_of e ∷ []) taken ∙ sym (taken_more walk (delivery_of e));
      begins = λ p. first p (equal_or e.to p);
      declined = λ d ex. still d (excluded_back walk (taking (delivery_of e)) d ex);
    }
      where
        at : IsAt e.to run (received e.to live) r
        at = entry_at e.to run (received e.to live) r rest is

        one : at.2 ≡ e
        one = message_once programs at.0 live run at.2 e at.5 (ap (λ (x : Received). x.from) at.6 ∙ from)
            (ap (λ p. received p at.0) at.5 ∙ at.4) (received_first at.2.from run at.0 at.2 at.1 at.3) (begins e.from)
            (over.0 at.0 at.1 at.2 at.3) may

        receipt : receipt_of e ≡ r
        receipt = ap receipt_of (sym one) ∙ at.6

        first : (p : ℕ) → (e.to ≡ p) ⊎ (e.to ≢ p) → (more : List Received) × (received p run ≡ received p (live ++ e ∷ []) ++ more)
        first p (inl to) = subst (λ q. (more : List Received) × (received q run ≡ received q (live ++ e ∷ []) ++ more)) to (
          rest,
          is ∙ ap (λ s. received e.to live ++ s ∷ rest) (sym receipt) ∙ sym (append_assoc (received e.to live) (receipt_of e ∷ []) rest)
              ∙ ap (λ h. h ++ rest) (sym (received_here live e)),
        )
        first p (inr other) = ((begins p).0, (begins p).1 ∙ ap (λ h. h ++ (begins p).0) (sym (received_there p live e other)))

        still : (d : Delivery) → ((walk ≡ walk) × (taking (delivery_of e) ≡ declining d)) ⊎ (IsElsewhere d.to (taking (delivery_of e)) × IsExcluded walk d)
            → IsNextFromAnother (received d.to run) (received d.to (live ++ e ∷ [])) d.from
        still d (inl off) = absurd (not_both (ap (λ (c : Choice). c.taken) off.1))
          where
            not_both : true ≡ false → ⊥
            not_both off = cc
        still d (inr on) =
            subst (λ h. IsNextFromAnother (received d.to run) h d.from) (sym (received_there d.to live e (on.0 refl))) (declined d on.1)

    leaves : (r : Received) (rest : List Received) → received e.to run ≡ received e.to live ++ r ∷ rest → r.from ≢ e.from
        → IsOpen programs run (walk ++ declining (delivery_of e) ∷ [])
    leaves r rest is from = record {
      live = live;
      legal = legal;
      taken = taken ∙ sym (declined_more walk (delivery_of e));
      begins = begins;
      declined = λ d ex. still d (excluded_back walk (declining (delivery_of e)) d ex);
    }
      where
        still : (d : Delivery) → ((walk ≡ walk) × (declining (delivery_of e) ≡ declining d)) ⊎ (IsElsewhere d.to (declining (delivery_of e)) × IsExcluded walk d)
            → IsNextFromAnother (received d.to run) (received d.to live) d.from
        still d (inl now) =
            subst (λ (x : Delivery). IsNextFromAnother (received x.to run) (received x.to live) x.from) (ap (λ (c : Choice). c.delivery) now.1) (r, rest, is, from)
        still d (inr on) = declined d on.1

    by : (rest : List Received) → received e.to run ≡ received e.to live ++ rest
        → IsOpen programs run (walk ++ taking (delivery_of e) ∷ []) ⊎ IsOpen programs run (walk ++ declining (delivery_of e) ∷ [])
    by [] is = absurd (over.1 e (follows_on programs live run e (is ∙ append-nil (received e.to live)) (begins e.from) may))
    by (r ∷ rest) is = either (equal_or r.from e.from)
      where
        either : (r.from ≡ e.from) ⊎ (r.from ≢ e.from)
            → IsOpen programs run (walk ++ taking (delivery_of e) ∷ []) ⊎ IsOpen programs run (walk ++ declining (delivery_of e) ∷ [])
        either (inl from) = inl (takes r rest is from)
        either (inr from) = inr (leaves r rest is from)

-- ---- what is left
-- on the other side of what is taken last, or of what was taken before
pub left_more : (programs : List Program) (run : List Entry) (walk : List Choice) (c : Choice) → IsLeft programs run walk → IsLeft programs run (walk ++ c ∷ [])
left_more programs run walk c left =
    (left.0, left.1 ++ c ∷ [], left.2, ap (λ cs. cs ++ c ∷ []) left.3 ∙ append_assoc left.0 (taking left.2 ∷ left.1) (c ∷ []), left.4)

pub left_now : (programs : List Program) (run : List Entry) (walk : List Choice) (d : Delivery) → IsOpen programs run (walk ++ declining d ∷ [])
    → IsLeft programs run (walk ++ taking d ∷ [])
left_now programs run walk d opened = (walk, [], d, refl, opened)

-- a choice that was declined leaves nothing on its other side
pub left_back : (programs : List Program) (run : List Entry) (walk : List Choice) (d : Delivery) → IsLeft programs run (walk ++ declining d ∷ [])
    → IsLeft programs run walk
left_back programs run walk d left = by (last_of left.1)
  where
    by : (left.1 ≡ []) ⊎ ((ys : List Choice) × (y : Choice) × (left.1 ≡ ys ++ y ∷ [])) → IsLeft programs run walk
    by (inl none) =
        absurd (not_both (ap (λ (c : Choice). c.taken) (snoc_same walk left.0 (declining d) (taking left.2) (left.3 ∙ ap (λ after. left.0 ++ taking left.2 ∷ after) none)).1))
      where
        not_both : false ≡ true → ⊥
        not_both off = cc
    by (inr some) =
        let parts = snoc_same walk (left.0 ++ taking left.2 ∷ some.0) (declining d) some.1
        (left.3 ∙ ap (λ after. left.0 ++ taking left.2 ∷ after) some.2 ∙ sym (append_assoc left.0 (taking left.2 ∷ some.0) (some.1 ∷ []))) in
        (left.0, some.0, left.2, parts.0, left.4)

-- of one that was taken the other side comes next
pub left_turned : (programs : List Program) (run : List Entry) (walk : List Choice) (d : Delivery) → IsLeft programs run (walk ++ taking d ∷ [])
    → IsLeft programs run walk ⊎ IsOpen programs run (walk ++ declining d ∷ [])
left_turned programs run walk d left = by (last_of left.1)
  where
    by : (left.1 ≡ []) ⊎ ((ys : List Choice) × (y : Choice) × (left.1 ≡ ys ++ y ∷ [])) → IsLeft programs run walk ⊎ IsOpen programs run (walk ++ declining d ∷ [])
    by (inl none) =
        let parts = snoc_same walk left.0 (taking d) (taking left.2) (left.3 ∙ ap (λ after. left.0 ++ taking left.2 ∷ after) none) in
        inr (subst (λ cs. IsOpen programs run (cs ++ declining d ∷ [])) (sym parts.0)
        (subst (λ x. IsOpen programs run (left.0 ++ declining x ∷ [])) (sym (ap (λ (c : Choice). c.delivery) parts.1)) left.4))
    by (inr some) =
        let parts = snoc_same walk (left.0 ++ taking left.2 ∷ some.0) (taking d) some.1
        (left.3 ∙ ap (λ after. left.0 ++ taking left.2 ∷ after) some.2 ∙ sym (append_assoc left.0 (taking left.2 ∷ some.0) (some.1 ∷ []))) in
        inl (left.0, some.0, left.2, parts.0, left.4)

pub none_left : (programs : List Program) (run : List Entry) → IsLeft programs run [] → ⊥
none_left programs run left = not_none left.0 (taking left.2) left.1 left.3

-- at the start of a walk all is opened
pub opens : (programs : List Program) (run : List Entry) → IsOpen programs run []
opens programs run = record {
  live = [];
  legal = λ before after e is. absurd (not_none before e after is);
  taken = refl;
  begins = λ p. (received p run, refl);
  declined = λ d ex. absurd (not_none ex.0 (declining d) ex.1 ex.2);
}
