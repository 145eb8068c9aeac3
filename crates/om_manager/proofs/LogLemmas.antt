use Rattle.std.proofs.Common.{◌≡◌, ℕ, ◌+◌, ◌<◌, ◌≤◌, ◌⊎◌, inl, inr, refl, sym, ◌∙◌, ap, subst, arith, cond, true, List, [], ◌∷◌, ◌++◌, length, take, map, All, get_or, zero, suc, nat_le, slice_get, Some, ◌↔◌}
use Rattle.std.specs.List.{AllWithin, HoldsAt}
use Rattle.std.proofs.lemmas.Bool.{cases_order, leb-true, le-leb, lt-leb}
use Rattle.std.proofs.lemmas.List.{append-nil, map-append, length_push, length-map, get_or_append_left, get_or_push, take-map, length-take-le, get_or-take}
use Rattle.std.proofs.lemmas.List.Quantifiers.{all_pairs_push}
use Rattle.std.proofs.lemmas.List.Elements.{filter-append, filter_passes}
use mathlib.Core.List.{IsPrefix}
use Rattle.om_manager.specs.Outputs.{HeldOutput, held_of, within, AreRising, AreNumbered}
use Rattle.om_manager.specs.steps.OutputLog.{IsSplit, IsLog}
use Rattle.om_manager.specs.declared.output_log.Output.{Output}

cases_le_lt : (x y : ℕ) → (x ≤ y) ⊎ (y < x)
cases_le_lt x y = elim (cases_order y x) [
  | inl same ↦ inl (omega arith)
  | inr apart ↦ elim apart [ inl less ↦ inr less | inr more ↦ inl (omega arith) ]
]

rising_rest : (x : HeldOutput) (xs : List HeldOutput) → AreRising (x ∷ xs) → AreRising xs
rising_rest x xs rising = λ i j d earlier below. rising (suc i) (suc j) d (omega arith) (omega arith)

-- nothing is within the limit where the first output is not
none_within : (xs : List HeldOutput) (limit : ℕ) → AreRising xs → (0 < length xs → HoldsAt (λ output. limit < output.interval) xs 0) → within xs limit ≡ []
none_within [] limit rising first = refl
none_within (x ∷ xs) limit rising first =
    let above : limit < x.interval = first (omega arith) x in
    ap (λ b. cond b (x ∷ within xs limit) (within xs limit)) (lt-leb x.interval limit above)
    ∙ none_within xs limit (rising_rest x xs rising) (λ some d. let later : x.interval ≤ (get_or xs 0 d).interval = rising 0 1 d (omega arith) (omega arith) in omega arith)

-- of outputs that rise, those within the limit are so many from the first on
pub within_is_take : (xs : List HeldOutput) (released limit : ℕ) → AreRising xs → IsSplit xs released limit → within xs limit ≡ take released xs
within_is_take xs zero limit rising split = none_within xs limit rising split.beyond
within_is_take [] (suc released) limit rising split = refl
within_is_take (x ∷ xs) (suc released) limit rising split =
    let below : x.interval ≤ limit = split.inside 0 x (omega arith) (omega arith) in
    ap (λ b. cond b (x ∷ within xs limit) (within xs limit)) (le-leb x.interval limit below)
    ∙ ap (λ rest. x ∷ rest) (within_is_take xs released limit (rising_rest x xs rising) (record {
      among = omega (arith, split.among);
      inside = λ k d low high. split.inside (suc k) d (omega arith) (omega arith);
      beyond = λ some. split.beyond (omega arith);
    }))

-- an output more, which is not of an earlier interval than those before
numbered_push : (items : List Output) (output : Output) → AreNumbered items → output.seq ≡ length items → AreNumbered (items ++ output ∷ [])
numbered_push items output numbered seq = λ place d below. elim (cases_order place (length items)) [
  | inl same ↦ ap (λ (o : Output). o.seq) (get_or_push items output d place (sym same)) ∙ seq ∙ sym same
  | inr apart ↦ elim apart [
    | inl inside ↦ ap (λ (o : Output). o.seq) (get_or_append_left items (output ∷ []) d place inside) ∙ numbered place d inside
    | inr past ↦ absurd (omega (arith, below, length_push items output))
  ]
]

rising_push : (xs : List HeldOutput) (x : HeldOutput) → AreRising xs → All (λ output. output.interval ≤ x.interval) xs → AreRising (xs ++ x ∷ [])
rising_push xs x rising all = all_pairs_push (λ (early : HeldOutput) (late : HeldOutput). early.interval ≤ late.interval) xs x rising (λ k d below. all k d below)

split_push_out : (xs : List HeldOutput) (x : HeldOutput) (released limit : ℕ) → IsSplit xs released limit → All (λ output. output.interval ≤ x.interval) xs → x.interval ≤ limit → IsSplit (xs ++ x ∷ []) (length xs + 1) limit
split_push_out xs x released limit split all inside = record {
  among = omega (arith, length_push xs x);
  inside = λ k d low high. elim (cases_order k (length xs)) [
    | inl same ↦ subst (λ (o : HeldOutput). o.interval ≤ limit) (sym (get_or_push xs x d k (sym same))) inside
    | inr apart ↦ elim apart [
      | inl below ↦ subst (λ (o : HeldOutput). o.interval ≤ limit) (sym (get_or_append_left xs (x ∷ []) d k below)) (let one = all k d below in omega arith)
      | inr past ↦ absurd (omega arith)
    ]
  ];
  beyond = λ more. absurd (omega (arith, more, length_push xs x));
}

split_push_held : (xs : List HeldOutput) (x : HeldOutput) (released limit : ℕ) → IsSplit xs released limit → limit < x.interval → IsSplit (xs ++ x ∷ []) released limit
split_push_held xs x released limit split above = record {
  among = omega (arith, split.among, length_push xs x);
  inside = λ k d low high. subst (λ (o : HeldOutput). o.interval ≤ limit) (sym (get_or_append_left xs (x ∷ []) d k (omega (arith, split.among)))) (split.inside k d low high);
  beyond = λ more d. elim (cases_order released (length xs)) [
    | inl same ↦ subst (λ (o : HeldOutput). limit < o.interval) (sym (get_or_push xs x d released (sym same))) above
    | inr apart ↦ elim apart [
      | inl below ↦ subst (λ (o : HeldOutput). limit < o.interval) (sym (get_or_append_left xs (x ∷ []) d released below)) (split.beyond below d)
      | inr past ↦ absurd (omega (arith, split.among))
    ]
  ];
}

pub log_pushed_out : (items : List Output) (output : Output) (released limit : ℕ) → IsLog items released limit → output.seq ≡ length items
    → All (λ held. held.interval ≤ output.interval) (map held_of items) → output.interval ≤ limit → IsLog (items ++ output ∷ []) (length items + 1) limit
log_pushed_out items output released limit log seq all inside = record {
  numbered = numbered_push items output log.numbered seq;
  rising = subst AreRising (sym (map-append held_of items (output ∷ []))) (rising_push (map held_of items) (held_of output) log.rising all);
  split = subst (λ xs. IsSplit xs (length items + 1) limit) (sym (map-append held_of items (output ∷ [])))
      (subst (λ n. IsSplit (map held_of items ++ held_of output ∷ []) (n + 1) limit) (length-map items held_of) (split_push_out (map held_of items) (held_of output) released limit log.split all inside));
}

pub log_pushed_held : (items : List Output) (output : Output) (released limit : ℕ) → IsLog items released limit → output.seq ≡ length items
    → All (λ held. held.interval ≤ output.interval) (map held_of items) → limit < output.interval → IsLog (items ++ output ∷ []) released limit
log_pushed_held items output released limit log seq all above = record {
  numbered = numbered_push items output log.numbered seq;
  rising = subst AreRising (sym (map-append held_of items (output ∷ []))) (rising_push (map held_of items) (held_of output) log.rising all);
  split = subst (λ xs. IsSplit xs released limit) (sym (map-append held_of items (output ∷ []))) (split_push_held (map held_of items) (held_of output) released limit log.split above);
}

-- what is released is what is within
pub released_is : (items : List Output) (released limit : ℕ) → IsLog items released limit → map held_of (take released items) ≡ within (map held_of items) limit
released_is items released limit log = sym (take-map held_of released items) ∙ sym (within_is_take (map held_of items) released limit log.rising log.split)

pub numbered_take : (items : List Output) (released : ℕ) → released ≤ length items → AreNumbered items → AreNumbered (take released items)
numbered_take items released among numbered = λ place d below.
    let short : length (take released items) ≡ released = length-take-le released items among in
    ap (λ (o : Output). o.seq) (get_or-take released items place d (omega (arith, below, short))) ∙ numbered place d (omega (arith, below, short))

-- what is left after a cut
pub log_cut : (items new : List Output) (released limit : ℕ) → IsLog items released limit → new ≡ take released items → IsLog new released limit
log_cut items new released limit log is =
    let among : released ≤ length items = omega (arith, log.split.among, length-map items held_of) in
    let short : length (take released items) ≡ released = length-take-le released items among in
    let same : (k : ℕ) (d : HeldOutput) → k < released → get_or (take released (map held_of items)) k d ≡ get_or (map held_of items) k d = λ k d below. get_or-take released (map held_of items) k d below in
    let long : length (take released (map held_of items)) ≡ released = length-take-le released (map held_of items) log.split.among in
    subst (λ all. IsLog all released limit) (sym is) (record {
      numbered = numbered_take items released among log.numbered;
      rising = subst AreRising (take-map held_of released items) (λ i j d earlier below.
          let one : get_or (take released (map held_of items)) i d ≡ get_or (map held_of items) i d = same i d (omega (arith, below, long)) in
          let other : get_or (take released (map held_of items)) j d ≡ get_or (map held_of items) j d = same j d (omega (arith, below, long)) in
          let rises = log.rising i j d earlier (omega (arith, below, long, log.split.among)) in
          omega (arith, rises, ap (λ (o : HeldOutput). o.interval) one, ap (λ (o : HeldOutput). o.interval) other));
      split = subst (λ xs. IsSplit xs released limit) (take-map held_of released items) (record {
        among = omega (arith, long);
        inside = λ k d low high. subst (λ (o : HeldOutput). o.interval ≤ limit) (sym (same k d high)) (log.split.inside k d low high);
        beyond = λ more. absurd (omega (arith, more, long));
      });
    })

-- the limit has risen, and so has the number of those that are released
pub log_raised : (items : List Output) (released limit : ℕ) → AreNumbered items → AreRising (map held_of items) → IsSplit (map held_of items) released limit → IsLog items released limit
log_raised items released limit numbered rising split = record { numbered = numbered; rising = rising; split = split }

-- the output at a place
pub at_place : (items : List Output) (seq : ℕ) (d : Output) → seq < length items → slice_get (map held_of items) seq ≡ Some (held_of (get_or items seq d))
at_place [] seq d below = absurd (omega arith)
at_place (x ∷ items) zero d below = refl
at_place (x ∷ items) (suc seq) d below = at_place items seq d (omega arith)

pub is_at_place : (items : List Output) (seq interval : ℕ) (bytes : List ℕ) (d : Output) → seq < length items
    → (((get_or items seq d).interval ≡ interval) × ((get_or items seq d).bytes ≡ bytes)) ↔ (slice_get (map held_of items) seq ≡ Some (record { interval = interval; bytes = bytes }))
is_at_place items seq interval bytes d below =
    let here = at_place items seq d below in (
      λ both. here ∙ ap Some (λ i. record { interval = both.0 i; bytes = both.1 i }),
      λ is. let same : held_of (get_or items seq d) ≡ record { interval = interval; bytes = bytes } = (let e = sym here ∙ is in cc) in
          (ap (λ (h : HeldOutput). h.interval) same, ap (λ (h : HeldOutput). h.bytes) same),
    )

-- no output is of a later interval than the last
pub up_to_last : (xs : List HeldOutput) (interval place : ℕ) → AreRising xs → length xs ≡ place + 1 → ((d : HeldOutput) → (get_or xs place d).interval ≤ interval) → All (λ output. output.interval ≤ interval) xs
up_to_last xs interval place rising last here = λ k d below. elim (cases_order k place) [
  | inl same ↦ subst (λ j. (get_or xs j d).interval ≤ interval) (sym same) (here d)
  | inr apart ↦ elim apart [
    | inl before ↦ let one = rising k place d before (omega arith) in let other = here d in omega arith
    | inr past ↦ absurd (omega arith)
  ]
]

pub get_or-held : (items : List Output) (k : ℕ) (d : HeldOutput) (o : Output) → k < length items → get_or (map held_of items) k d ≡ held_of (get_or items k o)
get_or-held [] k d o below = absurd (omega arith)
get_or-held (x ∷ items) zero d o below = refl
get_or-held (x ∷ items) (suc k) d o below = get_or-held items k d o (omega arith)

-- one output more is released
pub raised_one : (items : List Output) (released limit : ℕ) (o : Output) → AllWithin (λ held. held.interval ≤ limit) (map held_of items) 0 released → released < length items
    → o ≡ get_or items released o → o.interval ≤ limit → AllWithin (λ held. held.interval ≤ limit) (map held_of items) 0 (released + 1)
raised_one items released limit o out below is inside = λ k d low high. elim (cases_order k released) [
  | inl same ↦ subst (λ (h : HeldOutput). h.interval ≤ limit) (sym (ap (λ j. get_or (map held_of items) j d) same ∙ get_or-held items released d o below ∙ ap held_of (sym is))) inside
  | inr apart ↦ elim apart [
    | inl before ↦ out k d low before
    | inr past ↦ absurd (omega arith)
  ]
]

-- whether the last output is of no later interval tells it of all
pub up_to_is : (items : List Output) (interval place : ℕ) (o : Output) → AreRising (map held_of items) → length items ≡ place + 1 → o ≡ get_or items place o
    → (nat_le o.interval interval ≡ true → All (λ (held : HeldOutput). held.interval ≤ interval) (map held_of items)) × (All (λ (held : HeldOutput). held.interval ≤ interval) (map held_of items) → nat_le o.interval interval ≡ true)
up_to_is items interval place o rising last is =
    let at : (d : HeldOutput) → get_or (map held_of items) place d ≡ held_of o = λ d. get_or-held items place d o (omega arith) ∙ ap held_of (sym is) in
    let many : length (map held_of items) ≡ length items = length-map items held_of in (
      λ yes. up_to_last (map held_of items) interval place rising (omega arith) (λ d. subst (λ (h : HeldOutput). h.interval ≤ interval) (sym (at d)) (leb-true _ _ yes)),
      λ all. le-leb _ _ (subst (λ (h : HeldOutput). h.interval ≤ interval) (at (held_of o)) (all place (held_of o) (omega arith))),
    )

-- where the first output is beyond the limit, nothing is within, which begins every list
nothing_begins : (x : HeldOutput) (xs all : List HeldOutput) (limit : ℕ) → AreRising (x ∷ xs) → limit < x.interval → IsPrefix (within (x ∷ xs) limit) all
nothing_begins x xs all limit rising beyond = (all, ap (λ begin. begin ++ all) (none_within (x ∷ xs) limit rising (λ some d. beyond)))

-- what is within a limit begins the outputs
pub within_begins : (xs : List HeldOutput) (limit : ℕ) → AreRising xs → IsPrefix (within xs limit) xs
within_begins [] limit rising = ([], refl)
within_begins (x ∷ xs) limit rising = elim (cases_le_lt x.interval limit) [
  | inl inside ↦
      let found = within_begins xs limit (rising_rest x xs rising) in
      (found.0, ap (λ b. cond b (x ∷ within xs limit) (within xs limit) ++ found.0) (le-leb x.interval limit inside) ∙ ap (λ rest. x ∷ rest) found.1)
  | inr beyond ↦ nothing_begins x xs (x ∷ xs) limit rising beyond
]

-- what is within a limit begins what is within a higher one
pub within_higher : (xs : List HeldOutput) (low high : ℕ) → AreRising xs → low ≤ high → IsPrefix (within xs low) (within xs high)
within_higher [] low high rising below = ([], refl)
within_higher (x ∷ xs) low high rising below = elim (cases_le_lt x.interval low) [
  | inl inside ↦
      let found = within_higher xs low high (rising_rest x xs rising) below in (
        found.0,
        ap (λ b. cond b (x ∷ within xs low) (within xs low) ++ found.0) (le-leb x.interval low inside) ∙ ap (λ rest. x ∷ rest) found.1
            ∙ sym (ap (λ b. cond b (x ∷ within xs high) (within xs high)) (le-leb x.interval high (omega arith))),
      )
  | inr beyond ↦ nothing_begins x xs (within (x ∷ xs) high) low rising beyond
]

-- with one output more, what was within begins what is
pub within_push : (xs : List HeldOutput) (x : HeldOutput) (limit : ℕ) → IsPrefix (within xs limit) (within (xs ++ x ∷ []) limit)
within_push xs x limit = (within (x ∷ []) limit, sym (filter-append (λ (output : HeldOutput). nat_le output.interval limit) xs (x ∷ [])))

within_all : (xs : List HeldOutput) (limit : ℕ) → All (λ (output : HeldOutput). output.interval ≤ limit) xs → within xs limit ≡ xs
within_all [] limit all = refl
within_all (x ∷ xs) limit all =
    ap (λ b. cond b (x ∷ within xs limit) (within xs limit)) (le-leb x.interval limit (all 0 x (omega arith)))
    ∙ ap (λ rest. x ∷ rest) (within_all xs limit (λ k d below. all (suc k) d (omega arith)))

-- of what is within a limit all is within it
pub within_within : (xs : List HeldOutput) (limit : ℕ) → within (within xs limit) limit ≡ within xs limit
within_within xs limit = within_all (within xs limit) limit (λ k d below. leb-true _ _ (filter_passes (λ (output : HeldOutput). nat_le output.interval limit) xs k d below))

-- a list begins itself
pub same_begins : (xs ys : List HeldOutput) → xs ≡ ys → IsPrefix xs ys
same_begins xs ys same = ([], append-nil xs ∙ same)
