-- What is excluded along a walk.
use Rattle.std.proofs.Common.{◌≡◌, inl, inr, ℕ, zero, suc, ◌<◌, List, [], ◌∷◌, ◌++◌, length, sym, subst, ◌∙◌, arith}
use Rattle.std.specs.Prelude.{◌≢◌, All, IsTrue, false, slice_index_or}
use Rattle.std.proofs.lemmas.List.Elements.{All-append}
use Rattle.om_check.specs.declared.exploring.Delivery.{Delivery}
use Rattle.om_check.specs.declared.walk.Choice.{Choice}
use Rattle.om_check.specs.steps.Walks.{IsExcluded, KeepsOther, declining, taking}
use Rattle.om_check.proofs.Orders.{excluded_now, excluded_on}

one_all : {A : Type 0} (P : A → Type 0) (x : A) → P x → All P (x ∷ [])
one_all P x p zero d lt = p
one_all P x p (suc k) d lt = absurd (omega (arith, lt))

pub all_more : {A : Type 0} (P : A → Type 0) (xs : List A) (x : A) → All P xs → P x → All P (xs ++ x ∷ [])
all_more P xs x all one = All-append P xs (x ∷ []) all (one_all P x one)

-- the same lists by other names
pub moved_lists : (walk other : List Choice) (ex less : List Delivery) → other ≡ walk → less ≡ ex → All (IsExcluded walk) ex → All (IsExcluded other) less
moved_lists walk other ex less same few all = subst (λ ds. All (IsExcluded other) ds) (sym few) (subst (λ cs. All (IsExcluded cs) ex) (sym same) all)

-- each stays excluded where something is declined, and so is that
all_on : (walk : List Choice) (ex : List Delivery) (d : Delivery) → All (IsExcluded walk) ex → All (IsExcluded (walk ++ declining d ∷ [])) ex
all_on walk ex d all k x lt = excluded_on walk (declining d) (slice_index_or ex k x) (λ taken. absurd (not_taken taken)) (all k x lt)
  where
    not_taken : IsTrue false → ⊥
    not_taken off = cc

pub all_excluded_more : (walk : List Choice) (ex : List Delivery) (from to : ℕ) → All (IsExcluded walk) ex
    → All (IsExcluded (walk ++ declining (record { from = from; to = to }) ∷ [])) (ex ++ record { from = from; to = to } ∷ [])
all_excluded_more walk ex from to all =
    all_more (IsExcluded (walk ++ declining (record { from = from; to = to }) ∷ [])) ex (record { from = from; to = to })
    (all_on walk ex (record { from = from; to = to }) all) (excluded_now walk (record { from = from; to = to }))

-- one more that is to another than what is taken
pub all_elsewhere : (walk : List Choice) (from to : ℕ) (kept ex : List Delivery) (i : ℕ) (d : Delivery) → i < length ex → d ≡ slice_index_or ex i d → d.to ≢ to
    → All (IsExcluded walk) ex → All (IsExcluded (walk ++ taking (record { from = from; to = to }) ∷ [])) kept
    → All (IsExcluded (walk ++ taking (record { from = from; to = to }) ∷ [])) (kept ++ d ∷ [])
all_elsewhere walk from to kept ex i d lt at other all done =
    all_more (IsExcluded (walk ++ taking (record { from = from; to = to }) ∷ [])) kept d done
    (excluded_on walk (taking (record { from = from; to = to })) d (λ taken same. other (sym same)) (subst (IsExcluded walk) (sym at) (all i d lt)))

pub keeps_other : (walk : List Choice) (from to : ℕ) (kept more ex : List Delivery) (i : ℕ) (d : Delivery) → i < length ex → d ≡ slice_index_or ex i d
    → KeepsOther kept d to more → All (IsExcluded walk) ex → All (IsExcluded (walk ++ taking (record { from = from; to = to }) ∷ [])) kept
    → All (IsExcluded (walk ++ taking (record { from = from; to = to }) ∷ [])) more
keeps_other walk from to kept more ex i d lt at (inl same) all done =
    subst (All (IsExcluded (walk ++ taking (record { from = from; to = to }) ∷ []))) (sym same) done
keeps_other walk from to kept more ex i d lt at (inr other) all done =
    subst (All (IsExcluded (walk ++ taking (record { from = from; to = to }) ∷ []))) (sym other.0)
    (all_elsewhere walk from to kept ex i d lt at other.1 all done)

-- one of those that are excluded is
pub one_of : (walk : List Choice) (ex : List Delivery) (i : ℕ) (d other : Delivery) → i < length ex → All (IsExcluded walk) ex → d ≡ slice_index_or ex i d
    → d ≡ other → IsExcluded walk other
one_of walk ex i d other lt all at same = subst (IsExcluded walk) (sym at ∙ same) (all i d lt)
