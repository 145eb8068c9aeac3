-- From what is told over a connection to what is told of the bytes that it was opened from.
use Rattle.std.proofs.Common.{◌≡◌, ◌⊎◌, ◌++◌, ◌∙◌, ℕ, List, [], Result, Ok, Err, IfErr, IfOk, OnOk, IsTrue, Some, true, refl, inl, inr, length, ap, subst, sym, arith}
use Rattle.std.specs.Io.KnownBytes.{Appends}
use Rattle.sqlite.specs.Files.{file_state}
use Rattle.sqlite.specs.Held.{Held}
use Rattle.sqlite.specs.State.{HasCleanDisk}
use Rattle.sqlite_disk.specs.contracts.memory.MemoryDisk.TheImpl as disk
use Rattle.sqlite_disk.specs.declared.memory.Memory.{Memory}
use Rattle.sqlite_store.specs.declared.store.FileStore.{FileStore}
use Rattle.sqlite_trees.proofs.Doubt as doubt
use Rattle.om_copies.proofs.CleanLemmas.{memory_is_clean}
use Rattle.sqlite.specs.Effect.{Database}
use Rattle.sqlite.specs.State.{State}
use Rattle.om_stable.specs.Content.{Content}
use Rattle.om_copies.specs.Held.{IsHeldIn}
use Rattle.om_tables.specs.Store.{HasFiveTables, Holds, IsFormed, content_in, is_sure}
use Rattle.om_tables.specs.Tables.{store_schema}
use Rattle.om_commands.specs.Replay.{IsNoMatterOfContent}
use Rattle.om_commands.specs.declared.error.CommandError.{CommandError}
use Rattle.om_look_commands.specs.Looks.{IsErrorIn, IsSoIn}

two_are_not_five : (found : Database) → Holds found (content_in found) → HasFiveTables found.schema → ⊥
two_are_not_five found two five =
    let counted : length store_schema.tables ≡ 5 = subst (λ s. length s.tables ≡ 5) two.schema five.count in absurd (omega (arith, counted))

-- of a store of five tables nothing is to be shown
pub of_five : (file log : List ℕ) (found : Database) (IsSo : Content → Type 0) → IsHeldIn file log found → HasFiveTables found.schema → IsSoIn file log IsSo
of_five file log found IsSo held five = (found, held, λ two. absurd (two_are_not_five found two five))

pub of_two : (file log : List ℕ) (s : State) (IsSo : Content → Type 0) → IsHeldIn file log s.now → s.now ≡ s.committed
    → (IsFormed s → IsSo (content_in s.now)) → IsSoIn file log IsSo
of_two file log s IsSo held settled so = (s.now, held, λ two. so (record { holds = two; settled = settled }))

pub text_of_five : {A : Type 0} (file log : List ℕ) (found : Database) (r : Result A CommandError) (IsSo : A → Content → Type 0)
    → IsHeldIn file log found → HasFiveTables found.schema → IfOk r (λ x. IsSoIn file log (IsSo x))
text_of_five file log found (Ok x) IsSo held five = of_five file log found (IsSo x) held five
text_of_five file log found (Err e) IsSo held five = tt

pub text_of_two : {A : Type 0} (file log : List ℕ) (s : State) (r : Result A CommandError) (IsSo : A → Content → Type 0)
    → IsHeldIn file log s.now → s.now ≡ s.committed → IfOk r (λ x. IsFormed s → IsSo x (content_in s.now)) → IfOk r (λ x. IsSoIn file log (IsSo x))
text_of_two file log s (Ok x) IsSo held settled so = of_two file log s (IsSo x) held settled so
text_of_two file log s (Err e) IsSo held settled so = tt

pub error_of_five : {A : Type 0} (file log : List ℕ) (found : Database) (r : Result A CommandError) (IsErrorOf : Content → CommandError → Type 0)
    → IsHeldIn file log found → HasFiveTables found.schema → IfErr r (IsErrorIn file log IsErrorOf)
error_of_five file log found (Ok x) IsErrorOf held five = tt
error_of_five file log found (Err e) IsErrorOf held five = inr (of_five file log found (λ c. IsErrorOf c e) held five)

pub error_of_two : {A : Type 0} (file log : List ℕ) (s : State) (r : Result A CommandError) (IsErrorOf : Content → CommandError → Type 0)
    → IsHeldIn file log s.now → s.now ≡ s.committed
    → IfErr r (λ e. IsNoMatterOfContent e ⊎ (IsFormed s → IsErrorOf (content_in s.now) e)) → IfErr r (IsErrorIn file log IsErrorOf)
error_of_two file log s (Ok x) IsErrorOf held settled told = tt
error_of_two file log s (Err e) IsErrorOf held settled told = elim told [
  | inl known ↦ inl known
  | inr so ↦ inr (of_two file log s (λ c. IsErrorOf c e) held settled so)
]

-- ---- a connection into memory
sure_of : (s : State) → HasCleanDisk s → IsTrue s.is_open → IsTrue (is_sure s)
sure_of s clean here = let one : s.is_clean ≡ true = doubt.clean_of s.is_clean clean in rw (one, here) refl

pub memory_is_sure : (c : Held (FileStore Memory disk.ghosts)) → IsTrue (file_state c).is_open → IsTrue (is_sure (file_state c))
memory_is_sure c here = sure_of (file_state c) (memory_is_clean c) here

pub sure_if_answered : {A E B F : Type 0} (answered : Result A E) (r : Result B F) (c : Held (FileStore Memory disk.ghosts)) (x : A) → answered ≡ Ok x
    → OnOk answered (IsTrue (file_state c).is_open) → OnOk r (IsTrue (is_sure (file_state c)))
sure_if_answered {A} {E} answered (Ok y) c x is here =
    let P : Result A E → Type 0 = λ a. OnOk a (IsTrue (file_state c).is_open) in memory_is_sure c (subst P is here)
sure_if_answered answered (Err e) c x is here = tt

pub with_sure : {A B : Type 0} (r : Result A CommandError) (told : Result B CommandError) (IsSure : Type 0) → IsSure
    → IfErr r (λ e. IsNoMatterOfContent e ⊎ (told ≡ Err e)) → IfErr r (λ e. IsNoMatterOfContent e ⊎ ((told ≡ Err e) × IsSure))
with_sure (Ok x) told IsSure sure h = tt
with_sure (Err e) told IsSure sure h = elim h [ inl known ↦ inl known | inr is ↦ inr (is, sure) ]

pub text_in : {X E : Type 0} (told : Result X E) (x : X) (a b : List ℕ) (IsText : List ℕ → Type 0) → told ≡ Ok x → a ≡ []
    → OnOk told ((text : List ℕ) × IsText text × Appends (Some a) (Some b) text) → IsText b
text_in {X} {E} told x a b IsText is none h =
    let P : Result X E → Type 0 = λ r. OnOk r ((text : List ℕ) × IsText text × Appends (Some a) (Some b) text) in
    let t = subst P is h in
    let whole : b ≡ t.0 = t.2 ∙ ap (λ l. l ++ t.0) none in
    subst IsText (sym whole) t.1

pub error_in : {X Y : Type 0} (r : Result Y CommandError) (told : Result X CommandError) (e : CommandError) (IsFit IsSure : Type 0) (IsErrorOf : CommandError → Type 0)
    → r ≡ Err e → IsNoMatterOfContent e ⊎ ((told ≡ Err e) × IsSure) → (IsSure → IsFit → IfErr told IsErrorOf)
    → IfErr r (λ x. IsNoMatterOfContent x ⊎ (IsFit → IsErrorOf x))
error_in {X} {Y} r told e IsFit IsSure IsErrorOf is (inl known) law =
    let P : Result Y CommandError → Type 0 = λ s. IfErr s (λ x. IsNoMatterOfContent x ⊎ (IsFit → IsErrorOf x)) in subst P (sym is) (inl known)
error_in {X} {Y} r told e IsFit IsSure IsErrorOf is (inr both) law =
    let P : Result Y CommandError → Type 0 = λ s. IfErr s (λ x. IsNoMatterOfContent x ⊎ (IsFit → IsErrorOf x)) in
    let Q : Result X CommandError → Type 0 = λ s. IfErr s IsErrorOf in
    subst P (sym is) (inr (λ fit. subst Q both.0 (law both.1 fit)))

pub held_along : (file log : List ℕ) (a b : Held (FileStore Memory disk.ghosts)) → b ≡ a → IsHeldIn file log (file_state a).now → IsHeldIn file log (file_state b).now
held_along file log a b same h = subst (λ k. IsHeldIn file log (file_state k).now) (sym same) h

pub settled_along : (a b : Held (FileStore Memory disk.ghosts)) → b ≡ a → (file_state a).now ≡ (file_state a).committed → (file_state b).now ≡ (file_state b).committed
settled_along a b same h = subst (λ k. (file_state k).now ≡ (file_state k).committed) (sym same) h

-- the records and the bodies behind them are one text
pub as_one_text : {X E : Type 0} (told : Result X E) (IsRecords AreTheBodies : List ℕ → Type 0) (a b : List ℕ)
    → OnOk told ((records : List ℕ) × (bodies : List ℕ) × IsRecords records × AreTheBodies bodies × Appends (Some a) (Some b) (records ++ bodies))
    → OnOk told ((text : List ℕ) × ((records : List ℕ) × (bodies : List ℕ) × IsRecords records × AreTheBodies bodies × (text ≡ records ++ bodies))
    × Appends (Some a) (Some b) text)
as_one_text (Ok x) IsRecords AreTheBodies a b h = (h.0 ++ h.1, (h.0, h.1, h.2, h.3, refl), h.4)
as_one_text (Err e) IsRecords AreTheBodies a b h = tt
