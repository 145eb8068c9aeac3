-- From what is told of a store over a connection to what is told of the bytes that it was opened from.
use Rattle.std.proofs.Common.{◌≡◌, ◌⊎◌, ℕ, List, Option, Result, Ok, Err, IfErr, IfOk, OnOk, inl, inr, length, subst, sym, arith}
use Rattle.sqlite.specs.Effect.{Database}
use Rattle.sqlite.specs.Files.{file_state}
use Rattle.sqlite.specs.Held.{Held}
use Rattle.sqlite.specs.State.{State}
use Rattle.sqlite_disk.specs.contracts.memory.MemoryDisk.TheImpl as disk
use Rattle.sqlite_disk.specs.declared.memory.Memory.{Memory}
use Rattle.sqlite_store.specs.declared.store.FileStore.{FileStore}
use Rattle.om_commands.specs.Replay.{IsNoMatterOfContent}
use Rattle.om_commands.specs.declared.error.CommandError.{CommandError}
use Rattle.om_copies.specs.Held.{IsHeldIn}
use Rattle.om_debug.specs.Stops.{DebugState}
use Rattle.om_debug_command.specs.Debug.{IsServed}
use Rattle.om_inferiors.specs.declared.shown.Shown.TheVariants.{One}
use Rattle.om_look_commands.specs.Looks.{IsErrorIn, IsSoIn}
use Rattle.om_stable.specs.Content.{Content}
use Rattle.om_tables.specs.Store.{HasFiveTables, Holds, IsFormed, content_in}
use Rattle.om_tables.specs.Tables.{store_schema}
use Rattle.om_stored_debug.specs.Shown.{IsErrorOfShownStore, IsErrorOfStore, IsShown}
use Rattle.om_stored_debug.specs.steps.Errors.{IsErrorOfServing}
use Rattle.om_stored_debug.proofs.Showing.{serving_shown, store_shown}

two_are_not_five : (found : Database) → Holds found (content_in found) → HasFiveTables found.schema → ⊥
two_are_not_five found two five =
    let counted : length store_schema.tables ≡ 5 = subst (λ s. length s.tables ≡ 5) two.schema five.count in absurd (omega (arith, counted))

-- of a store of five tables nothing is said
of_five : (file log : List ℕ) (found : Database) (IsSo : Content → Type 0) → IsHeldIn file log found → HasFiveTables found.schema → IsSoIn file log IsSo
of_five file log found IsSo held five = (found, held, λ two. absurd (two_are_not_five found two five))

of_two : (file log : List ℕ) (s : State) (IsSo : Content → Type 0) → IsHeldIn file log s.now → s.now ≡ s.committed
    → (IsFormed s → IsSo (content_in s.now)) → IsSoIn file log IsSo
of_two file log s IsSo held settled so = (s.now, held, λ two. so (record { holds = two; settled = settled }))

pub shown_of_five : {A : Type 0} (file log : List ℕ) (found : Database) (r : Result A CommandError) (IsSo : A → Content → Type 0)
    → IsHeldIn file log found → HasFiveTables found.schema → IfOk r (λ x. IsSoIn file log (IsSo x))
shown_of_five file log found (Ok x) IsSo held five = of_five file log found (IsSo x) held five
shown_of_five file log found (Err e) IsSo held five = tt

pub shown_of_two : {A : Type 0} (file log : List ℕ) (s : State) (r : Result A CommandError) (IsSo : A → Content → Type 0)
    → IsHeldIn file log s.now → s.now ≡ s.committed → IfOk r (λ x. IsFormed s → IsSo x (content_in s.now)) → IfOk r (λ x. IsSoIn file log (IsSo x))
shown_of_two file log s (Ok x) IsSo held settled so = of_two file log s (IsSo x) held settled so
shown_of_two file log s (Err e) IsSo held settled so = tt

pub error_of_five : {A : Type 0} (file log : List ℕ) (found : Database) (r : Result A CommandError) (IsErrorOf : Content → CommandError → Type 0)
    → IsHeldIn file log found → HasFiveTables found.schema → IfErr r (IsErrorIn file log IsErrorOf)
error_of_five file log found (Ok x) IsErrorOf held five = tt
error_of_five file log found (Err e) IsErrorOf held five = inr (of_five file log found (λ c. IsErrorOf c e) held five)

pub error_of_two : {A : Type 0} (file log : List ℕ) (s : State) (r : Result A CommandError) (IsErrorOf : Content → CommandError → Type 0)
    → IsHeldIn file log s.now → s.now ≡ s.committed
    → IfErr r (λ e. IsNoMatterOfContent e ⊎ (IsFormed s → IsErrorOf (content_in s.now) e)) → IfErr r (IsErrorIn file log IsErrorOf)
error_of_two file log s (Ok x) IsErrorOf held settled told = tt
error_of_two file log s (Err e) IsErrorOf held settled told = elim told [
  | inl known ↦ inl known
  | inr so ↦ inr (of_two file log s (λ c. IsErrorOf c e) held settled so)
]

-- one connection is the other
pub held_along : (file log : List ℕ) (a b : Held (FileStore Memory disk.ghosts)) → b ≡ a → IsHeldIn file log (file_state a).now → IsHeldIn file log (file_state b).now
held_along file log a b same h = subst (λ k. IsHeldIn file log (file_state k).now) (sym same) h

pub settled_along : (a b : Held (FileStore Memory disk.ghosts)) → b ≡ a → (file_state a).now ≡ (file_state a).committed → (file_state b).now ≡ (file_state b).committed
settled_along a b same h = subst (λ k. (file_state k).now ≡ (file_state k).committed) (sym same) h

-- what is so of a store that fits is so of what is made of it
pub made_if : {A : Type 0} (r : Result A CommandError) (IsFit : Type 0) (IsSo : A → Type 0) → (IsFit → IfOk r IsSo) → IfOk r (λ x. IsFit → IsSo x)
made_if (Ok x) IsFit IsSo so = so
made_if (Err e) IsFit IsSo so = tt

pub refused_if : {A : Type 0} (r : Result A CommandError) (IsFit : Type 0) (IsErrorOf : CommandError → Type 0) → (IsFit → IfErr r IsErrorOf)
    → IfErr r (λ e. IsNoMatterOfContent e ⊎ (IsFit → IsErrorOf e))
refused_if (Ok x) IsFit IsErrorOf so = tt
refused_if (Err e) IsFit IsErrorOf so = inr so

-- a connection that no longer answers refuses, whatever was told over it
pub refused_known : {X : Type 0} (r : Result X CommandError) (told : Result (Unit {0}) CommandError) (e : CommandError) (IsFit IsSure : Type 0) (IsErrorOf : CommandError → Type 0)
    → r ≡ Err e → told ≡ Ok tt → IsNoMatterOfContent e ⊎ ((told ≡ Err e) × IsSure) → IfErr r (λ x. IsNoMatterOfContent x ⊎ (IsFit → IsErrorOf x))
refused_known {X} r told e IsFit IsSure IsErrorOf is done (inl known) =
    let P : Result X CommandError → Type 0 = λ s. IfErr s (λ x. IsNoMatterOfContent x ⊎ (IsFit → IsErrorOf x)) in subst P (sym is) (inl known)
refused_known r told e IsFit IsSure IsErrorOf is done (inr both) =
    let fails : told ≡ Err e = both.0 in
    let none : ⊥ = cc in absurd none

-- ---- what is served of what is shown
pub served_in : {A : Type 0} (r : Result A CommandError) (file log : List ℕ) (interval : Option ℕ) (d : DebugState) (had left before after : Option (List ℕ))
    → IsSoIn file log (λ held. IsShown held interval d) → OnOk r (IsServed (One d) had left before after)
    → OnOk r (IsSoIn file log (λ held. (e : DebugState) × IsShown held interval e × IsServed (One e) had left before after))
served_in (Ok x) file log interval d had left before after shown served = (shown.0, shown.1, λ two. (d, shown.2 two, served))
served_in (Err e) file log interval d had left before after shown served = tt

pub serving_in : (file log : List ℕ) (interval : Option ℕ) (d : DebugState) (error : CommandError) → IsSoIn file log (λ held. IsShown held interval d) → IsErrorOfServing error
    → IsErrorIn file log (λ held. IsErrorOfShownStore held interval) error
serving_in file log interval d error shown why = inr (shown.0, shown.1, λ two. serving_shown (content_in shown.0) interval error why)

pub refused_in : (file log : List ℕ) (interval : Option ℕ) (error : CommandError) → IsErrorIn file log (λ held. IsErrorOfStore held interval) error
    → IsErrorIn file log (λ held. IsErrorOfShownStore held interval) error
refused_in file log interval error (inl known) = inl known
refused_in file log interval error (inr so) = inr (so.0, so.1, λ two. store_shown (content_in so.0) interval error (so.2 two))
