-- What processes put out, output by output.
use Rattle.std.proofs.Common.{◌≡◌, ◌≢◌, ℕ, ◌<◌, ◌≤◌, ◌+◌, Bool, true, false, true≢false, None, Some, List, [], length, map, get_or, sym, ap, ◌∙◌, below_more}
use Rattle.std.specs.Prelude.{IsTrue, Vec}
use Rattle.std.specs.Option.{option_map}
use Rattle.std.specs.Str.{bytes_eq}
use Rattle.std.specs.declared.alloc.Global.{Global}
use Rattle.std.proofs.lemmas.List.{get_or-map}
use Rattle.std.proofs.lemmas.Option.{slice_get-get_or, slice_get-map, slice_get_past}
use Rattle.std.proofs.lemmas.Slice.Eq.{bytes_eq-Decides}
use Rattle.om_manager.specs.Outputs.{held_of}
use Rattle.om_manager.specs.declared.output_log.Output.{Output}
use Rattle.om_explore_command.specs.Differences.{PutOutSame, PutOutSameUpTo, bytes_in}
use Rattle.om_explore_command.specs.steps.{held}

-- an output that is there, and one that is not
pub read_some : (xs : List Output) (k : ℕ) (x : Output) → (k < length xs) × ((d : Output) → x ≡ get_or xs k d) → bytes_in (map held_of xs) k ≡ Some x.bytes
read_some xs k x at =
    ap (option_map (λ output. output.bytes)) (slice_get-map held_of xs k ∙ ap (option_map held_of) (slice_get-get_or xs k x at.0))
    ∙ ap (λ output. Some (held_of output).bytes) (sym (at.1 x))

pub read_none : (xs : List Output) (k : ℕ) → length xs ≤ k → bytes_in (map held_of xs) k ≡ None
read_none xs k past =
    ap (option_map (λ output. output.bytes)) (slice_get-map held_of xs k ∙ ap (option_map held_of) (slice_get_past xs k past))

pub same_bytes : (r : Bool) (xs ys : List ℕ) → r ≡ bytes_eq xs ys → IsTrue r → xs ≡ ys
same_bytes true xs ys is on = (bytes_eq-Decides xs ys).0 (sym is)
same_bytes false xs ys is on = absurd (true≢false (sym on))

some_same : (x y : List ℕ) → Some x ≡ Some y → x ≡ y
some_same x y is = cc

pub other_bytes : (r : Bool) (xs ys : List ℕ) → r ≡ bytes_eq xs ys → r ≡ false → Some xs ≢ Some ys
other_bytes r xs ys is off same = true≢false (sym ((bytes_eq-Decides xs ys).1 (some_same xs ys same)) ∙ sym is ∙ off)

pub some_none : (xs : List ℕ) → Some xs ≢ None
some_none xs same = cc

-- what a process put out stands at its place
held_at : (xs : List (Vec Output Global)) (p : ℕ) (x : Vec Output Global) → p < length xs → x ≡ get_or xs p x → get_or (held xs) p [] ≡ map held_of x.items
held_at xs p x low is = get_or-map (λ (outputs : Vec Output Global). map held_of outputs.items) xs p x [] low ∙ ap (λ (outputs : Vec Output Global). map held_of outputs.items) (sym is)

-- one process more puts out the same
pub one_more_same : (one other : List (Vec Output Global)) (p : ℕ) (x y : Vec Output Global) (xs ys : List Output) → p < length one → p < length other
    → x ≡ get_or one p x → y ≡ get_or other p y → xs ≡ x.items → ys ≡ y.items → PutOutSame (map held_of xs) (map held_of ys)
    → PutOutSameUpTo (held one) (held other) p → PutOutSameUpTo (held one) (held other) (p + 1)
one_more_same one other p x y xs ys low_one low_other is_x is_y read_x read_y same before =
    below_more (λ k. PutOutSame (get_or (held one) k []) (get_or (held other) k [])) p before
    (λ number.
    ap (λ outputs. bytes_in outputs number) (held_at one p x low_one is_x)
    ∙ ap (λ outputs. bytes_in (map held_of outputs) number) (sym read_x)
    ∙ same number
    ∙ ap (λ outputs. bytes_in (map held_of outputs) number) read_y
    ∙ sym (ap (λ outputs. bytes_in outputs number) (held_at other p y low_other is_y)))
