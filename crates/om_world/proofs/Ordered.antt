-- Rows of one list of receipts are in order, so the manager refuses none.
use Rattle.std.proofs.Common.{◌≡◌, inl, inr, ℕ, zero, suc, ◌≤◌, ◌<◌, List, [], ◌∷◌, length, take, get_or, Bool, true, false, Err, refl, sym, ap, ◌∙◌, subst, arith, length-set}
use Rattle.std.specs.Prelude.{nat_eq, if◌then◌else◌}
use Rattle.std.proofs.lemmas.Bool.Decides.{nat_tests}
use Rattle.om_interval.specs.Vectors.{IsBelow}
use Rattle.om_process.specs.Process.{Received}
use Rattle.om_process.specs.Claims.{AtInterval, RowOf}
use Rattle.om_process.specs.Dependencies.{count_from, greatest_from, places, Depends, Counts}
use Rattle.om_process.proofs.Vectors.{places_at, places_set}
use Rattle.om_recover.specs.Offered.{offered}
use Rattle.om_recover.specs.Rows.{HasRow, HaveSameVectors, IsAtMost, IsFair, Rows}
use Rattle.om_recover.specs.declared.note.NoteError.{NoteError}
use Rattle.om_recover.specs.declared.note.NoteError.TheVariants.{Stranger, BadVector, Differs, Disorder, Memory}
use Rattle.om_recover.specs.declared.row.Row.{Row}
use Rattle.om_recover.specs.declared.row.RowKind.TheVariants.{Log}
use Rattle.om_manager.specs.Notes.{Notes}
use Rattle.om_manager.specs.State.{process_count}
use Rattle.om_manager.specs.declared.answers.RecordError.{RecordError}
use Rattle.om_manager.specs.declared.answers.RecordError.TheVariants.{Stale, Refused}
use Rattle.om_world.specs.World.{WorldState}
use Rattle.om_world.specs.steps.Past.{past_of, history}
use Rattle.om_world.specs.steps.Sound.{Sound, HasShape}
use Rattle.om_world.proofs.Raising.{count_take}

greatest_take : (q x y : ℕ) (h : List Received) → x ≤ y → greatest_from q (take x h) ≤ greatest_from q (take y h)
greatest_take q zero y h le = omega arith
greatest_take q (suc x) zero h le = absurd (omega arith)
greatest_take q (suc x) (suc y) [] le = omega arith
greatest_take q (suc x) (suc y) (r ∷ h) le = go (nat_eq r.from q) refl (greatest_take q x y h (omega arith))
  where
    go : (b : Bool) → nat_eq r.from q ≡ b → greatest_from q (take x h) ≤ greatest_from q (take y h) → greatest_from q (take (suc x) (r ∷ h)) ≤ greatest_from q (take (suc y) (r ∷ h))
    go true e le = rw e (omega arith)
    go false e le = rw e le

pub take_long : (x : ℕ) (h : List Received) → x ≤ length h → length (take x h) ≡ x
take_long zero h le = refl
take_long (suc x) [] le = absurd (omega arith)
take_long (suc x) (r ∷ h) le = ap suc (take_long x h (omega arith))

length-places : (n : ℕ) (f : ℕ → ℕ) → length (places n f) ≡ n
length-places zero f = refl
length-places (suc n) f = ap suc (length-places n (λ i. f (suc i)))

pub length-depends : (n own : ℕ) (h : List Received) → length (Depends n own h) ≡ n
length-depends n own h = length-set (places n (λ j. greatest_from j h)) own (length h) ∙ length-places n (λ j. greatest_from j h)

pub depends_at : (n own j : ℕ) (h : List Received) → j < n → get_or (Depends n own h) j 0 ≡ (if nat_eq j own then length h else greatest_from j h)
depends_at n own j h lt = ap (λ v. get_or v j 0) (places_set n own (length h) (λ i. greatest_from i h)) ∙ places_at n j (λ i. if nat_eq i own then length h else greatest_from i h) lt

depends_own : (n own : ℕ) (h : List Received) → own < n → get_or (Depends n own h) own 0 ≡ length h
depends_own n own h lt = depends_at n own own h lt ∙ same (nat_eq own own) (grind (arith, nat_tests)) refl
  where
    same : (b : Bool) → b ≡ true → nat_eq own own ≡ b → (if nat_eq own own then length h else greatest_from own h) ≡ length h
    same b t e = rw (e, t) refl

depends_below : (n own x y : ℕ) (h : List Received) → x ≤ y → y ≤ length h → IsBelow (Depends n own (take x h)) (Depends n own (take y h))
depends_below n own x y h le within = record {
  same_places = length-depends n own (take x h) ∙ sym (length-depends n own (take y h));
  each = λ j lt. let small : j < n = subst (λ k. j < k) (length-depends n own (take x h)) lt in at j small (nat_eq j own) refl;
}
  where
    at : (j : ℕ) → j < n → (b : Bool) → nat_eq j own ≡ b → get_or (Depends n own (take x h)) j 0 ≤ get_or (Depends n own (take y h)) j 0
    at j lt true e =
        let a : get_or (Depends n own (take x h)) j 0 ≡ length (take x h) = depends_at n own j (take x h) lt ∙ rw e refl in
        let b : get_or (Depends n own (take y h)) j 0 ≡ length (take y h) = depends_at n own j (take y h) lt ∙ rw e refl in
        let lx = take_long x h (omega arith) in let ly = take_long y h within in
        omega arith
    at j lt false e =
        let a : get_or (Depends n own (take x h)) j 0 ≡ greatest_from j (take x h) = depends_at n own j (take x h) lt ∙ rw e refl in
        let b : get_or (Depends n own (take y h)) j 0 ≡ greatest_from j (take y h) = depends_at n own j (take y h) lt ∙ rw e refl in
        let up = greatest_take j x y h le in
        omega arith

counts_below : (n x y : ℕ) (h : List Received) → x ≤ y → IsBelow (Counts n (take x h)) (Counts n (take y h))
counts_below n x y h le = record {
  same_places = length-places n (λ j. count_from j (take x h)) ∙ sym (length-places n (λ j. count_from j (take y h)));
  each = λ j lt.
      let small : j < n = subst (λ k. j < k) (length-places n (λ j. count_from j (take x h))) lt in
      let a = places_at n j (λ j. count_from j (take x h)) small in let b = places_at n j (λ j. count_from j (take y h)) small in
      let up = count_take j x y h le in
      omega arith;
}

-- rows of one list of receipts
at_most : (n own : ℕ) (h : List Received) (low high : Row) → AtInterval h low.interval (RowOf own n low.vec low.got) → AtInterval h high.interval (RowOf own n high.vec high.got) → low.interval ≤ high.interval → IsAtMost low high
at_most n own h low high a b le = record {
  vec = subst (λ v. IsBelow v high.vec) (sym a.1.0) (subst (λ v. IsBelow (Depends n own (take low.interval h)) v) (sym b.1.0) (depends_below n own low.interval high.interval h le b.0));
  got = subst (λ v. IsBelow v high.got) (sym a.1.1) (subst (λ v. IsBelow (Counts n (take low.interval h)) v) (sym b.1.1) (counts_below n low.interval high.interval h le));
}

same_rows : (n own : ℕ) (h : List Received) (one other : Row) → AtInterval h one.interval (RowOf own n one.vec one.got) → AtInterval h other.interval (RowOf own n other.vec other.got) → one.interval ≡ other.interval → HaveSameVectors one other
same_rows n own h one other a b is = record {
  vec = a.1.0 ∙ ap (λ x. Depends n own (take x h)) is ∙ sym b.1.0;
  got = a.1.1 ∙ ap (λ x. Counts n (take x h)) is ∙ sym b.1.1;
}

fair : (n own : ℕ) (h : List Received) (row : Row) → row.pid ≡ own → own < n → AtInterval h row.interval (RowOf own n row.vec row.got) → (row.kind ≡ Log → 0 < row.interval) → IsFair n row
fair n own h row is lt a begun = record {
  vec_places = ap length a.1.0 ∙ length-depends n own (take row.interval h);
  got_places = ap length a.1.1 ∙ length-places n (λ j. count_from j (take row.interval h));
  own_place = ap (λ o. get_or row.vec o 0) is ∙ ap (λ v. get_or v own 0) a.1.0 ∙ depends_own n own (take row.interval h) lt ∙ take_long row.interval h a.0;
  begun = begun;
}

-- a true row is refused for memory alone where all others of its process are true
pub offers_by : (n : ℕ) (h : List Received) (rows : Rows) (row : Row) (fault : NoteError) → row.pid < n
    → ((other : Row) → HasRow rows other → other.pid ≡ row.pid → AtInterval h other.interval (RowOf row.pid n other.vec other.got))
    → AtInterval h row.interval (RowOf row.pid n row.vec row.got) → (row.kind ≡ Log → 0 < row.interval)
    → offered n rows row (Err fault) rows → fault ≡ Memory
offers_by n h rows row fault lt claim true_row begun o = by fault o
  where
    by : (fault : NoteError) → offered n rows row (Err fault) rows → fault ≡ Memory
    by Stranger o = let ge = o.0 in absurd (omega arith)
    by BadVector o = absurd (o.1 (fair n row.pid h row refl lt true_row begun))
    by Differs o = absurd (o.5 (same_rows n row.pid h o.1 row (claim o.1 o.2 o.3) true_row o.4))
    by (Disorder y) o = let d = o.0 in elim d.breaks [
      | inl b ↦ let low = b.below in absurd (b.breaks (at_most n row.pid h d.other row (claim d.other d.there b.pid) true_row (omega arith)))
      | inr b ↦ let c = b.1 in let low = c.below in absurd (c.breaks (at_most n row.pid h row d.other true_row (claim d.other d.there (sym c.pid)) (omega arith)))
    ]
    by Memory o = refl

offers : (w : WorldState) (row : Row) (fault : NoteError) → HasShape w → Sound w → row.pid < length w.programs → AtInterval (history (past_of w) row.pid) row.interval (RowOf row.pid (length w.programs) row.vec row.got) → (row.kind ≡ Log → 0 < row.interval)
    → offered (process_count w.manager) w.manager.rows row (Err fault) w.manager.rows → fault ≡ Memory
offers w row fault h s lt true_row begun o =
    let n : ℕ = length w.programs in
    offers_by n (history (past_of w) row.pid) w.manager.rows row fault lt
    (λ other has is. subst (λ p. AtInterval (history (past_of w) p) other.interval (RowOf p n other.vec other.got)) is (s.rows other has)) true_row begun
    (subst (λ k. offered k w.manager.rows row (Err fault) w.manager.rows) h.size o)

pub notes_refused : (w : WorldState) (p round : ℕ) (row : Row) (fault : RecordError) → HasShape w → Sound w → round ≡ w.manager.round → row.pid < length w.programs → AtInterval (history (past_of w) row.pid) row.interval (RowOf row.pid (length w.programs) row.vec row.got) → (row.kind ≡ Log → 0 < row.interval)
    → Notes w.manager round row (Err fault) w.manager → fault ≡ Refused Memory
notes_refused w p round row (Stale told) h s is lt true_row begun n = absurd (n.1 is)
notes_refused w p round row (Refused fault) h s is lt true_row begun n = ap (λ f. Refused f) (offers w row fault h s lt true_row begun n.1)
