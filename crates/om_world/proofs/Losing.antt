-- Nothing is lost that the stores could serve.
use Rattle.std.proofs.Common.{◌≡◌, ◌≢◌, ℕ, ◌<◌, ◌≤◌, List, length, take, get_or, Bool, true, false, refl, sym, ap, ◌∙◌, subst, arith}
use Rattle.std.specs.Prelude.{nat_eq, slice_index}
use Rattle.std.proofs.lemmas.Bool.Decides.{nat_tests}
use Rattle.std.proofs.lemmas.List.{length-take-le}
use Rattle.om_interval.specs.Vectors.{IsBelow}
use Rattle.om_member.specs.Told.{row_for}
use Rattle.om_process.specs.Dependencies.{Depends, greatest_from}
use Rattle.om_process.specs.Process.{Program, Received}
use Rattle.om_process.specs.declared.limits.TheConstants.{LAST_INTERVAL}
use Rattle.om_recover.specs.Recoverable.{IsGreatest, IsStable}
use Rattle.om_recover.specs.Rows.{Has, HasRow, Rows}
use Rattle.om_recover.specs.declared.row.Row.{Row}
use Rattle.om_recover.specs.declared.row.RowKind.TheVariants.{Checkpoint, Log}
use Rattle.om_stable.specs.Content.{Content}
use Rattle.om_world.specs.Live.{received}
use Rattle.om_world.specs.declared.entry.Entry.{Entry}
use Rattle.om_world.proofs.Ordered.{depends_at, length-depends}
use Rattle.om_world.specs.Disk.{AreTrue, CanServe, DependsWithin}
use Rattle.om_take_up.specs.StoreRows.{HasRowsOf}
use Rattle.om_world.proofs.Serving.{IsAmong, rows_serve}
use Rattle.om_world.proofs.TrueRows.{rows_are_true}

pub has_checkpoint : (n : ℕ) (held : ℕ → Content) (rows : Rows) (p x : ℕ) (has : HasRowsOf n held rows) → p < n → IsAmong true x (has.told p) → Has rows Checkpoint p x
has_checkpoint n held rows p x has lt a =
    let row : Row = row_for p a.1 in
    let shape : row_for p a.1 ≡ record { kind = Checkpoint; pid = p; interval = a.1.x; vec = a.1.vec; got = a.1.got } = rw a.3 refl in
    record {
      row = row;
      there = has.all p a.0 a.1 lt a.2;
      kind_is = ap (λ (r : Row). r.kind) shape;
      pid_is = ap (λ (r : Row). r.pid) shape;
      interval_is = ap (λ (r : Row). r.interval) shape ∙ a.4;
    }

has_log : (n : ℕ) (held : ℕ → Content) (rows : Rows) (p x : ℕ) (has : HasRowsOf n held rows) → p < n → IsAmong false x (has.told p) → Has rows Log p x
has_log n held rows p x has lt a =
    let row : Row = row_for p a.1 in
    let shape : row_for p a.1 ≡ record { kind = Log; pid = p; interval = a.1.x; vec = a.1.vec; got = a.1.got } = rw a.3 refl in
    record {
      row = row;
      there = has.all p a.0 a.1 lt a.2;
      kind_is = ap (λ (r : Row). r.kind) shape;
      pid_is = ap (λ (r : Row). r.pid) shape;
      interval_is = ap (λ (r : Row). r.interval) shape ∙ a.4;
    }

served_stable : (n : ℕ) (held : ℕ → Content) (rows : Rows) (p x : ℕ) → HasRowsOf n held rows → p < n → x ≤ LAST_INTERVAL → CanServe (held p) x → IsStable rows p x
served_stable n held rows p x has lt le can =
    let s = rows_serve p n (held p) (has.told p) x le can (has.of_store p lt) in
    record {
      from = s.0;
      checkpoint = has_checkpoint n held rows p s.0 has lt s.2;
      below = s.1;
      logged = λ y low high. has_log n held rows p y has lt (s.3 y low high);
    }

pub not_lost : (programs : List Program) (live : List Entry) (held : ℕ → Content) (rows : Rows) (old state : List ℕ)
    → AreTrue programs live held → HasRowsOf (length programs) held rows → IsGreatest (length programs) rows state
    → length old ≡ length programs → ((p : ℕ) → p < length programs → slice_index old p ≤ LAST_INTERVAL)
    → ((p : ℕ) → p < length programs → CanServe (held p) (slice_index old p)) → DependsWithin live (slice_index old) → IsBelow old state
not_lost programs live held rows old state disk has greatest size last can within = greatest.above_all old (record {
  places = size;
  stable = λ p lt. served_stable n held rows p (slice_index old p) has lt (last p lt) (can p lt);
  closed = closed;
})
  where
    n : ℕ
    n = length programs

    closed : (row : Row) → HasRow rows row → row.interval ≡ slice_index old row.pid → IsBelow row.vec old
    closed row there at =
        let p : ℕ = row.pid in
        let x : ℕ = slice_index old p in
        let h : List Received = received p live in
        let claim = rows_are_true programs live held rows row disk has there in
        let vec : row.vec ≡ Depends n p (take x h) = claim.1.0 ∙ ap (λ k. Depends n p (take k h)) at in
        let long : length row.vec ≡ n = ap length vec ∙ length-depends n p (take x h) in
        let many : length (take x h) ≡ x = length-take-le x h (omega arith) in
        record {
          same_places = long ∙ sym size;
          each = λ q lt. place row x vec many refl q (subst (λ m. q < m) long lt) (nat_eq q p) refl;
        }
      where
        place : (row : Row) (x : ℕ) → row.vec ≡ Depends n row.pid (take x (received row.pid live)) → length (take x (received row.pid live)) ≡ x → x ≡ slice_index old row.pid
            → (q : ℕ) → q < n → (b : Bool) → nat_eq q row.pid ≡ b → slice_index row.vec q ≤ slice_index old q
        place row x vec many is q lt true same =
            let here : q ≡ row.pid = grind (arith, nat_tests) in
            let at : slice_index row.vec q ≡ x = ap (λ v. get_or v q 0) vec ∙ depends_at n row.pid q (take x (received row.pid live)) lt ∙ rw same many in
            let there : slice_index old q ≡ slice_index old row.pid = ap (slice_index old) here in
            omega arith
        place row x vec many is q lt false same =
            let other : q ≢ row.pid = grind (arith, nat_tests) in
            let at : slice_index row.vec q ≡ greatest_from q (take x (received row.pid live)) = ap (λ v. get_or v q 0) vec ∙ depends_at n row.pid q (take x (received row.pid live)) lt ∙ rw same refl in
            let le : greatest_from q (take x (received row.pid live)) ≤ slice_index old q = subst (λ k. greatest_from q (take k (received row.pid live)) ≤ slice_index old q) (sym is) (within row.pid q other) in
            omega arith
