-- What a manager that goes on keeps of a world.
use Rattle.std.proofs.Common.{◌≡◌, ◌⊎◌, inl, inr, ℕ, zero, suc, ◌≤◌, ◌<◌, List, [], ◌∷◌, length, take, get_or, Some, Bool, true, false, refl, sym, ap, ◌∙◌, subst, arith}
use Rattle.std.specs.Prelude.{nat_eq, slice_get, slice_index}
use Rattle.om_interval.specs.Starts.{IsOrphan, is_named, newest_of}
use Rattle.om_format.specs.Queues.{QueueRecord}
use Rattle.om_stable.specs.Content.{Content}
use Rattle.om_process.specs.Process.{Received}
use Rattle.om_process.specs.Core.{CoreState}
use Rattle.om_process.specs.Replays.{process_of_checkpoint}
use Rattle.om_process.specs.Dependencies.{count_from}
use Rattle.om_process.specs.Claims.{AtInterval, Makes, RowOf}
use Rattle.om_recover.specs.Rows.{HasRow}
use Rattle.om_recover.specs.Recoverable.{IsStable}
use Rattle.om_recover.specs.declared.row.Row.{Row}
use Rattle.om_recover.specs.declared.row.RowKind.{RowKind}
use Rattle.om_manager.specs.Gatherings.{presence_of, presences_of}
use Rattle.om_manager.specs.Outputs.{HeldOutput}
use Rattle.om_manager.specs.State.{ManagerState, held_by, released_by}
use Rattle.om_world.specs.Live.{program_at}
use Rattle.om_world.specs.World.{WorldState, recovered, output_entry}
use Rattle.om_world.specs.steps.Past.{Past, past_of, history}
use Rattle.om_world.specs.Failures.{HasNews}
use Rattle.om_world.specs.steps.Sound.{HasBytes, HasShape, IsOld, IsRunning, IsStored, KeptWithin, Runs, Sound}
use Rattle.om_world.proofs.Kept.{remade}

pub beyond : (xs : List ℕ) (i : ℕ) → length xs ≤ i → get_or xs i 0 ≡ 0
beyond [] i le = refl
beyond (x ∷ xs) zero le = absurd (omega arith)
beyond (x ∷ xs) (suc i) le = beyond xs i (omega arith)

pub less : (x y : ℕ) → (x < y) ⊎ (y ≤ x)
less x y = grind arith

-- a stable interval has a row
stable_row : (rows : _) (p x : ℕ) → IsStable rows p x → (row : Row) × HasRow rows row × (row.pid ≡ p) × (row.interval ≡ x)
stable_row rows p x s = elim (less s.from x) [
  | inl lt ↦ let h = s.logged x lt (omega arith) in (h.row, h.there, h.pid_is, h.interval_is)
  | inr ge ↦ let h = s.checkpoint in let b = s.below in let is : s.from ≡ x = omega arith in (h.row, h.there, h.pid_is, h.interval_is ∙ is)
]

-- the manager has a row at each place of the recovery state
pub recovery_row : (w : WorldState) (p : ℕ) → HasShape w → p < length w.programs → (row : Row) × HasRow w.manager.rows row × (row.pid ≡ p) × (row.interval ≡ recovered w.manager p)
recovery_row w p h lt = let size = h.size in stable_row w.manager.rows p (recovered w.manager p) (h.manager.exact.greatest.recoverable.stable p (omega arith))

-- no place of the recovery state is beyond what its process received
pub recovery_within : (w : WorldState) → HasShape w → Sound w → (q : ℕ) → recovered w.manager q ≤ length (history (past_of w) q)
recovery_within w h s q = elim (less q (length w.programs)) [
  | inl lt ↦
      let row = recovery_row w q h lt in
      let at = (s.rows row.0 row.1).0 in
      subst (λ x. x ≤ length (history (past_of w) q)) row.3 (subst (λ o. row.0.interval ≤ length (history (past_of w) o)) row.2 at)
  | inr ge ↦ let size = h.size in let none = beyond w.manager.recovery q (omega arith) in omega arith
]

-- ---- a manager that goes on: the recovery state rises, all that was released is, and the rest of it stays
pub record GoesOn (m new : ManagerState) : Type 0 where
  pub starts : new.starts ≡ m.starts
  pub round : new.round ≡ m.round
  pub gathering : new.gathering ≡ m.gathering
  pub backs : new.backs ≡ m.backs
  pub last : new.last ≡ m.last
  pub rises : (q : ℕ) → recovered m q ≤ recovered new q
  pub released : (p : ℕ) → length (released_by m p) ≤ length (released_by new p)
  pub old : (p : ℕ) (kind : RowKind) (x : ℕ) → IsOld m p kind x → IsOld new p kind x

pub count_take : (q x y : ℕ) (h : List Received) → x ≤ y → count_from q (take x h) ≤ count_from q (take y h)
count_take q zero y h le = omega arith
count_take q (suc x) zero h le = absurd (omega arith)
count_take q (suc x) (suc y) [] le = omega arith
count_take q (suc x) (suc y) (r ∷ h) le = go (nat_eq r.from q) refl (count_take q x y h (omega arith))
  where
    go : (b : Bool) → nat_eq r.from q ≡ b → count_from q (take x h) ≤ count_from q (take y h) → count_from q (take (suc x) (r ∷ h)) ≤ count_from q (take (suc y) (r ∷ h))
    go true e le = rw e (omega arith)
    go false e le = rw e le

pub further : (a b y : ℕ) → a ≤ b → b ≤ y → a ≤ y
further a b y le lt = omega arith

abbrev with_manager : Past → ManagerState → Past
with_manager v m = record { programs = v.programs; live = v.live; manager = m }

kept_raised : (v : Past) (m : ManagerState) (p : ℕ) (qs : List QueueRecord) → GoesOn v.manager m → KeptWithin v p qs → KeptWithin (with_manager v m) p qs
kept_raised v m p qs g k q queue at =
    let old = k q queue at in (
      (λ lt. further queue.first (count_from p (take (recovered v.manager q) (history v q))) (count_from p (take (recovered m q) (history v q))) (old.0 lt) (count_take p (recovered v.manager q) (recovered m q) (history v q) (g.rises q))),
      (λ is. further queue.first (length (released_by v.manager p)) (length (released_by m p)) (old.1 is) (g.released p)),
    )

pub stored_raised : (v : Past) (m : ManagerState) (p : ℕ) (held : Content) → GoesOn v.manager m → IsStored v p held → IsStored (with_manager v m) p held
stored_raised v m p held g s = record {
  checkpoints = λ x bytes le at. let c = s.checkpoints x bytes le at in (c.0, c.1, c.2, c.3, c.4, kept_raised v m p (process_of_checkpoint c.0).queues g c.5);
  receipts = s.receipts;
}

pub running_raised : (v : Past) (m : ManagerState) (p : ℕ) (held : Content) (c : CoreState) → GoesOn v.manager m → IsRunning v p held c → IsRunning (with_manager v m) p held c
running_raised v m p held c g r = record {
  state = r.state;
  kept = kept_raised v m p c.now.queues g r.kept;
  log = r.log;
  pending = λ i row at. let old = r.pending i row at in record { row_of = old.row_of; begun = old.begun; backed = elim old.backed [ inl has ↦ inl has | inr is ↦ inr (g.old p _ row.x is) ] };
  above = r.above;
}

pub sound_manager : (w : WorldState) (m : ManagerState) → Sound w → GoesOn w.manager m
    → ((p i : ℕ) (o : HeldOutput) → slice_get (held_by m p) i ≡ Some o → AtInterval (history (past_of w) p) o.interval (Makes (program_at w.programs p) p (length w.programs) (length w.programs) i (output_entry o)))
    → ((row : Row) → HasRow m.rows row → HasRow w.manager.rows row
    ⊎ (AtInterval (history (past_of w) row.pid) row.interval (RowOf row.pid (length w.programs) row.vec row.got) × ((held : Content) → slice_get w.contents row.pid ≡ Some held → HasBytes held row.kind row.interval ⊎ IsOld w.manager row.pid row.kind row.interval)))
    → Sound (remade w w.live w.frames w.cores m w.contents w.health)
sound_manager w m s g outputs rows = record {
  legal = s.legal;
  frames = λ i f at. let old = s.frames i f at in record { from = old.from; known = subst (λ starts. f.tag.inc ≤ newest_of starts f.from) (sym g.starts) old.known; said = elim old.said [ inl cut ↦ inl (subst (λ starts. IsOrphan starts f.from f.tag.inc f.tag.interval) (sym g.starts) cut) | inr said ↦ inr said ] };
  outputs = outputs;
  rows = λ row at. elim (rows row at) [ inl old ↦ s.rows row old | inr new ↦ new.0 ];
  stored = λ p held at. stored_raised (past_of w) m p held g (s.stored p held at);
  backed = λ row held at holds. elim (elim (rows row at) as (λ _. HasBytes held row.kind row.interval ⊎ IsOld w.manager row.pid row.kind row.interval) [ inl old ↦ s.backed row held old holds | inr new ↦ new.1 held holds ]) [ inl has ↦ inl has | inr is ↦ inr (g.old row.pid row.kind row.interval is) ];
  running = λ p c held at holds runs. running_raised (past_of w) m p held c g (s.running p c held at holds (ran p runs));
  up = λ p c at place. let u = s.up p c at place in record { round = u.round ∙ sym g.round; starts = u.starts ∙ sym g.starts; inc = u.inc ∙ ap (λ starts. newest_of starts p) (sym g.starts); away = ap (λ o. presence_of (presences_of o) p) g.gathering ∙ u.away };
  joined = λ p x at. s.joined p x (ap (λ o. presence_of (presences_of o) p) (sym g.gathering) ∙ at);
  failed = λ p at. s.failed p (ap (λ o. presence_of (presences_of o) p) (sym g.gathering) ∙ at);
  gathered = λ p not. s.gathered p (λ away. not (ap (λ o. presence_of (presences_of o) p) g.gathering ∙ away)) ∙ sym g.round;
  current = λ p place. s.current p place ∙ sym g.round;
  known = λ p. subst (λ r. slice_index w.rounds p ≤ r) (sym g.round) (s.known p);
  ends = λ p declared held at old holds. s.ends p declared held at (λ news. old (subst (λ r. slice_index w.rounds p < r) (sym g.round) news)) holds;
  behind = λ p lt news. s.behind p lt (had_news p news) ∙ ap (λ l. slice_index l p) (sym g.last);
  inside = λ p c at place runs. s.inside p c at place (ran p runs) ∙ ap (λ starts. newest_of starts p) (sym g.starts);
  beyond = λ p c at place news back. subst (λ l. slice_index l p < c.now.interval) (sym g.last) (s.beyond p c at place (had_news p news) (subst (λ backs. is_named backs p ≡ true) g.backs back));
}
  where
    had_news : (p : ℕ) → slice_index w.rounds p < m.round → HasNews w p
    had_news p news = subst (λ r. slice_index w.rounds p < r) g.round news

    ran : (p : ℕ) → Runs (remade w w.live w.frames w.cores m w.contents w.health) p → Runs w p
    ran p runs = elim runs [
      | inl up ↦ inl up
      | inr joined ↦ inr (joined.0, λ news. subst (λ backs. is_named backs p ≡ false) g.backs (joined.1 (subst (λ r. slice_index w.rounds p < r) (sym g.round) news)))
    ]
