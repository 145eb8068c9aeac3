-- Which answer a message gets.
use Rattle.std.proofs.Common.{◌≡◌, ◌↔◌, ◌⊎◌, inl, inr, ◌+◌, ◌<◌, refl, ap, arith}
use Rattle.om_interval.specs.Starts.{IsOrphan}
use Rattle.om_format.specs.declared.message.Message.{Message}
use Rattle.om_process.specs.declared.limits.TheConstants.{LAST_INTERVAL}
use Rattle.om_process.specs.declared.accept.Accept.{Accept}
use Rattle.om_process.specs.declared.accept.Accept.TheVariants.{Taken, Stranger, Orphan, Repeat, Ahead, NotWaiting, Full, Memory}
use Rattle.om_process.specs.Core.{CoreState}
use Rattle.om_process.specs.Accepts.{Answers, IsDue, IsNoStranger}

-- a message that nothing speaks against is taken, unless memory runs out
pub due_is_taken : (c : CoreState) (m : Message) (a : Accept) → Answers c m a → IsDue c m → c.now.interval < LAST_INTERVAL → (a ≡ Memory) ⊎ (a ≡ Taken (c.now.interval + 1))
due_is_taken c m Stranger is due room = absurd (is due.next.no_orphan.no_stranger)
due_is_taken c m Orphan is due room = absurd (due.next.no_orphan.kept is.1)
due_is_taken c m Repeat is due room = let e = due.next.number in let l = is.1 in absurd (omega arith)
due_is_taken c m Ahead is due room = let e = due.next.number in let l = is.1 in absurd (omega arith)
due_is_taken c m NotWaiting is due room = absurd (is.1 due.waits)
due_is_taken c m Full is due room = let e = is.1 in absurd (omega arith)
due_is_taken c m (Taken x) is due room = inr (ap Taken is.2)
due_is_taken c m Memory is due room = inl refl

-- an orphan of one that is known is refused as one
pub orphan_is_refused : (c : CoreState) (m : Message) (a : Accept) → Answers c m a → IsNoStranger c m → IsOrphan c.starts m.from m.tag.inc m.tag.interval → a ≡ Orphan
orphan_is_refused c m Stranger is known orphan = absurd (is known)
orphan_is_refused c m Orphan is known orphan = refl
orphan_is_refused c m Repeat is known orphan = absurd (is.0.kept orphan)
orphan_is_refused c m Ahead is known orphan = absurd (is.0.kept orphan)
orphan_is_refused c m NotWaiting is known orphan = absurd (is.0.no_orphan.kept orphan)
orphan_is_refused c m Full is known orphan = absurd (is.0.next.no_orphan.kept orphan)
orphan_is_refused c m (Taken x) is known orphan = absurd (is.0.next.no_orphan.kept orphan)
orphan_is_refused c m Memory is known orphan = absurd (is.0.next.no_orphan.kept orphan)

-- and only an orphan is
pub orphan_is_one : (c : CoreState) (m : Message) (a : Accept) → Answers c m a → a ≡ Orphan → IsNoStranger c m × IsOrphan c.starts m.from m.tag.inc m.tag.interval
orphan_is_one c m Orphan is at = is
orphan_is_one c m Stranger is at = cc
orphan_is_one c m Repeat is at = cc
orphan_is_one c m Ahead is at = cc
orphan_is_one c m NotWaiting is at = cc
orphan_is_one c m Full is at = cc
orphan_is_one c m (Taken x) is at = cc
orphan_is_one c m Memory is at = cc

pub orphan_is_exact : (c : CoreState) (m : Message) (a : Accept) → Answers c m a → (a ≡ Orphan) ↔ (IsNoStranger c m × IsOrphan c.starts m.from m.tag.inc m.tag.interval)
orphan_is_exact c m a is = (orphan_is_one c m a is, λ both. orphan_is_refused c m a is both.0 both.1)
