-- A refused call of the manager leaves it as it was, and its board too.
use Rattle.std.proofs.Common.{◌≡◌, ℕ, List, ap, arith}
use Rattle.std.specs.Prelude.{Err, Ok, OnErr, Result}
use Rattle.om_recover.specs.declared.note.Note.{Note}
use Rattle.om_recover.specs.declared.row.Row.{Row}
use Rattle.om_manager.specs.Notes.{Notes, NotesOutput}
use Rattle.om_manager.specs.steps.Offers.{Offer}
use Rattle.om_manager.specs.Rounds.{Failing, Joining}
use Rattle.om_manager.specs.State.{ManagerState}
use Rattle.om_manager.specs.declared.answers.RecordError.{RecordError}
use Rattle.om_manager.specs.declared.answers.RecordError.TheVariants as note
use Rattle.om_manager.specs.declared.answers.OutputNote.{OutputNote}
use Rattle.om_manager.specs.declared.answers.OutputError.{OutputError}
use Rattle.om_manager.specs.declared.answers.OutputError.TheVariants as output
use Rattle.om_manager.specs.declared.answers.FailError.{FailError}
use Rattle.om_manager.specs.declared.answers.FailError.TheVariants as failing
use Rattle.om_manager.specs.declared.answers.JoinError.{JoinError}
use Rattle.om_manager.specs.declared.answers.JoinError.TheVariants as joining
use Rattle.om_board.specs.Boards.{BoardState}
use Rattle.om_board.specs.Fronts.{EndsWith, Follows, front_of}
use Rattle.om_board.specs.declared.front.Front.{Front}
use Rattle.om_board.proofs.FrontLemmas.{one_last}

pub refused_note : (old new : ManagerState) (round : ℕ) (row : Row) (error : RecordError) → Notes old round row (Err error) new → new ≡ old
refused_note old new round row (note.Stale told) is = is.3
refused_note old new round row (note.Refused fault) is = is.2

refused_offer : (old new : ManagerState) (offer : Offer) (error : OutputError) → NotesOutput old offer.pid offer.round offer.seq offer.output (Err error) new → new ≡ old
refused_offer old new offer output.Stranger is = is.1
refused_offer old new offer (output.Stale told) is = is.3
refused_offer old new offer output.Differs is = is.2
refused_offer old new offer (output.Gap next) is = is.3
refused_offer old new offer output.Memory is = is.1

pub refused_output : (result : Result OutputNote OutputError) (old new : ManagerState) (offer : Offer) → NotesOutput old offer.pid offer.round offer.seq offer.output result new → OnErr result (new ≡ old)
refused_output (Ok told) old new offer is = tt
refused_output (Err error) old new offer is = refused_offer old new offer error is

pub refused_fail : (old new : ManagerState) (p round : ℕ) (error : FailError) → Failing old p round (Err error) new → new ≡ old
refused_fail old new p round failing.Stranger is = is.1
refused_fail old new p round (failing.Stale told) is = is.3
refused_fail old new p round failing.Spent is = is.2
refused_fail old new p round failing.Memory is = is.4

pub refused_join : (old new : ManagerState) (p round current : ℕ) (error : JoinError) → Joining old p round current (Err error) new → new ≡ old
refused_join old new p round current joining.Stranger is = is.1
refused_join old new p round current (joining.Stale told) is = is.3
refused_join old new p round current joining.NoRound is = is.2
refused_join old new p round current joining.Joined is = is.3
refused_join old new p round current joining.Memory is = is.2

-- a front that is there already adds none
unmoved : (posted new : List Front) (old m : ManagerState) → EndsWith posted (front_of old) → m ≡ old → Follows posted (front_of m) new → new ≡ posted
unmoved posted new old m ends same (Follows.again e is) = is
unmoved posted new old m ends same (Follows.above last e rises is) =
    let version = ap (λ (f : Front). f.version) (one_last posted last (front_of old) e ends) in
    absurd (omega (arith, rises.version, version, ap (λ (s : ManagerState). s.version) same))

pub refused_row : (result : Result Note RecordError) (old new : BoardState) (round : ℕ) (row : Row) → Notes old.manager round row result new.manager
    → EndsWith old.posted (front_of old.manager) → Follows old.posted (front_of new.manager) new.posted → new.quiet ≡ old.quiet → new.waiting ≡ old.waiting → OnErr result (new ≡ old)
refused_row (Ok told) old new round row is ends follows quiet waiting = tt
refused_row (Err error) old new round row is ends follows quiet waiting =
    let same = refused_note old.manager new.manager round row error is in
    let posted = unmoved old.posted new.posted old.manager new.manager ends same follows in
    λ i. record { manager = same i; posted = posted i; quiet = quiet i; waiting = waiting i }
