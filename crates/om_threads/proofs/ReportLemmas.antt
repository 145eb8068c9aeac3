-- What a report is made of.
use Rattle.std.proofs.Common.{◌≡◌, inl, inr, ℕ, zero, suc, ◌+◌, ◌<◌, ◌≤◌, List, [], ◌∷◌, ◌++◌, Some, sym, ap, ◌∙◌, subst, arith, get_or, length, map, IsTrue, Bool}
use Rattle.std.specs.Prelude.{All, Vec, slice_get, Ok, Err, Option, None, Result, IfOk}
use Rattle.std.specs.declared.alloc.Global.{Global}
use Rattle.std.proofs.lemmas.List.{length-map}
use Rattle.std.proofs.lemmas.Option.{get_or_from_slice_get, same_Some, slice_get-get_or, slice_get_cases, slice_get_within}
use Rattle.om_process.specs.Images.{program_of}
use Rattle.om_process.specs.declared.image.Image.{Image}
use Rattle.om_process.specs.declared.status.Status.{Status}
use Rattle.om_board.proofs.ListLemmas.{map_get, map_had, more_had, none_in}
use Rattle.om_manager.specs.declared.output_log.Output.{Output}
use Rattle.om_process.specs.Process.{Program}
use Rattle.om_report.specs.Released.{AreAllMade, AreAllReleased}
use Rattle.om_report.specs.Reports.{AreWhole, IsToldReport, IsWholeReport, LeaveNoneOut}
use Rattle.om_threads.specs.Reports.{AreWholeOver}
use Rattle.om_node.specs.Ends.{IsWholeRun}
use Rattle.om_node.specs.Nodes.{AreAlwaysClean}
use Rattle.om_board.specs.Boards.{IsBoard}
use Rattle.om_board.specs.Fronts.{front_of}
use Rattle.om_board.specs.declared.front.Front.{Front}
use Rattle.om_report.specs.Locks.{UnderLock}
use Rattle.om_process.specs.Core.{IsEnd}
use Rattle.om_board.specs.Inboxes.{Traffic, Takings}
use Rattle.om_cluster.specs.declared.finished.Finished.{Finished}
use Rattle.om_links.specs.declared.network.Ends.{Ends}
use Rattle.om_threads.specs.declared.results.Parts.{Parts}
use Rattle.om_threads.specs.steps.Ends.{AreEndsOf, AreParts}
use Rattle.om_cluster.specs.Ends.{IsEndOf}
use Rattle.om_report.specs.Harvests.{AreOwn, HarvestState, harvested}
use Rattle.om_following.specs.Following.{AreAllCopied, AreTold, IsTold, copied_of, fresh_of}
use Rattle.om_report.specs.Telling.{AreToldWithin, Told, of_process}
use Rattle.om_following.specs.declared.followed_outputs.FollowedOutputs.{FollowedOutputs}
use Rattle.om_following.specs.declared.follower.FollowFault.{FollowFault}
use Rattle.om_report.specs.declared.report.FollowedReport.{FollowedReport}
use Rattle.om_following.proofs.FollowLemmas.{none_of, told_to_end, told_within}
use Rattle.om_links.specs.Network.{ArePuts, AreTakes, IsNetwork, Lines}
use Rattle.om_threads.specs.steps.Settling.{ArePasses}
use Rattle.om_links.specs.Wiring.{HasEnds, IsWired}

-- ---- lists
pub any_default : {A : Type 0} (xs : List A) (i : ℕ) (d e : A) → i < length xs → get_or xs i d ≡ get_or xs i e
any_default xs i d e lt = same_Some (get_or xs i d) (get_or xs i e) (sym (slice_get-get_or xs i d lt) ∙ slice_get-get_or xs i e lt)

pub next_of : {A : Type 0} (x : A) (xs : List A) (k : ℕ) (d : A) → get_or (x ∷ xs) (k + 1) d ≡ get_or xs k d
next_of x xs k d = let next : k + 1 ≡ suc k = omega arith in ap (λ i. get_or (x ∷ xs) i d) next

-- what holds of each element, and of one more
pub each_more : {A : Type 0} (P : ℕ → A → Type 0) (xs ys : List A) (y : A) → ys ≡ xs ++ y ∷ [] → ((i : ℕ) (x : A) → i < length xs → P i (get_or xs i x)) → P (length xs) y
    → (k : ℕ) (h : A) → k < length ys → P k (get_or ys k h)
each_more P xs ys y are each last k h lt = elim (more_had xs k y (get_or ys k h) (subst (λ l. slice_get l k ≡ Some (get_or ys k h)) are (slice_get-get_or ys k h lt))) [
  | inl here ↦ subst (P k) (sym here.1) (subst (λ i. P i y) (sym here.0) last)
  | inr there ↦ subst (P k) (get_or_from_slice_get xs k (get_or ys k h) h there) (each k h (slice_get_within xs k (get_or ys k h) there))
]

-- ---- ends
-- where all ended well, each ended so
pub ended_so : {K S E : Type 0} (is_clean : S → Bool) (images : List Image) (lines : Lines) (n : ℕ) (results : List (Result (Finished K S) E)) (fs : List (Finished K S))
    → length images ≡ n → map Ok fs ≡ results → length results ≡ n
    → AreEndsOf is_clean images lines n results
    → (p : ℕ) (f : Finished K S) → slice_get fs p ≡ Some f → (image : Image) × (slice_get images p ≡ Some image) × IsEndOf is_clean (program_of image) lines p n f
ended_so is_clean images lines n results fs many all long each p f at =
    let lt : p < n = subst (λ k. p < k) (sym (length-map fs Ok) ∙ ap length all ∙ long) (slice_get_within fs p f at) in
    let there : get_or results p (Ok f) ≡ Ok f = get_or_from_slice_get results p (Ok f) (Ok f) (subst (λ l. slice_get l p ≡ Some (Ok f)) all (map_get Ok fs p f at)) in
    elim (slice_get_cases images p).1 [
      | inl image ↦
          let is : IsEndOf is_clean (program_of (get_or images p image.0)) lines p n f =
          subst (λ (r : Result (Finished _ _) _). IfOk r (IsEndOf is_clean (program_of (get_or images p image.0)) lines p n)) there (each p image.0 (Ok f) lt)
          in
          (image.0, image.2, subst (λ i. IsEndOf is_clean (program_of i) lines p n f) image.3 is)
      | inr past ↦ let l = past.0 in absurd (omega arith)
    ]

-- a part of each is as many
pub as_many : {K S E A : Type 0} (f : Finished K S → A) (parts : List A) (n : ℕ) (results : List (Result (Finished K S) E)) (fs : List (Finished K S))
    → map Ok fs ≡ results → length results ≡ n → parts ≡ map f fs → length parts ≡ n
as_many f parts n results fs all long are = ap length are ∙ length-map fs f ∙ sym (length-map fs Ok) ∙ ap length all ∙ long

-- where these are their statuses, outputs and stores, the outputs are all that was made
pub all_whole : {K S E : Type 0} (is_clean : S → Bool) (images : List Image) (lines : Lines) (n : ℕ) (results : List (Result (Finished K S) E)) (fs : List (Finished K S))
    (statuses : List Status) (harvests : List HarvestState) (stores : List S)
    → length images ≡ n → map Ok fs ≡ results → length results ≡ n
    → AreEndsOf is_clean images lines n results
    → statuses ≡ map (λ f. f.status) fs → harvests ≡ map (λ f. f.harvest) fs → stores ≡ map (λ f. f.store) fs
    → AreWholeOver is_clean images statuses (harvested harvests) stores
all_whole {K = K} {S = S} is_clean images lines n results fs statuses harvests stores many all long each statuses_are harvests_are stores_are
    p image status outputs store at_image at_status at_outputs at_store clean =
    let found = map_had (λ f. f.status) fs p status (subst (λ l. slice_get l p ≡ Some status) statuses_are at_status) in
    let kept = map_had (λ f. f.store) fs p store (subst (λ l. slice_get l p ≡ Some store) stores_are at_store) in
    let brought = map_had (λ (h : HarvestState). h.outputs) harvests p outputs at_outputs in
    let of = map_had (λ f. f.harvest) fs p brought.0 (subst (λ l. slice_get l p ≡ Some brought.0) harvests_are brought.1) in
    let same : found.0 ≡ kept.0 = same_Some found.0 kept.0 (sym found.1 ∙ kept.1) in
    let same_too : found.0 ≡ of.0 = same_Some found.0 of.0 (sym found.1 ∙ of.1) in
    let end = ended_so is_clean images lines n results fs many all long each p found.0 found.1 in
    let mine : IsTrue (is_clean found.0.store) = subst (λ s. IsTrue (is_clean s)) (sym (ap (λ (f : Finished K S). f.store) same ∙ kept.2)) clean in
    let own : found.0.harvest.outputs ≡ outputs =
    ap (λ (f : Finished K S). f.harvest.outputs) same_too ∙ ap (λ (h : HarvestState). h.outputs) of.2 ∙ brought.2 in
    let run : IsWholeRun (program_of image) p n found.0.status (length found.0.harvest.outputs.items) =
    subst (λ i. IsWholeRun (program_of i) p n found.0.status (length found.0.harvest.outputs.items)) (same_Some end.0 image (sym end.1 ∙ at_image)) (end.2.whole mine) in
    subst (λ (v : Vec Output Global). IsWholeRun (program_of image) p (length images) status (length v.items)) own
    (subst (λ s. IsWholeRun (program_of image) p (length images) s (length found.0.harvest.outputs.items)) found.2
    (subst (λ k. IsWholeRun (program_of image) p k found.0.status (length found.0.harvest.outputs.items)) (sym many) run))

-- each is of the process at its place
pub all_own : {K S E : Type 0} (is_clean : S → Bool) (images : List Image) (lines : Lines) (n : ℕ) (results : List (Result (Finished K S) E)) (fs : List (Finished K S))
    (harvests : List HarvestState)
    → length images ≡ n → map Ok fs ≡ results → length results ≡ n
    → AreEndsOf is_clean images lines n results
    → harvests ≡ map (λ f. f.harvest) fs
    → AreOwn harvests
all_own is_clean images lines n results fs harvests many all long each harvests_are p h at =
    let of = map_had (λ f. f.harvest) fs p h (subst (λ l. slice_get l p ≡ Some h) harvests_are at) in
    let end = ended_so is_clean images lines n results fs many all long each p of.0 of.1 in
    subst (λ (x : HarvestState). x.own ≡ p) of.2 end.2.own_is

-- and each is an end
pub all_ended : {K S E : Type 0} (is_clean : S → Bool) (images : List Image) (lines : Lines) (n : ℕ) (results : List (Result (Finished K S) E)) (fs : List (Finished K S)) (statuses : List Status)
    → length images ≡ n → map Ok fs ≡ results → length results ≡ n
    → AreEndsOf is_clean images lines n results
    → statuses ≡ map (λ f. f.status) fs
    → (p : ℕ) (status : Status) → slice_get statuses p ≡ Some status → IsEnd status
all_ended is_clean images lines n results fs statuses many all long each statuses_are p status at_status =
    let found = map_had (λ f. f.status) fs p status (subst (λ l. slice_get l p ≡ Some status) statuses_are at_status) in
    let end = ended_so is_clean images lines n results fs many all long each p found.0 found.1 in
    subst IsEnd found.2 end.2.ended

-- and these are the passes of all
pub all_leaves : {K S E : Type 0} (is_clean : S → Bool) (images : List Image) (lines : Lines) (n : ℕ) (results : List (Result (Finished K S) E)) (fs : List (Finished K S))
    (puts : List (Vec Traffic Global)) (takes : List (Vec Takings Global))
    → IsNetwork n lines → length images ≡ n → map Ok fs ≡ results → length results ≡ n
    → AreEndsOf is_clean images lines n results
    → puts ≡ map (λ f. f.ends.puts) fs → takes ≡ map (λ f. f.ends.takes) fs
    → ArePasses n lines puts takes
all_leaves {K = K} {S = S} is_clean images lines n results fs puts takes network many all long each puts_are takes_are = record {
  network = network;
  senders = ap length puts_are ∙ length-map fs (λ (f : Finished K S). f.ends.puts) ∙ count;
  receivers = ap length takes_are ∙ length-map fs (λ (f : Finished K S). f.ends.takes) ∙ count;
  put = λ from row at. let own = put_by from row at in ap (λ (v : Vec Traffic Global). length v.items) (sym own.1) ∙ own.2.put;
  take = λ to row at. let own = taken_by to row at in ap (λ (v : Vec Takings Global). length v.items) (sym own.1) ∙ own.2.take;
  putting = λ from row at. let own = put_by from row at in subst (λ (v : Vec Traffic Global). ArePuts lines from v.items) own.1 own.2.putting;
  taking = λ to row at. let own = taken_by to row at in subst (λ (v : Vec Takings Global). AreTakes lines to v.items) own.1 own.2.taking;
}
  where
    count : length fs ≡ n
    count = sym (length-map fs Ok) ∙ ap length all ∙ long

    has : (p : ℕ) (f : Finished K S) → slice_get fs p ≡ Some f → HasEnds n lines p f.ends
    has p f at = let end = ended_so is_clean images lines n results fs many all long each p f at in end.2.ends

    put_by : (from : ℕ) (row : Vec Traffic Global) → slice_get puts from ≡ Some row → (e : Ends) × (e.puts ≡ row) × HasEnds n lines from e
    put_by from row at =
        let found = map_had (λ (f : Finished K S). f.ends.puts) fs from row (subst (λ l. slice_get l from ≡ Some row) puts_are at) in
        (found.0.ends, found.2, has from found.0 found.1)

    taken_by : (to : ℕ) (row : Vec Takings Global) → slice_get takes to ≡ Some row → (e : Ends) × (e.takes ≡ row) × HasEnds n lines to e
    taken_by to row at =
        let found = map_had (λ (f : Finished K S). f.ends.takes) fs to row (subst (λ l. slice_get l to ≡ Some row) takes_are at) in
        (found.0.ends, found.2, has to found.0 found.1)

-- ---- the ends of inboxes
pub ends_at : (n : ℕ) (lines : Lines) (ends : List Ends) → IsWired n lines ends → (k : ℕ) (e : Ends) → k < length ends → HasEnds n lines k (get_or ends k e)
ends_at n lines ends is k e lt = is.have k (get_or ends k e) (slice_get-get_or ends k e lt)

-- ---- reports
as_programs : (programs : List Program) (images : List Image) → programs ≡ map program_of images → length images ≡ length programs
as_programs programs images same = sym (length-map images program_of) ∙ ap length (sym same)

-- where every store is clean, the outputs of all are as many as were made
whole_always : {S : Type 0} (is_clean : S → Bool) (programs : List Program) (images : List Image) (statuses : List Status) (released : List (Vec Output Global))
    (stores : List S) → programs ≡ map program_of images → length stores ≡ length images → AreWholeOver is_clean images statuses released stores
    → AreAlwaysClean is_clean → AreWhole programs statuses released
whole_always is_clean programs images statuses released stores same many whole always p program status outputs at_program at_status at_outputs =
    let image = map_had program_of images p program (subst (λ l. slice_get l p ≡ Some program) same at_program) in
    elim (slice_get_cases stores p).1 [
      | inl store ↦
          subst (λ n. IsWholeRun program p n status (length outputs.items)) (as_programs programs images same)
          (subst (λ q. IsWholeRun q p (length images) status (length outputs.items)) image.2
          (whole p image.0 status outputs store.0 image.1 at_status at_outputs store.2 (always store.0)))
      | inr past ↦ let l = past.0 in let lt = slice_get_within images p image.0 image.1 in absurd (omega arith)
    ]

-- where they are as many, none is left out
none_left_out : (programs : List Program) (statuses : List Status) (released : List (Vec Output Global)) → AreWhole programs statuses released → LeaveNoneOut programs statuses released
none_left_out programs statuses released whole p program status outputs at_program at_status at_outputs =
    (length outputs.items, whole p program status outputs at_program at_status at_outputs, omega arith)

-- what all workers brought back, where each had ended well, with the front that was read then
pub whole_report : {S : Type 0} (is_clean : S → Bool) (over_clean : Type 0) (programs : List Program) (n : ℕ) (images : List Image)
    (released : Vec (Vec Output Global) Global) (statuses : Vec Status Global) (front : Front) (stores : List S)
    → programs ≡ map program_of images → length images ≡ n → (over_clean → AreAlwaysClean is_clean)
    → AreAllReleased front.vec released.items → (over_clean → AreAllMade programs n released.items)
    → UnderLock n (λ before after. (front ≡ front_of before.manager) × (after ≡ before))
    → length released.items ≡ length images → length statuses.items ≡ length images → All IsEnd statuses.items → length stores ≡ length images
    → AreWholeOver is_clean images statuses.items released.items stores
    → IsWholeReport over_clean programs (record { released = released; statuses = statuses; front = front })
whole_report is_clean over_clean programs n images released statuses front stores same many clean are_released made under processes number ended long whole =
    let as_many : length images ≡ length programs = as_programs programs images same in
    let n_is : n ≡ length programs = sym many ∙ as_many in
    let all : over_clean → AreWhole programs statuses.items released.items =
    λ over. whole_always is_clean programs images statuses.items released.items stores same long whole (clean over) in
    record {
      is_report = record {
        processes = processes ∙ as_many;
        statuses = number ∙ as_many;
        ended = ended;
        released = are_released;
        made = λ over. subst (λ k. AreAllMade programs k released.items) n_is (made over);
        all = λ over. none_left_out programs statuses.items released.items (all over);
      };
      whole = all;
      last = (under.0, subst (λ m. IsBoard m under.0) n_is under.2, under.3.0);
    }

-- an element of a list stands there too where more comes behind it
had_before : {A : Type 0} (xs ys : List A) (i : ℕ) (x : A) → slice_get xs i ≡ Some x → slice_get (xs ++ ys) i ≡ Some x
had_before [] ys i x at = absurd (none_in i x at)
had_before (y ∷ xs) ys zero x at = at
had_before (y ∷ xs) ys (suc i) x at = had_before xs ys i x at

-- what a follower was told, to its end, is no less than all workers brought back
pub told_report : {F K S : Type 0} (Tells : F → F → List Told → Type 0) (is_clean : S → Bool) (over_clean : Type 0) (programs : List Program) (n : ℕ) (images : List Image) (lines : Lines)
    (parts : Parts K S) (harvests : Vec HarvestState Global) (statuses : Vec Status Global) (start : F) (lanes : List FollowedOutputs) (now : F) (front : Front)
    → programs ≡ map program_of images → length images ≡ n → (over_clean → AreAlwaysClean is_clean)
    → AreParts is_clean images lines parts → harvests ≡ parts.harvests → statuses ≡ parts.statuses
    → AreTold lanes → AreAllCopied (harvested harvests.items) lanes → length lanes ≡ n
    → IsTold Tells over_clean programs n front.vec start lanes now
    → (told : List Told) × Tells start now told × IsToldReport over_clean programs statuses.items front told
told_report Tells is_clean over_clean programs n images lines parts harvests statuses start lanes now front same many clean are same_harvests same_statuses ends all long is = (
  is.told,
  is.tells,
  record {
    processes = ap (λ (v : Vec Status Global). length v.items) same_statuses ∙ are.statuses ∙ as_many;
    ended = subst (λ (v : Vec Status Global). All IsEnd v.items) (sym same_statuses) are.ended;
    in_order = λ p i t at. is.in_order p i t (had_before (of_process p is.told) (fresh_of p (slice_get lanes p)) i t at);
    made = λ over. subst (λ k. AreToldWithin programs k front.vec is.told) n_is (told_within Tells over_clean programs n front.vec start lanes now is over);
    all = λ over p program status at_program at_status.
        let inside = slice_get_within programs p program at_program in
        let there : slice_get parts.statuses.items p ≡ Some status = subst (λ (v : Vec Status Global). slice_get v.items p ≡ Some status) same_statuses at_status in
        elim (slice_get_cases few p).1 [
          | inl low ↦ elim (slice_get_cases lanes p).1 [
            | inl lane ↦
                let copied : length (of_process p is.told) ≡ lane.0.copied = told_to_end Tells over_clean programs n front.vec start lanes now is ends p ∙ ap copied_of lane.2 in
                let less : length low.0.items ≤ lane.0.copied = all_few p low.0 lane.0 low.2 lane.2 in (
                  length low.0.items,
                  whole_always is_clean programs images parts.statuses.items few parts.stores.items same are.stores are.whole (clean over) p program status low.0 at_program there low.2,
                  subst (λ k. length low.0.items ≤ k) (sym copied) less,
                )
            | inr past ↦ let l = past.0 in absurd (omega (arith, n_is))
          ]
          | inr past ↦ let l = past.0 in absurd (omega (arith, of_few))
        ];
    others = λ p past. none_of (of_process p is.told) (told_to_end Tells over_clean programs n front.vec start lanes now is ends p ∙ zero_past p past);
  },
)
  where
    few : List (Vec Output Global)
    few = harvested parts.harvests.items

    as_many : length images ≡ length programs
    as_many = as_programs programs images same

    n_is : n ≡ length programs
    n_is = sym many ∙ as_many

    of_few : length few ≡ length programs
    of_few = length-map parts.harvests.items (λ (h : HarvestState). h.outputs) ∙ are.harvests ∙ as_many

    all_few : AreAllCopied few lanes
    all_few = subst (λ (v : Vec HarvestState Global). AreAllCopied (harvested v.items) lanes) same_harvests all

    zero_past : (p : ℕ) → length programs ≤ p → copied_of (slice_get lanes p) ≡ 0
    zero_past p past = elim (slice_get_cases lanes p).1 [
      | inl lane ↦ let lt = lane.1 in absurd (omega (arith, n_is))
      | inr none ↦ ap copied_of none.1
    ]

-- where there is no cause that the run comes to no end, its report is of what was told
pub of_report : {F E : Type 0} (Tells : F → F → List Told → Type 0) (over_clean : Type 0) (programs : List Program) (r : Result FollowedReport E) (statuses : Vec Status Global) (front : Front)
    (start : F) (fault : Option FollowFault) (now last : F)
    → IfOk r (λ report. report.statuses ≡ statuses) → IfOk r (λ report. report.front ≡ front) → IfOk r (λ report. fault ≡ None) → last ≡ now
    → (fault ≡ None → (told : List Told) × Tells start now told × IsToldReport over_clean programs statuses.items front told)
    → IfOk r (λ report. (told : List Told) × Tells start last told × IsToldReport over_clean programs report.statuses.items report.front told)
of_report Tells over_clean programs (Ok report) statuses front start fault now last same_statuses same_front none same told =
    let is = told none in (
      is.0,
      subst (λ f. Tells start f is.0) (sym same) is.1,
      subst (λ (f : Front). IsToldReport over_clean programs report.statuses.items f is.0) (sym same_front)
          (subst (λ (v : Vec Status Global). IsToldReport over_clean programs v.items front is.0) (sym same_statuses) is.2),
    )
of_report Tells over_clean programs (Err e) statuses front start fault now last same_statuses same_front none same told = tt
