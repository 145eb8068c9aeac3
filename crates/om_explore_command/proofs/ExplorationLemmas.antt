-- What is known of explorations.
use Rattle.std.proofs.Common.{◌≡◌, ℕ, zero, suc, ◌<◌, Bool, List, [], ◌∷◌, length, get_or, map, refl, sym, ap, subst, ◌∙◌, arith}
use Rattle.std.specs.Prelude.{All, IsTrue, Some, Vec, slice_get, sum_by}
use Rattle.std.specs.declared.alloc.Global.{Global}
use Rattle.std.specs.List.{AllZip, IsAmong}
use Rattle.om_process.specs.declared.status.Status.{Status}
use Rattle.om_process.specs.declared.status.Status.TheVariants.{Waiting}
use Rattle.om_manager.specs.Outputs.{HeldOutput}
use Rattle.om_process.specs.Core.{IsEnd}
use Rattle.om_process.specs.Process.{Program}
use Rattle.om_scripts.specs.Programs.{Cluster, program_at, programs_of}
use Rattle.om_world.specs.declared.entry.Entry.{Entry}
use Rattle.om_check.specs.FailureFree.{IsRunBy, IsStuckBy}
use Rattle.om_check.specs.Orders.{HasAll, IsSameRun}
use Rattle.om_check.proofs.AtRest.{stuck_over}
use Rattle.om_check.proofs.Ending.{below}
use Rattle.om_check.proofs.OneRun.{one_rest_of, stuck_rests, there}
use Rattle.om_commands.specs.declared.bytes_text.BytesForm.TheVariants.{Hex}
use Rattle.om_run_commands.specs.Check.{IsTextIn}
use Rattle.om_run_commands.specs.RunText.{run_text}
use Rattle.om_explore_command.specs.Explorations.{HasAllTexts, IsExploration}
use Rattle.om_explore_command.specs.Outcomes.{IsTextOf}
use Rattle.om_explore_command.specs.Tallies.{IsTally, text_of}
use Rattle.om_explore_command.specs.declared.tally.Found.{Found}

-- what stands beside one of a list
beside : {A B : Type 0} (R : A → B → Type 0) (xs : List A) (ys : List B) (i : ℕ) (x : A) → AllZip R xs ys → i < length xs → x ≡ get_or xs i x
    → (y : B) × IsAmong ys y × R x y
beside R [] ys i x all low is = absurd (omega arith)
beside R (a ∷ xs) [] i x all low is = absurd all
beside R (a ∷ xs) (b ∷ ys) zero x all low is = (b, (0, (omega arith, refl)), subst (λ c. R c b) (sym is) all.0)
beside R (a ∷ xs) (b ∷ ys) (suc i) x all low is =
    let rest = beside R xs ys i x all.1 (omega arith) is in
    (rest.0, (suc rest.1.0, (omega (arith, rest.1.1.0), rest.1.1.1)), rest.2)

-- the texts of two runs that are the same
same_text : (cluster : Cluster) (live other : List Entry) (text told : List ℕ) → IsTextOf cluster live text → IsTextOf cluster other told
    → IsSameRun live other → text ≡ told
same_text cluster live other text told a b one =
    let same = one_rest_of (programs_of cluster) live other a.outputs b.outputs a.statuses b.statuses
    (stuck_rests (programs_of cluster) live a.outputs a.statuses a.run) (stuck_rests (programs_of cluster) other b.outputs b.statuses b.run) one in
    a.written
    ∙ ap (λ os. run_text cluster os a.statuses) same.0
    ∙ ap (λ ss. run_text cluster b.outputs ss) same.1
    ∙ sym b.written

-- where all runs were gone through, each text is told
pub all_texts : (cluster : Cluster) (found : List Found) (runs : List (List Entry)) → IsTally cluster found runs → HasAll (programs_of cluster) runs
    → HasAllTexts cluster found
all_texts cluster found runs tally all live text is =
    let one = all live (stuck_over (programs_of cluster) live is.outputs is.statuses is.run) in
    let at = one.1 in
    let told = beside (IsTextOf cluster) runs tally.texts at.0 one.0 tally.each at.1.0 at.1.1 in
    let among : IsAmong (map text_of found) (get_or tally.texts told.1.0 told.0) = tally.tells.told told.1.0 told.0 told.1.1.0 in
    subst (IsAmong (map text_of found))
    (sym told.1.1.1 ∙ sym (same_text cluster live one.0 text told.0 is told.2 one.2))
    among

-- a run in which each process has ended is one in which nothing is left to happen
stuck_of : (programs : List Program) (live : List Entry) (outputs : List (List HeldOutput)) (statuses : List Status)
    → IsRunBy programs live outputs statuses → IsStuckBy programs live outputs statuses
stuck_of programs live outputs statuses run = record { rest = run.rest; waits = λ p at. absurd (run.ended p Waiting at) }

-- its text as it is written of a run is the text of the exploration
pub text_of_run : (cluster : Cluster) (live : List Entry) (text : List ℕ) → IsTextIn Hex cluster live text → IsTextOf cluster live text
text_of_run cluster live text by = record {
  outputs = by.outputs;
  statuses = by.statuses;
  run = stuck_of (programs_of cluster) live by.outputs by.statuses by.run;
  written = by.written;
}

-- no run comes to nothing
pub no_tally : (cluster : Cluster) (found : List Found) → found ≡ [] → IsTally cluster found []
no_tally cluster found none = subst (λ other. IsTally cluster other []) (sym none)
    (record {
      texts = [];
      each = tt;
      tells = record {
        once = λ i j d less low. absurd (omega arith);
        counted = λ k d low. absurd (omega arith);
        told = λ k d low. absurd (omega arith);
      };
      outcomes = λ k d low. absurd (omega arith);
      total = refl;
    })

-- what was gathered is an exploration
pub exploration_of : (cluster : Cluster) (programs : List Program) (found : Vec Found Global) (total : ℕ) (is_all : Bool)
    → (runs : List (List Entry)) × IsTally cluster found.items runs × (IsTrue is_all → HasAll programs runs) → programs_of cluster ≡ programs
    → sum_by (λ f. f.runs) found.items ≡ total → IsExploration cluster (record { found = found; runs = total; is_all = is_all })
exploration_of cluster programs found total is_all gathered same sum = record {
  runs = gathered.0;
  tally = gathered.1;
  number = sym sum ∙ gathered.1.total;
  all = λ is. all_texts cluster found.items gathered.0 gathered.1 (subst (λ ps. HasAll ps gathered.0) (sym same) (gathered.2 is));
}
