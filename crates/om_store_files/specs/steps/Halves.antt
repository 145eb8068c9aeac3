-- What a file of a database whose log is put into its file is as a disk.
use Rattle.std.specs.Prelude.{ℕ, Bool, IsTrue, List, refl}
use Rattle.std.proofs.Common.{inl}
use Rattle.sqlite_disk.specs.declared.tally.Tally.{Tally}
use Rattle.om_store_files.specs.FileDisk.{of_file, fair_if_clean}
use Rattle.om_store_files.specs.contracts.log_copy.LogCopyDisk.TheImpl as copy
use Rattle.om_store_files.specs.declared.halves.Half.{Half}
use Rattle.om_store_files.specs.declared.halves.Half.TheVariants.{Log, File}

abbrev pub seen_of : Half → List ℕ
seen_of (Log d) = copy.ghosts.seen d
seen_of (File f) = of_file.seen f.inner

abbrev pub may_leave_of : Half → List ℕ → Type 0
may_leave_of (Log d) = copy.ghosts.may_leave d
may_leave_of (File f) = of_file.may_leave f.inner

abbrev pub is_usable_of : Half → Bool
is_usable_of (Log d) = copy.ghosts.is_usable d
is_usable_of (File f) = of_file.is_usable f.inner

abbrev pub faults_of : Half → ℕ
faults_of (Log d) = copy.ghosts.faults d
faults_of (File f) = of_file.faults f.inner

abbrev pub tally_in : Half → Tally
tally_in (Log d) = copy.ghosts.tally_of d
tally_in (File f) = of_file.tally_of f.inner

abbrev pub is_clean_of : Half → Bool
is_clean_of (Log d) = copy.ghosts.is_clean d
is_clean_of (File f) = of_file.is_clean f.inner

abbrev pub key_in : Half → ℕ
key_in (Log d) = copy.ghosts.key_of d
key_in (File f) = of_file.key_of f.inner

abbrev pub is_fair_of : Half → ℕ → Bool
is_fair_of (Log d) = copy.ghosts.is_fair d
is_fair_of (File f) = of_file.is_fair f.inner

pub fair_if_clean_of : (d : Half) (key : ℕ) → IsTrue (is_clean_of d) → IsTrue (is_fair_of d key)
fair_if_clean_of (Log d) = λ key clean. refl
fair_if_clean_of (File f) = fair_if_clean f.inner

pub seen_stays : (d : Half) → may_leave_of d (seen_of d)
seen_stays (Log d) = refl
seen_stays (File f) = inl refl
