-- A database over files in memory is clean, as memory gives back what it was given; so what an open says of it holds.
use Rattle.std.proofs.Common.{◌≡◌, ℕ, List, Result, Ok, Err, OnOk, true, refl, ap, sym, subst, ◌∙◌}
use Rattle.sqlite.specs.Held.{Held}
use Rattle.sqlite.specs.Files.{AreFoundIn, Finds, HoldsDatabase, IsOpened, file_state}
use Rattle.sqlite.specs.State.{HasCleanDisk}
use Rattle.sqlite_disk.specs.Memory.{memory_bytes}
use Rattle.sqlite_disk.specs.contracts.memory.MemoryDisk.TheImpl as disk
use Rattle.sqlite_disk.specs.declared.Files.{Files}
use Rattle.sqlite_disk.specs.declared.memory.Memory.{Memory}
use Rattle.sqlite_pool.specs.Pool.{state}
use Rattle.sqlite_store.specs.declared.store.FileStore.{FileStore}
use Rattle.sqlite_store.specs.FileStore.{view}
use Rattle.sqlite_trees.proofs.Doubt.{no_doubt}
use Rattle.om_copies.specs.Held.{IsHeldIn, image_of}

clean_in_memory : (it : FileStore Memory disk.ghosts) → (view it).is_clean ≡ true
unfolding state
clean_in_memory it = refl

pub memory_is_clean : (c : Held (FileStore Memory disk.ghosts)) → HasCleanDisk (file_state c)
memory_is_clean c = no_doubt (view c.store).is_clean (clean_in_memory c.store)

image_along : (P : List ℕ → List ℕ → Type 0) (a b file log : List ℕ) → a ≡ file → b ≡ log → P a b → P file log
image_along P a b file log ea eb h = subst (λ l. P file l) eb (subst (λ f. P f b) ea h)

pub held_in_bytes : (file log : List ℕ) (files : Files Memory) (c : Held (FileStore Memory disk.ghosts))
    → memory_bytes files.db ≡ file → memory_bytes files.log ≡ log
    → IsOpened c → Finds files c → IsHeldIn file log (file_state c).now
held_in_bytes file log files c is_file is_log opened found =
    let same : (file_state c).now.trees ≡ (file_state c).committed.trees = ap (λ d. d.trees) opened.0.clean in
    record {
      reads = image_along (λ f l. AreFoundIn (image_of f l) (file_state c).now.trees) (memory_bytes files.db) (memory_bytes files.log) file log is_file is_log
          (subst (λ t. AreFoundIn (image_of (memory_bytes files.db) (memory_bytes files.log)) t) (sym same) found.reads);
      holds = λ trees is_one. same ∙ found.holds trees
          (image_along (λ f l. HoldsDatabase (image_of f l) trees) file log (memory_bytes files.db) (memory_bytes files.log) (sym is_file) (sym is_log) is_one);
      sound = (opened.1 opened.0.is_open).0;
    }

pub on_ok : {T E P : Type 0} (r : Result T E) → P → OnOk r P
on_ok (Ok x) h = h
on_ok (Err e) h = tt
