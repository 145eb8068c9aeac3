-- What a file of the system is known to be as a disk.
use Rattle.std.specs.Prelude.{ℕ, IsTrue}
use Rattle.sqlite_disk.specs.Fair.{fair_if_honest}
use Rattle.sqlite_disk.specs.Modelled.{start_of}
use Rattle.sqlite_disk.specs.declared.Disk.{Ghosts}
use Rattle.sqlite_disk.specs.declared.modelled.Modelled.{Modelled}
use Rattle.sqlite_disk.specs.declared.start.Unknown.{Unknown}
use Rattle.sqlite_disk.specs.contracts.modelled.ModelledDisk.TheImpl as modelled
use Rattle.sqlite_disk.specs.contracts.start.Unknown as unknown_type
use Rattle.sqlite_disk.specs.contracts.start.UnknownStart.TheImpl as unknown
use Rattle.sqlite_std_file.specs.declared.host.Host.{Host}
use Rattle.sqlite_std_file.specs.contracts.host.Host as host_type
use Rattle.sqlite_std_file.specs.contracts.host.HostCalls.TheImpl as host

abbrev pub of_file : Ghosts (Modelled Host Unknown host.ghosts unknown.ghosts)
of_file = modelled.ghosts host_type.the_row unknown_type.the_row host.ghosts host.dict unknown.ghosts unknown.dict unknown.dict

-- one of which no wrong answer was taken as true is fair under each key
pub fair_if_clean : (f : Modelled Host Unknown host.ghosts unknown.ghosts) (key : ℕ) → IsTrue (of_file.is_clean f) → IsTrue (of_file.is_fair f key)
fair_if_clean f = fair_if_honest (start_of unknown.ghosts f) f.calls.log.events
