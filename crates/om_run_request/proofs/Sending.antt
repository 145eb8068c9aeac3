-- A file that notes its first error may go to another thread, as the kit's file may.
use denote.Hole.{as_row}
use denote.Param.Send.{IsSend, sendable}
use denote.Param.SendFields.{declared_send, variants_send, as_row_send}
use Rattle.std.specs.contracts.option.Option as option
use Rattle.sqlite_disk.specs.contracts.modelled.Modelled as modelled
use Rattle.sqlite_disk.specs.contracts.start.Unknown as unknown_type
use Rattle.sqlite_disk.specs.contracts.start.UnknownStart.TheImpl as unknown
use Rattle.sqlite_std_file.specs.contracts.host.Host as host_type
use Rattle.sqlite_std_file.specs.contracts.host.HostCalls.TheImpl as host
use Rattle.om_store_files.specs.contracts.noting.Note as note_type
use Rattle.om_store_files.specs.contracts.noting.NotedFile as noted
use Rattle.om_store_files.proofs.noting.Note.TheSendSync.{the_send as shared_sends}

host_sends : IsSend host_type.the_row
host_sends = search (sendable, declared_send, as_row_send) depth 12

file_sends : IsSend (modelled.the_row host_type.the_row unknown_type.the_row host.ghosts unknown.ghosts)
file_sends = search (host_sends, sendable, declared_send, as_row_send) depth 12

note_sends : IsSend (as_row (option.the_field note_type.the_row))
note_sends = search (shared_sends, sendable, variants_send, as_row_send) depth 12

pub noted_sends : IsSend noted.the_row
noted_sends = declared_send noted.the_type (file_sends, (note_sends, (search (sendable, as_row_send) depth 12, tt)))
