use denote.Param.Send.{sendable}
use Rattle.sqlite_store.proofs.store.FileStore.TheSendSync.{the_send as store_sends}
use Rattle.om_run_request.proofs.Sending.{noted_sends}
use Rattle.om_run_request.proofs.stores.run_in_files.Goals as goal

pub run_over_tables-requires-send-C-Disk : goal.run_over_tables-requires-send-C-Disk
run_over_tables-requires-send-C-Disk g c κs within = search (store_sends, noted_sends, sendable) depth 12
