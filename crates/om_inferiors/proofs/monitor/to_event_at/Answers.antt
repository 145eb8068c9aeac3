use Rattle.om_inferiors.proofs.Telling.{sent_at}
use Rattle.om_inferiors.proofs.monitor.to_event_at.Goals as goal

pub returns : goal.returns
returns c =
    let e = c.go_to_event.ensures in
    sent_at c.args.event c.args.all.now c.args.place c.index-all-place.result c.go_to_event.new.self c.go_to_event.result c.requires e.same e.moved e.there
