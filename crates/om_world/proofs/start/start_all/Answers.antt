use Rattle.std.proofs.Common.{◌≡◌, ◌<◌, ◌⊎◌, inr, ◌∙◌, ◌+◌, ◌++◌, ◌∷◌, [], Err, IfErr, ap, length, length-append, map, rules, subst, sym}
use Rattle.std.proofs.lemmas.Iterator.Adapters.{YieldsList-from_vec}
use Rattle.std.proofs.lemmas.Iterator.Consumers.{YieldsList-from_enumerate, YieldsList-turn}
use Rattle.std.proofs.lemmas.Option.{slice_get_within}
use Rattle.std.specs.Iterator.Adapters.{enumerate_source}
use Rattle.om_process.specs.declared.start.StartFault.TheVariants.{Memory}
use Rattle.om_world.specs.World.{program_of}
use Rattle.om_world.specs.Started.{IsRefusedAt}
use Rattle.om_world.specs.steps.Starting.{AreSeated, IsStart}
use Rattle.om_world.proofs.Lists.{map_at}
use Rattle.om_world.proofs.Seating.{none_seated, not_seated, one_seated, turn_at}
use Rattle.om_world.proofs.start.start_all.Goals as goal

pub start_at-requires-clause-place : goal.start_at-requires-clause-place
start_at-requires-clause-place g c =
    let turn = YieldsList-turn (YieldsList-from_enumerate (YieldsList-from_vec {s = enumerate_source c.into_iter-p-iterator.result} c.args.stores.items (search rules) (search rules)) (search rules))
    c.loop-p.yielded c.loop-p.p-iterator c.loop-p.yielded_by c.next.result c.next.new.self (c.in-Some.p, c.in-Some.store) c.in-Some.is c.next.ensures.steps in
    let at = turn_at c.args.stores.items (length c.loop-p.yielded) c.in-Some.p c.in-Some.store turn in
    subst (λ n. c.in-Some.p < n) c.requires.stores (slice_get_within c.args.stores.items c.in-Some.p c.in-Some.store at.1)

pub loop-p-init : goal.loop-p-init
loop-p-init g c = subst (AreSeated g.S.Stable.content g.S.Stable.is_clean g.S.Stable.IsSound (map program_of c.args.images.now) (length c.args.images.now) 0 c.args.stores.items) (sym c.new-members.ensures.items)
    (none_seated g.S.Stable.content g.S.Stable.is_clean g.S.Stable.IsSound (map program_of c.args.images.now) (length c.args.images.now) c.args.stores.items)

pub returns-in_err-core-clause-refused : goal.returns-in_err-core-clause-refused
returns-in_err-core-clause-refused g c =
    let turn = YieldsList-turn (YieldsList-from_enumerate (YieldsList-from_vec {s = enumerate_source c.into_iter-p-iterator.result} c.args.stores.items (search rules) (search rules)) (search rules))
    c.loop-p.yielded c.loop-p.p-iterator c.loop-p.yielded_by c.next.result c.next.new.self (c.in-Some.p, c.in-Some.store) c.in-Some.is c.next.ensures.steps in
    let at = turn_at c.args.stores.items (length c.loop-p.yielded) c.in-Some.p c.in-Some.store turn in
    let s = g.S.Stable in
    let programs = map program_of c.args.images.now in
    let n = length c.args.images.now in
    let image = c.start_at.ensures.0 in
    let fault = c.in_err-core.field-0.0 in
    let was = subst (λ k. AreSeated s.content s.is_clean s.IsSound programs n k c.args.stores.items c.loop-p.members.items) (sym at.0) c.loop-p.invariant in
    let did = subst (IsStart s.content s.failed s.is_clean s.IsSound (program_of image) c.in-Some.p n c.in-Some.store c.start_at.new.store) c.in_err-core.was c.start_at.ensures.2 in
    let is : c.from_residual-in_err-core.result ≡ Err fault = search rules in
    subst (λ r. IfErr r (λ why. (why ≡ Memory) ⊎ IsRefusedAt s.content s.failed s.is_clean s.IsSound programs c.args.stores.items why)) (sym is)
    (inr (not_seated s.content s.failed s.is_clean s.IsSound programs n c.in-Some.p c.args.stores.items c.loop-p.members.items was (program_of image) (map_at program_of c.args.images.now c.in-Some.p image c.start_at.ensures.1) c.in-Some.store c.start_at.new.store at.1 fault did))

pub loop-p-preserved : goal.loop-p-preserved
loop-p-preserved g c =
    let turn = YieldsList-turn (YieldsList-from_enumerate (YieldsList-from_vec {s = enumerate_source c.into_iter-p-iterator.result} c.args.stores.items (search rules) (search rules)) (search rules))
    c.loop-p.yielded c.loop-p.p-iterator c.loop-p.yielded_by c.next.result c.next.new.self (c.in-Some.p, c.in-Some.store) c.in-Some.is c.next.ensures.steps in
    let at = turn_at c.args.stores.items (length c.loop-p.yielded) c.in-Some.p c.in-Some.store turn in
    let s = g.S.Stable in
    let programs = map program_of c.args.images.now in
    let n = length c.args.images.now in
    let image = c.start_at.ensures.0 in
    let core = c.in_ok-core.core in
    let was = subst (λ k. AreSeated s.content s.is_clean s.IsSound programs n k c.args.stores.items c.loop-p.members.items) (sym at.0) c.loop-p.invariant in
    let did = subst (IsStart s.content s.failed s.is_clean s.IsSound (program_of image) c.in-Some.p n c.in-Some.store c.start_at.new.store) c.in_ok-core.was c.start_at.ensures.2 in
    let more : c.in-Some.p + 1 ≡ length (c.loop-p.yielded ++ (c.in-Some.p, c.in-Some.store) ∷ []) = ap (λ k. k + 1) at.0 ∙ sym (length-append c.loop-p.yielded ((c.in-Some.p, c.in-Some.store) ∷ [])) in
    subst (λ k. AreSeated s.content s.is_clean s.IsSound programs n k c.args.stores.items c.push_reserved.new.self.items) more
    (subst (AreSeated s.content s.is_clean s.IsSound programs n (c.in-Some.p + 1) c.args.stores.items) (sym (c.push_reserved.ensures.items ∙ ap (λ l. l ++ c.new.result ∷ []) c.in_ok-try_reserve.ensures.items))
    (one_seated s.content s.failed s.is_clean s.IsSound programs n c.in-Some.p c.args.stores.items c.loop-p.members.items was (program_of image) (map_at program_of c.args.images.now c.in-Some.p image c.start_at.ensures.1) c.in-Some.store c.start_at.new.store at.1 core did c.new.result c.new.ensures.standing c.new.ensures.round c.new.ensures.store))
