use Rattle.std.proofs.Common.{◌≡◌, ◌∙◌, ◌<◌, ◌≤◌, ap, arith, Bool, true, false, length, map, refl, slice_get, subst, sym, Some}
use Rattle.om_interval.specs.Starts.{is_named}
use Rattle.om_world.specs.declared.process_state.ProcessState.TheVariants as places
use Rattle.om_world.specs.Failures.{HasNews, down}
use Rattle.om_world.specs.World.{WorldState, IsKnown, program_of}
use Rattle.om_world.specs.steps.Returning.{IsBeyond, IsDue}
use Rattle.om_world.specs.steps.Members.{place_in}
use Rattle.om_world.proofs.Lists.{length-map}
use Rattle.om_world.proofs.Resuming.{due_in, no_news, world_beyond}
use Rattle.om_world.proofs.Standing.{few, known, size_seen}
use Rattle.om_manager.specs.State.{process_count}
use Rattle.om_world.proofs.world.World.comes_back.Goals as goal

not_both : (b : Bool) → b ≡ false → b ≡ true → ⊥
not_both b is not = cc

pub returns-in-Up-clause-refused : goal.returns-in-Up-clause-refused
returns-in-Up-clause-refused g c = λ known.
    let s = c.self.inside in
    let lt : c.args.p < length (map program_of s.images.items) = let long = length-map program_of s.images.items in omega (arith, c.if-p-len.false, c.len.ensures) in
    let at : slice_get (map place_in s.members.items) c.args.p ≡ Some places.Up = subst (λ (w : WorldState). slice_get w.places c.args.p ≡ Some c.place.result) (sym c.self.view_is) c.place.ensures ∙ ap Some c.in-Up.is in
    let news = subst (λ (w : WorldState). HasNews w c.args.p) (sym c.self.view_is) (c.has_news.ensures.0 c.if-not-has_news.false) in (
      subst (λ (w : WorldState). c.args.p < length w.programs) c.self.view_is lt,
      λ _. no_news _ _ _ c.args.p c.self.invariant at news (subst IsKnown (sym c.self.view_is) known),
      refl,
    )

pub returns-in-In-clause-due : goal.returns-in-In-clause-due
returns-in-In-clause-due g c =
    let s = c.self.inside in
    let lt : c.args.p < length (map program_of s.images.items) = let long = length-map program_of s.images.items in omega (arith, c.if-p-len.false, c.len.ensures) in
    let at : slice_get (map place_in s.members.items) c.args.p ≡ Some places.In = subst (λ (w : WorldState). slice_get w.places c.args.p ≡ Some c.place.result) (sym c.self.view_is) c.place.ensures ∙ ap Some c.in-In.is in
    let news = subst (λ (w : WorldState). HasNews w c.args.p) (sym c.self.view_is) (c.has_news.ensures.0 c.if-not-has_news.false) in
    subst (λ (w : WorldState). IsDue w c.args.p c.verdict.result.back) c.self.view_is (due_in _ c.args.p c.verdict.result.back at news (c.verdict.ensures.back ∙ ap (is_named s.manager.backs) c.at.ensures))

pub returns-in-In-clause-beyond : goal.returns-in-In-clause-beyond
returns-in-In-clause-beyond g c =
    let s = c.self.inside in
    let lt : c.args.p < length (map program_of s.images.items) = let long = length-map program_of s.images.items in omega (arith, c.if-p-len.false, c.len.ensures) in
    subst (λ (w : WorldState). IsKnown w → IsBeyond w c.args.p) c.self.view_is (world_beyond _ _ _ c.args.p c.self.invariant lt)

pub returns-in-Down-clause-due : goal.returns-in-Down-clause-due
returns-in-Down-clause-due g c =
    let s = c.self.inside in
    let lt : c.args.p < length (map program_of s.images.items) = let long = length-map program_of s.images.items in omega (arith, c.if-p-len.false, c.len.ensures) in
    let at : slice_get (map place_in s.members.items) c.args.p ≡ Some (places.Down c.in-Down.declared) = subst (λ (w : WorldState). slice_get w.places c.args.p ≡ Some c.place.result) (sym c.self.view_is) c.place.ensures ∙ ap Some c.in-Down.is in
    down c.in-Down.declared (subst (λ (w : WorldState). slice_get w.places c.args.p ≡ Some (places.Down c.in-Down.declared)) c.self.view_is at) (c.has_news.ensures.0 c.if-not-has_news.false)

pub returns-in-Down-clause-beyond : goal.returns-in-Down-clause-beyond
returns-in-Down-clause-beyond g c =
    let s = c.self.inside in
    let lt : c.args.p < length (map program_of s.images.items) = let long = length-map program_of s.images.items in omega (arith, c.if-p-len.false, c.len.ensures) in
    subst (λ (w : WorldState). IsKnown w → IsBeyond w c.args.p) c.self.view_is (world_beyond _ _ _ c.args.p c.self.invariant lt)

pub returns-then-p-len-clause-refused : goal.returns-then-p-len-clause-refused
returns-then-p-len-clause-refused g c = λ known. (subst (λ n. n ≤ c.args.p) (size_seen _ _ _ _ c.self.view_is refl (c.len.ensures ∙ c.self.inside.images.ok.0)) c.if-p-len.true, refl)

pub has_news-requires : goal.has_news-requires
has_news-requires g c = subst (λ n. c.args.p < n) (size_seen _ _ _ _ c.self.view_is refl (c.len.ensures ∙ c.self.inside.images.ok.0)) c.if-p-len.false

pub returns-then-not-has_news-clause-refused : goal.returns-then-not-has_news-clause-refused
returns-then-not-has_news-clause-refused g c = λ known. (subst (λ n. c.args.p < n) (size_seen _ _ _ _ c.self.view_is refl (c.len.ensures ∙ c.self.inside.images.ok.0)) c.if-p-len.false, λ news. not_both c.has_news.result c.if-not-has_news.true (c.has_news.ensures.1 news), refl)

pub place-requires : goal.place-requires
place-requires g c = subst (λ n. c.args.p < n) (size_seen _ _ _ _ c.self.view_is refl (c.len.ensures ∙ c.self.inside.images.ok.0)) c.if-p-len.false

pub at-requires : goal.at-requires
at-requires g c = few _ _ _ _ c.args.p c.self.invariant c.self.view_is (subst (λ n. c.args.p < n) (size_seen _ _ _ _ c.self.view_is refl (c.len.ensures ∙ c.self.inside.images.ok.0)) c.if-p-len.false)

pub verdict-requires : goal.verdict-requires
verdict-requires g c = subst (λ q. q < process_count c.self.inside.manager) (sym c.at.ensures) (known _ _ _ _ c.args.p c.self.invariant c.self.view_is (subst (λ n. c.args.p < n) (size_seen _ _ _ _ c.self.view_is refl (c.len.ensures ∙ c.self.inside.images.ok.0)) c.if-p-len.false))

pub returns-in-In-clause-there : goal.returns-in-In-clause-there
returns-in-In-clause-there g c = subst (λ n. c.args.p < n) (size_seen _ _ _ _ c.self.view_is refl (c.len.ensures ∙ c.self.inside.images.ok.0)) c.if-p-len.false

pub returns-in-Down-clause-there : goal.returns-in-Down-clause-there
returns-in-Down-clause-there g c = subst (λ n. c.args.p < n) (size_seen _ _ _ _ c.self.view_is refl (c.len.ensures ∙ c.self.inside.images.ok.0)) c.if-p-len.false
