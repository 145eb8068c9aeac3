use Rattle.std.proofs.Common.{◌≡◌, ◌∙◌, Bool, Some, true, false, inl, inr, sym, ap}
use Rattle.om_world.specs.declared.process_state.ProcessState.TheVariants as places
use Rattle.om_world.specs.Failures.{up, joined, refused}
use Rattle.om_world.proofs.world.World.failure.Goals as goal
use Rattle.om_world.proofs.world.World.failure.Goals.{then-declared, else-declared}

not_both : (b : Bool) → b ≡ false → b ≡ true → ⊥
not_both b is not = cc

pub place-requires : goal.place-requires
place-requires g c = c.requires

pub has_news-requires : goal.has_news-requires
has_news-requires g c = c.requires

pub has_news-requires-else-declared : goal.has_news-requires-else-declared
has_news-requires-else-declared g c = c.requires

pub returns-in-Up : goal.returns-in-Up
returns-in-Up g c = up (c.place.ensures ∙ ap Some c.in-Up.is)

pub returns-then-has_news : goal.returns-then-has_news
returns-then-has_news g c = (
  c.place.ensures ∙ ap Some c.in-In.is,
  c.has_news.ensures.0 c.if-has_news.true,
)

pub returns-else-has_news : goal.returns-else-has_news
returns-else-has_news g c = joined
    (c.place.ensures ∙ ap Some c.in-In.is)
    (λ news. not_both c.has_news.result c.if-has_news.false (c.has_news.ensures.1 news))

pub returns-then-has_news-2 : goal.returns-then-has_news-2
returns-then-has_news-2 g c = (
  c.in-Down.declared,
  c.place.ensures ∙ ap Some c.in-Down.is,
  elim c.if-declared.branch [
    | then-declared w ↦ inl w.if-declared.true
    | else-declared w ↦ inr (w.has_news-else-declared.ensures.0 (sym w.value-is ∙ c.if-has_news-2.true))
  ],
)

pub returns-else-has_news-2 : goal.returns-else-has_news-2
returns-else-has_news-2 g c = elim c.if-declared.branch [
  | then-declared w ↦ absurd (not_both c.if-declared.value c.if-has_news-2.false (w.value-is ∙ w.if-declared.true))
  | else-declared w ↦ refused
      (c.place.ensures ∙ ap Some (c.in-Down.is ∙ ap (λ d. places.Down d) w.if-declared.false))
      (λ news. not_both c.if-declared.value c.if-has_news-2.false (w.value-is ∙ w.has_news-else-declared.ensures.1 news))
]
