use Rattle.std.proofs.Common.{◌<◌, map, length, subst, sym, ap, ◌∙◌}
use Rattle.std.proofs.lemmas.List.{length-map}
use Rattle.std.specs.Prelude.{option_map}
use Rattle.hp_syntax.specs.Views.{expression_of}
use Rattle.hp_blame.specs.Sites.{in_part_at, site_of}
use Rattle.hp_blame.proofs.FirstLemmas.{some_below}
use Rattle.hp_blame.proofs.sites.in_parts.Goals as goal

pub returns-in-Some : goal.returns-in-Some
returns-in-Some c =
    let parts = map expression_of c.args.parts.now in
    sym (some_below (in_part_at c.args.span parts) (site_of c.in-Some.site) c.loop-place.place (length parts)
    (subst (λ n. c.loop-place.place < n) (sym (length-map c.args.parts.now expression_of)) c.loop-place-test.true)
    c.loop-place.invariant (sym c.in_part_at.ensures ∙ ap (option_map site_of) c.in-Some.is))
