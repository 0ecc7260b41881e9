use Rattle.std.proofs.Common.{◌≡◌, None, map}
use Rattle.hp_syntax.specs.Views.{expression_of}
use Rattle.hp_blame.specs.Firsts.{first_below}
use Rattle.hp_blame.specs.Sites.{in_part_at}
use Rattle.hp_blame.proofs.sites.in_parts.Given as goal

abbrev pub invariant-loop-place : goal.invariant-loop-place
invariant-loop-place l = first_below (in_part_at l.span (map expression_of l.parts)) l.place ≡ None
