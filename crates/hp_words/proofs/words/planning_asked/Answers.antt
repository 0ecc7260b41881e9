use Rattle.std.proofs.Common.{◌≡◌, ◌<◌, List, [], ◌∷◌, None, String, Global, length, map, string_bytes, arith, refl}
use Rattle.hp_words.specs.Command.{planning_asked}
use Rattle.hp_words.proofs.words.planning_asked.Goals as goal

-- fewer words than two plan no job
too_few : (ws : List (String Global)) → length ws < 2 → None ≡ planning_asked (map string_bytes ws)
too_few [] a = refl
too_few (v ∷ []) a = refl
too_few (v ∷ w ∷ ws) a = absurd (omega arith)

pub returns-in_default-clause-spelled : goal.returns-in_default-clause-spelled
returns-in_default-clause-spelled c = too_few c.args.words.now c.in_default.len_below
