use Rattle.std.proofs.Common.{◌≡◌, ◌<◌, List, [], ◌∷◌, None, String, Global, length, map, string_bytes, arith, refl}
use Rattle.hp_words.specs.Command.{continuing_asked}
use Rattle.hp_words.proofs.words.continuing_asked.Goals as goal

-- fewer words than three ask for no plans behind a path
too_few : (ws : List (String Global)) → length ws < 3 → None ≡ continuing_asked (map string_bytes ws)
too_few [] a = refl
too_few (u ∷ []) a = refl
too_few (u ∷ v ∷ []) a = refl
too_few (u ∷ v ∷ w ∷ ws) a = absurd (omega arith)

pub returns-in_default-clause-spelled : goal.returns-in_default-clause-spelled
returns-in_default-clause-spelled c = too_few c.args.words.now c.in_default.len_below
