use Rattle.std.proofs.Common.{◌≡◌, ◌<◌, ℕ, List, [], ◌∷◌, None, String, Global, length, map, string_bytes, arith, refl}
use Rattle.hp_words.specs.Command.{verifying_asked}
use Rattle.hp_words.proofs.words.verifying_asked.Goals as goal

-- fewer words than two verify no plan
too_few : (d p : List ℕ) (ws : List (String Global)) → length ws < 2
    → None ≡ verifying_asked d p (map string_bytes ws)
too_few d p [] a = refl
too_few d p (v ∷ []) a = refl
too_few d p (v ∷ w ∷ ws) a = absurd (omega arith)

pub returns-in_default-clause-spelled : goal.returns-in_default-clause-spelled
returns-in_default-clause-spelled c =
    too_few c.args.domain.now c.args.problem.now c.args.words.now c.in_default.len_below
