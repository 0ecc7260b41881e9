use Rattle.std.proofs.Common.{◌≡◌, ◌≢◌, ◌∙◌, ◌-◌, ◌<◌, ◌≤◌, ℕ, List, [], ◌∷◌, Option, None, String, Global, length, map, take, drop, get_or, string_bytes, arith, refl, ap, ap₂}
use Rattle.std.proofs.lemmas.List.{take_all}
use Rattle.hp_words.specs.Command.{Request, accepts, asked_by_more}
use Rattle.hp_words.proofs.words.asked_by_many.Goals as goal

-- words that are neither two nor three nor more are no command
too_few : (ws : List (String Global)) → length ws ≢ 2 → length ws < 3 → None ≡ accepts (map string_bytes ws)
too_few [] a b = refl
too_few (v ∷ []) a b = refl
too_few (v ∷ w ∷ []) a b = absurd (a refl)
too_few (v ∷ w ∷ x ∷ ws) a b = absurd (omega arith)

pub returns-in_default-clause-asks : goal.returns-in_default-clause-asks
returns-in_default-clause-asks c = too_few c.args.words.now c.requires.two c.in_default.len_below

-- four words and more are what their first three and those behind them ask for
as_asked : (ws : List (String Global)) (first second third : String Global) (w d p : List ℕ) (asked : Option Request)
    → length ws ≢ 3 → 3 ≤ length ws → first ≡ get_or ws 0 first → second ≡ get_or ws 1 second
    → third ≡ get_or ws 2 third → w ≡ string_bytes first → d ≡ string_bytes second → p ≡ string_bytes third
    → asked ≡ asked_by_more w d p (map string_bytes (take (length ws - 3) (drop 3 ws)))
    → asked ≡ accepts (map string_bytes ws)
as_asked [] f s t w d p asked a b fs ss ts fw sw tw j = absurd (omega arith)
as_asked (t ∷ []) f s r w d p asked a b fs ss ts fw sw tw j = absurd (omega arith)
as_asked (t ∷ u ∷ []) f s r w d p asked a b fs ss ts fw sw tw j = absurd (omega arith)
as_asked (t ∷ u ∷ v ∷ []) f s r w d p asked a b fs ss ts fw sw tw j = absurd (a refl)
as_asked (t ∷ u ∷ v ∷ x ∷ ws) f s r w d p asked a b fs ss ts fw sw tw j =
    let more : take (length (t ∷ u ∷ v ∷ x ∷ ws) - 3) (x ∷ ws) ≡ x ∷ ws =
    take_all (length (t ∷ u ∷ v ∷ x ∷ ws) - 3) (x ∷ ws) (omega arith) in
    j ∙ ap₂ (λ y ys. asked_by_more y d p (map string_bytes ys)) (fw ∙ ap string_bytes fs) more
    ∙ ap₂ (λ y z. asked_by_more (string_bytes t) y z (map string_bytes (x ∷ ws))) (sw ∙ ap string_bytes ss)
    (tw ∙ ap string_bytes ts)

pub returns-clause-asks : goal.returns-clause-asks
returns-clause-asks c =
    as_asked c.args.words.now c.word-item.result c.domain-item.result c.problem-item.result c.as_str.result.now
    c.as_str-2.result.now c.as_str-3.result.now _ c.requires.three c.in-len3-up.len_at_least c.word-item.is
    c.domain-item.is c.problem-item.is c.as_str.ensures.value c.as_str-2.ensures.value c.as_str-3.ensures.value
    c.asked_by_more.ensures.spelled
