-- Lists that are written part by part.
use Rattle.std.proofs.Common.{◌≡◌, ℕ, ◌+◌, ◌<◌, ◌≤◌, ◌++◌, List, [], ◌∷◌, length, get_or, drop, codes, Result, ap, sym, ◌∙◌, append_assoc, append-nil}
use Rattle.std.specs.Bool.{if◌then◌else◌}
use Rattle.std.specs.Result.{OnOk, is_ok}
use Rattle.std.proofs.lemmas.List.{at_drop_all}
use Rattle.hp_syntax.proofs.ListLemmas.{made_on}
use Rattle.hp_print.proofs.WrittenTexts.{ended}

-- one more part that is written behind a space leaves the whole, of the text and the parts that are left, as it was
pub spaced_on : {X : Type 0} (rest : List X → List ℕ) (part : X → List ℕ) (xs : List X) (i : ℕ) (x : X)
    (text spaced new whole : List ℕ)
    → ((y : X) (ys : List X) → rest (y ∷ ys) ≡ codes " " ++ part y ++ rest ys)
    → i < length xs → x ≡ get_or xs i x → text ++ rest (drop i xs) ≡ whole
    → spaced ≡ text ++ codes " " → new ≡ spaced ++ part x
    → new ++ rest (drop (i + 1) xs) ≡ whole
spaced_on rest part xs i x text spaced new whole step below at left gap put =
    made_on rest (λ y. codes " " ++ part y) xs i x text new whole step below at left
    (put ∙ (ap (λ t. t ++ part x) gap ∙ append_assoc text (codes " ") (part x)))

module _ {X T E : Type 0} (r : Result T E) (rest : List X → List ℕ) (xs : List X) (i : ℕ)
    (text new whole : List ℕ) (past : length xs ≤ i) (left : text ++ rest (drop i xs) ≡ whole) where
  -- when all parts of a list are written, what ends it makes the text whole
  pub written_to_its_end : new ≡ (if is_ok r then text ++ rest [] else text) → OnOk r (new ≡ whole)
  written_to_its_end put =
      ended r new (text ++ rest []) text whole put (ap (λ t. text ++ t) (sym (at_drop_all rest xs i past)) ∙ left)

  -- when all parts are written, the text is whole
  all_written : rest [] ≡ [] → text ≡ whole
  all_written none =
      sym (append-nil text) ∙ (ap (λ r. text ++ r) (sym (at_drop_all rest xs i past ∙ none)) ∙ left)

  -- when all parts are written, more goes behind the whole text
  pub all_and_more : (more : List ℕ) → rest [] ≡ [] → new ≡ (if is_ok r then text ++ more else text)
      → OnOk r (new ≡ whole ++ more)
  all_and_more more none put =
      ended r new (text ++ more) text (whole ++ more) put (ap (λ t. t ++ more) (all_written none))
