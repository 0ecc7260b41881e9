-- The texts of what is answered of plans, of the parts that are put one behind the other.
use Rattle.std.proofs.Common.{◌≡◌, ℕ, ℤ, FitsSigned, Bool, List, ◌++◌, codes, decimal, ap, sym, ◌∙◌, append_assoc}
use Rattle.std.specs.Int.{w128}
use Rattle.std.proofs.lemmas.Int.{to_z-of_z}
use Rattle.hp_out.specs.Lines.{absent_text, derived_text, no_pair_line, underived_text, underived_word}
use Rattle.hp_out.proofs.ReportSteps.{cost_text}
use Rattle.hp_syntax.specs.Report.{path_text}
use Rattle.hp_syntax.specs.TermTexts.{num_text}

-- ---- words and numbers

-- words, a number and the end of their line are put together from the left
numbered : (words : List ℕ) (n : ℕ) (a : List ℕ) → a ≡ decimal n
    → words ++ (a ++ codes "\n") ≡ words ++ decimal n ++ codes "\n"
numbered words n a e = ap (λ t. words ++ (t ++ codes "\n")) e ∙ sym (append_assoc words (decimal n) (codes "\n"))

-- five texts one behind the other are put together from the left
grouped : (p x q y r : List ℕ) → p ++ (x ++ (q ++ (y ++ r))) ≡ p ++ x ++ q ++ y ++ r
grouped p x q y r = simp append_assoc

-- words with two parts between them are those with two equal parts
two_parts : (p q r a b x y : List ℕ) → a ≡ x → b ≡ y → p ++ (a ++ (q ++ (b ++ r))) ≡ p ++ x ++ q ++ y ++ r
two_parts p q r a b x y e f =
    ap (λ t. p ++ (t ++ (q ++ (b ++ r)))) e ∙ ap (λ t. p ++ (x ++ (q ++ (t ++ r)))) f ∙ grouped p x q y r

-- ---- lines

-- the words, the number and the count are the line of a pair that there isn't
pub no_pair_words : (number count : ℕ) (a b : List ℕ) → a ≡ decimal number → b ≡ decimal count
    → codes "refused problem NoPair " ++ (a ++ (codes " of " ++ (b ++ codes "\n"))) ≡ no_pair_line number count
unfolding no_pair_line
no_pair_words number count a b e f =
    two_parts (codes "refused problem NoPair ") (codes " of ") (codes "\n") a b (decimal number) (decimal count) e f

-- the words and the count are the line of a path without a plan
pub absent_words : (expansions : ℕ) (a : List ℕ) → a ≡ decimal expansions
    → codes "no plan at path expansions " ++ (a ++ codes "\n") ≡ absent_text expansions
unfolding absent_text
absent_words expansions a e = numbered (codes "no plan at path expansions ") expansions a e

-- the words, what keeps a plan from being derived, and the count are the line of a plan that wasn't
pub underived_words : (is_cut : Bool) (expansions : ℕ) (a b : List ℕ) → a ≡ underived_word is_cut
    → b ≡ decimal expansions
    → codes "not derived " ++ (a ++ (codes " expansions " ++ (b ++ codes "\n"))) ≡ underived_text is_cut expansions
unfolding underived_text
underived_words is_cut expansions a b e f =
    two_parts (codes "not derived ") (codes " expansions ") (codes "\n") a b (underived_word is_cut)
    (decimal expansions) e f

-- ---- a plan that was derived

-- the text of the decompositions on the way
abbrev pub expansions_text : ℕ → List ℕ
expansions_text n = codes " expansions " ++ decimal n ++ codes "\n"

-- the word and the count are the text of the decompositions on the way
pub expansions_words : (n : ℕ) (a : List ℕ) → a ≡ decimal n
    → codes " expansions " ++ (a ++ codes "\n") ≡ expansions_text n
expansions_words n a e = numbered (codes " expansions ") n a e

-- the text of a path and of the decompositions on the way
abbrev pub way_text : List ℕ → ℕ → List ℕ
way_text path n = codes " path " ++ path_text path ++ codes " expansions " ++ decimal n ++ codes "\n"

-- two texts and then three others are put together from the left
way_shape : (p x q y r : List ℕ) → p ++ (x ++ (q ++ y ++ r)) ≡ p ++ x ++ q ++ y ++ r
way_shape p x q y r = simp append_assoc

-- the word, the path and the count are the text of the path and of the decompositions on the way
pub way_words : (path : List ℕ) (n : ℕ) → codes " path " ++ (path_text path ++ expansions_text n) ≡ way_text path n
way_words path n =
    way_shape (codes " path ") (path_text path) (codes " expansions ") (decimal n) (codes "\n")

-- two texts and then five others are put together from the left
derived_shape : (w c p x q y r : List ℕ) → (w ++ c) ++ (p ++ x ++ q ++ y ++ r) ≡ w ++ c ++ p ++ x ++ q ++ y ++ r
derived_shape w c p x q y r = simp append_assoc

-- the cost, and then the path and the count, are the line of a plan that was derived
pub derived_words : (cost : ℤ) (path : List ℕ) (n : ℕ) → FitsSigned w128 cost
    → cost_text (codes "derived cost ") cost ++ way_text path n ≡ derived_text cost path n
unfolding derived_text
derived_words cost path n fits =
    ap (λ (c : ℤ). (codes "derived cost " ++ num_text c) ++ way_text path n) (to_z-of_z w128 cost fits)
    ∙ derived_shape (codes "derived cost ") (num_text cost) (codes " path ") (path_text path) (codes " expansions ")
    (decimal n) (codes "\n")
