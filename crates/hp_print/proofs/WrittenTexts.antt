-- Written texts, by their parts.
use Rattle.std.proofs.Common.{◌≡◌, ℕ, ◌<◌, ◌++◌, List, [], ◌∷◌, length, codes, Result, Ok, Err, refl, append_assoc, ◌∙◌, arith}
use Rattle.std.specs.Bool.{if◌then◌else◌}
use Rattle.std.specs.Result.{OnOk, is_ok}
use Rattle.hp_syntax.specs.declared.expression.Expr.{Expr}
use Rattle.hp_syntax.specs.Forest.{Node, Forest, Bare, Grow}
use Rattle.hp_syntax.specs.Steps.{Names}
use Rattle.hp_syntax.specs.Syntax.{Branch, Clause}
use Rattle.hp_syntax.specs.Views.{expressions_of}
use Rattle.hp_syntax.specs.Written.{node_text, rest_text, joined, worded, two, branch, branches, clause, clauses, conjunction, expressions, expression}

-- the text of a forest and then another is that of the one and then that of the other
pub rest_of_joined : (f g : Forest) → rest_text (joined f g) ≡ rest_text f ++ rest_text g
unfolding rest_text
rest_of_joined Bare g = refl
rest_of_joined (Grow n f) g = simp (rest_of_joined f g, append_assoc)

-- a text that is done where the last write went well is the whole text there
pub ended : {T E : Type 0} (r : Result T E) (new done kept whole : List ℕ)
    → new ≡ (if is_ok r then done else kept) → done ≡ whole → OnOk r (new ≡ whole)
ended (Ok x) new done kept whole h e = h ∙ e
ended (Err x) new done kept whole h e = tt

-- the text that was written where a write went well is any text that equals it
pub written_as : {T E : Type 0} (r : Result T E) (new a b : List ℕ) → OnOk r (new ≡ a) → a ≡ b → OnOk r (new ≡ b)
written_as (Ok x) new a b h e = h ∙ e
written_as (Err x) new a b h e = tt

-- the branches of a method follow one another
pub rest_of_branches : (names : Names) (b : Branch) (bs : List Branch)
    → rest_text (branches names (b ∷ bs)) ≡ rest_text (branch names b) ++ rest_text (branches names bs)
unfolding branches
rest_of_branches names b bs = rest_of_joined (branch names b) (branches names bs)

-- no branch has no text
pub rest_of_no_branches : (names : Names) → rest_text (branches names []) ≡ []
unfolding branches rest_text
rest_of_no_branches names = refl

-- the branches of an axiom follow one another
pub rest_of_clauses : (names : Names) (c : Clause) (cs : List Clause)
    → rest_text (clauses names (c ∷ cs)) ≡ rest_text (clause names c) ++ rest_text (clauses names cs)
unfolding clauses
rest_of_clauses names c cs = rest_of_joined (clause names c) (clauses names cs)

-- no branch of an axiom has no text
pub rest_of_no_clauses : (names : Names) → rest_text (clauses names []) ≡ []
unfolding clauses rest_text
rest_of_no_clauses names = refl

-- the text of a list that begins with a word has that word, the other parts and two brackets
worded_text : (text : List ℕ) (f : Forest)
    → node_text (worded text f) ≡ codes "(" ++ (text ++ (rest_text f ++ codes ")"))
unfolding node_text
worded_text text f = append_assoc (codes "(" ++ text) (rest_text f) (codes ")")

-- each further part of a list has a space before it
part_text : (n : Node) (f : Forest) (end : List ℕ)
    → rest_text (Grow n f) ++ end ≡ codes " " ++ (node_text n ++ (rest_text f ++ end))
unfolding node_text
part_text n f end = append_assoc (codes " " ++ node_text n) (rest_text f) end

-- at the end of a list nothing follows but what ends it
none_text : (end : List ℕ) → rest_text Bare ++ end ≡ end
unfolding node_text
none_text end = refl

-- the text of a list of a word and five parts has a space before each part
pub text_of_five : (text : List ℕ) (a b c d e : Node)
    → node_text (worded text (Grow a (Grow b (Grow c (two d e)))))
    ≡ codes "(" ++ (text ++ (codes " " ++ (node_text a ++ (codes " " ++ (node_text b ++ (codes " " ++ (node_text c
    ++ (codes " " ++ (node_text d ++ (codes " " ++ (node_text e ++ codes ")")))))))))))
text_of_five text a b c d e = rw worded_text (simp (part_text, none_text))

-- a conjunction of something begins with its word
pub conjunction_of_some : (names : Names) (es : List Expr) → 0 < length es
    → conjunction names (expressions_of es) ≡ worded (codes "and") (expressions names (expressions_of es))
unfolding expression
conjunction_of_some names [] h = absurd (omega arith)
conjunction_of_some names (e ∷ es) h = refl
