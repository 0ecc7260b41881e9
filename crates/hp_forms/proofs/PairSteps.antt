-- The pairs of a problem one by one.
use Rattle.std.proofs.Common.{◌≡◌, ◌∙◌, ◌≢◌, ap, sym, refl, arith, List, [], ◌∷◌, Result, Ok, append-nil, true, false, length}
use Rattle.hp_syntax.specs.declared.pattern.Span.{Span}
use Rattle.hp_syntax.specs.declared.form.What.TheVariants as wants
use Rattle.hp_syntax.specs.Forest.{Forest, Bare, Grow}
use Rattle.hp_syntax.specs.Steps.{Misform, Names, Parse, and_then, next, pure, ◌>>=◌}
use Rattle.hp_syntax.specs.Syntax.{Atom, Pair}
use Rattle.hp_syntax.specs.Grammar.{InProblem, atoms, make_pair, pair_tasks, pairs, tasks}
use Rattle.hp_text.specs.declared.forest.Node.{Node}
use Rattle.hp_text.specs.Nodes.{nodes_of}
use Rattle.hp_terms.proofs.Turns.{prepend, bind-assoc, bind_same}
use Rattle.hp_forms.specs.Pairs.{pair}

abbrev then_pairs : Span → Pair × Forest → Parse (List Pair)
then_pairs end x = pairs end false x.1 >>= (λ others. pure (x.0 ∷ others))

abbrev tasks_of_pair : Span → List Atom → Forest → Parse (Pair × Forest)
tasks_of_pair end state f = next wants.Tasks end f >>= (λ y. tasks InProblem y.0 >>=
    (λ ts. pure (make_pair state ts, y.1)))

-- the tasks of a pair are those of one, and then the other pairs
pair_tasks-turn : (end : Span) (state : List Atom) (f : Forest) (names : Names)
    → pair_tasks end state f names ≡ and_then (tasks_of_pair end state f names) (then_pairs end)
unfolding pair_tasks
pair_tasks-turn end state Bare names = refl
pair_tasks-turn end state (Grow n rest) names =
    sym (bind-assoc (tasks InProblem n names) (λ ts. pure (make_pair state ts, rest)) (then_pairs end))

-- the pairs of a problem are one pair, and then the others
pub pairs-turn : (end : Span) (f : Forest) (names : Names)
    → pairs end true f names ≡ and_then (pair end f names) (then_pairs end)
unfolding pairs pair
pairs-turn end Bare names = refl
pairs-turn end (Grow n rest) names =
    bind_same (atoms InProblem n names) _ _ (λ state later. pair_tasks-turn end state rest later)
    ∙ sym (bind-assoc (atoms InProblem n names) (λ state. tasks_of_pair end state rest) (then_pairs end))

-- where no node is left, the pairs that were read are all
pub pairs_done : (end : Span) (rest : List Node) (prefix : List Pair) (names : Names)
    (all : Result (List Pair × Names) Misform) → length rest ≡ 0
    → all ≡ prepend prefix (pairs end false (nodes_of rest) names) → all ≡ Ok (prefix, names)
unfolding pairs
pairs_done end [] prefix names all none e = e ∙ ap (λ xs. Ok (xs, names)) (append-nil prefix)
pairs_done end (n ∷ ns) prefix names all none e = absurd (omega arith)

-- where a node is left, further pairs are read as at the front
pub pairs_go_on : (end : Span) (rest : List Node) (names : Names) → length rest ≢ 0
    → pairs end false (nodes_of rest) names ≡ pairs end true (nodes_of rest) names
unfolding pairs
pairs_go_on end [] names some = absurd (some refl)
pairs_go_on end (n ∷ ns) names some = refl
