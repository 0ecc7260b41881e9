use Rattle.std.proofs.Common.{◌≡◌, ℕ, List, ◌++◌, codes, ap, append_assoc, append-nil}
use Rattle.hp_syntax.specs.Forest.{Node}
use Rattle.hp_syntax.specs.Syntax.{Branch}
use Rattle.hp_syntax.specs.Steps.{Names}
use Rattle.hp_syntax.specs.Views.{branch_of}
use Rattle.hp_syntax.specs.Written.{node_text, rest_text, branch_name, branch, precondition, tasks, two}
use Rattle.hp_print.proofs.WrittenTexts.{rest_of_joined, written_as}
use Rattle.hp_print.proofs.rules.push_branch.Goals as goal

-- each of two further parts of a list has a space before it
two_text : (a b : Node) → rest_text (two a b) ≡ codes " " ++ (node_text a ++ (codes " " ++ node_text b))
unfolding rest_text
two_text a b = ap (λ t. codes " " ++ (node_text a ++ (codes " " ++ t))) (append-nil (node_text b))

-- a name, and a precondition and tasks behind a space each, are the text of a branch
branch_text : (text : List ℕ) (names : Names) (b : Branch)
    → ((((text ++ rest_text (branch_name b.name)) ++ codes " ") ++ node_text (precondition names b.pre)) ++ codes " ")
    ++ node_text (tasks names b.tasks) ≡ text ++ rest_text (branch names b)
branch_text text names b =
    rw (
      rest_of_joined (branch_name b.name) (two (precondition names b.pre) (tasks names b.tasks)),
      two_text (precondition names b.pre) (tasks names b.tasks),
    ) (simp append_assoc)

pub returns : goal.returns
returns c =
    let spaced = rw c.in_ok-push_name.ensures at c.in_ok-push.ensures.items in
    let asked = rw (c.in_ok-push_precondition.ensures, spaced) at c.in_ok-push-2.ensures.items in
    let written = rw asked at c.push_tasks.ensures in
    written_as c.push_tasks.result _ _ _ written (branch_text _ _ (branch_of c.args.branch.now))
