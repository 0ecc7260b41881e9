-- Codes of the same rules have the same listing.
use Rattle.std.proofs.Common.{◌≡◌, ℕ, suc, List, [], ◌∷◌, ◌++◌, Option, None, Some, refl, ap, ap₂, ◌∙◌}
use Rattle.hp_syntax.specs.Syntax.{Rule}
use Rattle.hp_tables.specs.declared.Kind.{Kind}
use Rattle.hp_tables.specs.declared.Kind.TheVariants.{Task, Axiom}
use Rattle.hp_nodes.specs.Trees.{Laid, roots, trees}
use Rattle.hp_code.specs.CodeViews.{CodeView, IsCodeOf, beside, or_empty, compiled, vars_at}
use Rattle.hp_code.specs.Listing.{head_line, head_of, listing_text, name_line, name_lines, node_lines, word_of}

-- the line of a name by two tables that have the same for it
head_same : (word : List ℕ) (f g : List ℕ → List ℕ) → ((name : List ℕ) → f name ≡ g name) → (o : Option (List ℕ))
    (i : ℕ) → head_line word f o i ≡ head_line word g o i
head_same word f g h None i = refl
head_same word f g h (Some name) i = ap (λ is. name_line word name is i) (h name)

-- the lines of names by two tables that have the same for each
names_same : (kind : Kind) (f g : List ℕ → List ℕ) → ((name : List ℕ) → f name ≡ g name) → (i : ℕ) (ns : List Laid)
    → name_lines kind f i ns ≡ name_lines kind g i ns
names_same kind f g h i [] = refl
names_same kind f g h i (n ∷ ns) =
    ap₂ ◌++◌ (head_same (word_of kind) f g h (head_of kind n.op) i) (names_same kind f g h (suc i) ns)

-- a code of rules has the listing of what these are compiled to
pub listing_same : (rules : List Rule) (c : CodeView) → IsCodeOf rules c
    → listing_text c ≡ listing_text (compiled rules)
unfolding listing_text
listing_same rules c is =
    let names : vars_at c ≡ vars_at (compiled rules) =
    ap₂ (λ ns vs. λ i. or_empty (beside i (roots 0 (trees 0 ns)) vs)) is.nodes is.vars in
    ap₂ ◌++◌
    (ap₂ ◌++◌ (ap₂ (λ names ns. node_lines names 0 [] ns) names is.nodes)
    (names_same Task c.task_rules (compiled rules).task_rules is.task_rules 0 c.nodes
    ∙ ap (name_lines Task (compiled rules).task_rules 0) is.nodes))
    (names_same Axiom c.axiom_rules (compiled rules).axiom_rules is.axiom_rules 0 c.nodes
    ∙ ap (name_lines Axiom (compiled rules).axiom_rules 0) is.nodes)
