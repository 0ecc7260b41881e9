-- The texts of domains and problems spell what is written of them.
use Rattle.std.proofs.Common.{◌≡◌, ℕ, ◌+◌, ◌≤◌, List, [], ◌∷◌, length, refl, sym, ◌∙◌, ap, arith, subst}
use Rattle.std.specs.Prelude.{drop}
use Rattle.std.proofs.lemmas.List.{length-drop}
use Rattle.hp_syntax.specs.declared.limits.TheConstants.{LARGEST_TEXT, DEEPEST_NESTING}
use Rattle.hp_syntax.specs.Forest.{Node, Forest, Bare, span_of, Spells, IsForest, nesting, nesting_of_node}
use Rattle.hp_syntax.specs.Syntax.{Domain, Problem}
use Rattle.hp_syntax.specs.Unplaced as unplaced
use Rattle.hp_syntax.specs.Written as written
use Rattle.hp_syntax.specs.Written.{one}
use Rattle.hp_syntax.proofs.LimitLemmas.{limits_clear}
use Rattle.hp_print.proofs.CanSpell.{CanSpell}
use Rattle.hp_print.proofs.Nowhere.{IsNowhere, domain_nowhere, problem_nowhere}
use Rattle.hp_print.proofs.TextLayout.{ForestPlace, byte_stands, nothing_placed, blank_placed, grown}
use Rattle.hp_print.proofs.WrittenLayouts.{BeginsWith, nesting-unplaced, domain_placed, problem_placed}

-- a text that begins with a node, and ends behind it with a line feed, lays out the node
laid_out : (text : List ℕ) (n : Node) → BeginsWith text n → ForestPlace text 0 (one n) []
laid_out text n b =
    let p = b.place in
    let q = byte_stands text (span_of p.node).to 10 [] p.after refl in
    grown text 0 n Bare (10 ∷ []) [] p
    (blank_placed text (span_of p.node).to Bare [] q.0 (nothing_placed text ((span_of p.node).to + 1) [] q.1))

-- a text in which a node is laid out that stands nowhere spells it, if it keeps the limits
whole_spelled : (text : List ℕ) (n : Node) → IsNowhere n → ForestPlace text 0 (one n) []
    → length text ≤ LARGEST_TEXT → nesting_of_node n ≤ DEEPEST_NESTING
    → (f : Forest) × IsForest text f × (unplaced.forest f ≡ one n)
unfolding unplaced.forest
whole_spelled text n w p l d =
    let u = p.after.within in
    let m = length-drop p.to text in
    let r : length (drop p.to text) ≡ 0 = ap length p.after.rest in
    let t : p.to ≡ length text = omega arith in
    let same = p.same ∙ ap one w in
    let q = sym (nesting-unplaced p.forest) ∙ ap nesting same in
    let s = subst (λ e. Spells text 0 e p.forest) t p.spells in
    (p.forest, limits_clear text l p.forest s p.short (omega arith), same)

-- the text of a domain within the limits spells what is written of it
pub domain_spelled : (d : Domain) → CanSpell (written.domain d) → length (written.domain_text d) ≤ LARGEST_TEXT
    → nesting_of_node (written.domain d) ≤ DEEPEST_NESTING
    → (f : Forest) × IsForest (written.domain_text d) f × (unplaced.forest f ≡ one (written.domain d))
domain_spelled d c l n =
    whole_spelled (written.domain_text d) (written.domain d) (domain_nowhere d) (laid_out _ _ (domain_placed d c)) l n

-- the text of a problem within the limits spells what is written of it
pub problem_spelled : (p : Problem) → CanSpell (written.problem p) → length (written.problem_text p) ≤ LARGEST_TEXT
    → nesting_of_node (written.problem p) ≤ DEEPEST_NESTING
    → (f : Forest) × IsForest (written.problem_text p) f × (unplaced.forest f ≡ one (written.problem p))
problem_spelled p c l n =
    whole_spelled (written.problem_text p) (written.problem p) (problem_nowhere p) (laid_out _ _ (problem_placed p c))
    l n
