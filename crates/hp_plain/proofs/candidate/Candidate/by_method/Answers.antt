use Rattle.std.proofs.Common.{◌≡◌, ℕ, length, map, ◌∙◌, ap, sym, subst, arith}
use Rattle.std.proofs.lemmas.Result.{IfOk-weaker}
use Rattle.hp_syntax.specs.Matching.{match_atom}
use Rattle.hp_syntax.specs.Values.{unbound}
use Rattle.hp_syntax.specs.Views.{atom_of, branch_of, method_of}
use Rattle.hp_syntax.specs.Walk.{chosen_branch, branch_children, method_children}
use Rattle.hp_eval.specs.Slotted.{bindings_of}
use Rattle.hp_eval.proofs.GrowthLemmas.{grows_self}
use Rattle.hp_plain.specs.Candidates.{rules_at, nest_at, own_node, place_at, own_task}
use Rattle.hp_plain.specs.Children.{ChoosesBranch}
use Rattle.hp_answers.specs.AnswerViews.{MeetsHead}
use Rattle.hp_plain.proofs.candidate.Candidate.by_method.Goals as goal

pub returns-in-None-clause-cells : goal.returns-in-None-clause-cells
returns-in-None-clause-cells c = grows_self c.args.cells.now

pub returns-in_err-slots-clause-cells : goal.returns-in_err-slots-clause-cells
returns-in_err-slots-clause-cells c = grows_self c.args.cells.now

pub returns-in-Some-clause-chooses : goal.returns-in-Some-clause-chooses
returns-in-Some-clause-chooses c =
    let s = c.args.self.now in
    let old = c.args.cells.now in
    let new = c.first_branch.new.cells in
    let m = c.args.method.now in
    let n = own_node old s in
    let p = place_at s in
    let e = bindings_of old c.in-Some.slots in
    let found = λ (k : ℕ). match_atom (atom_of m.head) (own_task old s) (unbound k) in
    let long : c.len.result ≡ length m.vars.items = omega (arith, c.len.ensures, m.vars.ok.0) in
    let met = subst (λ x. MeetsHead old c.len.result x (found c.len.result)) c.in-Some.is c.in_ok-slots.ensures in
    let branches = (method_of m).branches in
    IfOk-weaker c.first_branch.result _ _
    (λ x h.
    subst (λ o. ChoosesBranch new n p branches x (method_children (rules_at s) (nest_at s) n p (method_of m) o))
    (sym (ap found (sym long) ∙ met.0))
    (subst
    (λ bs. ChoosesBranch new n p (map branch_of bs) x
    (branch_children n p (chosen_branch (rules_at s) (nest_at s) n.state (map branch_of bs) e)))
    c.as_slice.ensures.value h))
    c.first_branch.ensures.chooses

pub first_branch-requires-clause-slots : goal.first_branch-requires-clause-slots
first_branch-requires-clause-slots c =
    let s = c.args.self.now in
    let x = c.args.method.now in
    let found = λ (n : ℕ). match_atom (atom_of x.head) (own_task c.args.cells.now s) (unbound n) in
    let met =
    subst (λ o. MeetsHead c.args.cells.now c.len.result o (found c.len.result)) c.in-Some.is c.in_ok-slots.ensures in
    met.2

pub returns-in-Some-clause-cells : goal.returns-in-Some-clause-cells
returns-in-Some-clause-cells c = c.first_branch.ensures.cells
