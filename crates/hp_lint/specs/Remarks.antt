-- All remarks on a domain and a problem, in the order of the texts.
use Rattle.std.specs.Prelude.{Bool, true, false, nat_lt, cond, List, [], ◌∷◌, ◌++◌}
use Rattle.std.specs.List.{flat_map}
use Rattle.hp_syntax.specs.Syntax.{Domain, Problem}
use Rattle.hp_syntax.specs.Notes.{domain_atoms, problem_atoms}
use Rattle.hp_lint.specs.Remarked.{Remark}
use Rattle.hp_lint.specs.Fitting.{fits_any}
use Rattle.hp_lint.specs.Asking.{asked_by, given, has_name, on_asked}
use Rattle.hp_lint.specs.Serving.{task_head, all_tasks, on_task, on_operator}
use Rattle.hp_lint.specs.Variables.{once_in, unbound_in}
use Rattle.hp_lint.specs.Branches.{hidden_in}

-- the remarks on a domain, kind by kind
abbrev pub domain_remarks : Domain → Problem → List Remark
domain_remarks d p =
    flat_map (on_asked (fits_any (given d p)) (has_name (given d p))) (flat_map asked_by d.rules)
    ++ flat_map (on_task false (fits_any (flat_map task_head d.rules))) (domain_atoms d)
    ++ flat_map once_in d.rules
    ++ flat_map unbound_in d.rules
    ++ flat_map hidden_in d.rules
    ++ flat_map (on_operator (fits_any (all_tasks d p))) d.rules

abbrev pub problem_remarks : Domain → Problem → List Remark
problem_remarks d p = flat_map (on_task true (fits_any (flat_map task_head d.rules))) (problem_atoms p)

-- a remark begins before another one in its text
abbrev pub begins_before : Remark → Remark → Bool
begins_before r q = nat_lt r.span.from q.span.from

-- put before the first that doesn't begin before it, so that those at one place keep their order
abbrev pub put_in : Remark → List Remark → List Remark
put_in r [] = r ∷ []
put_in r (q ∷ qs) = cond (begins_before q r) (q ∷ put_in r qs) (r ∷ q ∷ qs)

abbrev pub in_order : List Remark → List Remark
in_order [] = []
in_order (r ∷ rs) = put_in r (in_order rs)

-- all remarks, those on the domain before those on the problem, and in each text by where they begin
unfoldable pub remarks : Domain → Problem → List Remark
remarks d p = in_order (domain_remarks d p) ++ in_order (problem_remarks d p)
