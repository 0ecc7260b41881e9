-- The canonical texts of the samples.
use Rattle.std.proofs.Common.{◌≡◌, Some, ◌++◌, codes, option_map, refl}
use Rattle.std.specs.Fmt.{digits}
use Rattle.std.specs.Result.{result_ok}
use Rattle.hp_syntax.specs.Grammar as grammar
use Rattle.hp_syntax.specs.Samples.{basic_forest, swap_forest}
use Rattle.hp_syntax.specs.Written as written
use Rattle.hp_syntax.specs.Written.{domain_text, problem_text, node_text}

-- the text of the domain of the sample basic
pub basic_text : option_map domain_text (result_ok (grammar.domain_form 0 basic_forest))
    ≡ Some (codes "(defdomain basic (\n"
    ++ codes "(:operator (!pickup ?a) () () ((have ?a)) 1)\n"
    ++ codes "(:operator (!drop ?a) (and (have ?a)) ((have ?a)) () 1)\n"
    ++ codes "(:method (swap ?x ?y) (and (have ?x)) (:ordered (!drop ?x) (!pickup ?y)) "
    ++ codes "(and (have ?y)) (:ordered (!drop ?y) (!pickup ?x)))\n))\n")
unfolding grammar.file grammar.file_list grammar.domain_list grammar.rule grammar.keyed_rule grammar.operator
    grammar.cost grammar.method grammar.branches grammar.named_branch
    grammar.branch_tasks grammar.branch_name grammar.precondition grammar.list_precondition grammar.expression
    grammar.list_expression grammar.expressions grammar.tasks grammar.list_tasks
    grammar.task_list grammar.effect grammar.effects grammar.keyed_effect grammar.headed grammar.named_atom grammar.term
    grammar.items grammar.terms grammar.word_term grammar.word_tail grammar.name grammar.list
    domain_text node_text written.rule written.operator written.method written.branches written.precondition
    written.expression written.tasks written.effect written.pattern digits
basic_text = refl

-- the text of the problem of the sample swap
pub swap_text : option_map problem_text (result_ok (grammar.problem_form 0 swap_forest))
    ≡ Some (codes "(defproblem p1 basic\n((have kiwi))\n(:ordered (swap banjo kiwi))\n)\n")
unfolding grammar.file grammar.file_list grammar.problem_list grammar.pairs grammar.pair_tasks grammar.atoms
    grammar.tasks
    grammar.list_tasks grammar.task_list grammar.named_atom grammar.term
    grammar.items grammar.word_term grammar.word_tail grammar.name grammar.list grammar.headed problem_text node_text
    written.tasks written.pattern
swap_text = refl
