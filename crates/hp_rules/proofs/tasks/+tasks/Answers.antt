use Rattle.std.proofs.Common.{◌≡◌, ◌∙◌, sym, ap, true, false, rules, bytes_eq, codes, Ok, arith}
use Rattle.std.proofs.lemmas.Result.{err_from_is_err_and}
use Rattle.hp_syntax.specs.Grammar as grammar
use Rattle.hp_syntax.specs.Views.{tasks_of}
use Rattle.hp_syntax.specs.ViewLaws.{tasks_of-unordered}
use Rattle.hp_syntax.specs.Steps.{and_then, pure}
use Rattle.hp_syntax.specs.Names.{is_plain}
use Rattle.hp_syntax.specs.Syntax.{Unordered}
use Rattle.hp_text.specs.Nodes.{nodes_of}
use Rattle.hp_terms.specs.FormReads.{setting_of}
use Rattle.hp_terms.proofs.Turns.{one_viewed}
use Rattle.hp_terms.proofs.PartSteps.{task_list_read, task_list_refused, reads_same, ordered-list, ordered-none, word_first}
use Rattle.hp_terms.proofs.Sizes.{item-smaller}
use Rattle.hp_rules.proofs.TaskSteps.{tasks-ordered, tasks-unordered, tasks-immediate, tasks-plain}
use Rattle.hp_rules.proofs.tasks.+tasks.Goals as goal

pub task_list-tasks-requires : goal.task_list-tasks-requires
task_list-tasks-requires t c =
    let smaller = item-smaller c.args.nodes.now c.loop-node.node-index c.node-item.result c.loop-node-test.true
    c.node-item.is in
    search rules

pub task_list-returns-in_err-tasks : goal.task_list-returns-in_err-tasks
task_list-returns-in_err-tasks t c =
    let p = err_from_is_err_and c.from_residual-in_err-tasks.result c.from_residual-in_err-tasks.ensures.1 in
    rw (p.1, p.2) (task_list_refused (setting_of c.args.setting) c.args.nodes.now c.loop-node.node-index
    c.node-item.result c.loop-node.parts.items c.in_err-tasks.field-0.0 _ _ c.loop-node-test.true c.loop-node.invariant
    c.node-item.is c.in_err-tasks.ensures)

pub task_list-loop-node-preserved : goal.task_list-loop-node-preserved
task_list-loop-node-preserved t c =
    let more = one_viewed tasks_of (grammar.tasks (setting_of c.args.setting)) c.args.nodes.now c.loop-node.node-index
    c.node-item.result c.loop-node.parts.items _ _ _ _ c.loop-node-test.true c.loop-node.invariant
    (rw (← c.node-item.is) c.in_ok-tasks.ensures) in
    rw c.in_ok-push.ensures.items more

pub task_list-returns : goal.task_list-returns
task_list-returns t c =
    task_list_read (setting_of c.args.setting) c.args.nodes.now c.loop-node.node-index c.loop-node.parts.items _ _
    c.loop-node-test.false c.loop-node.invariant

pub list_tasks-returns-in-List : goal.list_tasks-returns-in-List
list_tasks-returns-in-List t c =
    reads_same _ c.ordered.result _ _ _ _
    (ordered-list (setting_of c.args.setting) c.args.span c.args.nodes.now c.in-Some.rest.now c.in-Some.first.now _ _
    c.in-Some.ensures.cases.0 c.in-List.is)
    c.ordered.ensures

pub list_tasks-returns-in-Name : goal.list_tasks-returns-in-Name
list_tasks-returns-in-Name t c =
    let nil : grammar.is_nil c.in-Name.key ≡ true = sym c.is.ensures ∙ c.if-is.true in
    reads_same _ c.ordered-in-Name.result _ _ _ _
    (ordered-none (setting_of c.args.setting) c.args.span c.args.nodes.now c.in-Some.rest.now c.in-Some.first.now
    c.in-Name.key _ c.in-Some.ensures.cases.0 c.in-Name.is nil)
    c.ordered-in-Name.ensures

pub list_tasks-returns-in-Name-2 : goal.list_tasks-returns-in-Name-2
list_tasks-returns-in-Name-2 t c =
    reads_same _ c.keyed.result _ _ _ _
    (ap (λ f. grammar.list_tasks (setting_of c.args.setting) c.args.span f c.args.scope.now.names.keys)
    (word_first c.args.nodes.now c.in-Some.rest.now c.in-Some.first.now c.in-Name-2.key
    c.in-Some.ensures.cases.0 c.in-Name-2.is))
    (c.keyed.ensures c.in-Some.first.now.span)

-- ---- calls that go to something smaller

pub list_tasks-ordered-requires : goal.list_tasks-ordered-requires
list_tasks-ordered-requires t c = (omega (arith, c.decreases), tt)

pub list_tasks-ordered-requires-in-Name : goal.list_tasks-ordered-requires-in-Name
list_tasks-ordered-requires-in-Name t c = (omega (arith, c.decreases), tt)

pub ordered-task_list-requires : goal.ordered-task_list-requires
ordered-task_list-requires t c = (omega (arith, c.decreases), tt)

pub keyed-ordered-requires : goal.keyed-ordered-requires
keyed-ordered-requires t c = (omega (arith, c.decreases), tt)

pub keyed-task_list-requires : goal.keyed-task_list-requires
keyed-task_list-requires t c = (omega (arith, c.decreases), tt)

-- ---- lists that begin with a word

pub keyed-returns-then-is : goal.keyed-returns-then-is
keyed-returns-then-is t c = λ w.
    let first : bytes_eq c.args.key.now (codes ":ordered") ≡ true = sym c.is.ensures ∙ c.if-is.true in
    reads_same tasks_of c.ordered.result _ _ _ _
    (tasks-ordered (setting_of c.args.setting) c.args.span w c.args.key.now (nodes_of c.args.rest.now)
    c.args.scope.now.names.keys c.requires first)
    c.ordered.ensures

pub keyed-returns-in_ok-task_list : goal.keyed-returns-in_ok-task_list
keyed-returns-in_ok-task_list t c = λ w.
    let none : bytes_eq c.args.key.now (codes ":ordered") ≡ false = sym c.is.ensures ∙ c.if-is.false in
    let second : bytes_eq c.args.key.now (codes ":unordered") ≡ true = sym c.is-else-is.ensures ∙ c.if-is-2.true in
    tasks-unordered (setting_of c.args.setting) c.args.span w c.args.key.now (nodes_of c.args.rest.now)
    c.args.scope.now.names.keys c.requires none second
    ∙ ap (λ r. and_then r (λ all. pure (Unordered all))) c.in_ok-task_list.ensures
    ∙ ap (λ ts. Ok (ts, c.task_list.new.scope.names.keys)) (sym (tasks_of-unordered c.in_ok-task_list.field-0))

pub keyed-returns-then-is-3 : goal.keyed-returns-then-is-3
keyed-returns-then-is-3 t c = λ w.
    let none : bytes_eq c.args.key.now (codes ":ordered") ≡ false = sym c.is.ensures ∙ c.if-is.false in
    let nor : bytes_eq c.args.key.now (codes ":unordered") ≡ false = sym c.is-else-is.ensures ∙ c.if-is-2.false in
    let third : bytes_eq c.args.key.now (codes ":immediate") ≡ true = sym c.is-else-is-2.ensures ∙ c.if-is-3.true in
    reads_same tasks_of c.immediate.result _ _ _ _
    (tasks-immediate (setting_of c.args.setting) c.args.span w c.args.key.now (nodes_of c.args.rest.now)
    c.args.scope.now.names.keys c.requires none nor third)
    c.immediate.ensures

pub keyed-returns-then-is_plain : goal.keyed-returns-then-is_plain
keyed-returns-then-is_plain t c = λ w.
    let none : bytes_eq c.args.key.now (codes ":ordered") ≡ false = sym c.is.ensures ∙ c.if-is.false in
    let nor : bytes_eq c.args.key.now (codes ":unordered") ≡ false = sym c.is-else-is.ensures ∙ c.if-is-2.false in
    let not : bytes_eq c.args.key.now (codes ":immediate") ≡ false = sym c.is-else-is-2.ensures ∙ c.if-is-3.false in
    let plain : is_plain c.args.key.now ≡ true = sym c.is_plain.ensures ∙ c.if-is_plain.true in
    reads_same tasks_of c.task.result _ _ _ _
    (tasks-plain (setting_of c.args.setting) c.args.span w c.args.key.now (nodes_of c.args.rest.now)
    c.args.scope.now.names.keys c.requires none nor not plain)
    c.task.ensures
