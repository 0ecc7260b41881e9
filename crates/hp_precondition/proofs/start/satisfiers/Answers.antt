use Rattle.std.proofs.Common.{◌+◌, List, [], cond, sym, subst, ap, ◌∙◌}
use Rattle.hp_syntax.specs.Events.{Event}
use Rattle.hp_syntax.specs.Preconditions.{keyed, sorted_events, up_to_sat}
use Rattle.hp_syntax.specs.Syntax as syntax
use Rattle.hp_syntax.specs.Views.{key_of}
use Rattle.hp_eval.specs.Slotted.{bindings_of}
use Rattle.hp_gen.specs.GenLaws.{Suits, rest_of}
use Rattle.hp_gen.specs.declared.generator.Gen.{Gen}
use Rattle.hp_pick.specs.Heard.{SuitsEither, rest_in_order}
use Rattle.hp_pick.specs.declared.first.First.{First}
use Rattle.hp_pick.specs.declared.sorted.Sorted.{Sorted}
use Rattle.hp_nodes.specs.NodeViews.{laid_of, operation_of}
use Rattle.hp_suspended.specs.Nodes.{expression_at}
use Rattle.hp_suspended.specs.SceneViews.{code_in, setting_of}
use Rattle.hp_suspended.specs.Settings.{axioms_in, state_in}
use Rattle.hp_precondition.proofs.NothingLemmas.{nothing_met}
use Rattle.hp_precondition.proofs.PreconditionLemmas.{within, is_read, made_by, no_other, has_expression, taken, plain_events, first_events, sorted_by}
use Rattle.hp_precondition.proofs.start.satisfiers.Goals as goal

pub node_at-requires : goal.node_at-requires
node_at-requires c = within (code_in c.args.scene.now) c.args.node c.requires.node

pub asks_nothing-requires : goal.asks_nothing-requires
asks_nothing-requires c =
    let s = c.args.scene.now in
    (has_expression (code_in s) c.args.node s.code.now.kept c.requires.node (laid_of c.node_at.result.now)
    c.node_at.ensures.is syntax.Plain (ap (λ o. made_by (operation_of o)) c.in-Plain.is)).expression

pub returns-then-asks_nothing-clause-rest : goal.returns-then-asks_nothing-clause-rest
returns-then-asks_nothing-clause-rest c = λ p there.
    let s = c.args.scene.now in
    let w = setting_of s c.args.cells.now in
    let e = bindings_of c.args.cells.now c.args.slots.now in
    c.start.ensures.rest
    ∙ taken (axioms_in w) c.args.nest (state_in w) e (code_in s) c.args.node syntax.Plain (λ xs. xs)
    (plain_events (axioms_in w) c.args.nest (state_in w) e)
    (has_expression (code_in s) c.args.node s.code.now.kept c.requires.node (laid_of c.node_at.result.now)
    c.node_at.ensures.is syntax.Plain (ap (λ o. made_by (operation_of o)) c.in-Plain.is))
    _ (nothing_met (axioms_in w) c.args.nest (state_in w) e (expression_at (code_in s) (c.args.node + 1))
    (sym c.asks_nothing.ensures ∙ c.if-asks_nothing.true)) p there

pub start-requires-in-Plain-clause-node : goal.start-requires-in-Plain-clause-node
start-requires-in-Plain-clause-node c =
    let s = c.args.scene.now in
    (has_expression (code_in s) c.args.node s.code.now.kept c.requires.node (laid_of c.node_at.result.now)
    c.node_at.ensures.is syntax.Plain (ap (λ o. made_by (operation_of o)) c.in-Plain.is)).expression

pub start-requires-in-First-clause-node : goal.start-requires-in-First-clause-node
start-requires-in-First-clause-node c =
    let s = c.args.scene.now in
    (has_expression (code_in s) c.args.node s.code.now.kept c.requires.node (laid_of c.node_at.result.now)
    c.node_at.ensures.is syntax.First (ap (λ o. made_by (operation_of o)) c.in-First.is)).expression

pub start-requires-in-Sort-clause-node : goal.start-requires-in-Sort-clause-node
start-requires-in-Sort-clause-node c =
    let s = c.args.scene.now in
    (has_expression (code_in s) c.args.node s.code.now.kept c.requires.node (laid_of c.node_at.result.now)
    c.node_at.ensures.is (syntax.Sorted (key_of c.in-Sort.key))
    (ap (λ o. made_by (operation_of o)) c.in-Sort.is)).expression

pub unreachable-requires : goal.unreachable-requires
unreachable-requires c =
    no_other c.node_at.result.now.op _ _
    (is_read (code_in c.args.scene.now) c.args.node c.requires.node (laid_of c.node_at.result.now) c.node_at.ensures.is)
    c.in_default.not-Plain c.in_default.not-First c.in_default.not-Sort

pub returns-in_ok-inner-in-Plain-2-clause-rest : goal.returns-in_ok-inner-in-Plain-2-clause-rest
returns-in_ok-inner-in-Plain-2-clause-rest c = λ p there.
    let s = c.args.scene.now in
    let w = setting_of s c.args.cells.now in
    let e = bindings_of c.args.cells.now c.args.slots.now in
    ap (λ g. rest_of g s c.args.cells.now c.args.slots.now) c.in_ok-inner-in-Plain-2.ensures.ok
    ∙ taken (axioms_in w) c.args.nest (state_in w) e (code_in s) c.args.node syntax.Plain (λ xs. xs)
    (plain_events (axioms_in w) c.args.nest (state_in w) e)
    (has_expression (code_in s) c.args.node s.code.now.kept c.requires.node (laid_of c.node_at.result.now)
    c.node_at.ensures.is syntax.Plain (ap (λ o. made_by (operation_of o)) c.in-Plain.is))
    _ c.in_ok-inner-in-Plain.ensures.rest p there

pub returns-in_ok-first-in-First-clause-rest : goal.returns-in_ok-first-in-First-clause-rest
returns-in_ok-first-in-First-clause-rest c = λ p there.
    let s = c.args.scene.now in
    let w = setting_of s c.args.cells.now in
    let e = bindings_of c.args.cells.now c.args.slots.now in
    ap (λ (f : First Gen). cond f.ended [] (up_to_sat (rest_of f.inner s c.args.cells.now c.args.slots.now))) c.in_ok-first-in-First.ensures.ok
    ∙ c.new-in-First.ensures.rest s c.args.cells.now c.args.slots.now
    ∙ taken (axioms_in w) c.args.nest (state_in w) e (code_in s) c.args.node syntax.First up_to_sat
    (first_events (axioms_in w) c.args.nest (state_in w) e)
    (has_expression (code_in s) c.args.node s.code.now.kept c.requires.node (laid_of c.node_at.result.now)
    c.node_at.ensures.is syntax.First (ap (λ o. made_by (operation_of o)) c.in-First.is))
    _ c.in_ok-inner-in-First.ensures.rest p there

pub returns-in_ok-first-in-First-clause-suits : goal.returns-in_ok-first-in-First-clause-suits
returns-in_ok-first-in-First-clause-suits c =
    subst (λ (f : First Gen). Suits f.inner c.args.scene.now c.args.cells.now) (sym c.in_ok-first-in-First.ensures.ok)
    (c.new-in-First.ensures.suits c.args.scene.now c.args.cells.now c.in_ok-inner-in-First.ensures.suits)

pub returns-in_ok-sorted-in-Sort-clause-rest : goal.returns-in_ok-sorted-in-Sort-clause-rest
returns-in_ok-sorted-in-Sort-clause-rest c = λ p there.
    let s = c.args.scene.now in
    let w = setting_of s c.args.cells.now in
    let e = bindings_of c.args.cells.now c.args.slots.now in
    let k = key_of c.in-Sort.key in
    let heard_of = λ (xs : List Event). sorted_events k.order (keyed k xs) in
    ap (λ (x : Sorted Gen). rest_in_order (key_of x.key) (rest_of x.inner s c.args.cells.now c.args.slots.now)
    c.args.cells.now x.heard) c.in_ok-sorted-in-Sort.ensures.ok
    ∙ c.new-sorted.ensures.rest s c.args.cells.now c.args.slots.now
    ∙ ap (λ (x : syntax.Key). sorted_events x.order (keyed x
    (rest_of c.in_ok-inner-in-Sort.inner s c.args.cells.now c.args.slots.now))) c.in_ok-key-in-Sort.ensures.same
    ∙ taken (axioms_in w) c.args.nest (state_in w) e (code_in s) c.args.node (syntax.Sorted k) heard_of
    (sorted_by (axioms_in w) c.args.nest (state_in w) e k)
    (has_expression (code_in s) c.args.node s.code.now.kept c.requires.node (laid_of c.node_at.result.now)
    c.node_at.ensures.is (syntax.Sorted k) (ap (λ o. made_by (operation_of o)) c.in-Sort.is))
    _ c.in_ok-inner-in-Sort.ensures.rest p there

pub returns-in_ok-sorted-in-Sort-clause-suits : goal.returns-in_ok-sorted-in-Sort-clause-suits
returns-in_ok-sorted-in-Sort-clause-suits c =
    subst (λ (x : Sorted Gen). SuitsEither (Suits x.inner c.args.scene.now c.args.cells.now) x.heard)
    (sym c.in_ok-sorted-in-Sort.ensures.ok)
    (c.new-sorted.ensures.suits c.args.scene.now c.args.cells.now c.in_ok-inner-in-Sort.ensures.suits)
