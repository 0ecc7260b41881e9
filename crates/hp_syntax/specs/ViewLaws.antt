-- The views of patterns, expressions and task lists, variant by variant.
use Rattle.std.specs.Prelude.{◌≡◌, ℕ, ℤ, Option, Vec, Box}
use Rattle.std.specs.Global.{Global}
use Rattle.std.proofs.Common.{refl, ap, ◌∙◌}
use Rattle.hp_syntax.specs.declared.name.Name.{Name}
use Rattle.hp_syntax.specs.declared.pattern.Span.{Span}
use Rattle.hp_syntax.specs.declared.pattern.Tail.{Tail}
use Rattle.hp_syntax.specs.declared.pattern.Pat.{Pat}
use Rattle.hp_syntax.specs.declared.pattern.AtomPat.{AtomPat}
use Rattle.hp_syntax.specs.declared.pattern.PatKind.{PatKind, out-PatKind}
use Rattle.hp_syntax.specs.declared.pattern.PatKind.TheVariants as pats
use Rattle.hp_syntax.specs.declared.pattern.PatKind.TheVariants.{outs-Var, outs-Sym, outs-Num, outs-List, outs-Call}
use Rattle.hp_syntax.specs.declared.pattern.PatKind.TheFolds.{fold-PatKind, fold_out-Pat, fold_out-PatKind, map-PatKind}
use Rattle.hp_syntax.specs.declared.pattern.PatKind.TheOpen.{PatKind-F}
use Rattle.hp_syntax.specs.declared.pattern.PatKind.TheOpen as layers
use Rattle.hp_syntax.specs.declared.expression.Expr.{Expr}
use Rattle.hp_syntax.specs.declared.expression.ExprKind.{ExprKind, out-ExprKind}
use Rattle.hp_syntax.specs.declared.expression.ExprKind.TheVariants as exprs
use Rattle.hp_syntax.specs.declared.expression.ExprKind.TheVariants.{outs-Atom, outs-And, outs-Or, outs-Not, outs-Forall, outs-Assign}
use Rattle.hp_syntax.specs.declared.expression.ExprKind.TheFolds.{fold-ExprKind, fold_out-Expr, fold_out-ExprKind, map-ExprKind}
use Rattle.hp_syntax.specs.declared.expression.ExprKind.TheOpen.{ExprKind-F}
use Rattle.hp_syntax.specs.declared.tasks.TaskPat.{TaskPat}
use Rattle.hp_syntax.specs.declared.tasks.NetPat.{NetPat, out-NetPat}
use Rattle.hp_syntax.specs.declared.tasks.NetPat.TheVariants as nets
use Rattle.hp_syntax.specs.declared.tasks.NetPat.TheVariants.{outs-Task, outs-Ordered, outs-Unordered}
use Rattle.hp_syntax.specs.declared.tasks.NetPat.TheFolds.{fold_out-NetPat, map-NetPat}
use Rattle.hp_syntax.specs.declared.tasks.NetPat.TheOpen.{NetPat-F}
use Rattle.hp_syntax.specs.Changes.{pattern_span}
use Rattle.hp_syntax.specs.Syntax as plain
use Rattle.hp_syntax.specs.Syntax.{Pattern, Expression, Tasks}
use Rattle.hp_syntax.specs.Views.{pattern_kind, pattern_layer, pattern_of, patterns_of, atom_of, expression_kind, expression_layer, expression_of, expressions_of, tasks_layer, tasks_of, task_list_of}

-- ---- patterns

kind_of : PatKind → Span → Pattern
kind_of = fold-PatKind (Span → Pattern) Pattern pattern_kind pattern_layer

kind_stands : PatKind-F PatKind Pat → Span → Pattern
unfolding kind_of
kind_stands x = pattern_kind (map-PatKind PatKind Pat (Span → Pattern) Pattern kind_of pattern_of x)

by_kind : (p : Pat) (x : PatKind-F PatKind Pat) → out-PatKind p.kind ≡ x → pattern_of p ≡ kind_stands x p.span
unfolding kind_of kind_stands pattern_of
by_kind p x h =
    fold_out-Pat (Span → Pattern) Pattern pattern_kind pattern_layer p
    ∙ ap (λ k. k p.span) (fold_out-PatKind (Span → Pattern) Pattern pattern_kind pattern_layer p.kind
    ∙ ap (λ y. pattern_kind (map-PatKind PatKind Pat (Span → Pattern) Pattern kind_of pattern_of y)) h)

-- a pattern that is a variable stands for one
pub pattern_of-var : (p : Pat) (v : ℕ) → p.kind ≡ pats.Var v → pattern_of p ≡ plain.Variable p.span v
unfolding kind_stands
pattern_of-var p v h = by_kind p _ (ap out-PatKind h ∙ outs-Var v)

-- a pattern that is a symbol stands for one
pub pattern_of-sym : (p : Pat) (name : Name) → p.kind ≡ pats.Sym name → pattern_of p ≡ plain.Symbol p.span name
unfolding kind_stands
pattern_of-sym p name h = by_kind p _ (ap out-PatKind h ∙ outs-Sym name)

-- a pattern that is a number stands for one
pub pattern_of-num : (p : Pat) (n : ℤ) → p.kind ≡ pats.Num n → pattern_of p ≡ plain.Number p.span n
unfolding kind_stands
pattern_of-num p n h = by_kind p _ (ap out-PatKind h ∙ outs-Num n)

-- a pattern that is a list stands for the list of what its parts stand for
pub pattern_of-list : (p : Pat) (parts : Vec Pat Global) (tail : Option Tail) → p.kind ≡ pats.List parts tail
    → pattern_of p ≡ plain.Listing p.span (patterns_of parts.items) tail
unfolding kind_stands
pattern_of-list p parts tail h = by_kind p _ (ap out-PatKind h ∙ outs-List parts tail)

-- a pattern that is a call stands for the call on what its arguments stand for
pub pattern_of-call : (p : Pat) (name : Name) (args : Vec Pat Global) → p.kind ≡ pats.Call name args
    → pattern_of p ≡ plain.Call p.span name (patterns_of args.items)
unfolding kind_stands
pattern_of-call p name args h = by_kind p _ (ap out-PatKind h ∙ outs-Call name args)

-- a pattern of any kind has the span that it is made with
kind_span : (k : PatKind-F (Span → Pattern) Pattern) (s : Span) → pattern_span (pattern_kind k s) ≡ s
kind_span (layers.Var v) s = refl
kind_span (layers.Sym name) s = refl
kind_span (layers.Num n) s = refl
kind_span (layers.List parts tail) s = refl
kind_span (layers.Call name args) s = refl

-- what a pattern stands for has the span of the pattern
pub pattern_span-of : (p : Pat) → pattern_span (pattern_of p) ≡ p.span
unfolding kind_stands
pattern_span-of p =
    ap pattern_span (by_kind p (out-PatKind p.kind) refl)
    ∙ kind_span (map-PatKind PatKind Pat (Span → Pattern) Pattern kind_of pattern_of (out-PatKind p.kind)) p.span

-- ---- expressions

form_of : ExprKind → Span → Expression
form_of = fold-ExprKind (Span → Expression) Expression expression_kind expression_layer

form_stands : ExprKind-F ExprKind Expr → Span → Expression
unfolding form_of
form_stands x =
    expression_kind (map-ExprKind ExprKind Expr (Span → Expression) Expression form_of expression_of x)

by_form : (e : Expr) (x : ExprKind-F ExprKind Expr) → out-ExprKind e.kind ≡ x
    → expression_of e ≡ form_stands x e.span
unfolding form_of form_stands expression_of
by_form e x h =
    fold_out-Expr (Span → Expression) Expression expression_kind expression_layer e
    ∙ ap (λ k. k e.span) (fold_out-ExprKind (Span → Expression) Expression expression_kind expression_layer e.kind
    ∙ ap (λ y. expression_kind (map-ExprKind ExprKind Expr (Span → Expression) Expression form_of expression_of y)) h)

-- an expression that is an atom stands for 'the atom holds'
pub expression_of-atom : (e : Expr) (a : AtomPat) → e.kind ≡ exprs.Atom a
    → expression_of e ≡ plain.Holds e.span (atom_of a)
unfolding form_stands
expression_of-atom e a h = by_form e _ (ap out-ExprKind h ∙ outs-Atom a)

-- a conjunction stands for that of what its parts stand for
pub expression_of-and : (e : Expr) (parts : Vec Expr Global) → e.kind ≡ exprs.And parts
    → expression_of e ≡ plain.And e.span (expressions_of parts.items)
unfolding form_stands
expression_of-and e parts h = by_form e _ (ap out-ExprKind h ∙ outs-And parts)

-- a disjunction stands for that of what its parts stand for
pub expression_of-or : (e : Expr) (parts : Vec Expr Global) → e.kind ≡ exprs.Or parts
    → expression_of e ≡ plain.Or e.span (expressions_of parts.items)
unfolding form_stands
expression_of-or e parts h = by_form e _ (ap out-ExprKind h ∙ outs-Or parts)

-- a negation stands for that of what its part stands for
pub expression_of-not : (e : Expr) (part : Box Expr Global) → e.kind ≡ exprs.Not part
    → expression_of e ≡ plain.Not e.span (expression_of part.value)
unfolding form_stands
expression_of-not e part h = by_form e _ (ap out-ExprKind h ∙ outs-Not part)

-- a forall stands for that of what its range and its body stand for
pub expression_of-forall : (e : Expr) (vars : Vec ℕ Global) (range body : Box Expr Global)
    → e.kind ≡ exprs.Forall vars range body
    → expression_of e ≡ plain.Forall e.span vars.items (expression_of range.value) (expression_of body.value)
unfolding form_stands
expression_of-forall e vars range body h = by_form e _ (ap out-ExprKind h ∙ outs-Forall vars range body)

-- an assignment stands for that of what its value stands for
pub expression_of-assign : (e : Expr) (v : ℕ) (value : Pat) → e.kind ≡ exprs.Assign v value
    → expression_of e ≡ plain.Assign e.span v (pattern_of value)
unfolding form_stands
expression_of-assign e v value h = by_form e _ (ap out-ExprKind h ∙ outs-Assign v value)

-- an expression that is a call stands for the test of it
pub expression_of-call : (e : Expr) (call : Pat) → e.kind ≡ exprs.Call call
    → expression_of e ≡ plain.Test e.span (pattern_of call)
unfolding form_stands
expression_of-call e call h = by_form e _ (ap out-ExprKind h ∙ exprs.outs-Call call)

-- ---- tasks

tasks_stand : NetPat-F NetPat → Tasks
tasks_stand x = tasks_layer (map-NetPat NetPat Tasks tasks_of x)

by_tasks : (n : NetPat) (x : NetPat-F NetPat) → out-NetPat n ≡ x → tasks_of n ≡ tasks_stand x
unfolding tasks_stand tasks_of
by_tasks n x h = fold_out-NetPat Tasks tasks_layer n ∙ ap (λ y. tasks_layer (map-NetPat NetPat Tasks tasks_of y)) h

-- a task stands for its atom, immediate where it is
pub tasks_of-task : (t : TaskPat) → tasks_of (nets.Task t) ≡ plain.Task (atom_of t.atom) t.immediate
unfolding tasks_stand
tasks_of-task t = by_tasks (nets.Task t) _ (outs-Task t)

-- an ordered task list stands for that of what its parts stand for
pub tasks_of-ordered : (parts : Vec NetPat Global)
    → tasks_of (nets.Ordered parts) ≡ plain.Ordered (task_list_of parts.items)
unfolding tasks_stand
tasks_of-ordered parts = by_tasks (nets.Ordered parts) _ (outs-Ordered parts)

-- an unordered task list stands for that of what its parts stand for
pub tasks_of-unordered : (parts : Vec NetPat Global)
    → tasks_of (nets.Unordered parts) ≡ plain.Unordered (task_list_of parts.items)
unfolding tasks_stand
tasks_of-unordered parts = by_tasks (nets.Unordered parts) _ (outs-Unordered parts)
