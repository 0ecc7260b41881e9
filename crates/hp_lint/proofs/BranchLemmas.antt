-- Branches that are gone through one by one, and expressions that always give something.
use Rattle.std.proofs.Common.{◌≡◌, ℕ, ◌+◌, ◌<◌, Bool, true, false, ◌&&◌, ◌||◌, List, ◌∷◌, ◌++◌, length, get_or, drop, refl, ap, sym, ◌∙◌, append_assoc}
use Rattle.std.proofs.lemmas.List.{drop_more}
use Rattle.hp_syntax.specs.declared.pattern.Span.{Span}
use Rattle.hp_syntax.specs.declared.expression.Expr.{Expr}
use Rattle.hp_syntax.specs.declared.expression.ExprKind.{ExprKind, out-ExprKind}
use Rattle.hp_syntax.specs.declared.expression.ExprKind.TheFolds.{fold-ExprKind, fold_out-Expr, fold_out-ExprKind, map-ExprKind}
use Rattle.hp_syntax.specs.declared.expression.ExprKind.TheOpen.{ExprKind-F}
use Rattle.hp_syntax.specs.declared.expression.ExprKind.TheOpen as exprs
use Rattle.hp_syntax.specs.Syntax.{Expression}
use Rattle.hp_syntax.specs.Views.{expression_kind, expression_layer, expression_of, expressions_of}
use Rattle.hp_lint.specs.Branches.{always, all_always, any_always, expression_span}

form_of : ExprKind → Span → Expression
form_of = fold-ExprKind (Span → Expression) Expression expression_kind expression_layer

kind_span : (k : ExprKind-F (Span → Expression) Expression) (s : Span) → expression_span (expression_kind k s) ≡ s
kind_span (exprs.Atom a) s = refl
kind_span (exprs.And parts) s = refl
kind_span (exprs.Or parts) s = refl
kind_span (exprs.Not part) s = refl
kind_span (exprs.Forall vars range body) s = refl
kind_span (exprs.Assign v value) s = refl
kind_span (exprs.Call call) s = refl

-- what an expression stands for has the span of the expression
pub expression_span-of : (e : Expr) → expression_span (expression_of e) ≡ e.span
unfolding expression_of form_of
expression_span-of e =
    ap expression_span (fold_out-Expr (Span → Expression) Expression expression_kind expression_layer e)
    ∙ ap (λ k. expression_span (k e.span))
    (fold_out-ExprKind (Span → Expression) Expression expression_kind expression_layer e.kind)
    ∙ kind_span (map-ExprKind ExprKind Expr (Span → Expression) Expression form_of expression_of (out-ExprKind e.kind))
    e.span

module _ {X : Type 0} (xs : List X) (i : ℕ) (x : X) (below : i < length xs) (at : x ≡ get_or xs i x) where
  here : drop i xs ≡ x ∷ drop (i + 1) xs
  here = drop_more xs i x below ∙ ap (λ y. y ∷ drop (i + 1) xs) (sym at)

  -- one more part of a list that is made from what was known before each part leaves the whole as it was
  pub made_on_from : {S A : Type 0} (rest : S → List X → List A) (part : S → List A) (next : S → S) (s : S)
      (old new whole : List A) → (rest s (x ∷ drop (i + 1) xs) ≡ part s ++ rest (next s) (drop (i + 1) xs))
      → old ++ rest s (drop i xs) ≡ whole → new ≡ old ++ part s → new ++ rest (next s) (drop (i + 1) xs) ≡ whole
  made_on_from rest part next s old new whole step left put =
      let behind = rest (next s) (drop (i + 1) xs) in
      ap (λ zs. zs ++ behind) put
      ∙ (append_assoc old (part s) behind
      ∙ (ap (λ zs. old ++ zs) (sym (ap (rest s) here ∙ step)) ∙ left))

module _ (xs : List Expr) (i : ℕ) (x : Expr) (whole : Bool) (below : i < length xs) (at : x ≡ get_or xs i x) where
  by_first : (b c : Bool) → b ≡ true → (b && c) ≡ whole → c ≡ whole
  by_first true c h k = k
  by_first false c h k = absurd cc

  by_none : (b c : Bool) → b ≡ false → (b && c) ≡ whole → false ≡ whole
  by_none true c h k = absurd cc
  by_none false c h k = k

  by_other : (b c : Bool) → b ≡ false → (b || c) ≡ whole → c ≡ whole
  by_other true c h k = absurd cc
  by_other false c h k = k

  by_one : (b c : Bool) → b ≡ true → (b || c) ≡ whole → true ≡ whole
  by_one true c h k = k
  by_one false c h k = absurd cc

  all_here : all_always (expressions_of (drop i xs))
      ≡ (always (expression_of x) && all_always (expressions_of (drop (i + 1) xs)))
  unfolding always all_always
  all_here = ap (λ ys. all_always (expressions_of ys)) (here xs i x below at)

  any_here : any_always (expressions_of (drop i xs))
      ≡ (always (expression_of x) || any_always (expressions_of (drop (i + 1) xs)))
  unfolding always any_always
  any_here = ap (λ ys. any_always (expressions_of ys)) (here xs i x below at)

  module _ (left : all_always (expressions_of (drop i xs)) ≡ whole) where
    -- where the next part always gives something, all do where those behind it do
    pub all_on : always (expression_of x) ≡ true → all_always (expressions_of (drop (i + 1) xs)) ≡ whole
    all_on h = by_first (always (expression_of x)) _ h (sym all_here ∙ left)

    -- and where it doesn't, not all do
    pub not_all : always (expression_of x) ≡ false → false ≡ whole
    not_all h = by_none (always (expression_of x)) _ h (sym all_here ∙ left)

  module _ (left : any_always (expressions_of (drop i xs)) ≡ whole) where
    -- where the next part doesn't always give something, one does where one behind it does
    pub any_on : always (expression_of x) ≡ false → any_always (expressions_of (drop (i + 1) xs)) ≡ whole
    any_on h = by_other (always (expression_of x)) _ h (sym any_here ∙ left)

    -- and where it does, one does
    pub one_does : always (expression_of x) ≡ true → true ≡ whole
    one_does h = by_one (always (expression_of x)) _ h (sym any_here ∙ left)
