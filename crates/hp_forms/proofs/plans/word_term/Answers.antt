use Rattle.std.proofs.Common.{◌≡◌, ◌∙◌, ap, sym, refl, ℕ, List, true, false, bytes_eq, codes, Ok}
use Rattle.hp_syntax.specs.declared.pattern.Span.{Span}
use Rattle.hp_syntax.specs.Grammar.{is_nil}
use Rattle.hp_syntax.specs.GroundViews.{grounds_of, ground_of-list, ground_of-sym}
use Rattle.hp_syntax.specs.Names.{is_variable}
use Rattle.hp_syntax.specs.Terms.{Symbol, Listed, NoTerm}
use Rattle.hp_forms.specs.PlanForms.{word_term}
use Rattle.hp_forms.proofs.plans.word_term.Goals as goal

module _ (s : Span) (text : List ℕ) (dotless : bytes_eq text (codes ".") ≡ false) where
  word-list : is_nil text ≡ true → word_term s text ≡ Ok (Listed NoTerm)
  unfolding word_term
  word-list nil = rw (dotless, nil) refl

  word-symbol : is_nil text ≡ false → is_variable text ≡ false → word_term s text ≡ Ok (Symbol text)
  unfolding word_term
  word-symbol some fixed = rw (dotless, some, fixed) refl

pub returns-then-is-2 : goal.returns-then-is-2
returns-then-is-2 c =
    word-list c.args.span c.args.name.now (sym c.is.ensures ∙ c.if-is.false) (sym c.is-else-is.ensures ∙ c.if-is-2.true)
    ∙ ap Ok (sym (ground_of-list c.new.result ∙ ap (λ gs. Listed (grounds_of gs)) c.new.ensures.items))

pub returns-in_ok-copy : goal.returns-in_ok-copy
returns-in_ok-copy c =
    word-symbol c.args.span c.args.name.now (sym c.is.ensures ∙ c.if-is.false)
    (sym c.is-else-is.ensures ∙ c.if-is-2.false) (sym c.is_variable.ensures ∙ c.if-is_variable.false)
    ∙ ap (λ name. Ok (Symbol name)) (sym c.in_ok-copy.ensures.same)
    ∙ ap Ok (sym (ground_of-sym c.in_ok-copy.field-0))
