-- A remark on what looks wrong.
use Rattle.std.specs.Prelude.{ℕ, Bool, false, List, [], ◌∷◌, Option}
use Rattle.hp_syntax.specs.declared.pattern.Span.{Span}
use Rattle.hp_lint.specs.declared.report.Concern.{Concern}

-- what is wrong, in which text and where, and the name that it is about, where it is about one
pub record Remark : Type 0 where
  pub concern : Concern
  pub in_problem : Bool
  pub span : Span
  pub name : Option (List ℕ)

abbrev pub remark : Concern → Bool → Span → Option (List ℕ) → List Remark
remark concern in_problem span name =
    record { concern = concern; in_problem = in_problem; span = span; name = name } ∷ []

abbrev pub in_domain : Concern → Span → Option (List ℕ) → List Remark
in_domain concern span name = remark concern false span name
