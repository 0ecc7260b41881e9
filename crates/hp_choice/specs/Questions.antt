-- What parts of a conjunction are asked, from where a question starts, and which answers are right.
use Rattle.std.specs.Prelude.{◌≡◌, ℕ, Bool, List, Option, Some, IfSome, Vec}
use Rattle.std.specs.Global.{Global}
use Rattle.std.specs.Option.{option_map}
use Rattle.hp_syntax.specs.declared.pattern.Ground.{Ground}
use Rattle.hp_syntax.specs.declared.pattern.Span.{Span}
use Rattle.hp_syntax.specs.Events.{State, axioms_of, finding}
use Rattle.hp_syntax.specs.Syntax.{And, Expression, Expressions, Rule}
use Rattle.hp_syntax.specs.Values.{Bindings}
use Rattle.hp_syntax.specs.Views.{as_expressions}
use Rattle.hp_code.specs.CodeViews.{CodeView, beside, rule_nodes, rules_in}
use Rattle.hp_suspended.specs.Nodes.{expressions_in}
use Rattle.hp_choice.specs.declared.asking.Finding.{Finding}
use Rattle.hp_choice.specs.declared.asking.Prefix.{Prefix}
use Rattle.hp_choice.specs.declared.first.Test.{Test}
use Rattle.hp_choice.specs.declared.starting.Conjuncts.{Conjuncts}
use Rattle.hp_choice.specs.declared.starting.Start.{Start}
use Rattle.hp_choice.specs.Asking.{along, events_under, finding_of, past}
use Rattle.hp_choice.specs.FirstSatisfier.{first_that, values_of}
use Rattle.hp_choice.specs.Starting.{StartsFrom, levels_from}
use Rattle.hp_choice.specs.Tests.{Passes}

-- all of them together come to this
abbrev pub Finds : CodeView → ℕ → State → Conjuncts → Start → Finding → Type 0
Finds c nest st x start f =
    (r : Rule) (s : Span) (ps : Expressions) (o : Option Bindings) → beside x.rule (rule_nodes c) (rules_in c) ≡ Some r
    → expressions_in c x.first x.end ≡ Some ps → StartsFrom c nest st r start o
    → finding_of f ≡ finding (events_under (rules_in c) (levels_from nest start) st (And s ps) o)

-- so many of the first parts are satisfied one after another, and behind them is this index; there is no answer where
-- there are no bindings to start from
pub record GoesAlong (c : CodeView) (nest : ℕ) (st : State) (x : Conjuncts) (start : Start) (o : Option Prefix)
    : Type 0 where
  pub count : (r : Rule) (ps : List Expression) (e : Option Bindings)
      → beside x.rule (rule_nodes c) (rules_in c) ≡ Some r
      → expressions_in c x.first x.end ≡ Some (as_expressions ps) → StartsFrom c nest st r start e
      → option_map (λ p. p.count) o
      ≡ option_map (along (axioms_of (rules_in c)) (levels_from nest start) st ps) e
  pub end : IfSome o (λ p. p.end ≡ past c.nodes x.first p.count)

-- the values are those of the first satisfier of all parts together that passes a test
abbrev pub GivesFirst : CodeView → ℕ → State → Conjuncts → Start → Test → Option (Vec (Option Ground) Global) → Type 0
GivesFirst c nest st x start test o =
    (r : Rule) (s : Span) (ps : Expressions) (e : Option Bindings) (passes : Bindings → Bool)
    → beside x.rule (rule_nodes c) (rules_in c) ≡ Some r → expressions_in c x.first x.end ≡ Some ps
    → StartsFrom c nest st r start e → Passes c (levels_from nest start) st test passes
    → option_map values_of o
    ≡ first_that passes (events_under (rules_in c) (levels_from nest start) st (And s ps) e)
