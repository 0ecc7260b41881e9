-- The term that a value stands for, and the bindings that values are.
use Rattle.std.specs.Prelude.{Bool, cond, List, map, Option, Some, None, option_map}
use Rattle.hp_syntax.specs.GroundViews.{grounds_of}
use Rattle.hp_syntax.specs.Matching.{match_parts}
use Rattle.hp_syntax.specs.declared.pattern.Tail.{Tail}
use Rattle.hp_syntax.specs.Syntax.{Patterns}
use Rattle.hp_syntax.specs.Terms.{Term, Symbol, Number, Listed}
use Rattle.hp_syntax.specs.Values.{Bindings}
use Rattle.hp_mismatch.specs.declared.values.Value.{Value}
use Rattle.hp_mismatch.specs.declared.values.Value.TheVariants as values

abbrev pub value_of : Value → Term
value_of (values.Sym name) = Symbol name.now
value_of (values.Num n) = Number n
value_of (values.List terms) = Listed (grounds_of terms.now)

abbrev pub bindings_of : List (Option Value) → Bindings
bindings_of vs = map (option_map value_of) vs

-- the bindings where an attempt ends well, and none otherwise
abbrev pub extended : Bool → Bindings → Option Bindings
extended does e = cond does (Some e) None

-- patterns match the parts of a list, and no other term
abbrev pub match_listed : Patterns → Option Tail → Term → Bindings → Option Bindings
match_listed ps tail (Symbol name) e = None
match_listed ps tail (Number n) e = None
match_listed ps tail (Listed ts) e = match_parts ps tail ts e
