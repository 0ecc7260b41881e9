-- How many arguments a call takes.
use Rattle.hp_syntax.specs.Calls as plain
use Rattle.hp_check.specs.declared.calls.Arity.{Arity}
use Rattle.hp_check.specs.declared.calls.Arity.TheVariants as arities

abbrev pub arity_seen : Arity → plain.Arity
arity_seen arities.One = plain.One
arity_seen arities.Two = plain.Two
arity_seen arities.TwoOrMore = plain.TwoOrMore
