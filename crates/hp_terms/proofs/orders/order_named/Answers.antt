use Rattle.std.proofs.Common.{rules}
use Rattle.hp_terms.proofs.orders.order_named.Goals as goal

pub returns-then-is-2 : goal.returns-then-is-2
returns-then-is-2 c = search rules
