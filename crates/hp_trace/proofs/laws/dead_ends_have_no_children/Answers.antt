use Rattle.hp_trace.proofs.EndSteps.{reports}
use Rattle.hp_trace.proofs.laws.dead_ends_have_no_children.Goals as goal

pub returns : goal.returns
returns c = record {
  dead = λ rules t from most i xs x v are e f did. (reports rules t from most i xs x v are e f did).dead;
  found = λ rules t from most i xs x v are e f did. (reports rules t from most i xs x v are e f did).found;
}
