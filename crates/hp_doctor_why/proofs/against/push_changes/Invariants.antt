use Rattle.std.proofs.Common.{◌≡◌, ◌++◌, drop}
use Rattle.hp_doctor_why.specs.Against.{changes}
use Rattle.hp_doctor_why.proofs.against.push_changes.Given as goal

abbrev pub invariant-loop-place : goal.invariant-loop-place
invariant-loop-place l =
    l.out.items ++ changes (drop l.place l.names) (drop l.place l.before) (drop l.place l.after)
    ≡ l.fn.out.items ++ changes l.names l.before l.after
