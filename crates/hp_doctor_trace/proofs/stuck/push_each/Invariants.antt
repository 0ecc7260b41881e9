use Rattle.std.proofs.Common.{◌≡◌, ◌++◌, drop, map}
use Rattle.std.specs.List.{flat_map}
use Rattle.hp_doctor.specs.Texts.{file_of}
use Rattle.hp_syntax.specs.Views.{domain_of}
use Rattle.hp_doctor_trace.specs.Failing.{failing_line, failing_of}
use Rattle.hp_doctor_trace.proofs.stuck.push_each.Given as goal

abbrev pub invariant-loop-one : goal.invariant-loop-one
invariant-loop-one l =
    let text = failing_line (file_of l.file) (domain_of l.domain).rules l.level in
    l.out.items ++ flat_map text (map failing_of (drop l.one-index l.failing))
    ≡ l.fn.out.items ++ flat_map text (map failing_of l.failing)
