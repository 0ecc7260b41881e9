use Rattle.std.proofs.Common.{◌≡◌, ◌++◌, drop, map}
use Rattle.std.specs.List.{flat_map}
use Rattle.hp_syntax.specs.Views.{domain_of}
use Rattle.hp_doctor.specs.Texts.{texts_of}
use Rattle.hp_obstacles.specs.Obstacles.{unconcluded_of}
use Rattle.hp_doctor_why.specs.Said.{unconcluded_text}
use Rattle.hp_doctor_why.proofs.axioms.push_all_unconcluded.Given as goal

abbrev pub invariant-loop-axiom : goal.invariant-loop-axiom
invariant-loop-axiom l =
    let text = unconcluded_text (texts_of l.files) (domain_of l.domain) in
    l.out.items ++ flat_map text (map unconcluded_of (drop l.axiom-index l.axioms))
    ≡ l.fn.out.items ++ flat_map text (map unconcluded_of l.axioms)
