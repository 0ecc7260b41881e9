use Rattle.std.proofs.Common.{◌≡◌, ◌++◌, drop, map, option_map}
use Rattle.std.specs.Prelude.{zip}
use Rattle.std.specs.List.{flat_map}
use Rattle.hp_syntax.specs.Views.{domain_of}
use Rattle.hp_doctor.specs.Texts.{texts_of}
use Rattle.hp_doctor_why.specs.Said.{end_text}
use Rattle.hp_doctor_why.specs.Whys.{kept}
use Rattle.hp_doctor_why.proofs.ends.push_each.Given as goal

abbrev pub invariant-loop-place : goal.invariant-loop-place
invariant-loop-place l =
    let text = end_text (texts_of l.files) (domain_of l.domain) in
    let others = map (option_map kept) l.reasons in
    l.out.items ++ flat_map text (zip (drop l.place l.ends) (drop l.place others))
    ≡ l.fn.out.items ++ flat_map text (zip l.ends others)
