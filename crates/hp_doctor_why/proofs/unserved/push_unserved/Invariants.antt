use Rattle.std.proofs.Common.{◌≡◌, ◌++◌, drop, map}
use Rattle.std.specs.List.{flat_map}
use Rattle.hp_doctor.specs.Texts.{texts_of}
use Rattle.hp_lint.specs.LintViews.{remark_of}
use Rattle.hp_doctor_why.specs.Said.{unserved_text}
use Rattle.hp_doctor_why.proofs.unserved.push_unserved.Given as goal

abbrev pub invariant-loop-remark : goal.invariant-loop-remark
invariant-loop-remark l =
    l.out.items ++ flat_map (unserved_text (texts_of l.files)) (map remark_of (drop l.remark-index l.remarks))
    ≡ l.fn.out.items ++ flat_map (unserved_text (texts_of l.files)) (map remark_of l.remarks)
