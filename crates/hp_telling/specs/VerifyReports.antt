-- What is told of the walk along a plan.
use Rattle.std.specs.Prelude.{ℕ, cond, List}
use Rattle.hp_out.specs.Lines.{derived_text, underived_text}
use Rattle.hp_syntax.specs.Report.{Answer, AtFault, ending_text}
use Rattle.hp_syntax.specs.declared.status.Status.TheVariants as status
use Rattle.hp_syntax.specs.Terms.{Term}
use Rattle.hp_syntax.specs.Walk.{Visit, count_told, told}
use Rattle.hp_verify.specs.Kept.{DerivedAt, Faulty, Said, Told, Underived, told_kept}

-- what is told of a plan by what is said of it, after so many decompositions: its cost and its path where it is derived
abbrev pub told_said : Said → ℕ → Answer
told_said (DerivedAt v) n = (derived_text v.node.cost (told v.path) (count_told n), status.Done)
told_said (Underived is_cut) n = (underived_text is_cut (count_told n), cond is_cut status.CutShort status.NoPlan)
told_said (Faulty f) n = (ending_text (AtFault f) 0 n, status.RunFault)

abbrev pub told_walk : Told → Answer
told_walk t = told_said t.said t.expansions

-- what is told of the visits of a tree along a plan
abbrev pub verify_report : List Term → List Visit → Answer
verify_report steps vs = told_walk (told_kept steps vs)
