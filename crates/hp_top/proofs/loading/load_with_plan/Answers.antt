use Rattle.std.proofs.Common.{map, refl, subst}
use Rattle.hp_io.specs.declared.folder.Input.TheVariants as inputs
use Rattle.hp_syntax.specs.GroundViews.{ground_of}
use Rattle.hp_syntax.specs.Views.{domain_of, problem_of}
use Rattle.hp_top.specs.Loading.{Reads}
use Rattle.hp_top.specs.Outcome.{Stopped, Went, steps_form}
use Rattle.hp_top.proofs.LoadingSteps.{both_later, stops_since}
use Rattle.hp_top.proofs.loading.load_with_plan.Goals as goal

pub returns-in-Err-clause-loads : goal.returns-in-Err-clause-loads
returns-in-Err-clause-loads g c = Stopped c.in-Err.cause c.in-Err.ensures.loads refl

pub returns-in-Ok-load_steps-clause-loads : goal.returns-in-Ok-load_steps-clause-loads
returns-in-Ok-load_steps-clause-loads g c =
    let l = c.in-Ok.files in
    let steps = map ground_of c.in-Ok-load_steps.steps.items in
    Went (domain_of l.domain, problem_of l.problem)
    (both_later (g.F.Folder.file c.args.folder.now) (g.F.Folder.faults c.args.folder.now)
    (g.F.Folder.faults c.load.new.folder) (g.F.Folder.faults c.load_steps.new.folder) c.args.asked.domain.now
    c.args.asked.problem.now (domain_of l.domain, problem_of l.problem) c.in-Ok.ensures.loads)
    (Went steps
    (subst (λ file. Reads steps_form file steps) (c.load.ensures.files c.args.asked.plan.now)
    c.in-Ok-load_steps.ensures.steps)
    refl)

pub returns-in-Err-load_steps-clause-loads : goal.returns-in-Err-load_steps-clause-loads
returns-in-Err-load_steps-clause-loads g c =
    let l = c.in-Ok.files in
    Went (domain_of l.domain, problem_of l.problem)
    (both_later (g.F.Folder.file c.args.folder.now) (g.F.Folder.faults c.args.folder.now)
    (g.F.Folder.faults c.load.new.folder) (g.F.Folder.faults c.load_steps.new.folder) c.args.asked.domain.now
    c.args.asked.problem.now (domain_of l.domain, problem_of l.problem) c.in-Ok.ensures.loads)
    (Stopped c.in-Err-load_steps.cause
    (stops_since inputs.Plan steps_form _ _ _ _ _ _ c.load.ensures.later
    (c.load.ensures.files c.args.asked.plan.now) c.in-Err-load_steps.ensures.stops)
    refl)
