use Rattle.std.proofs.Common.{ap, cond, refl, sym}
use Rattle.hp_out.specs.Writing.{sink_run}
use Rattle.hp_syntax.specs.declared.limits.TheConstants.{GREATEST_DEPTH, GREATEST_PLAIN_DEPTH}
use Rattle.hp_syntax.specs.Views.{domain_of, problem_of}
use Rattle.hp_top.proofs.PlanEnds.{plans_wanted, planned_wanted, tells_same}
use Rattle.hp_top.proofs.serving.serve_plan_by_copies.Goals as goal

pub returns-clause-tells : goal.returns-clause-tells
returns-clause-tells g c =
    let rules = (domain_of c.args.loaded.now.domain).rules in
    let asked = c.args.asked in
    tells_same _ _ c.tell_in_pages.result
    (sink_run (g.K.Sink.faults c.args.out.now) (g.K.Sink.faults c.tell_in_pages.new.out) (g.K.Sink.bytes c.args.out.now)
    (g.K.Sink.bytes c.tell_in_pages.new.out))
    (plans_wanted c.wanted_by.result asked rules (problem_of c.args.loaded.now.problem).pairs c.wanted_by.ensures)
    (rw c.as_slice-pairs.ensures.value at (c.tell_in_pages.ensures.tells rules refl))

pub tell_in_pages-requires-clause-pairs : goal.tell_in_pages-requires-clause-pairs
tell_in_pages-requires-clause-pairs g c =
    rw c.as_slice-pairs.ensures.value
    (c.accepted_pairs_are_ground.ensures c.requires.text.0 (domain_of c.args.loaded.now.domain)
    (problem_of c.args.loaded.now.problem) c.requires.text.1 c.requires.checked)

pub tell_in_pages-requires-clause-wanted : goal.tell_in_pages-requires-clause-wanted
tell_in_pages-requires-clause-wanted g c =
    planned_wanted _ c.wanted_by.result c.args.asked c.wanted_by.ensures c.requires.asked
    (ap (λ b. cond b GREATEST_PLAIN_DEPTH GREATEST_DEPTH) (sym c.requires.plain))
