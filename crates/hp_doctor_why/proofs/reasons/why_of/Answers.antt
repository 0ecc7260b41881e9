use Rattle.std.proofs.Common.{ap, map, ◌∙◌}
use Rattle.hp_dead_ends.specs.declared.searching.DeadEnd.{DeadEnd}
use Rattle.hp_doctor_why.specs.Reasons.{reason_of}
use Rattle.hp_doctor_why.specs.Searches.{tree_searched}
use Rattle.hp_doctor_why.proofs.reasons.why_of.Goals as goal

pub returns : goal.returns
returns c =
    let t = tree_searched c.args.search in
    record {
      found = c.in_ok-found.ensures.found;
      dead = c.in_ok-found.ensures.dead;
      blame = c.in_ok-blame.ensures.is;
      cut = c.in_ok-cut.ensures.cut;
      reasons =
          c.in_ok-reasons.ensures
          ∙ ap (map (λ (e : DeadEnd). reason_of t e.path.items)) c.as_slice.ensures.value;
    }
