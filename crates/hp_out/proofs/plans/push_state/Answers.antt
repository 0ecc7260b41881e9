use Rattle.std.proofs.Common.{◌++◌, ap, codes, refl}
use Rattle.hp_out.proofs.PageSteps.{first_not_put, rest_put, puts_same}
use Rattle.hp_out.proofs.ReportSteps.{count_line, atoms_text, guards_text, state_parts}
use Rattle.hp_out.proofs.plans.push_state.Goals as goal

-- the count of the atoms couldn't be put
pub returns-in_err-push_count-clause-puts : goal.returns-in_err-push_count-clause-puts
returns-in_err-push_count-clause-puts g c = λ n a k.
    let terms = c.args.cells.now in
    let s = c.args.world.now.now in
    first_not_put _ _ _ (count_line (codes "state ") c.live.result) (atoms_text terms s ++ guards_text terms s.guards)
    _ _ _ c.from_residual.ensures.0 c.in_err-push_count.was c.push_count.ensures.puts
    (state_parts n terms s c.live.result a k c.live.ensures)

-- the atoms couldn't be put behind their count
pub returns-in_err-push_atoms-clause-puts : goal.returns-in_err-push_atoms-clause-puts
returns-in_err-push_atoms-clause-puts g c = λ n a k.
    let terms = c.args.cells.now in
    let s = c.args.world.now.now in
    let both = atoms_text terms s ++ guards_text terms s.guards in
    let r = c.from_residual-in_err-push_atoms.result in
    rest_put r (count_line (codes "state ") c.live.result) both _ _ _ _ c.in_ok-push_count.ensures.puts
    (first_not_put r _ _ (atoms_text terms s) (guards_text terms s.guards) both _ _
    c.from_residual-in_err-push_atoms.ensures.0 c.in_err-push_atoms.was c.push_atoms.ensures.puts refl)
    (state_parts n terms s c.live.result a k c.live.ensures)

-- the atoms and then the protections
pub returns-clause-puts : goal.returns-clause-puts
returns-clause-puts g c = λ n a k.
    let terms = c.args.cells.now in
    let s = c.args.world.now.now in
    let both = atoms_text terms s ++ guards_text terms s.guards in
    let r = c.push_guards.result in
    rest_put r (count_line (codes "state ") c.live.result) both _ _ _ _ c.in_ok-push_count.ensures.puts
    (rest_put r (atoms_text terms s) (guards_text terms s.guards) both _ _ _ c.in_ok-push_atoms.ensures.puts
    (puts_same r _ (guards_text terms s.guards) _ _ (ap (guards_text terms) c.guards.ensures)
    c.push_guards.ensures.puts)
    refl)
    (state_parts n terms s c.live.result a k c.live.ensures)
