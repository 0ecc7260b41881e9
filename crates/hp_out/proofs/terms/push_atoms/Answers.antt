use Rattle.std.proofs.Common.{◌≡◌, ◌≤◌, ◌∙◌, None, Some, arith, get_or, length}
use Rattle.std.proofs.lemmas.Option.{get_or_from_slice_get, slice_get_within}
use Rattle.hp_world.proofs.StageLemmas.{atom_below}
use Rattle.hp_out.proofs.PageSteps.{put_more, next_not_put, put_all}
use Rattle.hp_out.proofs.TermSteps.{places_text, places_joined, one_place}
use Rattle.hp_out.proofs.terms.push_atoms.Goals as goal

pub push_place-requires : goal.push_place-requires
push_place-requires g c = λ a e.
    let places = c.args.world.now.now.places in
    let i = c.loop-place.place in
    let read : get_or places i None ≡ Some a = get_or_from_slice_get places i c.at.result None c.at.ensures ∙ e in
    atom_below (length c.args.cells.now) places i a c.requires.atoms read

-- the lines of the earlier places were put, and that of this one couldn't be
pub returns-in_err-push_place-clause-puts : goal.returns-in_err-push_place-clause-puts
returns-in_err-push_place-clause-puts g c =
    let terms = c.args.cells.now in
    let places = c.args.world.now.now.places in
    let i = c.loop-place.place in
    next_not_put (places_text terms) (places_joined terms) _ _ _ places i c.at.result _ _ _ _ c.from_residual.ensures.0
    c.in_err-push_place.was (slice_get_within places i c.at.result c.at.ensures)
    (one_place terms places i c.at.result c.at.ensures) c.loop-place.invariant.put c.push_place.ensures.puts

pub loop-place-preserved : goal.loop-place-preserved
loop-place-preserved g c =
    let terms = c.args.cells.now in
    let places = c.args.world.now.now.places in
    let i = c.loop-place.place in
    record {
      put =
          put_more (places_text terms) (places_joined terms) places i c.at.result _ _ _ _
          (slice_get_within places i c.at.result c.at.ensures)
          (one_place terms places i c.at.result c.at.ensures) c.loop-place.invariant.put
          c.in_ok-push_place.ensures.puts;
      later = omega (arith, c.loop-place.invariant.later, c.in_ok-push_place.ensures.later);
    }

pub returns-clause-puts : goal.returns-clause-puts
returns-clause-puts g c =
    let terms = c.args.cells.now in
    let places = c.args.world.now.now.places in
    let all : length places ≤ c.loop-place.place =
    omega (arith, c.loop-place-test.false, c.places-place-end.ensures) in
    put_all (places_text terms) (places_joined terms) places c.loop-place.place _ _ all c.loop-place.invariant.put
