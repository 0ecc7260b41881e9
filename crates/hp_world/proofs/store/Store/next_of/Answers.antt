use Rattle.std.proofs.Common.{◌≡◌, ◌∙◌, inl, inr, length, get_or, None, Some, arith, rules}
use Rattle.std.proofs.lemmas.Bool.{cases_lt}
use Rattle.std.proofs.lemmas.Option.{get_or_from_slice_get}
use Rattle.hp_world.proofs.StageLemmas.{atom_below}
use Rattle.hp_world.proofs.NamedLemmas.{past_unnamed}
use Rattle.hp_world.proofs.store.Store.next_of.Goals as goal

pub is_named-requires : goal.is_named-requires
is_named-requires c = λ a e.
    let places = c.args.self.now.places.places in
    let i = c.loop-place.place in
    let read : get_or places i None ≡ Some a = get_or_from_slice_get places i c.at.result None c.at.ensures ∙ e in
    atom_below (length c.args.cells.now) places i a c.requires.atoms read

pub returns : goal.returns
returns c = λ i l k.
    let places = c.args.self.now.places.places in
    elim (cases_lt i (length places)) [
      | inl m ↦ c.loop-place.invariant i l (omega (arith, m, c.len-place-end.ensures, c.loop-place-test.false)) k
      | inr m ↦ past_unnamed c.args.cells.now c.args.name places i m k
    ]

pub loop-place-init : goal.loop-place-init
loop-place-init c = search rules
