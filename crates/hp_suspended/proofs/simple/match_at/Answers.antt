use Rattle.std.proofs.Common.{◌<◌, length, Some, None, ap, sym, ◌∙◌, refl}
use Rattle.std.proofs.lemmas.Option.{get_or_from_slice_get, same_Some}
use Rattle.hp_syntax.specs.Events.{sat_if}
use Rattle.hp_syntax.specs.Matching.{match_atom}
use Rattle.hp_syntax.specs.Views.{atom_of}
use Rattle.hp_eval.specs.GoalViews.{term_at}
use Rattle.hp_eval.specs.Slotted.{bindings_of}
use Rattle.hp_eval.proofs.CellViews.{named_at}
use Rattle.hp_eval.proofs.SlotLemmas.{match_failed, match_made}
use Rattle.hp_world.proofs.StageLemmas.{atom_below}
use Rattle.hp_suspended.proofs.simple.match_at.Goals as goal

pub match_atom-requires-clause-atom : goal.match_atom-requires-clause-atom
match_atom-requires-clause-atom c =
    let places = c.args.world.now.now.places in
    atom_below (length c.args.cells.now) places c.args.place c.in-Some.held c.requires.atoms
    (get_or_from_slice_get places c.args.place (Some c.in-Some.held) None c.in-Some.ensures)

pub returns-then-match_atom-clause-bound : goal.returns-then-match_atom-clause-bound
returns-then-match_atom-clause-bound c =
    let terms = c.args.cells.now in
    let places = c.args.world.now.now.places in
    let held = c.in-Some.held in
    let within : held < length terms =
    atom_below (length terms) places c.args.place held c.requires.atoms
    (get_or_from_slice_get places c.args.place (Some held) None c.in-Some.ensures) in
    let m = c.match_atom.ensures.matched (term_at terms held) (named_at terms held within) in
    (refl, (match_made c.match_atom.result _ terms c.args.slots.now c.match_atom.new.slots c.if-match_atom.true m).1)

pub returns-then-match_atom-clause-gives : goal.returns-then-match_atom-clause-gives
returns-then-match_atom-clause-gives c = λ other stands.
    let terms = c.args.cells.now in
    let places = c.args.world.now.now.places in
    let held = c.in-Some.held in
    let within : held < length terms =
    atom_below (length terms) places c.args.place held c.requires.atoms
    (get_or_from_slice_get places c.args.place (Some held) None c.in-Some.ensures) in
    let m = c.match_atom.ensures.matched (term_at terms held) (named_at terms held within) in
    let made =
    match_made c.match_atom.result _ terms c.args.slots.now c.match_atom.new.slots c.if-match_atom.true m in
    ap (λ i. sat_if (match_atom (atom_of c.args.atom.now) (term_at terms i) (bindings_of terms c.args.slots.now)))
    (same_Some other held (same_Some (Some other) (Some held) (sym stands ∙ c.in-Some.ensures)))
    ∙ ap sat_if made.0

pub returns-else-match_atom-clause-bound : goal.returns-else-match_atom-clause-bound
returns-else-match_atom-clause-bound c =
    let terms = c.args.cells.now in
    let places = c.args.world.now.now.places in
    let held = c.in-Some.held in
    let within : held < length terms =
    atom_below (length terms) places c.args.place held c.requires.atoms
    (get_or_from_slice_get places c.args.place (Some held) None c.in-Some.ensures) in
    let m = c.match_atom.ensures.matched (term_at terms held) (named_at terms held within) in
    (match_failed c.match_atom.result _ terms c.args.slots.now c.match_atom.new.slots c.if-match_atom.false m).1
