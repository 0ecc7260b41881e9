use Rattle.std.proofs.Common.{◌+◌, ◌<◌, ◌^◌, length, ap, ◌∙◌, arith}
use Rattle.hp_syntax.specs.Terms.{term_nesting}
use Rattle.hp_cells.proofs.InternSteps.{nesting_of_key, after_insert}
use Rattle.hp_cells.proofs.KeyLemmas.{length_terms_of, one_term}
use Rattle.hp_cells.proofs.table.Table.intern.Goals as goal

pub overflow_cast-depth : goal.overflow_cast-depth
overflow_cast-depth c =
    let table = c.args.self.now in
    let many = length_terms_of table.names.keys table.keys.keys in
    let stands = c.requires.stands in
    let bound = nesting_of_key table.names.keys _ c.args.key stands.term c.requires.sound.cells stands.stands in
    omega (arith, stands.nests)

pub returns-clause-sound : goal.returns-clause-sound
returns-clause-sound c =
    let few : length c.args.self.now.keys.keys + 1 < 2 ^ 32 = omega arith in
    let clauses = c.in_ok-place.ensures in
    let at = c.requires.stands in
    (after_insert c.args.key at.term c.requires.sound at.stands few clauses.keys clauses.added clauses.stored
    c.reserve.ensures.items at.nests c.note_depth.ensures).0

pub returns-clause-ok : goal.returns-clause-ok
returns-clause-ok c = λ t stands.
    let few : length c.args.self.now.keys.keys + 1 < 2 ^ 32 = omega arith in
    let clauses = c.in_ok-place.ensures in
    let at = c.requires.stands in
    let same = one_term c.args.self.now.names.keys _ c.args.key at.term t at.stands stands in
    (after_insert c.args.key t c.requires.sound stands few clauses.keys clauses.added clauses.stored
    c.reserve.ensures.items (at.nests ∙ ap term_nesting same) c.note_depth.ensures).1
