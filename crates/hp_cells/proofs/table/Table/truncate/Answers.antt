use Rattle.std.proofs.Common.{◌≤◌, length, ap, ◌∙◌, arith}
use Rattle.hp_cells.specs.Keys.{terms_of}
use Rattle.hp_cells.proofs.KeyLemmas.{length_terms_of, terms_of_take}
use Rattle.hp_cells.proofs.InternSteps.{interned_take}
use Rattle.hp_cells.proofs.table.Table.truncate.Goals as goal

pub returns-clause-sound : goal.returns-clause-sound
returns-clause-sound c =
    let table = c.args.self.now in
    let many = length_terms_of table.names.keys table.keys.keys in
    let within : c.args.count ≤ length table.keys.keys = omega arith in
    rw (c.truncate.ensures.keys, c.truncate-2.ensures.items)
    (interned_take c.requires.sound c.args.count c.requires.some within)

pub returns-clause-first : goal.returns-clause-first
returns-clause-first c =
    let table = c.args.self.now in
    let many = length_terms_of table.names.keys table.keys.keys in
    let within : c.args.count ≤ length table.keys.keys = omega arith in
    ap (terms_of table.names.keys) c.truncate.ensures.keys
    ∙ terms_of_take table.names.keys c.args.count table.keys.keys within
