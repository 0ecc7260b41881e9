use Rattle.std.proofs.Common.{◌∷◌, [], bytes_eq, ap, ◌∙◌, arith}
use Rattle.std.proofs.lemmas.List.{length_push}
use Rattle.hp_cells.specs.Keys.{terms_of}
use Rattle.hp_cells.proofs.InternSteps.{interned_named, same_terms}
use Rattle.hp_cells.proofs.NameLemmas.{same_name}
use Rattle.hp_cells.proofs.PlaceLemmas.{stands_last, distinct_push, inserted_behind}
use Rattle.hp_cells.proofs.table.Table.add_name.Goals as goal

pub returns-clause-sound : goal.returns-clause-sound
returns-clause-sound c =
    let names = c.args.self.now.names.keys in
    let name = c.args.name.now in
    let longer = length_push names name in
    let copied = rw c.in_ok-copy.ensures.same at c.in_ok-insert.ensures.keys in
    rw (copied ∙ inserted_behind bytes_eq same_name names name c.requires.absent)
    (interned_named c.requires.sound (name ∷ []) (distinct_push names name c.requires.sound.apart c.requires.absent)
    (omega arith))

pub returns-clause-ok : goal.returns-clause-ok
returns-clause-ok c =
    let names = c.args.self.now.names.keys in
    let name = c.args.name.now in
    let copied = rw c.in_ok-copy.ensures.same at c.in_ok-insert.ensures.keys in
    rw (copied ∙ inserted_behind bytes_eq same_name names name c.requires.absent, c.len-number.ensures.len)
    (stands_last names name)

pub returns-clause-same : goal.returns-clause-same
returns-clause-same c =
    let names = c.args.self.now.names.keys in
    let name = c.args.name.now in
    let copied = rw c.in_ok-copy.ensures.same at c.in_ok-insert.ensures.keys in
    ap (λ ns. terms_of ns c.args.self.now.keys.keys)
    (copied ∙ inserted_behind bytes_eq same_name names name c.requires.absent)
    ∙ same_terms c.requires.sound (name ∷ [])
