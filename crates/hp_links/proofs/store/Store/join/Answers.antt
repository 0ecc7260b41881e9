use Rattle.std.proofs.Common.{◌<◌, None, arith, length, sym, ap, subst}
use Rattle.std.proofs.lemmas.Option.{slice_get_within}
use Rattle.hp_links.specs.Frames.{frame_of, IsHeld}
use Rattle.hp_links.specs.Linked.{Linked, whole}
use Rattle.hp_links.specs.Undoing.{stage_of}
use Rattle.hp_links.proofs.ParentLemmas.{numbers_within}
use Rattle.hp_links.proofs.StageLemmas.{stage_stands}
use Rattle.hp_links.proofs.StepLemmas.{left_one, list_placed, rest_held, joined_steps, part_owned, stage_is, change_is}
use Rattle.hp_links.proofs.store.Store.join.Goals as goal

pub put-change-requires-clause-part : goal.put-change-requires-clause-part
put-change-requires-clause-part c =
    let s = stage_of c.args.self.now in
    let l = left_one s c.args.id c.args.list c.args.rest c.requires.stage c.requires.names c.requires.list c.requires.one in
    slice_get_within s.owners c.args.rest _ (part_owned s c.args.id c.args.list c.args.rest l)

pub put-change-requires-clause-of : goal.put-change-requires-clause-of
put-change-requires-clause-of c =
    let s = stage_of c.args.self.now in
    let l = left_one s c.args.id c.args.list c.args.rest c.requires.stage c.requires.names c.requires.list c.requires.one in
    let w = (stage_stands s c.args.list c.requires.stage l.there).0 in
    let n : c.args.list < length s.parts = numbers_within (frame_of s) None (whole s) c.args.list w l.there in
    omega (arith, c.requires.stage.owners)

pub put-change-requires-clause-listed : goal.put-change-requires-clause-listed
put-change-requires-clause-listed c = λ o own.
    let s = stage_of c.args.self.now in
    let l = left_one s c.args.id c.args.list c.args.rest c.requires.stage c.requires.names c.requires.list c.requires.one in
    (list_placed s c.args.list o c.requires.stage l.there own).listed

pub settled-self-requires : goal.settled-self-requires
settled-self-requires c =
    let s = stage_of c.args.self.now in
    let l = left_one s c.args.id c.args.list c.args.rest c.requires.stage c.requires.names c.requires.list c.requires.one in
    let p = c.put-change.ensures.puts in
    subst (λ (q : Linked). IsHeld (frame_of q) c.args.rest) (sym p.is)
    (rest_held s c.args.id c.args.list c.args.rest c.requires.stage l p.owner p.slot p.own p.at)

pub returns-clause-steps : goal.returns-clause-steps
returns-clause-steps c =
    let s = stage_of c.args.self.now in
    let l = left_one s c.args.id c.args.list c.args.rest c.requires.stage c.requires.names c.requires.list c.requires.one in
    let p = c.put-change.ensures.puts in
    joined_steps s c.args.id c.args.list c.args.rest c.requires.stage l p.owner p.slot p.own p.at _ _
    (stage_is _ _ c.args.id c.args.list c.args.rest _ p.is c.settled-self.ensures)
    (change_is _ _ c.args.rest c.args.list _ _ c.saved-change.ensures p.wrote)

pub returns-clause-parts : goal.returns-clause-parts
returns-clause-parts c = ap (λ (q : Linked). q.parts) c.put-change.ensures.puts.is
