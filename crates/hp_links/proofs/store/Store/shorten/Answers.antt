use Rattle.std.proofs.Common.{ap, subst, sym, arith}
use Rattle.std.proofs.lemmas.Option.{slice_get_within}
use Rattle.hp_links.specs.Frames.{Frame, IsHeld}
use Rattle.hp_links.specs.Undoing.{stage_of}
use Rattle.hp_links.proofs.StepLemmas.{left_more, list_held, shortened_steps, same_frame, shorter_is, turn_is, span_some}
use Rattle.hp_links.proofs.store.Store.shorten.Goals as goal

pub shorten-requires-clause-place : goal.shorten-requires-clause-place
shorten-requires-clause-place c =
    let s = stage_of c.args.self.now in
    let within = slice_get_within s.rows c.args.place c.args.id c.requires.place.there in (
      c.requires.place.later,
      omega (arith, within, c.args.self.now.links.rows.ok.0),
      span_some s c.args.id c.args.list c.requires.stage c.requires.names c.requires.list c.args.span c.requires.span,
    )

pub settled-self-requires : goal.settled-self-requires
settled-self-requires c =
    let s = stage_of c.args.self.now in
    let l = left_more s c.args.id c.args.list c.args.place c.args.span c.requires.stage c.requires.names c.requires.list
    c.requires.span c.requires.more c.requires.place in
    let is = same_frame _ _ _ _ _ _ c.shorten.ensures.parts (ap (λ v. v.items) c.shorten.ensures.owners)
    c.shorten.ensures.rows in
    subst (λ (q : Frame). IsHeld q c.args.list) (sym is)
    (list_held s c.args.id c.args.list c.args.place c.args.span c.requires.stage c.requires.span c.requires.place l)

pub returns-clause-steps : goal.returns-clause-steps
returns-clause-steps c =
    let s = stage_of c.args.self.now in
    let l = left_more s c.args.id c.args.list c.args.place c.args.span c.requires.stage c.requires.names c.requires.list
    c.requires.span c.requires.more c.requires.place in
    let is = same_frame _ _ _ _ _ _ c.shorten.ensures.parts (ap (λ v. v.items) c.shorten.ensures.owners)
    c.shorten.ensures.rows in
    shortened_steps s c.args.id c.args.list c.args.place c.args.span c.requires.stage c.requires.span c.requires.place l
    _ _ (shorter_is s _ _ c.args.id c.args.list _ is c.settled-self.ensures) (turn_is _ _ _ c.saved-change.ensures)
