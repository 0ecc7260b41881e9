use Rattle.std.proofs.Common.{◌≡◌, ◌<◌, Some, length, sym, subst, ◌∙◌, arith}
use Rattle.std.specs.Prelude.{slice_get}
use Rattle.std.proofs.lemmas.Option.{slice_get_read, slice_get_within}
use Rattle.hp_links.specs.declared.entry.Order.{Order}
use Rattle.hp_links.specs.declared.links.Part.TheVariants.{Row}
use Rattle.hp_links.specs.Frames.{frame_in}
use Rattle.hp_links.proofs.HeldLemmas.{first_read, first_at}
use Rattle.hp_links.proofs.links.Links.first_part.Goals as goal

pub index-requires : goal.index-requires
index-requires c =
    let s = c.args.self.now in
    let part =
    subst (λ (o : Order). slice_get s.parts.items c.args.part ≡ Some (Row o c.in-Row.start c.in-Row.field-2))
    c.in-Ordered.is c.in-Row.ensures in
    let at = first_at (frame_in s) c.args.part c.in-Row.start c.in-Row.field-2 c.requires part in
    let within : c.in-Row.start < length s.rows.items = slice_get_within s.rows.items c.in-Row.start at.0 at.1 in
    omega (arith, s.rows.ok.0)

pub returns-in-Ordered : goal.returns-in-Ordered
returns-in-Ordered c =
    let s = c.args.self.now in
    let part =
    subst (λ (o : Order). slice_get s.parts.items c.args.part ≡ Some (Row o c.in-Row.start c.in-Row.field-2))
    c.in-Ordered.is c.in-Row.ensures in
    let at = first_at (frame_in s) c.args.part c.in-Row.start c.in-Row.field-2 c.requires part in
    let within : c.in-Row.start < length s.rows.items = slice_get_within s.rows.items c.in-Row.start at.0 at.1 in
    sym (first_read (frame_in s) c.args.part c.in-Row.start c.in-Row.field-2 c.requires part
    ∙ slice_get_read s.rows.items (length s.rows.items) c.in-Row.start c.index.result.now (omega arith) within
    c.index.ensures)
