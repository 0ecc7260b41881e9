use Rattle.std.proofs.Common.{◌≡◌, Some, sym, ap, subst, ◌∙◌, get_or}
use Rattle.std.specs.Prelude.{slice_get}
use Rattle.std.proofs.lemmas.Option.{slice_get_within, get_or_from_slice_get}
use Rattle.hp_links.specs.declared.links.Part.TheVariants.{Task}
use Rattle.hp_links.specs.Linked.{PartBelow}
use Rattle.hp_links.specs.Undoing.{stage_of}
use Rattle.hp_links.proofs.StageLemmas.{named_part}
use Rattle.hp_links.proofs.TrailSteps.{stage_now}
use Rattle.hp_links.proofs.store.Store.task.Goals as goal

pub returns-clause-task : goal.returns-clause-task
returns-clause-task c =
    let s = stage_of c.args.self.now in
    let is : slice_get s.parts c.args.id ≡ Some (Task c.cell.result c.cell.ensures.0) =
    ap (slice_get s.parts) (sym c.number.ensures) ∙ c.cell.ensures.1 in (
      c.cell.ensures.0,
      named_part s c.args.id (stage_now c.args.self.now.trail.items s c.requires.sound)
          (record {
            cell = c.cell.result;
            immediate = c.cell.ensures.0;
            is = is;
            among = c.requires.names.among;
          }),
    )

pub returns-clause-below : goal.returns-clause-below
returns-clause-below c = λ k h.
    let parts = c.args.self.now.links.parts.items in
    let task = Task c.cell.result c.cell.ensures.0 in
    let within = slice_get_within parts c.number.result task c.cell.ensures.1 in
    let below : PartBelow k (get_or parts c.number.result task) = h c.number.result task within in
    subst (PartBelow k) (get_or_from_slice_get parts c.number.result task task c.cell.ensures.1) below
