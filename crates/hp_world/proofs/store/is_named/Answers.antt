use Rattle.std.proofs.Common.{sym, ◌∙◌}
use Rattle.std.proofs.lemmas.Bool.Decides.{Decides-eqb}
use Rattle.hp_cells.specs.declared.keys.View.TheVariants.{Cons}
use Rattle.hp_world.proofs.NamedLemmas.{named_as_told, cons_named}
use Rattle.hp_world.proofs.store.is_named.Goals as goal

pub returns-in-Cons : goal.returns-in-Cons
returns-in-Cons c =
    let same = Decides-eqb c.in-Cons.head c.args.name in
    named_as_told c.args.cells.now c.args.name c.args.atom c.in-Some.cell (Cons c.in-Cons.head c.in-Cons.field-1)
    c.eq.result c.in-Cons.ensures.cells (c.requires c.in-Some.cell c.in-Some.is) c.in-Cons.ensures.shows c.in-Some.is
    (λ e. same.0 (sym c.eq.ensures ∙ e), λ e. c.eq.ensures ∙ same.1 e)

pub returns-in_default : goal.returns-in_default
returns-in_default c =
    named_as_told c.args.cells.now c.args.name c.args.atom c.in-Some.cell c.get.result _ c.get.ensures.cells
    (c.requires c.in-Some.cell c.in-Some.is) c.get.ensures.shows c.in-Some.is
    (λ e. absurd (cc), λ n. absurd (cons_named c.get.result c.args.name c.in_default.not-Cons n))
