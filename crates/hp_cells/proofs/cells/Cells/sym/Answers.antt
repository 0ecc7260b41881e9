use Rattle.std.proofs.Common.{◌≡◌, Some, slice_get, refl, sym, subst, ◌∙◌}
use Rattle.std.proofs.lemmas.Result.{IfOk-weaker}
use Rattle.hp_syntax.specs.Terms.{Symbol}
use Rattle.hp_cells.proofs.CellLemmas.{interned_present}
use Rattle.hp_cells.proofs.InternSteps.{interns_seen}
use Rattle.hp_cells.proofs.cells.Cells.sym.Goals as goal

pub returns-in-Some-clause-ok : goal.returns-in-Some-clause-ok
returns-in-Some-clause-ok c =
    let t = Symbol c.args.name.now in
    let at = subst (λ ts. slice_get ts c.in-Some.cell ≡ Some t) c.self.view_is c.in-Some.ensures in
    record { names = at; only = sym (interned_present t c.args.self.now c.in-Some.cell at) }

pub intern-requires-clause-stands : goal.intern-requires-clause-stands
intern-requires-clause-stands c = record {
  term = Symbol c.args.name.now;
  stands = record { name = c.args.name.now; numbered = c.in_ok-number.ensures.ok; whole = refl };
  nests = refl;
}

pub returns-clause-ok : goal.returns-clause-ok
returns-clause-ok c =
    IfOk-weaker c.intern.result _ _ (λ cell h.
    interns_seen (c.in_ok-number.ensures.same ∙ c.self.view_is)
    (h (Symbol c.args.name.now)
    (record { name = c.args.name.now; numbered = c.in_ok-number.ensures.ok; whole = refl })))
    c.intern.ensures.ok
