use Rattle.std.proofs.Common.{Bor, map, sym, ap, ◌∙◌}
use Rattle.std.specs.Prelude.{option_map}
use Rattle.hp_syntax.specs.declared.pattern.AtomPat.{AtomPat}
use Rattle.hp_syntax.specs.Views.{atom_of, expression_of}
use Rattle.hp_blame.proofs.FirstLemmas.{some_below}
use Rattle.hp_doctor_why.specs.Blamed.{source_at}
use Rattle.hp_doctor_why.proofs.blamed.source.Goals as goal

pub returns-in-Some : goal.returns-in-Some
returns-in-Some c =
    sym (some_below (source_at c.args.variable (map expression_of c.args.parts.now)) (atom_of c.in-Some.atom.now)
    c.loop-place.place c.args.before c.loop-place-test.true c.loop-place.invariant
    (sym c.source_at.ensures ∙ ap (option_map (λ (a : Bor AtomPat). atom_of a.now)) c.in-Some.is))
