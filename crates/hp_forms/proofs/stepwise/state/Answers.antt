use Rattle.std.proofs.Common.{map, refl, ◌∙◌}
use Rattle.std.proofs.lemmas.Option.{MatchOption-at_some}
use Rattle.hp_syntax.specs.Grammar as grammar
use Rattle.hp_syntax.specs.Steps.{each}
use Rattle.hp_syntax.specs.Text.{Closing}
use Rattle.hp_syntax.specs.Views.{atom_of}
use Rattle.hp_text.specs.Stepping.{place_of, text_of}
use Rattle.hp_forms.specs.Stepwise.{HasForm}
use Rattle.hp_forms.proofs.StepwiseSteps.{state_read, bracket_in}
use Rattle.hp_forms.proofs.stepwise.state.Goals as goal

pub returns-then-leave-clause-state : goal.returns-then-leave-clause-state
returns-then-leave-clause-state c =
    let text = text_of c.args.reader.now in
    let found = MatchOption-at_some _ _ c.in-Some.atoms c.in-Some.is c.in_ok-atoms.ensures.atoms in
    let form : HasForm (each (grammar.atom grammar.InProblem)) text (place_of c.enter.new.self)
    (place_of c.atoms.new.reader) c.args.scope.now.names.keys c.atoms.new.scope.names.keys
    (map atom_of c.in-Some.atoms.items) = rw (← c.if-not-enter.ensures.text) found in
    state_read text (place_of c.args.reader.now) (place_of c.enter.new.self) (place_of c.atoms.new.reader)
    (place_of c.leave.new.self) c.args.scope.now.names.keys c.atoms.new.scope.names.keys
    (map atom_of c.in-Some.atoms.items) (c.if-not-enter.ensures.enters refl) form
    (bracket_in Closing text (text_of c.atoms.new.reader) (place_of c.atoms.new.reader) (place_of c.leave.new.self)
    (c.in_ok-atoms.ensures.text ∙ c.if-not-enter.ensures.text) (c.if-leave.ensures.leaves refl))
