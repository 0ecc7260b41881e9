use Rattle.std.proofs.Common.{◌≡◌, ap, refl, inl, inr, ◌∙◌}
use Rattle.hp_cells.specs.declared.keys.View.TheVariants.{Nil}
use Rattle.hp_syntax.specs.Values.{value}
use Rattle.hp_syntax.specs.Views.{pattern_of}
use Rattle.hp_eval.specs.Slotted.{bindings_of}
use Rattle.hp_suspended.proofs.BeginSteps.{seen, seen_true, tested_faulty, tested_shown}
use Rattle.hp_suspended.proofs.begins.tested.Goals as goal

pub returns-in-Nil-clause-gives : goal.returns-in-Nil-clause-gives
returns-in-Nil-clause-gives c = λ terms grows.
    let g = c.in-Ok.ensures.gives in
    tested_shown c.args.cells.now c.value.new.cells terms c.value.ensures.cells grows c.args.slots.now
    c.requires.slots (value (pattern_of c.args.call.now)) c.in-Ok.cell c.get.result g (c.get.ensures.shows g.0 g.2)
    ∙ ap (λ v. seen v (bindings_of terms c.args.slots.now)) c.in-Nil.is

pub returns-in-Sym : goal.returns-in-Sym
returns-in-Sym c =
    let g = c.in-Ok.ensures.gives in
    let other : c.get.result ≡ Nil → ⊥ =
    elim c.in-Sym.is [
      | inl h ↦ λ n. absurd cc
      | inr q ↦ elim q [
        | inl h ↦ λ n. absurd cc
        | inr h ↦ λ n. absurd cc
      ]
    ] in
    record {
      gives =
          λ terms grows.
          tested_shown c.args.cells.now c.value.new.cells terms c.value.ensures.cells grows c.args.slots.now
          c.requires.slots (value (pattern_of c.args.call.now)) c.in-Ok.cell c.get.result g
          (c.get.ensures.shows g.0 g.2)
          ∙ seen_true c.get.result (bindings_of terms c.args.slots.now) other;
      same = refl;
      cells = c.value.ensures.cells;
    }

pub returns-in-Err-Fault-clause-gives : goal.returns-in-Err-Fault-clause-gives
returns-in-Err-Fault-clause-gives c = λ terms grows.
    tested_faulty c.args.cells.now c.value.new.cells terms c.value.ensures.cells grows c.args.slots.now
    c.requires.slots (value (pattern_of c.args.call.now)) c.in-Err-Fault.field-0 c.in-Err-Fault.fault
    c.in-Err-Fault.field-0-is c.in-Err-Fault.ensures.gives
