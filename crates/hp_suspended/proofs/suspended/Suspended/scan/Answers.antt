use Rattle.std.proofs.Common.{None, ap, length, sym, subst, ◌∙◌}
use Rattle.hp_syntax.specs.Views.{atom_of}
use Rattle.hp_suspended.specs.Answering.{GivesOver, Keeps}
use Rattle.hp_suspended.specs.Beginning.{IsBegunAs}
use Rattle.hp_suspended.specs.Fitting.{Fits}
use Rattle.hp_suspended.specs.Left.{left}
use Rattle.hp_suspended.specs.PlaceSteps.{Bound}
use Rattle.hp_suspended.specs.SceneViews.{code_in, setting_of}
use Rattle.hp_suspended.specs.SimpleAtoms.{TurnsPassing}
use Rattle.hp_suspended.specs.Views.{view}
use Rattle.hp_suspended.proofs.ScanSteps.{moved_to, scan_begins, scan_gives, scan_keeps}
use Rattle.hp_suspended.proofs.SearchTurns.{below_undoing}
use Rattle.hp_suspended.proofs.Shapes.{view_simple}
use Rattle.hp_suspended.proofs.suspended.Suspended.scan.Goals as goal

pub next_match-requires-clause-slots : goal.next_match-requires-clause-slots
next_match-requires-clause-slots c =
    let a = c.args in
    below_undoing (length a.cells.now) c.in-Some.simple.mark a.slots.now c.undo_to.new.self c.undo_to.ensures
    c.requires.ready.bindings

pub returns-in-Some-next_match-clause-gives : goal.returns-in-Some-next_match-clause-gives
returns-in-Some-next_match-clause-gives c =
    let s = c.args.scene.now in
    let x = c.in-Some.simple in
    let e = c.args.slots.now in
    let u = c.undo_to.new.self in
    let h = c.next_match.ensures in
    let f = c.next_match.new.slots in
    let from = c.next_match.new.from in
    let is = c.in-Some-next_match.is in
    let fits = subst (Fits (code_in s) (length c.args.cells.now) (length e.trail)) c.in-Some.ensures.some c.requires.fits
    in
    let sat = subst (λ r. Bound r u f) is h.bound in
    let made = c.put.new.self in
    let is_made = ap view c.put.ensures ∙ view_simple (moved_to x from) in
    subst (λ z. GivesOver s c.args.cells.now f c.in-Some-next_match.event (λ w. left w e z) (λ w. left w f (view made)))
    (sym c.in-Some.ensures.some)
    (scan_gives s x (atom_of c.pattern_at-atom.result.now) c.pattern_at-atom.ensures c.args.cells.now e u fits
    c.undo_to.ensures f c.next_match.result h.bound h.below from h.left c.in-Some-next_match.event is sat.0 (view made)
    is_made)

pub returns-in-Some-next_match-clause-keeps : goal.returns-in-Some-next_match-clause-keeps
returns-in-Some-next_match-clause-keeps c =
    let s = c.args.scene.now in
    let x = c.in-Some.simple in
    let e = c.args.slots.now in
    let u = c.undo_to.new.self in
    let h = c.next_match.ensures in
    let f = c.next_match.new.slots in
    let from = c.next_match.new.from in
    let fits = subst (Fits (code_in s) (length c.args.cells.now) (length e.trail)) c.in-Some.ensures.some c.requires.fits
    in
    let made = c.put.new.self in
    let is_made = ap view c.put.ensures ∙ view_simple (moved_to x from) in
    subst (λ z. Keeps (code_in s) (length c.args.cells.now) f z (view made)) (sym c.in-Some.ensures.some)
    (scan_keeps s x (atom_of c.pattern_at-atom.result.now) c.pattern_at-atom.ensures c.args.cells.now e u fits
    c.undo_to.ensures f c.next_match.result h.bound h.below from h.left (view made) is_made)

pub returns-in_ok-behind-in-None-clause-begun : goal.returns-in_ok-behind-in-None-clause-begun
returns-in_ok-behind-in-None-clause-begun c =
    let s = c.args.scene.now in
    let x = c.in-Some.simple in
    let a = atom_of c.pattern_at-atom.result.now in
    let e = c.args.slots.now in
    let u = c.undo_to.new.self in
    let h = c.next_match.ensures in
    let f = c.next_match.new.slots in
    let from = c.next_match.new.from in
    let fits = subst (Fits (code_in s) (length c.args.cells.now) (length e.trail)) c.in-Some.ensures.some c.requires.fits
    in
    let same = subst (λ r. Bound r u f) c.in-None.is h.bound in
    let behind = view c.in_ok-behind-in-None.behind in
    subst (λ z. IsBegunAs s c.behind_places.new.cells e f (view c.args.self.now) (view z)) (sym c.put-in-None.ensures)
    (subst (λ z. IsBegunAs s c.behind_places.new.cells e f z behind) (sym c.in-Some.ensures.some)
    (scan_begins s x a c.pattern_at-atom.ensures c.args.cells.now e f fits (same ∙ c.undo_to.ensures) from
    (λ terms grows.
    subst (λ z. TurnsPassing None (setting_of s terms) a x.filter x.from from z f) (sym same)
    (subst (λ r. TurnsPassing r (setting_of s terms) a x.filter x.from from u f) c.in-None.is (h.left terms grows)))
    c.in-None.ensures.over c.behind_places.new.cells c.behind_places.ensures.cells behind
    c.in_ok-behind-in-None.ensures.behind))
