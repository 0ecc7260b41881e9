use Rattle.std.proofs.Common.{◌≡◌, ◌<◌, List, Option, ℕ, Some, None, length, get_or, subst, sym, ap, ◌∙◌, arith}
use Rattle.std.proofs.lemmas.List.{get_or_past, get_or_read}
use Rattle.hp_world.specs.Indexed.{Row, IsAbsent, IsOnlyAt}
use Rattle.hp_world.proofs.IndexedLemmas.{place_from}
use Rattle.hp_world.proofs.places.Places.place_of.Goals as goal

pub returns-in_err-get : goal.returns-in_err-get
returns-in_err-get c =
    let table : List (Option ℕ) = c.self.inside.table.items in
    let a = c.args.atom in
    let e : get_or table a None ≡ None =
    get_or_past table a None
    (omega (arith, c.in_err-get.ensures.lookup, c.index.ensures, ap length c.deref.ensures.value)) in
    rw c.from_residual.ensures
    (subst (λ (row : Row). IsAbsent a row.places) c.self.view_is
    (place_from table c.self.inside.places.items a None c.self.invariant.index (sym e)))

pub returns : goal.returns
returns c =
    let table : List (Option ℕ) = c.self.inside.table.items in
    let read : List (Option ℕ) = c.deref.result.now in
    let a = c.args.atom in
    let place = c.in_ok-place.place in
    let within : c.index.result < length read = omega (arith, c.in_ok-get.ensures.lookup) in
    let e : Some place ≡ get_or table a None =
    sym c.in_ok-place.was
    ∙ get_or_read read c.index.result c.in_ok-get.field-0.now within c.in_ok-get.ensures.lookup.1 None
    ∙ ap (λ (t : List (Option ℕ)). get_or t c.index.result None) c.deref.ensures.value
    ∙ ap (λ k. get_or table k None) c.index.ensures in
    subst (λ (row : Row). IsOnlyAt a row.places place) c.self.view_is
    (place_from table c.self.inside.places.items a (Some place) c.self.invariant.index e)
