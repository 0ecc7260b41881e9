-- What the calls of a search make of the cells of its path.
use Rattle.std.specs.Prelude.{Vec}
use Rattle.std.specs.Global.{Global}
use Rattle.std.proofs.Common.{◌≡◌, ◌+◌, ◌-◌, ◌^◌, ◌≤◌, min, true, false, List, [], ◌∷◌, ◌++◌, length, map, take, Option}
use Rattle.std.proofs.Common.{Some, None, refl, sym, ◌∙◌, ap, ap₂, subst}
use Rattle.std.proofs.lemmas.List.{map-append}
use Rattle.hp_syntax.specs.Terms.{Term}
use Rattle.hp_eval.specs.Growth.{Grows}
use Rattle.hp_eval.proofs.GrowthLemmas.{kept_agree}
use Rattle.hp_net.specs.declared.walk.Step.{Step}
use Rattle.hp_choice.specs.declared.choice.Given.TheVariants as given
use Rattle.hp_site.specs.declared.site.Site.{Site}
use Rattle.hp_agenda.specs.declared.frame.Frame.{Frame}
use Rattle.hp_agenda.specs.declared.frame.Successor as made
use Rattle.hp_agenda.specs.declared.frame.Successor.TheVariants as nexts
use Rattle.hp_agenda.specs.Frames.{FloorStands}
use Rattle.hp_search.specs.declared.search.Search.{Search}
use Rattle.hp_search.specs.Planned.{AddsCells, AddsFloor, DropsFloor, GivesBase, StepCells, planned}
use Rattle.hp_search.specs.Searches.{IsRested, IsRisen, IsTaken}
use Rattle.hp_search.proofs.SearchSteps.{asked_search}

-- the bases of frames with another frame of the same base reached are the same
bases_alike : (above : List Frame) (f g : Frame) → f.base ≡ g.base
    → map (λ (k : Frame). k.base) (above ++ f ∷ []) ≡ map (λ (k : Frame). k.base) (above ++ g ∷ [])
bases_alike above f g e =
    map-append (λ (k : Frame). k.base) above (f ∷ [])
    ∙ (ap (λ b. map (λ (k : Frame). k.base) above ++ b ∷ []) e
    ∙ sym (map-append (λ (k : Frame). k.base) above (g ∷ [])))

-- after a fault the cells are cut
pub over_cells : (s new : Search) → IsRested s new → StepCells (planned s true) None (planned new true)
over_cells s new rested =
    subst (λ z. GivesBase (planned s true) (planned z true)) (sym rested.same)
    (record { bases = bases_alike s.above.items new.top s.top rested.top.base; floors = refl; cells = refl })

module _ (s : Search) (site : Site) (new : List Term) (t : Frame) (grows : Grows s.cells new)
    (base : t.base ≡ s.top.base) (within : s.top.base ≤ length s.cells) where
  adds : (did over : _)
      → AddsCells (planned s true)
      (planned (record s { site = site; cells = new; top = t; at_did = did; over = over }) true)
  adds did over = record { bases = bases_alike s.above.items t s.top base; floors = refl; cells = grows }

  cut : take t.base new ≡ take s.top.base s.cells
  cut = ap (λ b. take b new) base ∙ sym (kept_agree s.cells new grows s.top.base within)

  -- whatever successor is taken
  pub taken_cells : (next : Option made.Successor) → FloorStands next (length s.cells) (length new)
      → (o : Option Step) (last : Search) → IsTaken (asked_search s site new t) next o last
      → StepCells (planned s true) o (planned last true)
  taken_cells None floor o last (e, rested) =
      subst (λ z. StepCells (planned s true) z (planned last true)) (sym e)
      (subst (λ z. GivesBase (planned s true) (planned z true)) (sym rested.same)
      (record {
        bases = bases_alike s.above.items last.top s.top (rested.top.base ∙ base);
        floors = refl;
        cells = cut;
      }))
  taken_cells (Some nexts.Plan) floor o last (e, l) =
      subst (λ z. StepCells (planned s true) z (planned last true)) (sym e)
      (subst (λ z. AddsCells (planned s true) (planned z true)) (sym l) (adds false s.over))
  taken_cells (Some (nexts.Child given.Cut)) floor o last (e, l) =
      subst (λ z. StepCells (planned s true) z (planned last true)) (sym e)
      (subst (λ z. AddsCells (planned s true) (planned z true)) (sym l) (adds false s.over))
  taken_cells (Some (nexts.Child (given.Fault f))) floor o last (e, l) =
      subst (λ z. StepCells (planned s true) z (planned last true)) (sym e)
      (subst (λ z. AddsCells (planned s true) (planned z true)) (sym l) (adds false true))
  taken_cells (Some (nexts.Child (given.Did k))) floor o last (e, l) =
      let p : Frame = record t { dids = min (t.dids + 1) (2 ^ 64 - 1); floor = k } in
      subst (λ z. StepCells (planned s true) z (planned last true)) (sym e)
      (subst (λ z. AddsFloor (planned s true) (planned z true)) (sym l.same)
      (record {
        floor = k;
        low = floor.0;
        high = floor.1;
        floors =
            ap (map (λ (f : Frame). f.floor)) l.above ∙ map-append (λ (f : Frame). f.floor) s.above.items (p ∷ []);
        bases =
            ap (λ fs. map (λ (f : Frame). f.base) (fs ++ last.top ∷ [])) l.above
            ∙ (map-append (λ (f : Frame). f.base) (s.above.items ++ p ∷ []) (last.top ∷ [])
            ∙ ap₂ (λ xs b. xs ++ b ∷ []) (bases_alike s.above.items p s.top base) (l.top s.nest).base);
        cells = grows;
      }))

-- the search goes back
pub back_cells : (s : Search) (f : Frame) (above : Vec Frame Global) (new : Search)
    → s.above.items ≡ above.items ++ f ∷ [] → IsRisen (record s { above = above }) f new
    → DropsFloor (planned s true) (planned new true)
back_cells s f above new pushed risen =
    subst (λ z. DropsFloor (planned s true) (planned z true)) (sym risen.same)
    (record {
      floor = f.floor;
      floors = ap (map (λ (k : Frame). k.floor)) pushed ∙ map-append (λ (k : Frame). k.floor) above.items (f ∷ []);
      bases =
          map-append (λ (k : Frame). k.base) s.above.items (s.top ∷ [])
          ∙ ap (λ fs. map (λ (k : Frame). k.base) fs ++ s.top.base ∷ []) pushed;
      cells = refl;
    })
